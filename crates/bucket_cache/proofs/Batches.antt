-- A batch that is a book of its own.
use Rattle.std.proofs.Common.{◌≡◌, ◌∙◌, ◌<◌, ◌+◌, ◌^◌, ℕ, suc, List, [], ◌∷◌, length, drop, get_or, find, Some, option_map, Bool, true, cond, None, ap, sym, refl, arith, add-one, drop-cons}
use Rattle.std.specs.List.{list_all, flat_map}
use Rattle.book_margin.specs.SimmKinds.declared.row.CrifRow.{CrifRow}
use Rattle.book_margin.specs.SimmKinds.declared.row.TradeRows.{TradeRows}
use Rattle.book_margin.specs.SimmKinds.Batch.{rows_of, is_in_range, IsBatch}
use Rattle.book_margin.specs.SimmKinds.Order.{same_name}
use Rattle.book_margin.specs.SimmRules.Params.{Params}
use Rattle.book_margin.specs.SimmRules.AddOns.{multiplier, notional_factor}
use Rattle.book_margin.specs.SimmRules.Admits.{admits}
use Rattle.book_margin.specs.SimmRules.Range.{range}
use Rattle.bucket_cache.specs.Live.{rows_or_none, rows_in}
use Rattle.bucket_cache.specs.Sums.{book_sums}
use Rattle.bucket_cache.specs.Held.{IsMarginBook}
use Rattle.bucket_cache.proofs.Lives.{batch_facts}
use Rattle.bucket_cache.proofs.Parameters.{parameters_stand, no_notional_factor, no_multiplier, each_named}

-- the rows that a batch lends are few, and their amounts are those that a batch can have
pub few_lent : (ts : List TradeRows) (came : List CrifRow) → IsBatch ts → came ≡ rows_of ts → length came < 2 ^ 32
few_lent ts came batch comes = omega (arith, ap length comes, (batch_facts ts batch).few)

pub amounts_lent : (ts : List TradeRows) (came : List CrifRow) → IsBatch ts → came ≡ rows_of ts → list_all is_in_range came ≡ true
amounts_lent ts came batch comes = ap (list_all is_in_range) comes ∙ (batch_facts ts batch).amounts

pub batch_book : (p : Params) (ts : List TradeRows) (parameters : List CrifRow) → IsBatch ts → range p (rows_of ts) ≡ None → list_all (admits p) (rows_of ts) ≡ true
    → parameters ≡ rows_in ts [] → IsMarginBook p (book_sums p (rows_of ts)) parameters (rows_of ts)
batch_book p ts parameters batch in_range admitted same =
    let facts = batch_facts ts batch in
    record {
      are = refl;
      in_range = in_range;
      amounts = facts.amounts;
      admitted = admitted;
      once = facts.factored;
      factors = ap (flat_map notional_factor) same ∙ parameters_stand notional_factor no_notional_factor ts facts.once facts.placed;
      multipliers = ap (flat_map multiplier) same ∙ parameters_stand multiplier no_multiplier ts facts.once facts.placed;
      ranged = ap (list_all is_in_range) same ∙ each_named is_in_range [] ts facts.amounts;
    }

-- ---- the trade without a name

abbrev pub rows_first : Bool → TradeRows → List TradeRows → List CrifRow
rows_first b t ts = rows_or_none (option_map (λ (u : TradeRows). u.rows) (cond b (Some t) (find (λ (u : TradeRows). same_name [] u.trade) ts)))

next_trade : (ts : List TradeRows) (i : ℕ) (t : TradeRows) → i < length ts → t ≡ get_or ts i t → rows_in (drop i ts) [] ≡ rows_first (same_name [] t.trade) t (drop (i + 1) ts)
next_trade ts i t below at =
    ap (λ xs. rows_in xs []) (drop-cons ts i t below ∙ ap (λ x. x ∷ drop (suc i) ts) (sym at)) ∙ ap (λ j. rows_first (same_name [] t.trade) t (drop j ts)) (sym (add-one i))

empty_first : (t : TradeRows) (ts : List TradeRows) → length t.trade ≡ 0 → rows_first (same_name [] t.trade) t ts ≡ t.rows
empty_first t ts h = by t.trade refl h
  where
    by : (name : List ℕ) → t.trade ≡ name → length name ≡ 0 → rows_first (same_name [] name) t ts ≡ t.rows
    by [] e g = refl
    by (b ∷ name) e g = absurd (omega arith)

full_first : (t : TradeRows) (ts : List TradeRows) → (length t.trade ≡ 0 → ⊥) → rows_first (same_name [] t.trade) t ts ≡ rows_in ts []
full_first t ts h = by t.trade h
  where
    by : (name : List ℕ) → (length name ≡ 0 → ⊥) → rows_first (same_name [] name) t ts ≡ rows_in ts []
    by [] g = absurd (g refl)
    by (b ∷ name) g = refl

pub nameless_here : (ts : List TradeRows) (i : ℕ) (t : TradeRows) → i < length ts → t ≡ get_or ts i t → length t.trade ≡ 0 → rows_in (drop i ts) [] ≡ t.rows
nameless_here ts i t below at none = next_trade ts i t below at ∙ empty_first t (drop (i + 1) ts) none

pub nameless_later : (ts : List TradeRows) (i : ℕ) (t : TradeRows) → i < length ts → t ≡ get_or ts i t → (length t.trade ≡ 0 → ⊥) → rows_in (drop i ts) [] ≡ rows_in (drop (i + 1) ts) []
nameless_later ts i t below at some = next_trade ts i t below at ∙ full_first t (drop (i + 1) ts) some
