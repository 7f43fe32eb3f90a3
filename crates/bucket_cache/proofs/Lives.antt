-- The book of a live margin stays one: after a batch that is in range, and without some of its trades.
use Rattle.std.proofs.Common.{◌≡◌, ℕ, ◌<◌, ◌≤◌, List, [], ◌∷◌, length, get_or, Option, Some, None, Bool, true, false, not, ◌||◌, ◌==◌, cond, if◌then◌else◌, nat_lt, refl, ap, sym, ◌∙◌, arith}
use Rattle.std.specs.List.{list_all, list_any, filter, flat_map}
use Rattle.std.proofs.lemmas.Bool.{or_parts, or_from, and_parts, and_from, ltb-false}
use Rattle.std.proofs.lemmas.List.Folds.{length-flat_map-take}
use Rattle.book_margin.specs.SimmKinds.declared.fault.MakeFault.TheVariants as fault
use Rattle.book_margin.specs.SimmKinds.declared.row.CrifRow.{CrifRow}
use Rattle.book_margin.specs.SimmKinds.declared.row.TradeRows.{TradeRows}
use Rattle.book_margin.specs.SimmKinds.Batch.{rows_of, IsBatch, has_repeats, is_misplaced, is_in_range, factor_names, multiplied}
use Rattle.book_margin.specs.SimmKinds.Order.{same_name, same_product}
use Rattle.book_margin.specs.SimmKinds.Repeats.{repeats}
use Rattle.book_margin.specs.SimmRules.Params.{Params}
use Rattle.book_margin.specs.SimmRules.Admits.{admits}
use Rattle.book_margin.specs.SimmRules.Range.{range}
use Rattle.bucket_cache.specs.Live.{put_trades, without, first_unadmitted, has_factors_once, IsLive}
use Rattle.bucket_cache.specs.Entries.{names_of, trade_of, trades_of}
use Rattle.bucket_cache.proofs.Parameters.{each_once, factors_once}
use Rattle.bucket_cache.proofs.Puts.{all_rows_of, all_puts, named_puts}
use Rattle.bucket_cache.proofs.Admitted.{all_admitted}
use Rattle.bucket_cache.proofs.Ranges.{range_none}
use Rattle.bucket_cache.proofs.Sizes.{trades_within}

-- ---- batches

none_else : {A : Type 0} (b : Bool) (x : A) (o : Option A) → (if b then Some x else o) ≡ None → (b ≡ false) × (o ≡ None)
none_else true x o h = absurd (cc)
none_else false x o h = (refl, h)

none_empty : {X : Type 0} (p : X → Bool) (xs : List X) → list_any p xs ≡ false → list_all (λ x. not (p x)) xs ≡ true
none_empty p [] h = refl
none_empty p (x ∷ xs) h =
    let parts = or_parts (p x) (list_any p xs) h in
    and_from (not (p x)) (list_all (λ y. not (p y)) xs) (ap not parts.0) (none_empty p xs parts.1)

none_fails : (b : Bool) → not b ≡ false → b ≡ true
none_fails true h = refl
none_fails false h = absurd (cc)

-- of a batch: different names, few rows, each trade has one, parameters stand where they belong, and none repeats
pub record BatchFacts (ts : List TradeRows) : Type 0 where
  pub once : repeats same_name (names_of ts) ≡ false
  pub few : length (rows_of ts) ≤ 100000
  pub filled : list_all (λ t. not (length t.rows == 0)) ts ≡ true
  pub placed : list_all (λ t. not (is_misplaced t)) ts ≡ true
  pub factored : repeats same_name (flat_map factor_names (rows_of ts)) ≡ false
  pub amounts : list_all is_in_range (rows_of ts) ≡ true

pub batch_facts : (ts : List TradeRows) → IsBatch ts → BatchFacts ts
batch_facts ts h =
    let named = repeats same_name (names_of ts) in
    let factored = repeats same_name (flat_map factor_names (rows_of ts)) in
    let some = none_else (length ts == 0) fault.Empty _ h in
    let once = none_else (has_repeats ts) fault.Same _ some.1 in
    let few = none_else (nat_lt 100000 (length (rows_of ts))) fault.TooManyRows _ once.1 in
    let placed = none_else (list_any is_misplaced ts) fault.Place _ few.1 in
    let filled = none_else (list_any (λ (t : TradeRows). length t.rows == 0) ts) fault.EmptyTrade _ placed.1 in
    let ranged = none_else (not (list_all is_in_range (rows_of ts))) fault.Amount _ filled.1 in
    let names = or_parts named factored (or_parts (named || factored) (repeats same_product (flat_map multiplied (rows_of ts))) once.0).0 in
    record {
      once = names.0;
      few = ltb-false 100000 (length (rows_of ts)) few.0;
      filled = none_empty (λ (t : TradeRows). length t.rows == 0) ts filled.0;
      placed = none_empty is_misplaced ts placed.0;
      factored = names.1;
      amounts = none_fails (list_all is_in_range (rows_of ts)) ranged.0;
    }

pub few_in_batch : (ts : List TradeRows) → IsBatch ts → length ts ≤ 100000
few_in_batch ts h = let facts = batch_facts ts h in omega (arith, trades_within ts facts.filled, facts.few)

pub few_in_trade : (ts : List TradeRows) (i : ℕ) (t : TradeRows) → IsBatch ts → i < length ts → t ≡ get_or ts i t → length t.rows ≤ 100000
few_in_trade ts i t batch h at =
    omega (arith, (batch_facts ts batch).few, length-flat_map-take (λ (u : TradeRows). u.rows) ts i t h, ap (λ (u : TradeRows). length u.rows) at)

-- ---- no trades

pub live_none : (p : Params) → IsLive p []
live_none p = record { named = refl; placed = refl; factored = refl; amounts = refl; admitted = refl; filled = refl; in_range = range_none p }

-- the book has one factor of a qualifier at most
pub live_once : (p : Params) (us : List TradeRows) → IsLive p us → repeats same_name (flat_map factor_names (rows_of us)) ≡ false
live_once p us live = factors_once us live.named live.placed live.factored

-- ---- after a batch

-- what each row of a batch and of a book passes, each row of the book afterwards passes
all_after : (test : CrifRow → Bool) (ts us : List TradeRows) → list_all test (rows_of ts) ≡ true → list_all test (rows_of us) ≡ true → list_all test (rows_of (put_trades ts us)) ≡ true
all_after test ts us batch live =
    all_rows_of test (put_trades ts us)
    ∙ all_puts (λ (t : TradeRows). list_all test t.rows) ts us (sym (all_rows_of test ts) ∙ batch) (sym (all_rows_of test us) ∙ live)

pub amounts_after : (p : Params) (ts us : List TradeRows) → IsBatch ts → IsLive p us → list_all is_in_range (rows_of (put_trades ts us)) ≡ true
amounts_after p ts us batch live = all_after is_in_range ts us (batch_facts ts batch).amounts live.amounts

pub admitted_after : (p : Params) (ts us : List TradeRows) → first_unadmitted p ts ≡ None → IsLive p us → list_all (admits p) (rows_of (put_trades ts us)) ≡ true
admitted_after p ts us none live = all_after (admits p) ts us (all_admitted p ts none) live.admitted

pub live_after : (p : Params) (ts us : List TradeRows) → IsBatch ts → first_unadmitted p ts ≡ None → IsLive p us → range p (rows_of (put_trades ts us)) ≡ None → IsLive p (put_trades ts us)
live_after p ts us batch admitted live none = record {
  named = named_puts ts us live.named;
  placed = all_puts (λ t. not (is_misplaced t)) ts us (batch_facts ts batch).placed live.placed;
  factored = all_puts has_factors_once ts us (each_once ts (batch_facts ts batch).factored) live.factored;
  amounts = amounts_after p ts us batch live;
  admitted = admitted_after p ts us admitted live;
  filled = all_puts (λ (t : TradeRows). not (length t.rows == 0)) ts us (batch_facts ts batch).filled live.filled;
  in_range = none;
}

-- ---- without some trades

all_kept : {X : Type 0} (test keep : X → Bool) (xs : List X) → list_all test xs ≡ true → list_all test (filter keep xs) ≡ true
all_kept test keep [] h = h
all_kept test keep (x ∷ xs) h =
    let parts = and_parts (test x) (list_all test xs) h in at (keep x) parts.0 (all_kept test keep xs parts.1)
  where
    at : (b : Bool) → test x ≡ true → list_all test (filter keep xs) ≡ true → list_all test (cond b (x ∷ filter keep xs) (filter keep xs)) ≡ true
    at true passes rest = and_from (test x) (list_all test (filter keep xs)) passes rest
    at false passes rest = rest

none_kept : (name : List ℕ) (keep : TradeRows → Bool) (us : List TradeRows) → list_any (same_name name) (names_of us) ≡ false → list_any (same_name name) (names_of (filter keep us)) ≡ false
none_kept name keep [] h = h
none_kept name keep (u ∷ us) h =
    let parts = or_parts (same_name name u.trade) (list_any (same_name name) (names_of us)) h in at (keep u) parts.0 (none_kept name keep us parts.1)
  where
    at : (b : Bool) → same_name name u.trade ≡ false → list_any (same_name name) (names_of (filter keep us)) ≡ false → list_any (same_name name) (names_of (cond b (u ∷ filter keep us) (filter keep us))) ≡ false
    at true other rest = or_from (same_name name u.trade) (list_any (same_name name) (names_of (filter keep us))) other rest
    at false other rest = rest

-- the names of some trades are different where those of all are
named_kept : (keep : TradeRows → Bool) (us : List TradeRows) → repeats same_name (names_of us) ≡ false → repeats same_name (names_of (filter keep us)) ≡ false
named_kept keep [] h = h
named_kept keep (u ∷ us) h =
    let parts = or_parts (list_any (same_name u.trade) (names_of us)) (repeats same_name (names_of us)) h in at (keep u) (none_kept u.trade keep us parts.0) (named_kept keep us parts.1)
  where
    at : (b : Bool) → list_any (same_name u.trade) (names_of (filter keep us)) ≡ false → repeats same_name (names_of (filter keep us)) ≡ false → repeats same_name (names_of (cond b (u ∷ filter keep us) (filter keep us))) ≡ false
    at true none rest = or_from (list_any (same_name u.trade) (names_of (filter keep us))) (repeats same_name (names_of (filter keep us))) none rest
    at false none rest = rest

-- what each row of a book passes, each row of some of its trades passes
all_among : (test : CrifRow → Bool) (keep : TradeRows → Bool) (us : List TradeRows) → list_all test (rows_of us) ≡ true → list_all test (rows_of (filter keep us)) ≡ true
all_among test keep us h =
    all_rows_of test (filter keep us) ∙ all_kept (λ t. list_all test t.rows) keep us (sym (all_rows_of test us) ∙ h)

-- some trades of a book in range are in range
abbrev FewerInRange : Params → Type 0
FewerInRange p = (test : TradeRows → Bool) (ts : List TradeRows) → range p (rows_of ts) ≡ None → range p (rows_of (filter test ts)) ≡ None

pub live_without : (p : Params) (names : List (List ℕ)) (us : List TradeRows) → FewerInRange p → IsLive p us → IsLive p (without names us)
live_without p names us fewer live =
    let kept : TradeRows → Bool = λ t. not (list_any (same_name t.trade) names) in
    record {
      named = named_kept kept us live.named;
      placed = all_kept (λ (t : TradeRows). not (is_misplaced t)) kept us live.placed;
      factored = all_kept has_factors_once kept us live.factored;
      amounts = all_among is_in_range kept us live.amounts;
      admitted = all_among (admits p) kept us live.admitted;
      filled = all_kept (λ (t : TradeRows). not (length t.rows == 0)) kept us live.filled;
      in_range = fewer kept us live.in_range;
    }

kept_entry : (s b : Bool) (e : List ℕ × List CrifRow) (es : List (List ℕ × List CrifRow)) (us : List TradeRows) → s ≡ b → trades_of es ≡ us → trades_of (cond (not s) (e ∷ es) es) ≡ cond (not b) (trade_of e ∷ us) us
kept_entry true true e es us same h = h
kept_entry false false e es us same h = ap (λ xs. trade_of e ∷ xs) h
kept_entry true false e es us same h = absurd (cc)
kept_entry false true e es us same h = absurd (cc)

-- the entries that are kept hold the trades without those names
pub without-trades_of : (among : List ℕ → Bool) (names : List (List ℕ)) (es : List (List ℕ × List CrifRow)) → ((name : List ℕ) → among name ≡ list_any (same_name name) names) → trades_of (filter (λ e. not (among e.0)) es) ≡ without names (trades_of es)
without-trades_of among names [] same = refl
without-trades_of among names (e ∷ es) same =
    kept_entry (among e.0) (list_any (same_name e.0) names) e (filter (λ x. not (among x.0)) es) (without names (trades_of es)) (same e.0) (without-trades_of among names es same)
