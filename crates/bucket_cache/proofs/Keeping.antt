-- What a live margin keeps stays its book's.
use Rattle.std.proofs.Common.{◌≡◌, ◌∙◌, ℕ, List, [], Bool, true, true≢false, Option, Some, None, IfSome, IfNone, OnSome, sym, ap, subst, is_some}
use Rattle.std.specs.List.{list_all, flat_map}
use Rattle.book_margin.specs.SimmKinds.declared.row.CrifRow.{CrifRow}
use Rattle.book_margin.specs.SimmKinds.declared.row.TradeRows.{TradeRows}
use Rattle.book_margin.specs.SimmKinds.Batch.{rows_of, is_in_range, IsBatch}
use Rattle.book_margin.specs.SimmRules.Params.{Params}
use Rattle.book_margin.specs.SimmRules.AddOns.{multiplier, notional_factor}
use Rattle.book_margin.specs.SimmRules.Range.{range}
use Rattle.book_margin.specs.FactorBook.Factors.{factors_of}
use Rattle.book_margin.specs.ClassCombine.Sums.{AreOfBook, StandFor}
use Rattle.book_margin.specs.BookRange.Bounded.{IsBounded, IsMarginable}
use Rattle.book_margin.specs.KeptBuckets.Kept.{Kept}
use Rattle.book_margin.specs.declared.both_breakdowns.BothBreakdowns.{BothBreakdowns}
use Rattle.book_margin.specs.Right.{AreRight, Renews}
use Rattle.bucket_cache.specs.declared.sums.Sums.{Sums}
use Rattle.bucket_cache.specs.Entries.{trades_of}
use Rattle.bucket_cache.specs.Live.{Live, IsLive, put_trades, rows_in, first_unadmitted}
use Rattle.bucket_cache.specs.Sums.{book_sums}
use Rattle.bucket_cache.specs.Held.{IsSummed, IsMoved, IsHeld, IsMarginBook}
use Rattle.bucket_cache.proofs.Lives.{live_after, live_once}
use Rattle.bucket_cache.proofs.Ranges.{few_rows}
use Rattle.bucket_cache.proofs.Parameters.{parameters_stand, no_notional_factor, no_multiplier, each_named}

-- ---- options

pub on_some : {A : Type 0} (o : Option A) (x : A) (P : Type 0) → o ≡ Some x → OnSome o P → P
on_some o x P e h = subst (λ v. OnSome v P) e h

pub on_none : {A : Type 0} (o : Option A) (P : Type 0) → o ≡ None → IfNone o P → P
on_none o P e h = subst (λ v. IfNone v P) e h

pub if_some : {A : Type 0} (o : Option A) (x : A) (P : A → Type 0) → o ≡ Some x → IfSome o P → P x
if_some o x P e h = subst (λ v. IfSome v P) e h

pub not_fresh : {A : Type 0} (o : Option A) (b : Bool) → o ≡ None → is_some o ≡ b → b ≡ true → ⊥
not_fresh o b e seen h = true≢false (sym h ∙ sym seen ∙ ap is_some e)

-- ---- the same trades, sums and kept values

abbrev pub Entries : Type 0
Entries = List (List ℕ × List CrifRow)

abbrev pub live_of : Params → Entries → Kept → Bool → Live
live_of p es kept fresh = record { params = p; book = trades_of es; kept = kept; is_fresh = fresh }

pub seen_still : (p : Params) (fresh : Bool) {es fs : Entries} {k l : Kept} → fs ≡ es → l ≡ k → live_of p fs l fresh ≡ live_of p es k fresh
seen_still p fresh e g = λ i. live_of p (e i) (g i) fresh

pub held_still : (p : Params) (last : Option BothBreakdowns) {es fs : Entries} {s t : Sums} {k l : Kept} → fs ≡ es → t ≡ s → l ≡ k → IsHeld p (trades_of es) s k last → IsHeld p (trades_of fs) t l last
held_still p last {es = es} {s = s} {t = t} {k = k} {l = l} e f g h =
    subst (λ (x : Entries). IsHeld p (trades_of x) t l last) (sym e) (subst (λ (x : Sums). IsHeld p (trades_of es) x l last) (sym f) (subst (λ (x : Kept). IsHeld p (trades_of es) s x last) (sym g) h))

pub summed_still : (p : Params) {us vs : List TradeRows} {s : Sums} {k : Kept} → vs ≡ us → IsSummed p us s k → IsSummed p vs s k
summed_still p {s = s} {k = k} e h = subst (λ trades. IsSummed p trades s k) (sym e) h

-- ---- after a batch, and after a withdrawal

pub held_after : (p : Params) (ts us book : List TradeRows) (had kept : Kept) (before moved : List CrifRow) (sums : Sums) → IsBatch ts → first_unadmitted p ts ≡ None → IsLive p us → range p (rows_of (put_trades ts us)) ≡ None
    → book ≡ put_trades ts us → IsMoved p before (rows_of (put_trades ts us)) moved had sums kept → IsHeld p book sums kept None
held_after p ts us book had kept before moved sums batch admitted live in_range same is =
    subst (λ trades. IsHeld p trades sums kept None) (sym same)
    (record { summed = record { live = live_after p ts us batch admitted live in_range; summed = is.summed; right = is.right }; fresh = tt })

pub held_without : (p : Params) (left book : List TradeRows) (had kept : Kept) (before moved : List CrifRow) (sums : Sums) → IsLive p left → book ≡ left → IsMoved p before (rows_of left) moved had sums kept → IsHeld p book sums kept None
held_without p left book had kept before moved sums live same is =
    subst (λ trades. IsHeld p trades sums kept None) (sym same) (record { summed = record { live = live; summed = is.summed; right = is.right }; fresh = tt })

-- ---- the margin of the book

module _ (p : Params) (sums : Sums) (parameters held : List CrifRow) (book : IsMarginBook p sums parameters held) where
  pub same_factors : sums.factors ≡ factors_of held
  same_factors = ap (λ (s : Sums). s.factors) book.are

  pub marginable : IsBounded p held → IsMarginable p sums.factors
  marginable bounded = record { held = held; are = same_factors; amounts = book.amounts; admitted = book.admitted; bounded = bounded }

  pub stands_for : StandFor sums.add_ons parameters held
  stands_for = record { are = ap (λ (s : Sums). s.add_ons) book.are; factors = book.factors; multipliers = book.multipliers }

  pub of_book : AreOfBook sums.add_ons parameters
  of_book = record { held = held; stand = stands_for; few = few_rows p held book.in_range; amounts = book.amounts; ranged = book.ranged; once = book.once }

pub margin_book : (p : Params) (us : List TradeRows) (sums : Sums) (parameters : List CrifRow) → IsLive p us → sums ≡ book_sums p (rows_of us) → parameters ≡ rows_in us [] → IsMarginBook p sums parameters (rows_of us)
margin_book p us sums parameters live are same = record {
  are = are;
  in_range = live.in_range;
  amounts = live.amounts;
  admitted = live.admitted;
  once = live_once p us live;
  factors = ap (flat_map notional_factor) same ∙ parameters_stand notional_factor no_notional_factor us live.named live.placed;
  multipliers = ap (flat_map multiplier) same ∙ parameters_stand multiplier no_multiplier us live.named live.placed;
  ranged = ap (list_all is_in_range) same ∙ each_named is_in_range [] us live.amounts;
}

pub right_of : (p : Params) (rows : List CrifRow) (sums : Sums) (kept : Kept) → sums ≡ book_sums p rows → AreRight p (factors_of rows) kept → AreRight p sums.factors kept
right_of p rows sums kept are right = subst (λ factors. AreRight p factors kept) (sym (ap (λ (s : Sums). s.factors) are)) right

pub renews_to : (p : Params) (rows : List CrifRow) (sums : Sums) (had kept : Kept) → sums ≡ book_sums p rows → Renews p sums.factors had kept → Renews p (factors_of rows) had kept
renews_to p rows sums had kept are renews = subst (λ factors. Renews p factors had kept) (ap (λ (s : Sums). s.factors) are) renews
