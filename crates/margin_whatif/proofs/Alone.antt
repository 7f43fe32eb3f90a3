-- A batch put into a book without trades is the book.
use Rattle.std.proofs.Common.{◌≡◌, ℕ, List, [], ◌∷◌, ◌++◌, length, append-nil, Option, Some, None, Result, Err, Bool, true, false, ◌||◌, ◌==◌, map, if◌then◌else◌, refl, sym, subst, ap, ◌∙◌, append_assoc}
use Rattle.std.specs.List.{list_any, flat_map}
use Rattle.std.proofs.lemmas.Bool.{or_parts, or_from}
use Rattle.std.proofs.lemmas.List.{map-append}
use Rattle.std.proofs.lemmas.List.Folds.{list_any-append}
use Rattle.std.proofs.lemmas.Cmp.{nat_list_cmp_total, eq_by_cmp_equiv}
use Rattle.whatif.specs.BucketCache.SimmRules.SimmKinds.declared.fault.MakeFault.TheVariants as fault
use Rattle.whatif.specs.BucketCache.SimmRules.SimmKinds.declared.row.TradeRows.{TradeRows}
use Rattle.whatif.specs.BucketCache.SimmRules.SimmKinds.Batch.{IsBatch, has_repeats, factor_names, rows_of}
use Rattle.whatif.specs.BucketCache.SimmRules.SimmKinds.Order.{same_name}
use Rattle.whatif.specs.BucketCache.SimmRules.SimmKinds.Repeats.{repeats}
use Rattle.whatif.specs.BucketCache.SimmRules.declared.values.RangeFault.{RangeFault}
use Rattle.whatif.specs.BucketCache.SimmRules.Params.{Params}
use Rattle.whatif.specs.BucketCache.SimmRules.Range.{range}
use Rattle.whatif.specs.BucketCache.declared.fault.BookFault.{BookFault}
use Rattle.whatif.specs.BucketCache.declared.fault.BookFault.TheVariants as book
use Rattle.whatif.specs.BucketCache.Live.{put_trade, put_trades, first_unadmitted}
use Rattle.margin_calc.specs.Calc.{Says}
use Rattle.margin_calc.proofs.CalcLemmas.{says_of}

abbrev names_of : List TradeRows → List (List ℕ)
names_of ts = map (λ t. t.trade) ts

-- a trade that isn't there goes last
put_new : (t : TradeRows) (us : List TradeRows) → list_any (same_name t.trade) (names_of us) ≡ false → put_trade t us ≡ us ++ t ∷ []
put_new t [] h = refl
put_new t (u ∷ us) h =
    let parts = or_parts (same_name t.trade u.trade) (list_any (same_name t.trade) (names_of us)) h in
    ap (λ b. if b then record u { rows = t.rows } ∷ us else u ∷ put_trade t us) parts.0 ∙ ap (λ xs. u ∷ xs) (put_new t us parts.1)

-- none of the trades is there
abbrev AreNew : List TradeRows → List TradeRows → Type 0
AreNew [] us = Unit {0}
AreNew (t ∷ ts) us = (list_any (same_name t.trade) (names_of us) ≡ false) × AreNew ts us

-- trades that are neither there nor of this name are new where this one was added
still_new : (t : TradeRows) (ts us : List TradeRows) → list_any (same_name t.trade) (names_of ts) ≡ false → AreNew ts us → AreNew ts (us ++ t ∷ [])
still_new t [] us other new = tt
still_new t (x ∷ xs) us other new =
    let parts = or_parts (same_name t.trade x.trade) (list_any (same_name t.trade) (names_of xs)) other in
    let turned : same_name x.trade t.trade ≡ false = (eq_by_cmp_equiv nat_list_cmp_total).symm x.trade t.trade ∙ parts.0 in (
      ap (list_any (same_name x.trade)) (map-append (λ u. u.trade) us (t ∷ []))
          ∙ list_any-append (same_name x.trade) (names_of us) (t.trade ∷ [])
          ∙ or_from (list_any (same_name x.trade) (names_of us)) (same_name x.trade t.trade || false) new.0 (ap (λ b. b || false) turned),
      still_new t xs us parts.1 new.1,
    )

puts_new : (ts us : List TradeRows) → AreNew ts us → repeats same_name (names_of ts) ≡ false → put_trades ts us ≡ us ++ ts
puts_new [] us new once = sym (append-nil us)
puts_new (t ∷ ts) us new once =
    let parts = or_parts (list_any (same_name t.trade) (names_of ts)) (repeats same_name (names_of ts)) once in
    ap (put_trades ts) (put_new t us new.0)
    ∙ puts_new ts (us ++ t ∷ []) (still_new t ts us parts.0 new.1) parts.1
    ∙ append_assoc us (t ∷ []) ts

all_new : (ts : List TradeRows) → AreNew ts []
all_new [] = tt
all_new (t ∷ ts) = (refl, all_new ts)

none_else : {X : Type 0} (b : Bool) (x : X) (o : Option X) → (if b then Some x else o) ≡ None → (b ≡ false) × (o ≡ None)
none_else true x o h = absurd (cc)
none_else false x o h = (refl, h)

pub alone : (ts : List TradeRows) → IsBatch ts → put_trades ts [] ≡ ts
alone ts batch =
    let some = none_else (length ts == 0) fault.Empty _ batch in
    let once = none_else (has_repeats ts) fault.Same _ some.1 in
    let named = repeats same_name (names_of ts) in
    let factored = repeats same_name (flat_map factor_names (rows_of ts)) in
    puts_new ts [] (all_new ts) (or_parts named _ (or_parts (named || factored) _ once.0).0).0

-- what a fault says of a batch that came into a book without trades
pub says_alone : {A : Type 0} (p q : Params) (ts us : List TradeRows) (e : BookFault) (r : Result A BookFault) → q ≡ p → us ≡ [] → put_trades ts [] ≡ ts → r ≡ Err e
    → ((trade row : ℕ) → r ≡ Err (book.BucketUnknown trade row) → first_unadmitted q ts ≡ Some (record { trade = trade; row = row }))
    → ((fault : RangeFault) → r ≡ Err (book.Range fault) → range q (rows_of (put_trades ts us)) ≡ Some fault)
    → ((fault : RangeFault) → r ≡ Err (book.Range fault) → first_unadmitted q ts ≡ None)
    → Says p ts e
says_alone p q ts us e r params none its is unadmitted out admitted =
    subst (λ x. Says x ts e) params
    (says_of q ts ts e r refl is unadmitted (λ fault h. ap (λ xs. range q (rows_of xs)) (sym (ap (put_trades ts) none ∙ its)) ∙ out fault h) admitted)
