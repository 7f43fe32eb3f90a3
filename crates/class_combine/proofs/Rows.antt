-- What rows do to the sums: one row, and the rows of a list one after the other.
use Rattle.std.proofs.Common.{◌≡◌, ℕ, zero, suc, ◌+◌, ◌*◌, ◌^◌, ◌<◌, ◌≤◌, List, [], ◌∷◌, ◌++◌, length, get_or, take, drop, true, ◌&&◌, Option, Some, IfSome, IsSomeAnd, refl, sym, ap, ◌∙◌, subst, ◌+ℤ◌, ◌-ℤ◌, FitsSigned, arith, length-append}
use Rattle.std.specs.Int.{w128}
use Rattle.std.specs.List.{list_all}
use Rattle.std.specs.FinMap.{get}
use Rattle.std.proofs.lemmas.Bool.{and_parts}
use Rattle.std.proofs.lemmas.Int.{ints}
use Rattle.std.proofs.lemmas.List.{append-nil, append_assoc, drop_all, drop_more, take_all, take_more}
use Rattle.std.proofs.lemmas.List.Folds.{list_all-append}
use Rattle.simm_params.specs.MhUnits.declared.quantities.Cents.{Cents}
use Rattle.simm_params.specs.SimmKinds.declared.row.CrifRow.{CrifRow}
use Rattle.simm_params.specs.SimmKinds.declared.row.CrifRow.TheVariants as row
use Rattle.simm_params.specs.SimmKinds.Batch.{is_in_range}
use Rattle.simm_params.specs.SimmRules.Parts.{cents}
use Rattle.simm_params.specs.SimmRules.AddOns.{fixed_amounts}
use Rattle.class_combine.specs.declared.notional_sum.NotionalSum.{NotionalSum}
use Rattle.class_combine.specs.declared.sums.AddOnSums.{AddOnSums}
use Rattle.class_combine.specs.Summed.{CanGrow, CanShrink, grown, shrunk, with_left}
use Rattle.class_combine.specs.Sums.{sums_of, HasRoom, AreHeld, Holds}
use Rattle.class_combine.proofs.Held.{get-notionals, fixed_more, from_nothing, notional_more, notional_less, swapped_sums, taken_before}
use Rattle.class_combine.proofs.Products.{passed, plus, Added}
use Rattle.class_combine.proofs.Sizes.{can_grow, can_shrink, fixed_room, fixed_less, minus, Less}
use Rattle.class_combine.proofs.Tables.{Table}

-- ---- rows in range

all_parts : (xs ys : List CrifRow) → list_all is_in_range (xs ++ ys) ≡ true → (list_all is_in_range xs ≡ true) × (list_all is_in_range ys ≡ true)
all_parts xs ys h = and_parts (list_all is_in_range xs) (list_all is_in_range ys) (sym (list_all-append is_in_range xs ys) ∙ h)

all_both : (xs ys : List CrifRow) → list_all is_in_range xs ≡ true → list_all is_in_range ys ≡ true → list_all is_in_range (xs ++ ys) ≡ true
all_both xs ys h g = list_all-append is_in_range xs ys ∙ (λ i. h i && g i)

all_left : (i : ℕ) (rows more : List CrifRow) → list_all is_in_range (rows ++ more) ≡ true → list_all is_in_range (drop i rows ++ more) ≡ true
all_left zero rows more h = h
all_left (suc i) [] more h = h
all_left (suc i) (r ∷ rows) more h = all_left i rows more (and_parts (is_in_range r) (list_all is_in_range (rows ++ more)) h).1

all_front : (i : ℕ) (rows : List CrifRow) → list_all is_in_range rows ≡ true → list_all is_in_range (take i rows) ≡ true
all_front zero rows h = refl
all_front (suc i) [] h = refl
all_front (suc i) (r ∷ rows) h =
    let parts = and_parts (is_in_range r) (list_all is_in_range rows) h in (λ j. parts.0 j && all_front i rows parts.1 j)

pub row_in_range : (rows : List CrifRow) (i : ℕ) (r : CrifRow) → i < length rows → r ≡ get_or rows i r → list_all is_in_range rows ≡ true → is_in_range r ≡ true
row_in_range rows i r below is h = ap is_in_range is ∙ at rows i h below
  where
    at : (rows : List CrifRow) (i : ℕ) → list_all is_in_range rows ≡ true → i < length rows → is_in_range (get_or rows i r) ≡ true
    at [] i h below = absurd (omega arith)
    at (x ∷ rows) zero h below = (and_parts (is_in_range x) (list_all is_in_range rows) h).0
    at (x ∷ rows) (suc i) h below = at rows i (and_parts (is_in_range x) (list_all is_in_range rows) h).1 (omega arith)

-- ---- the rows that are left

pub next_left : (rows : List CrifRow) (i : ℕ) (r : CrifRow) → i < length rows → r ≡ get_or rows i r → drop i rows ≡ r ∷ drop (i + 1) rows
next_left rows i r below is = drop_more rows i r below ∙ ap (λ x. x ∷ drop (i + 1) rows) (sym is)

next_row : (rows : List CrifRow) (i : ℕ) (r : CrifRow) (more : List CrifRow) → i < length rows → r ≡ get_or rows i r → drop i rows ++ more ≡ r ∷ (drop (i + 1) rows ++ more)
next_row rows i r more below is = ap (λ xs. xs ++ more) (next_left rows i r below is)

-- ---- one row more

module _ (old : AddOnSums) (r : CrifRow) where
  pub fixed_grows : (a : Cents) → r ≡ row.FixedAmount a → HasRoom old 1 → is_in_range r ≡ true → Added old.fixed.0 old.fixed.0 a.0 (2 ^ 32 * 10 ^ 15 + 10 ^ 15)
  fixed_grows a is room h = fixed_room old.fixed.0 room.held a (ap (λ (s : AddOnSums). s.fixed.0) room.are) room.amounts room.few (ap is_in_range (sym is) ∙ h)

  pub fixed_added : (a : Cents) → r ≡ row.FixedAmount a → HasRoom old 1 → is_in_range r ≡ true → (held : List CrifRow) → old ≡ sums_of held
      → record { fixed = cents (passed (plus old.fixed.0 a.0)); notionals = old.notionals } ≡ sums_of (r ∷ held)
  fixed_added a is room h held e =
      (λ i. record { fixed = cents ((fixed_grows a is room h).answer i); notionals = old.notionals })
      ∙ (λ i. record { fixed = cents ((e i).fixed.0 +ℤ a.0); notionals = (e i).notionals }) ∙ fixed_more a held ∙ ap (λ x. sums_of (x ∷ held)) (sym is)

  pub notional_grows : (q : List ℕ) → HasRoom old 1 → IfSome (get old.notionals q) CanGrow
  notional_grows q room =
      subst (λ (o : Option NotionalSum). IfSome o CanGrow) (sym (ap (λ (s : AddOnSums). get s.notionals q) room.are ∙ get-notionals room.held q)) (can_grow room.held q room.amounts room.few)

  pub notional_added : (q : List ℕ) (a : Cents) (new : Table) → r ≡ row.Notional q a → (held : List CrifRow) → old ≡ sums_of held
      → new ≡ with_left old.notionals q (Some (grown (get old.notionals q) a.0)) → record { fixed = old.fixed; notionals = new } ≡ sums_of (r ∷ held)
  notional_added q a new is held e put =
      (λ i. record { fixed = old.fixed; notionals = put i })
      ∙ (λ i. record { fixed = (e i).fixed; notionals = with_left (e i).notionals q (Some (grown (get (e i).notionals q) a.0)) })
      ∙ (λ i. record { fixed = cents (from_nothing (fixed_amounts held) i); notionals = notional_more q a held i }) ∙ ap (λ x. sums_of (x ∷ held)) (sym is)

  -- ---- one row less

  pub fixed_shrinks : (a : Cents) → r ≡ row.FixedAmount a → FitsSigned w128 old.fixed.0 → Holds (r ∷ []) old → Less old.fixed.0 a.0
  fixed_shrinks a is fits h =
      let parts = all_parts (r ∷ []) h.others h.amounts in
      let one : is_in_range (row.FixedAmount a) ≡ true = ap is_in_range (sym is) ∙ (and_parts (is_in_range r) true parts.0).0 in
      fixed_less old.fixed.0 a h.others fits (ap (λ (s : AddOnSums). s.fixed.0) (h.are ∙ ap (λ x. sums_of (x ∷ h.others)) is)) one parts.1

  pub fixed_taken : (a : Cents) → r ≡ row.FixedAmount a → FitsSigned w128 old.fixed.0 → Holds (r ∷ []) old → (rest : List CrifRow) → old ≡ sums_of (r ∷ rest)
      → record { fixed = cents (passed (minus old.fixed.0 a.0)); notionals = old.notionals } ≡ sums_of rest
  fixed_taken a is fits h rest e =
      let sums : old ≡ sums_of (row.FixedAmount a ∷ rest) = e ∙ ap (λ x. sums_of (x ∷ rest)) is in
      let total : old.fixed.0 ≡ a.0 +ℤ fixed_amounts rest = ap (λ (s : AddOnSums). s.fixed.0) sums in
      let left : old.fixed.0 -ℤ a.0 ≡ fixed_amounts rest = omega (arith, ints, total) in
      let value : passed (minus old.fixed.0 a.0) ≡ fixed_amounts rest = (fixed_shrinks a is fits h).answer ∙ left in
      λ i. record { fixed = cents (value i); notionals = (sums i).notionals }

  pub notional_shrinks : (q : List ℕ) (a : Cents) → r ≡ row.Notional q a → Holds (r ∷ []) old → IsSomeAnd (get old.notionals q) CanShrink
  notional_shrinks q a is h =
      let sums : old ≡ sums_of (row.Notional q a ∷ h.others) = h.are ∙ ap (λ x. sums_of (x ∷ h.others)) is in
      subst (λ (o : Option NotionalSum). IsSomeAnd o CanShrink) (sym (ap (λ (s : AddOnSums). get s.notionals q) sums ∙ get-notionals (row.Notional q a ∷ h.others) q))
      (can_shrink h.others q a (ap (λ x. list_all is_in_range (x ∷ h.others)) (sym is) ∙ h.amounts))

  pub notional_taken : (q : List ℕ) (a : Cents) (new : Table) → r ≡ row.Notional q a → (rest : List CrifRow) → old ≡ sums_of (r ∷ rest)
      → new ≡ with_left old.notionals q (shrunk (get old.notionals q) a.0) → record { fixed = old.fixed; notionals = new } ≡ sums_of rest
  notional_taken q a new is rest e put =
      let sums : old ≡ sums_of (row.Notional q a ∷ rest) = e ∙ ap (λ x. sums_of (x ∷ rest)) is in
      (λ i. record { fixed = old.fixed; notionals = put i })
      ∙ (λ i. record { fixed = (sums i).fixed; notionals = with_left (sums i).notionals q (shrunk (get (sums i).notionals q) a.0) })
      ∙ (λ i. record { fixed = cents (sym (from_nothing (fixed_amounts rest)) i); notionals = notional_less q a rest i })

-- ---- rows that are taken one after the other

-- what is left after some of the rows
abbrev pub Loses : AddOnSums → AddOnSums → List CrifRow → List CrifRow → Type 0
Loses first now rows left = (rest : List CrifRow) → first ≡ sums_of (rows ++ rest) → now ≡ sums_of (left ++ rest)

pub left_held : (first now : AddOnSums) (rows : List CrifRow) (i : ℕ) (r : CrifRow) → Holds rows first → i < length rows → r ≡ get_or rows i r → Loses first now rows (drop i rows) → Holds (r ∷ []) now
left_held first now rows i r h below is loses = record {
  others = drop (i + 1) rows ++ h.others;
  are = loses h.others h.are ∙ ap sums_of (next_row rows i r h.others below is);
  amounts = ap (list_all is_in_range) (sym (next_row rows i r h.others below is)) ∙ all_left i rows h.others h.amounts;
}

pub left_less : (first now next : AddOnSums) (rows : List CrifRow) (i : ℕ) (r : CrifRow) → i < length rows → r ≡ get_or rows i r → Loses first now rows (drop i rows)
    → ((rest : List CrifRow) → now ≡ sums_of (r ∷ rest) → next ≡ sums_of rest) → Loses first next rows (drop (i + 1) rows)
left_less first now next rows i r below is loses takes = λ rest e. takes (drop (i + 1) rows ++ rest) (loses rest e ∙ ap sums_of (next_row rows i r rest below is))

pub all_taken : (first now : AddOnSums) (rows : List CrifRow) (i : ℕ) → length rows ≤ i → Loses first now rows (drop i rows) → (rest : List CrifRow) → first ≡ sums_of (rows ++ rest) → now ≡ sums_of rest
all_taken first now rows i past loses rest e = loses rest e ∙ ap (λ xs. sums_of (xs ++ rest)) (drop_all i rows past)

pub holds_rows : (sums : AddOnSums) (rows : List CrifRow) → AreHeld rows sums → Holds rows sums
holds_rows sums rows h = record {
  others = h.before ++ h.after;
  are = h.are ∙ taken_before h.before rows h.after;
  amounts =
      let outer = all_parts (h.before ++ rows) h.after h.amounts in
      let inner = all_parts h.before rows outer.0 in
      all_both rows (h.before ++ h.after) inner.1 (all_both h.before h.after inner.0 outer.1);
}

pub rows_taken : (old new : AddOnSums) (rows : List CrifRow) → ((rest : List CrifRow) → old ≡ sums_of (rows ++ rest) → new ≡ sums_of rest)
    → (before after : List CrifRow) → old ≡ sums_of (before ++ rows ++ after) → new ≡ sums_of (before ++ after)
rows_taken old new rows takes before after e = takes (before ++ after) (e ∙ taken_before before rows after)

-- ---- rows that are added one after the other

abbrev pub Gains : AddOnSums → AddOnSums → List CrifRow → Type 0
Gains first now rows = (held : List CrifRow) → first ≡ sums_of held → now ≡ sums_of (held ++ rows)

pub gains_none : (sums : AddOnSums) → Gains sums sums []
gains_none sums held e = e ∙ ap sums_of (sym (append-nil held))

length-take_le : (n : ℕ) (xs : List CrifRow) → length (take n xs) ≤ n
length-take_le zero xs = omega arith
length-take_le (suc n) [] = omega arith
length-take_le (suc n) (x ∷ xs) = omega (arith, length-take_le n xs)

-- room for one row more
pub room_left : (first now : AddOnSums) (rows : List CrifRow) (i : ℕ) → i < length rows → list_all is_in_range rows ≡ true → HasRoom first (length rows) → Gains first now (take i rows) → HasRoom now 1
room_left first now rows i below h room gains = record {
  held = room.held ++ take i rows;
  are = gains room.held room.are;
  amounts = all_both room.held (take i rows) room.amounts (all_front i rows h);
  few = omega (arith, length-append room.held (take i rows), length-take_le i rows, room.few);
}

pub gains_more : (first now next : AddOnSums) (rows : List CrifRow) (i : ℕ) (r : CrifRow) → i < length rows → r ≡ get_or rows i r → Gains first now (take i rows)
    → ((held : List CrifRow) → now ≡ sums_of held → next ≡ sums_of (r ∷ held)) → Gains first next (take (i + 1) rows)
gains_more first now next rows i r below is gains adds = λ held e.
    let more : take (i + 1) rows ≡ take i rows ++ r ∷ [] = take_more rows i r below ∙ ap (λ x. take i rows ++ x ∷ []) (sym is) in
    adds (held ++ take i rows) (gains held e) ∙ swapped_sums (r ∷ []) (held ++ take i rows)
    ∙ ap sums_of (append_assoc held (take i rows) (r ∷ []) ∙ ap (λ xs. held ++ xs) (sym more))

-- the rows added so far are held
pub front_held : (first now : AddOnSums) (rows : List CrifRow) (i : ℕ) → list_all is_in_range rows ≡ true → HasRoom first (length rows) → Gains first now (take i rows) → Holds (take i rows) now
front_held first now rows i h room gains = record {
  others = room.held;
  are = gains room.held room.are ∙ swapped_sums room.held (take i rows);
  amounts = all_both (take i rows) room.held (all_front i rows h) room.amounts;
}

-- and taking them gives the sums of before
pub front_taken : (first now last : AddOnSums) (rows : List CrifRow) (i : ℕ) → HasRoom first (length rows) → Gains first now (take i rows)
    → ((rest : List CrifRow) → now ≡ sums_of (take i rows ++ rest) → last ≡ sums_of rest) → last ≡ first
front_taken first now last rows i room gains takes = takes room.held (gains room.held room.are ∙ swapped_sums room.held (take i rows)) ∙ sym room.are

pub all_gained : (first now : AddOnSums) (rows : List CrifRow) (i : ℕ) → length rows ≤ i → Gains first now (take i rows) → Gains first now rows
all_gained first now rows i past gains = subst (Gains first now) (take_all i rows past) gains
