-- Rows that are lent trade by trade, and sums that gain and lose them.
use Rattle.std.proofs.Common.{◌≡◌, ℕ, zero, suc, ◌+◌, ◌^◌, ◌<◌, ◌≤◌, List, [], ◌∷◌, ◌++◌, map, length, take, drop, get_or, Bool, true, refl, sym, ap, ◌∙◌, subst, arith, add-one, drop-cons, append_assoc, append-nil}
use Rattle.std.specs.List.{flat_map, list_all}
use Rattle.std.proofs.lemmas.Bool.{and_parts, and_from}
use Rattle.std.proofs.lemmas.Grind.{flat_map-append}
use Rattle.std.proofs.lemmas.List.{length-append, take_more, take_all, drop_all}
use Rattle.std.proofs.lemmas.List.Folds.{list_all-append}
use Rattle.book_margin.specs.SimmKinds.declared.row.CrifRow.{CrifRow}
use Rattle.book_margin.specs.SimmKinds.Batch.{is_in_range}
use Rattle.book_margin.specs.SimmRules.Params.{Params}
use Rattle.book_margin.specs.FactorBook.Factors.{factors_of}
use Rattle.book_margin.specs.ClassCombine.Sums.{sums_of}
use Rattle.book_margin.specs.BookRange.declared.sizes.GrossSizes.{GrossSizes}
use Rattle.book_margin.specs.BookRange.Sizes.{sizes_in, AreSized}
use Rattle.bucket_cache.specs.declared.lent.LentRows.{LentRows}
use Rattle.bucket_cache.specs.declared.sums.Sums.{Sums}
use Rattle.bucket_cache.specs.Entries.{lent_lists}
use Rattle.bucket_cache.specs.Lent.{all_rows}
use Rattle.bucket_cache.specs.Sums.{book_sums, HasRoom, AreHeld, Holds, AreWeighed}

-- rows that are lent of each item
pub lent_each : {A : Type 0} (rows : A → List CrifRow) (lent : List LentRows) (xs : List A) → lent_lists lent ≡ map rows xs → all_rows lent ≡ flat_map rows xs
lent_each rows [] [] h = refl
lent_each rows [] (x ∷ xs) h = absurd (cc)
lent_each rows (l ∷ ls) [] h = absurd (cc)
lent_each rows (l ∷ ls) (x ∷ xs) h =
    let head : l.rows.now ≡ rows x = cc in
    let tail : lent_lists ls ≡ map rows xs = cc in
    ap (λ its. its ++ all_rows ls) head ∙ ap (λ its. rows x ++ its) (lent_each rows ls xs tail)

-- ---- some of them

module _ (lent : List LentRows) (i : ℕ) (t : LentRows) (below : i < length lent) (at : t ≡ get_or lent i t) where
  pub rows_taken : all_rows (take (i + 1) lent) ≡ all_rows (take i lent) ++ t.rows.now
  rows_taken =
      ap all_rows (take_more lent i t below ∙ ap (λ x. take i lent ++ x ∷ []) (sym at)) ∙ flat_map-append (λ (l : LentRows). l.rows.now) (take i lent) (t ∷ [])
      ∙ ap (λ rows. all_rows (take i lent) ++ rows) (append-nil t.rows.now)

  pub rows_left : all_rows (drop i lent) ≡ t.rows.now ++ all_rows (drop (i + 1) lent)
  rows_left =
      ap all_rows (drop-cons lent i t below ∙ ap (λ x. x ∷ drop (suc i) lent) (sym at)) ∙ ap (λ j. t.rows.now ++ all_rows (drop j lent)) (sym (add-one i))

  pub left_behind : (rest : List CrifRow) → rest ++ all_rows (drop i lent) ≡ rest ++ t.rows.now ++ all_rows (drop (i + 1) lent)
  left_behind rest = ap (λ rows. rest ++ rows) rows_left ∙ sym (append_assoc rest t.rows.now (all_rows (drop (i + 1) lent)))

pub all_front : (test : CrifRow → Bool) (i : ℕ) (lent : List LentRows) → list_all test (all_rows lent) ≡ true → list_all test (all_rows (take i lent)) ≡ true
all_front test zero lent h = refl
all_front test (suc i) [] h = refl
all_front test (suc i) (l ∷ ls) h =
    let parts = and_parts (list_all test l.rows.now) (list_all test (all_rows ls)) (sym (list_all-append test l.rows.now (all_rows ls)) ∙ h) in
    list_all-append test l.rows.now (all_rows (take i ls)) ∙ and_from (list_all test l.rows.now) (list_all test (all_rows (take i ls))) parts.0 (all_front test i ls parts.1)

all_left : (test : CrifRow → Bool) (i : ℕ) (lent : List LentRows) → list_all test (all_rows lent) ≡ true → list_all test (all_rows (drop i lent)) ≡ true
all_left test zero lent h = h
all_left test (suc i) [] h = refl
all_left test (suc i) (l ∷ ls) h =
    all_left test i ls (and_parts (list_all test l.rows.now) (list_all test (all_rows ls)) (sym (list_all-append test l.rows.now (all_rows ls)) ∙ h)).1

few_front : (i : ℕ) (lent : List LentRows) → length (all_rows (take i lent)) ≤ length (all_rows lent)
few_front zero lent = omega arith
few_front (suc i) [] = omega arith
few_front (suc i) (l ∷ ls) = omega (arith, length-append l.rows.now (all_rows (take i ls)), length-append l.rows.now (all_rows ls), few_front i ls)

few_left : (i : ℕ) (lent : List LentRows) → length (all_rows (drop i lent)) ≤ length (all_rows lent)
few_left zero lent = omega arith
few_left (suc i) [] = omega arith
few_left (suc i) (l ∷ ls) = omega (arith, length-append l.rows.now (all_rows ls), few_left i ls)

pub both_pass : (test : CrifRow → Bool) (xs ys : List CrifRow) → list_all test xs ≡ true → list_all test ys ≡ true → list_all test (xs ++ ys) ≡ true
both_pass test xs ys h g = list_all-append test xs ys ∙ and_from (list_all test xs) (list_all test ys) h g

pub each_pass : (test : CrifRow → Bool) (xs ys : List CrifRow) → list_all test (xs ++ ys) ≡ true → (list_all test xs ≡ true) × (list_all test ys ≡ true)
each_pass test xs ys h = and_parts (list_all test xs) (list_all test ys) (sym (list_all-append test xs ys) ∙ h)

-- ---- the same of a front of the trades, and of those that are left

module _ (rest : List CrifRow) (lent : List LentRows) (amounts : list_all is_in_range (rest ++ all_rows lent) ≡ true) (few : length (rest ++ all_rows lent) < 2 ^ 32) where
  parts : (list_all is_in_range rest ≡ true) × (list_all is_in_range (all_rows lent) ≡ true)
  parts = each_pass is_in_range rest (all_rows lent) amounts

  pub front_amounts : (i : ℕ) → list_all is_in_range (rest ++ all_rows (take i lent)) ≡ true
  front_amounts i = both_pass is_in_range rest (all_rows (take i lent)) parts.0 (all_front is_in_range i lent parts.1)

  pub front_few : (i : ℕ) → length (rest ++ all_rows (take i lent)) < 2 ^ 32
  front_few i = omega (arith, few, few_front i lent, length-append rest (all_rows lent), length-append rest (all_rows (take i lent)))

  pub left_amounts : (i : ℕ) → list_all is_in_range (rest ++ all_rows (drop i lent)) ≡ true
  left_amounts i = both_pass is_in_range rest (all_rows (drop i lent)) parts.0 (all_left is_in_range i lent parts.1)

  pub left_few : (i : ℕ) → length (rest ++ all_rows (drop i lent)) < 2 ^ 32
  left_few i = omega (arith, few, few_left i lent, length-append rest (all_rows lent), length-append rest (all_rows (drop i lent)))

-- ---- sums that gain rows

abbrev pub Gains : Params → Sums → Sums → List CrifRow → Type 0
Gains p old new rows = (held : List CrifRow) → old ≡ book_sums p held → new ≡ book_sums p (held ++ rows)

pub gains_none : (p : Params) (sums : Sums) → Gains p sums sums []
gains_none p sums held e = e ∙ ap (book_sums p) (sym (append-nil held))

module _ (p : Params) (old now : Sums) (lent : List LentRows) (i : ℕ) where
  pub room_left : (t : LentRows) → i < length lent → t ≡ get_or lent i t → HasRoom p old (all_rows lent) → Gains p old now (all_rows (take i lent)) → HasRoom p now t.rows.now
  room_left t below at room gains =
      let same : room.held ++ all_rows (take (i + 1) lent) ≡ room.held ++ all_rows (take i lent) ++ t.rows.now =
      ap (λ rows. room.held ++ rows) (rows_taken lent i t below at) ∙ sym (append_assoc room.held (all_rows (take i lent)) t.rows.now) in
      record {
        held = room.held ++ all_rows (take i lent);
        are = gains room.held room.are;
        amounts = sym (ap (list_all is_in_range) same) ∙ front_amounts room.held lent room.amounts room.few (i + 1);
        few = subst (λ (rows : List CrifRow). length rows < 2 ^ 32) same (front_few room.held lent room.amounts room.few (i + 1));
      }

  pub gains_more : (next : Sums) (t : LentRows) → i < length lent → t ≡ get_or lent i t → Gains p old now (all_rows (take i lent)) → Gains p now next t.rows.now → Gains p old next (all_rows (take (i + 1) lent))
  gains_more next t below at gains more held e =
      more (held ++ all_rows (take i lent)) (gains held e)
      ∙ ap (book_sums p) (append_assoc held (all_rows (take i lent)) t.rows.now ∙ ap (λ rows. held ++ rows) (sym (rows_taken lent i t below at)))

  pub front_held : HasRoom p old (all_rows lent) → Gains p old now (all_rows (take i lent)) → Holds p now (all_rows (take i lent))
  front_held room gains = record {
    rest = room.held;
    are = gains room.held room.are;
    amounts = front_amounts room.held lent room.amounts room.few i;
    few = front_few room.held lent room.amounts room.few i;
  }

  pub front_taken : (last : Sums) → HasRoom p old (all_rows lent) → Gains p old now (all_rows (take i lent))
      → ((rest : List CrifRow) → now ≡ book_sums p (rest ++ all_rows (take i lent)) → last ≡ book_sums p rest) → last ≡ old
  front_taken last room gains back = back room.held (gains room.held room.are) ∙ sym room.are

  pub all_gained : length lent ≤ i → Gains p old now (all_rows (take i lent)) → Gains p old now (all_rows lent)
  all_gained end gains = subst (λ (its : List LentRows). Gains p old now (all_rows its)) (take_all i lent end) gains

-- ---- sums that lose rows

abbrev pub Loses : Params → Sums → Sums → List CrifRow → List CrifRow → Type 0
Loses p old new taken left = (rest : List CrifRow) → old ≡ book_sums p (rest ++ taken) → new ≡ book_sums p (rest ++ left)

module _ (p : Params) (old now : Sums) (lent : List LentRows) (i : ℕ) where
  pub still_held : (t : LentRows) → i < length lent → t ≡ get_or lent i t → Holds p old (all_rows lent) → Loses p old now (all_rows lent) (all_rows (drop i lent)) → AreHeld p now t.rows.now
  still_held t below at holds loses =
      let same = left_behind lent i t below at holds.rest in
      record {
        before = holds.rest;
        after = all_rows (drop (i + 1) lent);
        are = loses holds.rest holds.are ∙ ap (book_sums p) same;
        amounts = sym (ap (list_all is_in_range) same) ∙ left_amounts holds.rest lent holds.amounts holds.few i;
        few = subst (λ (rows : List CrifRow). length rows < 2 ^ 32) same (left_few holds.rest lent holds.amounts holds.few i);
      }

  pub loses_more : (next : Sums) (t : LentRows) → i < length lent → t ≡ get_or lent i t → Loses p old now (all_rows lent) (all_rows (drop i lent))
      → ((before after : List CrifRow) → now ≡ book_sums p (before ++ t.rows.now ++ after) → next ≡ book_sums p (before ++ after)) → Loses p old next (all_rows lent) (all_rows (drop (i + 1) lent))
  loses_more next t below at loses less rest e =
      less rest (all_rows (drop (i + 1) lent)) (loses rest e ∙ ap (book_sums p) (left_behind lent i t below at rest))

  pub all_lost : length lent ≤ i → Loses p old now (all_rows lent) (all_rows (drop i lent)) → (rest : List CrifRow) → old ≡ book_sums p (rest ++ all_rows lent) → now ≡ book_sums p rest
  all_lost end loses rest e =
      loses rest e ∙ ap (λ (its : List LentRows). book_sums p (rest ++ all_rows its)) (drop_all i lent end) ∙ ap (book_sums p) (append-nil rest)

-- ---- sizes that lose rows

abbrev pub Lightens : Params → GrossSizes → GrossSizes → List CrifRow → List CrifRow → Type 0
Lightens p old new taken left = (rest : List CrifRow) → old ≡ sizes_in p (factors_of (rest ++ taken)) → new ≡ sizes_in p (factors_of (rest ++ left))

module _ (p : Params) (old now : GrossSizes) (lent : List LentRows) (i : ℕ) where
  pub still_weighed : (t : LentRows) → i < length lent → t ≡ get_or lent i t → AreWeighed p old (all_rows lent) → Lightens p old now (all_rows lent) (all_rows (drop i lent)) → AreSized p t.rows.now now
  still_weighed t below at weighed loses =
      let same = left_behind lent i t below at weighed.rest in
      record {
        before = weighed.rest;
        after = all_rows (drop (i + 1) lent);
        are = loses weighed.rest weighed.are ∙ ap (λ rows. sizes_in p (factors_of rows)) same;
        amounts = sym (ap (list_all is_in_range) same) ∙ left_amounts weighed.rest lent weighed.amounts weighed.few i;
        few = subst (λ (rows : List CrifRow). length rows < 2 ^ 32) same (left_few weighed.rest lent weighed.amounts weighed.few i);
      }

  pub lightens_more : (next : GrossSizes) (t : LentRows) → i < length lent → t ≡ get_or lent i t → Lightens p old now (all_rows lent) (all_rows (drop i lent))
      → ((before after : List CrifRow) → now ≡ sizes_in p (factors_of (before ++ t.rows.now ++ after)) → next ≡ sizes_in p (factors_of (before ++ after))) → Lightens p old next (all_rows lent) (all_rows (drop (i + 1) lent))
  lightens_more next t below at loses less rest e =
      less rest (all_rows (drop (i + 1) lent)) (loses rest e ∙ ap (λ rows. sizes_in p (factors_of rows)) (left_behind lent i t below at rest))

  pub all_lightened : length lent ≤ i → Lightens p old now (all_rows lent) (all_rows (drop i lent)) → (rest : List CrifRow) → old ≡ sizes_in p (factors_of (rest ++ all_rows lent)) → now ≡ sizes_in p (factors_of rest)
  all_lightened end loses rest e =
      loses rest e ∙ ap (λ (its : List LentRows). sizes_in p (factors_of (rest ++ all_rows its))) (drop_all i lent end) ∙ ap (λ rows. sizes_in p (factors_of rows)) (append-nil rest)

-- ---- one trade's rows

pub sums_are : (p : Params) (sums : Sums) (held : List CrifRow) → sums.rows ≡ length held → sums.factors ≡ factors_of held → sums.sizes ≡ sizes_in p (factors_of held) → sums.add_ons ≡ sums_of held → sums ≡ book_sums p held
sums_are p sums held count factors sizes add_ons = λ i. record { rows = count i; factors = factors i; sizes = sizes i; add_ons = add_ons i }

pub lent_rows : {A : Type 0} (rows : A → List CrifRow) (slice lent : List LentRows) (xs : List A) → slice ≡ lent → lent_lists lent ≡ map rows xs → all_rows slice ≡ flat_map rows xs
lent_rows rows slice lent xs same lists = ap all_rows same ∙ lent_each rows lent xs lists
