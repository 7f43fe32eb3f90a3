-- What rows touch, one row after the other; and what they leave as it was.
use Rattle.std.proofs.Common.{◌≡◌, ℕ, ◌+◌, ◌<◌, List, [], ◌∷◌, ◌++◌, Bool, true, false, ◌||◌, cond, Option, None, length, take, get_or, refl, sym, ap, ◌∙◌, subst, append-nil}
use Rattle.std.specs.List.{filter, list_any}
use Rattle.std.proofs.lemmas.Cmp.{eq_by_cmp_equiv}
use Rattle.std.proofs.lemmas.List.{take_more}
use Rattle.std.proofs.lemmas.List.Elements.{filter-append}
use Rattle.std.proofs.lemmas.List.Folds.{list_any-append}
use Rattle.factor_book.specs.MhUnits.declared.quantities.Cents.{Cents}
use Rattle.factor_book.specs.SimmKinds.declared.key.FactorKey.{FactorKey}
use Rattle.factor_book.specs.SimmKinds.declared.row.CrifRow.{CrifRow}
use Rattle.factor_book.specs.SimmKinds.declared.row.CrifRow.TheVariants as row
use Rattle.factor_book.specs.SimmRules.Net.{sensitivities}
use Rattle.factor_book.specs.SimmKinds.declared.kinds.ProductClass.{ProductClass}
use Rattle.factor_book.specs.SimmKinds.declared.kinds.RiskClass.{RiskClass}
use Rattle.factor_book.specs.SimmKinds.Factors.{class_of}
use Rattle.factor_book.specs.declared.holding.Holding.{Holding}
use Rattle.factor_book.specs.declared.place.Place.{Place}
use Rattle.factor_book.specs.Factors.{factors_in, factors_of}
use Rattle.factor_book.specs.Place.{place_of, same_place, stand_class}
use Rattle.factor_book.specs.Places.{stands_at}
use Rattle.factor_book.proofs.Rows.{sensitivities-append}
use Rattle.factor_book.proofs.Standing.{place_total, at_place, filed_under}
use Rattle.kept_buckets.specs.Kept.{Kept, value_at, margin_at, is_class}
use Rattle.kept_buckets.specs.Touched.{has_key, is_of_class, Forgets, SameElsewhere}

pub has_key-append : (test : FactorKey → Bool) (xs ys : List CrifRow) → has_key test (xs ++ ys) ≡ (has_key test xs || has_key test ys)
has_key-append test xs ys =
    ap (list_any (λ s. test s.key)) (sensitivities-append xs ys) ∙ list_any-append (λ s. test s.key) (sensitivities xs) (sensitivities ys)

-- ---- what is forgotten

either_none : {A : Type 0} (s t : Bool) (x : Option A) → cond t None (cond s None x) ≡ cond (s || t) None x
either_none true true x = refl
either_none true false x = refl
either_none false true x = refl
either_none false false x = refl

left_over : {A : Type 0} (test : FactorKey → Bool) (xs ys : List CrifRow) (x y z : Option A) → y ≡ cond (has_key test xs) None x → z ≡ cond (has_key test ys) None y
    → z ≡ cond (has_key test (xs ++ ys)) None x
left_over test xs ys x y z first then =
    then ∙ ap (λ o. cond (has_key test ys) None o) first ∙ either_none (has_key test xs) (has_key test ys) x ∙ ap (λ b. cond b None x) (sym (has_key-append test xs ys))

pub forgets_both : (xs ys : List CrifRow) (a b c : Kept) → Forgets xs a b → Forgets ys b c → Forgets (xs ++ ys) a c
forgets_both xs ys a b c first then = record {
  values = λ place. left_over (stands_at place) xs ys (value_at a place) (value_at b place) (value_at c place) (first.values place) (then.values place);
  margins = λ product class. left_over (is_of_class product class) xs ys (margin_at a product class) (margin_at b product class) (margin_at c product class) (first.margins product class) (then.margins product class);
}

pub forgets_none : (rows : List CrifRow) (a : Kept) → sensitivities rows ≡ [] → Forgets rows a a
forgets_none rows a none = record {
  values = λ place. ap (λ ss. cond (list_any (λ s. stands_at place s.key) ss) None (value_at a place)) (sym none);
  margins = λ product class. ap (λ ss. cond (list_any (λ s. is_of_class product class s.key) ss) None (margin_at a product class)) (sym none);
}

-- a row alone
or_false : (b : Bool) → (b || false) ≡ b
or_false true = refl
or_false false = refl

either_way : (p q : Place) → same_place p q ≡ same_place q p
either_way p q = (eq_by_cmp_equiv place_total).symm p q

-- a key's place is of its class
its_class : (k : FactorKey) → stand_class (place_of k).stand ≡ class_of k.factor
its_class k = ap (λ at. at.class) (filed_under k)

pub forgets_one : (old new : Kept) (r : CrifRow) (key : FactorKey) (amount : Cents) (place : Place) → r ≡ row.Sensitivity key amount → place ≡ place_of key
    → ((other : Place) → value_at new other ≡ cond (same_place place other) None (value_at old other))
    → ((product : ProductClass) (class : RiskClass) → margin_at new product class ≡ cond (is_class place.product (stand_class place.stand) product class) None (margin_at old product class)) → Forgets (r ∷ []) old new
forgets_one old new r key amount place is there values margins =
    subst (λ x. Forgets (x ∷ []) old new) (sym is) (record {
      values = λ other. values other ∙ ap (λ b. cond b None (value_at old other))
          (ap (λ p. same_place p other) there ∙ either_way (place_of key) other ∙ sym (at_place other key) ∙ sym (or_false (stands_at other key)));
      margins = λ product class. margins product class ∙ ap (λ b. cond b None (margin_at old product class))
          (ap (λ p. is_class p.product (stand_class p.stand) product class) there ∙ ap (λ c. is_class key.product c product class) (its_class key) ∙ sym (or_false (is_of_class product class key)));
    })

pub forgets_more : (first now next : Kept) (rows : List CrifRow) (i : ℕ) (r : CrifRow) → i < length rows → r ≡ get_or rows i r
    → Forgets (take i rows) first now → Forgets (r ∷ []) now next → Forgets (take (i + 1) rows) first next
forgets_more first now next rows i r below is so_far one =
    subst (λ xs. Forgets xs first next) (sym (take_more rows i r below ∙ ap (λ x. take i rows ++ x ∷ []) (sym is)))
    (forgets_both (take i rows) (r ∷ []) first now next so_far one)

-- ---- factors of other keys

filter_none : {A : Type 0} (p : A → Bool) (xs : List A) → list_any p xs ≡ false → filter p xs ≡ []
filter_none p [] h = refl
filter_none p (x ∷ xs) h = by (p x) h (filter_none p xs)
  where
    by : (t : Bool) → (t || list_any p xs) ≡ false → (list_any p xs ≡ false → filter p xs ≡ []) → cond t (x ∷ filter p xs) (filter p xs) ≡ []
    by true e i = absurd (cc)
    by false e i = i e

-- the kept ones of a list do not change by elements that are not kept
past_none : {A : Type 0} (p : A → Bool) (xs ys zs : List A) → list_any p ys ≡ false → filter p (xs ++ ys ++ zs) ≡ filter p (xs ++ zs)
past_none p xs ys zs none =
    filter-append p (xs ++ ys) zs
    ∙ ap (λ us. us ++ filter p zs) (filter-append p xs ys ∙ ap (λ us. filter p xs ++ us) (filter_none p ys none) ∙ append-nil (filter p xs))
    ∙ sym (filter-append p xs zs)

abbrev Factors : Type 0
Factors = List (FactorKey × Holding)

-- the factors of keys that pass a test are those of the sensitivities to such keys
abbrev pub KnowsParts : Type 0
KnowsParts = (held : List CrifRow) (test : FactorKey → Bool) → filter (λ f. test f.0) (factors_of held) ≡ factors_in (filter (λ s. test s.key) (sensitivities held))

same_part : KnowsParts → (xs ys : List CrifRow) (test : FactorKey → Bool) → filter (λ s. test s.key) (sensitivities xs) ≡ filter (λ s. test s.key) (sensitivities ys)
    → filter (λ f. test f.0) (factors_of xs) ≡ filter (λ f. test f.0) (factors_of ys)
same_part parts xs ys test e = parts xs test ∙ ap factors_in e ∙ sym (parts ys test)

pub same_added : KnowsParts → (held came : List CrifRow) → SameElsewhere came (factors_of held) (factors_of (held ++ came))
same_added parts held came = record {
  same = λ test none. same_part parts held (held ++ came) test
      (sym (ap (filter (λ s. test s.key)) (sensitivities-append held came ∙ sym (append-nil (sensitivities held ++ sensitivities came)))
      ∙ past_none (λ s. test s.key) (sensitivities held) (sensitivities came) [] none ∙ ap (filter (λ s. test s.key)) (append-nil (sensitivities held))));
}

pub same_taken : KnowsParts → (before gone after : List CrifRow) → SameElsewhere gone (factors_of (before ++ gone ++ after)) (factors_of (before ++ after))
same_taken parts before gone after = record {
  same = λ test none. same_part parts (before ++ gone ++ after) (before ++ after) test
      (ap (filter (λ s. test s.key)) (sensitivities-append (before ++ gone) after ∙ ap (λ ss. ss ++ sensitivities after) (sensitivities-append before gone))
      ∙ past_none (λ s. test s.key) (sensitivities before) (sensitivities gone) (sensitivities after) none
      ∙ sym (ap (filter (λ s. test s.key)) (sensitivities-append before after)));
}

neither : (s t : Bool) → (s || t) ≡ false → (s ≡ false) × (t ≡ false)
neither true t e = absurd (cc)
neither false t e = (refl, e)

pub same_both : (xs ys : List CrifRow) (f g h : Factors) → SameElsewhere xs f g → SameElsewhere ys g h → SameElsewhere (xs ++ ys) f h
same_both xs ys f g h first then = record {
  same = λ test none.
      let each = neither (has_key test xs) (has_key test ys) (sym (has_key-append test xs ys) ∙ none) in
      first.same test each.0 ∙ then.same test each.1;
}
