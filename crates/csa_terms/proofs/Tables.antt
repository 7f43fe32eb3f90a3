-- Haircuts in the order of their classes.
use Rattle.std.proofs.Common.{◌≡◌, ℕ, suc, ◌≤◌, ◌<◌, ℤ, Bool, true, false, cond, Option, Some, List, [], ◌∷◌, ◌++◌, length, Ordering, Less, Equal, Greater, refl, sym, ap, ◌∙◌, arith, subst, option_map}
use Rattle.std.specs.List.{AllByRecursion}
use Rattle.std.specs.List.Sorted.{IsStrictlySortedBy}
use Rattle.std.specs.Map.{lookup, keys_of}
use Rattle.std.specs.BTreeMap.{insert_entry, is_at}
use Rattle.std.specs.Ordering.{match_ordering, ordering_reverse}
use Rattle.std.proofs.lemmas.Cmp.{nat_list_cmp_total}
use Rattle.std.proofs.lemmas.Map.Keys.{sorted_head, sorted_tail}
use Rattle.toml_values.specs.MhUnits.declared.quantities.Rate4.{Rate4}
use Rattle.toml_values.specs.SimmKinds.Order.{name_cmp, same_name}
use Rattle.csa_terms.specs.Terms.{Haircut, IsShare, haircut_in}
use Rattle.csa_terms.specs.Held.{haircut_at, haircuts_at, with_haircut, classes, AreShares}

abbrev Entry : Type 0
Entry = List ℕ × Rate4

-- ---- look-ups

found_at : (b : Bool) (r : Rate4) (o : Option Rate4) → option_map (λ (x : Rate4). x.0) (cond b (Some r) o) ≡ cond b (Some r.0) (option_map (λ (x : Rate4). x.0) o)
found_at true r o = refl
found_at false r o = refl

pub lookup-haircuts : (class : List ℕ) (es : List Entry) → option_map (λ (x : Rate4). x.0) (lookup (is_at (name_cmp class)) es) ≡ haircut_in (haircuts_at es) class
lookup-haircuts class [] = refl
lookup-haircuts class (e ∷ es) =
    found_at (same_name class e.0) e.1 (lookup (is_at (name_cmp class)) es)
    ∙ ap (λ o. cond (same_name class e.0) (Some e.1.0) o) (lookup-haircuts class es)

pub classes-keys : (es : List Entry) → classes (haircuts_at es) ≡ keys_of es
classes-keys [] = refl
classes-keys (e ∷ es) = ap (λ l. e.0 ∷ l) (classes-keys es)

-- ---- one more haircut

put_at : (o : Ordering) (xs ys zs : List Entry) → haircuts_at (match_ordering o xs ys zs) ≡ match_ordering o (haircuts_at xs) (haircuts_at ys) (haircuts_at zs)
put_at Less xs ys zs = refl
put_at Equal xs ys zs = refl
put_at Greater xs ys zs = refl

pub haircuts-insert : (es : List Entry) (class : List ℕ) (rate : Rate4) → haircuts_at (insert_entry name_cmp es class rate) ≡ with_haircut (haircuts_at es) class rate.0
haircuts-insert [] class rate = refl
haircuts-insert (e ∷ es) class rate =
    put_at (name_cmp class e.0) ((class, rate) ∷ e ∷ es) ((e.0, rate) ∷ es) (e ∷ insert_entry name_cmp es class rate)
    ∙ ap (λ hs. match_ordering (name_cmp class e.0) (record { class = class; rate = rate.0 } ∷ haircut_at e ∷ haircuts_at es) (record { class = e.0; rate = rate.0 } ∷ haircuts_at es) (haircut_at e ∷ hs)) (haircuts-insert es class rate)

few_by : (o : Ordering) (n : ℕ) (xs ys zs : List Haircut) → length xs ≤ n → length ys ≤ n → length zs ≤ n → length (match_ordering o xs ys zs) ≤ n
few_by Less n xs ys zs a b c = a
few_by Equal n xs ys zs a b c = b
few_by Greater n xs ys zs a b c = c

few-with : (hs : List Haircut) (class : List ℕ) (rate : ℤ) → length (with_haircut hs class rate) ≤ suc (length hs)
few-with [] class rate = omega arith
few-with (h ∷ hs) class rate =
    few_by (name_cmp class h.class) (suc (suc (length hs))) (record { class = class; rate = rate } ∷ h ∷ hs) (record { class = h.class; rate = rate } ∷ hs) (h ∷ with_haircut hs class rate)
    (omega arith) (omega arith) (let less = few-with hs class rate in omega arith)

abbrev Shares : List Haircut → Type 0
Shares hs = AllByRecursion (λ (h : Haircut). IsShare h.rate) hs

shares_by : (o : Ordering) (xs ys zs : List Haircut) → Shares xs → Shares ys → Shares zs → Shares (match_ordering o xs ys zs)
shares_by Less xs ys zs a b c = a
shares_by Equal xs ys zs a b c = b
shares_by Greater xs ys zs a b c = c

shares-with : (hs : List Haircut) (class : List ℕ) (rate : ℤ) → Shares hs → IsShare rate → Shares (with_haircut hs class rate)
shares-with [] class rate all share = (share, tt)
shares-with (h ∷ hs) class rate all share =
    shares_by (name_cmp class h.class) (record { class = class; rate = rate } ∷ h ∷ hs) (record { class = h.class; rate = rate } ∷ hs) (h ∷ with_haircut hs class rate)
    (share, all) (share, all.1) (all.0, shares-with hs class rate all.1 share)

pub AreShares-with : (hs : List Haircut) (class : List ℕ) (rate : ℤ) → AreShares hs → length hs < 256 → IsShare rate → AreShares (with_haircut hs class rate)
AreShares-with hs class rate all few share = record {
  few = let more = few-with hs class rate in omega arith;
  shares = shares-with hs class rate all.shares share;
}

-- ---- a haircut behind all others

at_class : (P : List ℕ → Type 0) (before : List (List ℕ)) (c : List ℕ) (after : List (List ℕ)) → AllByRecursion P (before ++ c ∷ after) → P c
at_class P [] c after all = all.0
at_class P (x ∷ xs) c after all = at_class P xs c after all.1

pub with-last : (hs : List Haircut) (h : Haircut) (keys : List (List ℕ)) → IsStrictlySortedBy name_cmp (classes hs ++ h.class ∷ keys) → with_haircut hs h.class h.rate ≡ hs ++ h ∷ []
with-last [] h keys sorted = refl
with-last (x ∷ xs) h keys sorted =
    let below : name_cmp x.class h.class ≡ Less = at_class (λ c. name_cmp x.class c ≡ Less) (classes xs) h.class keys (sorted_head name_cmp x.class (classes xs ++ h.class ∷ keys) sorted) in
    let above : name_cmp h.class x.class ≡ Greater = nat_list_cmp_total.antisymm h.class x.class ∙ ap ordering_reverse below in
    rw above (ap (λ hs. x ∷ hs) (with-last xs h keys (sorted_tail name_cmp x.class (classes xs ++ h.class ∷ keys) sorted)))

classes-behind : (hs : List Haircut) (h : Haircut) (rest : List Haircut) → classes (hs ++ h ∷ rest) ≡ classes hs ++ h.class ∷ classes rest
classes-behind [] h rest = refl
classes-behind (x ∷ xs) h rest = ap (λ l. x.class ∷ l) (classes-behind xs h rest)

share_here : (hs : List Haircut) (h : Haircut) (rest : List Haircut) → Shares (hs ++ h ∷ rest) → IsShare h.rate
share_here [] h rest s = s.0
share_here (x ∷ xs) h rest s = share_here xs h rest s.1

room_here : (hs : List Haircut) (h : Haircut) (rest : List Haircut) → length hs < length (hs ++ h ∷ rest)
room_here [] h rest = omega arith
room_here (x ∷ xs) h rest = let more = room_here xs h rest in omega arith

-- what each haircut of a whole list has
module _ (hs : List Haircut) (h : Haircut) (rest all : List Haircut) (whole : hs ++ h ∷ rest ≡ all) where
  pub share_at : Shares all → IsShare h.rate
  share_at shares = share_here hs h rest (subst Shares (sym whole) shares)

  pub room_at : (most : ℕ) → length all ≤ most → length hs < most
  room_at most few = let room : length hs < length (hs ++ h ∷ rest) = room_here hs h rest in let same = ap length whole in omega arith

  pub last_at : IsStrictlySortedBy name_cmp (classes all) → with_haircut hs h.class h.rate ≡ hs ++ h ∷ []
  last_at sorted =
      with-last hs h (classes rest) (subst (IsStrictlySortedBy name_cmp) (classes-behind hs h rest) (subst (λ (l : List Haircut). IsStrictlySortedBy name_cmp (classes l)) (sym whole) sorted))
