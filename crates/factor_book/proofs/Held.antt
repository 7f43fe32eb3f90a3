-- What the sensitivities to a key come to, and that it is what the factors say.
use Rattle.std.proofs.Common.{◌≡◌, ℕ, zero, suc, ◌+◌, ◌-◌, ◌*◌, ◌^◌, ◌≤◌, List, [], ◌∷◌, ◌++◌, map, length, Bool, true, false, not, ◌||◌, cond, Option, Some, None, refl, sym, ap, ◌∙◌, subst, ℤ, pos, ◌+ℤ◌, ◌-ℤ◌, unsigned_abs, arith, length-append}
use Rattle.std.specs.Prelude.{◌==◌}
use Rattle.std.specs.List.{filter, list_any}
use Rattle.std.specs.List.Sorted.{IsStrictlySortedBy}
use Rattle.std.specs.Map.{lookup, keys_of as keys_in}
use Rattle.std.proofs.lemmas.Bool.{false≢true}
use Rattle.std.proofs.lemmas.Bool.Decides.{nat_tests}
use Rattle.std.proofs.lemmas.Int.{ints}
use Rattle.std.proofs.lemmas.List.Elements.{filter-append}
use Rattle.simm_rules.specs.SimmKinds.declared.key.FactorKey.{FactorKey}
use Rattle.simm_rules.specs.SimmKinds.Order.{same_key, key_cmp}
use Rattle.simm_rules.specs.Sums.{total_by}
use Rattle.simm_rules.specs.Net.{Sensitivity, net, keys_of}
use Rattle.factor_book.specs.declared.holding.Holding.{Holding}
use Rattle.factor_book.specs.Factors.{size_of, count_of, factor_of, factors_in}
use Rattle.factor_book.specs.Holdings.{grown, shrunk, net_in, rows_in}
use Rattle.factor_book.specs.Filing.{AreSmall}
use Rattle.simm_rules.proofs.SimmKinds.Orders.{key_total, exact_keys}
use Rattle.factor_book.proofs.Keys.{same_key_refl, same_key_sym, one_key, tied_test}
use Rattle.factor_book.proofs.Sorting.{any_different, different_ascends, keys-graph, lookup-graph, same_entries}
use Rattle.factor_book.proofs.Sums.{total_by-append, total_by-none, total_by-size}

-- a net and a size of so many
abbrev pub holding : ℤ → ℤ → ℕ → Option Holding
holding n s zero = None
holding n s (suc c) = Some (record { net = n; size = s; rows = suc c })

abbrev pub size_in : Sensitivity → ℤ
size_in s = pos (unsigned_abs s.amount)

-- those to a key
abbrev pub of_key : FactorKey → List Sensitivity → List Sensitivity
of_key k ss = filter (λ s. same_key s.key k) ss

-- what sensitivities to one key come to
abbrev pub summed : List Sensitivity → Option Holding
summed ss = holding (total_by (λ s. s.amount) ss) (total_by size_in ss) (length ss)

-- what those to a key come to
abbrev pub come_to : List Sensitivity → FactorKey → Option Holding
come_to ss k = summed (of_key k ss)

alike : (n m s t : ℤ) (c d : ℕ) → n ≡ m → s ≡ t → c ≡ d → holding n s c ≡ holding m t d
alike n m s t c d e f g = λ i. holding (e i) (f i) (g i)

pub come_to_alike : (xs ys : List Sensitivity) (k : FactorKey) → net xs k ≡ net ys k → size_of xs k ≡ size_of ys k → count_of xs k ≡ count_of ys k → come_to xs k ≡ come_to ys k
come_to_alike xs ys k e f g = alike (net xs k) (net ys k) (size_of xs k) (size_of ys k) (count_of xs k) (count_of ys k) e f g

-- ---- in another order

pub sum-append : (f : Sensitivity → ℤ) (xs ys : List Sensitivity) (k : FactorKey) → total_by f (of_key k (xs ++ ys)) ≡ total_by f (of_key k xs) +ℤ total_by f (of_key k ys)
sum-append f xs ys k = ap (total_by f) (filter-append (λ (s : Sensitivity). same_key s.key k) xs ys) ∙ total_by-append f (of_key k xs) (of_key k ys)

pub count-append : (xs ys : List Sensitivity) (k : FactorKey) → count_of (xs ++ ys) k ≡ count_of xs k + count_of ys k
count-append xs ys k = ap length (filter-append (λ (s : Sensitivity). same_key s.key k) xs ys) ∙ length-append (of_key k xs) (of_key k ys)

sum-swap : (f : Sensitivity → ℤ) (xs ys : List Sensitivity) (k : FactorKey) → total_by f (of_key k (xs ++ ys)) ≡ total_by f (of_key k (ys ++ xs))
sum-swap f xs ys k = omega (arith, ints, sum-append f xs ys k, sum-append f ys xs k)

pub swapped : (xs ys : List Sensitivity) (k : FactorKey) → come_to (xs ++ ys) k ≡ come_to (ys ++ xs) k
swapped xs ys k = come_to_alike (xs ++ ys) (ys ++ xs) k (sum-swap (λ s. s.amount) xs ys k) (sum-swap size_in xs ys k) (omega (arith, count-append xs ys k, count-append ys xs k))

sum-first : (f : Sensitivity → ℤ) (before taken after : List Sensitivity) (k : FactorKey) → total_by f (of_key k (before ++ taken ++ after)) ≡ total_by f (of_key k (taken ++ (before ++ after)))
sum-first f before taken after k =
    omega (arith, ints, sum-append f (before ++ taken) after k, sum-append f before taken k, sum-append f taken (before ++ after) k, sum-append f before after k)

pub taken_first : (before taken after : List Sensitivity) (k : FactorKey) → come_to (before ++ taken ++ after) k ≡ come_to (taken ++ (before ++ after)) k
taken_first before taken after k =
    come_to_alike (before ++ taken ++ after) (taken ++ (before ++ after)) k
    (sum-first (λ s. s.amount) before taken after k) (sum-first size_in before taken after k)
    (omega (arith, count-append (before ++ taken) after k, count-append before taken k, count-append taken (before ++ after) k, count-append before after k))

-- ---- of none

net_in-holding : (n s : ℤ) (c : ℕ) → (c ≡ 0 → n ≡ pos 0) → net_in (holding n s c) ≡ n
net_in-holding n s zero f = sym (f refl)
net_in-holding n s (suc c) f = refl

pub net_in-come_to : (ss : List Sensitivity) (k : FactorKey) → net_in (come_to ss k) ≡ net ss k
net_in-come_to ss k = net_in-holding (net ss k) (size_of ss k) (count_of ss k) (total_by-none (λ s. s.amount) (of_key k ss))

rows_in-holding : (n s : ℤ) (c : ℕ) → rows_in (holding n s c) ≡ c
rows_in-holding n s zero = refl
rows_in-holding n s (suc c) = refl

pub rows_in-come_to : (ss : List Sensitivity) (k : FactorKey) → rows_in (come_to ss k) ≡ count_of ss k
rows_in-come_to ss k = rows_in-holding (net ss k) (size_of ss k) (count_of ss k)

-- ---- one more, one less

abbrev net_rows : ℤ → ℤ → ℕ → Option Holding
net_rows n s c = Some (record { net = n; size = s; rows = c })

three : (n m s t : ℤ) (c d : ℕ) → n ≡ m → s ≡ t → c ≡ d → net_rows n s c ≡ net_rows m t d
three n m s t c d e f g = λ i. net_rows (e i) (f i) (g i)

one_more : (c : ℕ) → (suc (suc c) == 1) ≡ false
one_more c = grind (arith, nat_tests)

grown_holding : (n s a b : ℤ) (c : ℕ) → b ≡ pos (unsigned_abs a) → (c ≡ 0 → n ≡ pos 0) → (c ≡ 0 → s ≡ pos 0) → Some (grown (holding n s c) a) ≡ holding (a +ℤ n) (b +ℤ s) (suc c)
grown_holding n s a b zero e f g =
    three a (a +ℤ n) (pos (unsigned_abs a)) (b +ℤ s) 1 1 (omega (arith, ints, f refl)) (sym e ∙ omega (arith, ints, g refl)) refl
grown_holding n s a b (suc c) e f g =
    three (n +ℤ a) (a +ℤ n) (s +ℤ pos (unsigned_abs a)) (b +ℤ s) (suc c + 1) (suc (suc c)) (omega (arith, ints)) (ap (λ z. s +ℤ z) (sym e) ∙ omega (arith, ints)) (omega arith)

shrunk_holding : (n s a b : ℤ) (c : ℕ) → b ≡ pos (unsigned_abs a) → shrunk (holding (a +ℤ n) (b +ℤ s) (suc c)) a ≡ holding n s c
shrunk_holding n s a b zero e = refl
shrunk_holding n s a b (suc c) e =
    ap (λ t. cond t None (net_rows ((a +ℤ n) -ℤ a) ((b +ℤ s) -ℤ pos (unsigned_abs a)) (suc (suc c) - 1))) (one_more c)
    ∙ three ((a +ℤ n) -ℤ a) n ((b +ℤ s) -ℤ pos (unsigned_abs a)) s (suc (suc c) - 1) (suc c) (omega (arith, ints)) (ap (λ z. (b +ℤ s) -ℤ z) (sym e) ∙ omega (arith, ints)) (omega arith)

come_to-same : (s : Sensitivity) (rest : List Sensitivity) → come_to (s ∷ rest) s.key ≡ holding (s.amount +ℤ net rest s.key) (size_in s +ℤ size_of rest s.key) (suc (count_of rest s.key))
come_to-same s rest = ap (λ t. summed (cond t (s ∷ of_key s.key rest) (of_key s.key rest))) (same_key_refl s.key)

come_to-other : (s : Sensitivity) (rest : List Sensitivity) (k : FactorKey) → same_key s.key k ≡ false → come_to (s ∷ rest) k ≡ come_to rest k
come_to-other s rest k e = ap (λ t. summed (cond t (s ∷ of_key k rest) (of_key k rest))) e

pub come_to-more : (s : Sensitivity) (rest : List Sensitivity) (k : FactorKey) → come_to (s ∷ rest) k ≡ cond (same_key s.key k) (Some (grown (come_to rest s.key) s.amount)) (come_to rest k)
come_to-more s rest k = by (same_key s.key k) refl
  where
    by : (t : Bool) → same_key s.key k ≡ t → come_to (s ∷ rest) k ≡ cond t (Some (grown (come_to rest s.key) s.amount)) (come_to rest k)
    by true e =
        ap (come_to (s ∷ rest)) (sym (one_key s.key k e)) ∙ come_to-same s rest
        ∙ sym (grown_holding (net rest s.key) (size_of rest s.key) s.amount (size_in s) (count_of rest s.key) refl (total_by-none (λ x. x.amount) (of_key s.key rest)) (total_by-none size_in (of_key s.key rest)))
    by false e = come_to-other s rest k e

pub come_to-less : (s : Sensitivity) (rest : List Sensitivity) (k : FactorKey) → cond (same_key s.key k) (shrunk (come_to (s ∷ rest) s.key) s.amount) (come_to (s ∷ rest) k) ≡ come_to rest k
come_to-less s rest k = by (same_key s.key k) refl
  where
    by : (t : Bool) → same_key s.key k ≡ t → cond t (shrunk (come_to (s ∷ rest) s.key) s.amount) (come_to (s ∷ rest) k) ≡ come_to rest k
    by true e =
        ap (λ o. shrunk o s.amount) (come_to-same s rest) ∙ shrunk_holding (net rest s.key) (size_of rest s.key) s.amount (size_in s) (count_of rest s.key) refl
        ∙ ap (come_to rest) (one_key s.key k e)
    by false e = come_to-other s rest k e

-- what is left of one
pub come_to-rest : (s : Sensitivity) (rest : List Sensitivity) → shrunk (come_to (s ∷ rest) s.key) s.amount ≡ come_to rest s.key
come_to-rest s rest = ap (λ o. shrunk o s.amount) (come_to-same s rest) ∙ shrunk_holding (net rest s.key) (size_of rest s.key) s.amount (size_in s) (count_of rest s.key) refl

-- ---- sizes

small_kept : (k : FactorKey) (ss : List Sensitivity) → AreSmall ss → AreSmall (of_key k ss)
small_kept k [] h = tt
small_kept k (s ∷ ss) h = by (of_key k ss) (same_key s.key k) (small_kept k ss h.1)
  where
    by : (kept : List Sensitivity) (t : Bool) → AreSmall kept → AreSmall (cond t (s ∷ kept) kept)
    by kept true i = (h.0, i)
    by kept false i = i

pub net_size : (ss : List Sensitivity) (k : FactorKey) → AreSmall ss → unsigned_abs (net ss k) ≤ count_of ss k * 10 ^ 15
net_size ss k h = total_by-size (λ s. s.amount) (10 ^ 15) (of_key k ss) (small_kept k ss h)

pub size_size : (ss : List Sensitivity) (k : FactorKey) → AreSmall ss → unsigned_abs (size_of ss k) ≤ count_of ss k * 10 ^ 15
size_size ss k h = total_by-size size_in (10 ^ 15) (of_key k ss) (small_kept k ss h)

pub count_below : (ss : List Sensitivity) (k : FactorKey) → count_of ss k ≤ length ss
count_below [] k = omega arith
count_below (s ∷ rest) k = by (of_key k rest) (same_key s.key k) (count_below rest k)
  where
    by : (kept : List Sensitivity) (t : Bool) → length kept ≤ length rest → length (cond t (s ∷ kept) kept) ≤ suc (length rest)
    by kept true h = omega arith
    by kept false h = omega arith

-- ---- which keys there are

some_kept : (s : Sensitivity) (kept : List Sensitivity) (t u : Bool) → (u ≡ true → 1 ≤ length kept) → (t || u) ≡ true → 1 ≤ length (cond t (s ∷ kept) kept)
some_kept s kept true u f h = omega arith
some_kept s kept false u f h = f h

none_kept : (s : Sensitivity) (kept : List Sensitivity) (t u : Bool) → (u ≡ false → length kept ≡ 0) → (t || u) ≡ false → length (cond t (s ∷ kept) kept) ≡ 0
none_kept s kept true u f h = absurd (false≢true (sym h))
none_kept s kept false u f h = f h

has_some : (ss : List Sensitivity) (k : FactorKey) → list_any (same_key k) (map (λ s. s.key) ss) ≡ true → 1 ≤ count_of ss k
has_some [] k h = absurd (false≢true h)
has_some (s ∷ rest) k h =
    some_kept s (of_key k rest) (same_key s.key k) (list_any (same_key k) (map (λ x. x.key) rest)) (has_some rest k)
    (ap (λ t. t || list_any (same_key k) (map (λ x. x.key) rest)) (same_key_sym s.key k) ∙ h)

has_none : (ss : List Sensitivity) (k : FactorKey) → list_any (same_key k) (map (λ s. s.key) ss) ≡ false → count_of ss k ≡ 0
has_none [] k h = refl
has_none (s ∷ rest) k h =
    none_kept s (of_key k rest) (same_key s.key k) (list_any (same_key k) (map (λ x. x.key) rest)) (has_none rest k)
    (ap (λ t. t || list_any (same_key k) (map (λ x. x.key) rest)) (same_key_sym s.key k) ∙ h)

holding_none : (n s : ℤ) (c : ℕ) → c ≡ 0 → None ≡ holding n s c
holding_none n s zero e = refl
holding_none n s (suc c) e = absurd (omega arith)

holding_some : (n s : ℤ) (c : ℕ) → 1 ≤ c → net_rows n s c ≡ holding n s c
holding_some n s zero h = absurd (omega arith)
holding_some n s (suc c) h = refl

has_come : (ss : List Sensitivity) (k : FactorKey) (t : Bool) → list_any (same_key k) (map (λ s. s.key) ss) ≡ t → cond t (Some (factor_of ss k).1) None ≡ come_to ss k
has_come ss k true e = holding_some (net ss k) (size_of ss k) (count_of ss k) (has_some ss k e)
has_come ss k false e = holding_none (net ss k) (size_of ss k) (count_of ss k) (has_none ss k e)

-- ---- the factors

pub factors_ascend : (ss : List Sensitivity) → IsStrictlySortedBy key_cmp (keys_in (factors_in ss))
factors_ascend ss =
    subst (IsStrictlySortedBy key_cmp) (sym (keys-graph (λ k. (factor_of ss k).1) (keys_of ss))) (different_ascends key_cmp key_total (map (λ s. s.key) ss))

pub any_key : (ss : List Sensitivity) (k : FactorKey) → list_any (same_key k) (keys_of ss) ≡ list_any (same_key k) (map (λ s. s.key) ss)
any_key ss k = any_different key_cmp (same_key k) (tied_test k) (map (λ s. s.key) ss)

-- a key is there where a sensitivity to it is
pub there : (ss : List Sensitivity) (k : FactorKey) → list_any (same_key k) (keys_of ss) ≡ not (count_of ss k == 0)
there ss k = any_key ss k ∙ by (list_any (same_key k) (map (λ s. s.key) ss)) refl
  where
    by : (t : Bool) → list_any (same_key k) (map (λ s. s.key) ss) ≡ t → t ≡ not (count_of ss k == 0)
    by true e = let some : 1 ≤ count_of ss k = has_some ss k e in grind (arith, nat_tests)
    by false e = let none : count_of ss k ≡ 0 = has_none ss k e in grind (arith, nat_tests)

-- what the factors say of a key
pub lookup-factors : (ss : List Sensitivity) (k : FactorKey) → lookup (same_key k) (factors_in ss) ≡ come_to ss k
lookup-factors ss k =
    lookup-graph (λ l. (factor_of ss l).1) (same_key k) k (one_key k) (keys_of ss)
    ∙ ap (λ t. cond t (Some (factor_of ss k).1) None) (any_key ss k)
    ∙ has_come ss k (list_any (same_key k) (map (λ s. s.key) ss)) refl

-- entries in key order that say the same of each key are the factors
pub factors_from : (es : List (FactorKey × Holding)) (ss : List Sensitivity) → IsStrictlySortedBy key_cmp (keys_in es) → ((k : FactorKey) → lookup (same_key k) es ≡ come_to ss k) → es ≡ factors_in ss
factors_from es ss ascends h = same_entries key_total exact_keys es (factors_in ss) ascends (factors_ascend ss) (λ k. h k ∙ sym (lookup-factors ss k))

pub same_factors : (xs ys : List Sensitivity) → ((k : FactorKey) → come_to xs k ≡ come_to ys k) → factors_in xs ≡ factors_in ys
same_factors xs ys h = factors_from (factors_in xs) ys (factors_ascend xs) (λ k. lookup-factors xs k ∙ h k)
