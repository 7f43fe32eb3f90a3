-- Different items in order, and lists of pairs in the order of their keys.
use Rattle.std.proofs.Common.{◌≡◌, ℕ, suc, ◌+◌, ◌≤◌, List, [], ◌∷◌, ◌++◌, append_assoc, map, length, Bool, true, false, ◌||◌, cond, Option, Some, None, refl, sym, ap, ◌∙◌, subst, arith}
use Rattle.std.specs.Prelude.{is_some}
use Rattle.std.specs.declared.cmp.Ordering.{Ordering}
use Rattle.std.specs.declared.cmp.Ordering.TheVariants.{Less, Equal, Greater}
use Rattle.std.specs.Ordering.{is_eq, ordering_reverse, match_ordering, eq_by_cmp}
use Rattle.std.specs.Cmp.{IsTotalOrder}
use Rattle.std.specs.List.{filter, list_any, AllByRecursion}
use Rattle.std.specs.List.Sorted.{IsStrictlySortedBy}
use Rattle.std.specs.Map.{lookup, keys_of}
use Rattle.std.specs.BTreeMap.{insert_entry, is_at}
use Rattle.std.specs.Option.{unwrap_or}
use Rattle.std.proofs.lemmas.Bool.{false≢true}
use Rattle.std.proofs.lemmas.Cmp.{alike_right, tied_itself, eq_by_cmp_equiv}
use Rattle.std.proofs.lemmas.List.Kept.{IsStrictlySortedBy-filter}
use Rattle.std.proofs.lemmas.Map.{lookup-none}
use Rattle.std.proofs.lemmas.Map.Entries.{lookup_head, lookup_tail, none_past_head, none_below_head}
use Rattle.std.proofs.lemmas.Map.Keys.{IsDistinct-from_sorted, sorted_head, sorted_tail}
use Rattle.std.proofs.lemmas.Map.Lookups.{CmpEqualImpliesEq}
use Rattle.simm_rules.proofs.SimmKinds.Variants.{is_eq-Equal}
use Rattle.simm_rules.specs.Sums.{put_in, placed, different}

pub each_weaker : {X : Type 0} (P Q : X → Type 0) → ((x : X) → P x → Q x) → (xs : List X) → AllByRecursion P xs → AllByRecursion Q xs
each_weaker P Q f [] h = tt
each_weaker P Q f (x ∷ xs) h = (f x h.0, each_weaker P Q f xs h.1)

pub some_not_none : {X : Type 0} (x : X) → Some x ≡ None → ⊥
some_not_none {X = X} x e = false≢true (sym (ap is_there e))
  where
    is_there : Option X → Bool
    is_there None = false
    is_there (Some y) = true

-- one more where it isn't so
abbrev pub one_unless : Bool → ℕ
one_unless true = 0
one_unless false = 1

or_twice : (s t : Bool) → (s || t) ≡ (s || (s || t))
or_twice true t = refl
or_twice false t = refl

or_swap : (r s t : Bool) → (r || (s || t)) ≡ (s || (r || t))
or_swap true true t = refl
or_swap true false t = refl
or_swap false s t = refl

cond_twice : {X : Type 0} (t : Bool) (x y z : X) → cond t x z ≡ cond t x (cond t y z)
cond_twice true x y z = refl
cond_twice false x y z = refl

module _ {A : Type 0} (cmp : A → A → Ordering) where
  -- ---- which items there are

  any_placed : (p : A → Bool) (o : Ordering) (x y : A) (ys deeper : List A) → (cmp x y ≡ Equal → p x ≡ p y) → cmp x y ≡ o → list_any p deeper ≡ (p x || list_any p ys) → list_any p (placed o x y ys deeper) ≡ (p x || list_any p (y ∷ ys))
  any_placed p Less x y ys deeper alike e i = refl
  any_placed p Equal x y ys deeper alike e i = or_twice (p y) (list_any p ys) ∙ ap (λ t. t || (p y || list_any p ys)) (sym (alike e))
  any_placed p Greater x y ys deeper alike e i = ap (λ t. p y || t) i ∙ or_swap (p y) (p x) (list_any p ys)

  any_put : (p : A → Bool) → ((k l : A) → cmp k l ≡ Equal → p k ≡ p l) → (x : A) (ys : List A) → list_any p (put_in cmp x ys) ≡ (p x || list_any p ys)
  any_put p alike x [] = refl
  any_put p alike x (y ∷ ys) = any_placed p (cmp x y) x y ys (put_in cmp x ys) (alike x y) refl (any_put p alike x ys)

  pub any_different : (p : A → Bool) → ((k l : A) → cmp k l ≡ Equal → p k ≡ p l) → (xs : List A) → list_any p (different cmp xs) ≡ list_any p xs
  any_different p alike [] = refl
  any_different p alike (x ∷ xs) = any_put p alike x (different cmp xs) ∙ ap (λ t. p x || t) (any_different p alike xs)

  -- ---- there are no more of them

  length_placed : (o : Ordering) (x y : A) (ys deeper : List A) → length deeper ≤ suc (length ys) → length (placed o x y ys deeper) ≤ suc (suc (length ys))
  length_placed Less x y ys deeper h = omega arith
  length_placed Equal x y ys deeper h = omega arith
  length_placed Greater x y ys deeper h = omega (arith, h)

  length-put_in : (x : A) (ys : List A) → length (put_in cmp x ys) ≤ suc (length ys)
  length-put_in x [] = omega arith
  length-put_in x (y ∷ ys) = length_placed (cmp x y) x y ys (put_in cmp x ys) (length-put_in x ys)

  pub length-different : (xs : List A) → length (different cmp xs) ≤ length xs
  length-different [] = omega arith
  length-different (x ∷ xs) = omega (arith, length-put_in x (different cmp xs), length-different xs)

  -- ---- they ascend

  placed_each : (P : A → Type 0) (o : Ordering) (x y : A) (ys deeper : List A) → P x → P y → AllByRecursion P ys → AllByRecursion P deeper → AllByRecursion P (placed o x y ys deeper)
  placed_each P Less x y ys deeper a b h d = (a, (b, h))
  placed_each P Equal x y ys deeper a b h d = (b, h)
  placed_each P Greater x y ys deeper a b h d = (b, d)

  put_each : (P : A → Type 0) (x : A) (ys : List A) → P x → AllByRecursion P ys → AllByRecursion P (put_in cmp x ys)
  put_each P x [] a h = (a, tt)
  put_each P x (y ∷ ys) a h = placed_each P (cmp x y) x y ys (put_in cmp x ys) a h.0 h.1 (put_each P x ys a h.1)

  over_put : IsTotalOrder cmp → (o : Ordering) (x y : A) (ys : List A) → cmp x y ≡ o → AllByRecursion (λ z. cmp y z ≡ Less) ys → IsStrictlySortedBy cmp ys → IsStrictlySortedBy cmp (put_in cmp x ys) → IsStrictlySortedBy cmp (placed o x y ys (put_in cmp x ys))
  unfolding IsStrictlySortedBy
  over_put order Less x y ys e h s t = ((e, each_weaker (λ z. cmp y z ≡ Less) (λ z. cmp x z ≡ Less) (λ z less. order.trans x y z e less) ys h), (h, s))
  over_put order Equal x y ys e h s t = (h, s)
  over_put order Greater x y ys e h s t = (put_each (λ z. cmp y z ≡ Less) x ys (order.antisymm y x ∙ ap ordering_reverse e) h, t)

  pub put_ascends : IsTotalOrder cmp → (x : A) (ys : List A) → IsStrictlySortedBy cmp ys → IsStrictlySortedBy cmp (put_in cmp x ys)
  unfolding IsStrictlySortedBy
  put_ascends order x [] s = (tt, tt)
  put_ascends order x (y ∷ ys) s = over_put order (cmp x y) x y ys refl s.0 s.1 (put_ascends order x ys s.1)

  pub different_ascends : IsTotalOrder cmp → (xs : List A) → IsStrictlySortedBy cmp (different cmp xs)
  unfolding IsStrictlySortedBy
  different_ascends order [] = tt
  different_ascends order (x ∷ xs) = put_ascends order x (different cmp xs) (different_ascends order xs)

-- ---- pairs under keys in order

module _ {K X : Type 0} {R : K → K → Ordering} (o : IsTotalOrder R) where
  found_placed : (q k : K) (v : X) (e : K × X) (es deeper : List (K × X)) (r : Ordering) → R k e.0 ≡ r → lookup (is_at (R q)) deeper ≡ cond (is_at (R q) k) (Some v) (lookup (is_at (R q)) es)
      → lookup (is_at (R q)) (match_ordering r ((k, v) ∷ e ∷ es) ((e.0, v) ∷ es) (e ∷ deeper)) ≡ cond (is_at (R q) k) (Some v) (lookup (is_at (R q)) (e ∷ es))
  found_placed q k v e es deeper Less h i = refl
  found_placed q k v e es deeper Equal h i =
      cond_twice (is_at (R q) e.0) (Some v) (Some e.1) (lookup (is_at (R q)) es)
      ∙ ap (λ t. cond (is_eq t) (Some v) (cond (is_at (R q) e.0) (Some e.1) (lookup (is_at (R q)) es))) (sym (alike_right o k e.0 q h))
  found_placed q k v e es deeper Greater h i =
      ap (λ z. cond (is_at (R q) e.0) (Some e.1) z) i ∙ apart (R q k) refl (R q e.0) refl
    where
      apart : (s : Ordering) → R q k ≡ s → (t : Ordering) → R q e.0 ≡ t → cond (is_eq t) (Some e.1) (cond (is_eq s) (Some v) (lookup (is_at (R q)) es)) ≡ cond (is_eq s) (Some v) (cond (is_eq t) (Some e.1) (lookup (is_at (R q)) es))
      apart Equal a Equal b = absurd (false≢true (ap is_eq (sym h ∙ (sym (o.congr q k e.0 a) ∙ b))))
      apart Equal a Less b = refl
      apart Equal a Greater b = refl
      apart Less a t b = refl
      apart Greater a t b = refl

  -- what a look-up finds after an entry is put in
  pub lookup-insert_entry : (q k : K) (v : X) (es : List (K × X)) → lookup (is_at (R q)) (insert_entry R es k v) ≡ cond (is_at (R q) k) (Some v) (lookup (is_at (R q)) es)
  lookup-insert_entry q k v [] = refl
  lookup-insert_entry q k v (e ∷ es) = found_placed q k v e es (insert_entry R es k v) (R k e.0) refl (lookup-insert_entry q k v es)

  length_inserted : (k : K) (v : X) (e : K × X) (es deeper : List (K × X)) (r : Ordering) → R k e.0 ≡ r → IsStrictlySortedBy R (keys_of (e ∷ es)) → length deeper ≡ length es + one_unless (is_some (lookup (is_at (R k)) es))
      → length (match_ordering r ((k, v) ∷ e ∷ es) ((e.0, v) ∷ es) (e ∷ deeper)) ≡ suc (length es) + one_unless (is_some (cond (is_eq r) (Some e.1) (lookup (is_at (R k)) es)))
  length_inserted k v e es deeper Less h s i =
      let none : lookup (is_at (R k)) es ≡ None = lookup-none (is_at (R k)) es ((none_below_head o k e es s h).1) in
      omega (arith, ap (λ o. one_unless (is_some o)) none)
  length_inserted k v e es deeper Equal h s i = omega arith
  length_inserted k v e es deeper Greater h s i = omega (arith, i)

  -- how many entries there are after one is put in
  pub length-insert_entry : (k : K) (v : X) (es : List (K × X)) → IsStrictlySortedBy R (keys_of es) → length (insert_entry R es k v) ≡ length es + one_unless (is_some (lookup (is_at (R k)) es))
  length-insert_entry k v [] s = omega arith
  length-insert_entry k v (e ∷ es) s = length_inserted k v e es (insert_entry R es k v) (R k e.0) refl s (length-insert_entry k v es (sorted_tail R e.0 (keys_of es) s))

  keys_placed : (k : K) (v : X) (e : K × X) (es deeper : List (K × X)) (r : Ordering) → keys_of deeper ≡ put_in R k (keys_of es)
      → keys_of (match_ordering r ((k, v) ∷ e ∷ es) ((e.0, v) ∷ es) (e ∷ deeper)) ≡ placed r k e.0 (keys_of es) (put_in R k (keys_of es))
  keys_placed k v e es deeper Less i = refl
  keys_placed k v e es deeper Equal i = refl
  keys_placed k v e es deeper Greater i = ap (λ ks. e.0 ∷ ks) i

  pub keys-insert_entry : (k : K) (v : X) (es : List (K × X)) → keys_of (insert_entry R es k v) ≡ put_in R k (keys_of es)
  keys-insert_entry k v [] = refl
  keys-insert_entry k v (e ∷ es) = keys_placed k v e es (insert_entry R es k v) (R k e.0) (keys-insert_entry k v es)

  -- ---- entries that are copied in their order

  below_next : (k : K) (es rest : List (K × X)) (x : K × X) → AllByRecursion (λ y. R k y ≡ Less) (keys_of (es ++ x ∷ rest)) → R k x.0 ≡ Less
  below_next k [] rest x h = h.0
  below_next k (e ∷ es) rest x h = below_next k es rest x h.1

  insert_last : (es rest : List (K × X)) (x : K × X) → IsStrictlySortedBy R (keys_of (es ++ x ∷ rest)) → insert_entry R es x.0 x.1 ≡ es ++ x ∷ []
  insert_last [] rest x s = refl
  insert_last (e ∷ es) rest x s =
      ap (λ r. match_ordering r (x ∷ e ∷ es) ((e.0, x.1) ∷ es) (e ∷ insert_entry R es x.0 x.1))
      (o.antisymm x.0 e.0 ∙ ap ordering_reverse (below_next e.0 es rest x (sorted_head R e.0 (keys_of (es ++ x ∷ rest)) s)))
      ∙ ap (λ fs. e ∷ fs) (insert_last es rest x (sorted_tail R e.0 (keys_of (es ++ x ∷ rest)) s))

  -- the next of all entries is put in behind those before it
  pub next_copied : (es rest all : List (K × X)) (x : K × X) → es ++ x ∷ rest ≡ all → IsStrictlySortedBy R (keys_of all) → insert_entry R es x.0 x.1 ++ rest ≡ all
  next_copied es rest all x whole s =
      ap (λ fs. fs ++ rest) (insert_last es rest x (subst (λ (fs : List (K × X)). IsStrictlySortedBy R (keys_of fs)) (sym whole) s)) ∙ append_assoc es (x ∷ []) rest ∙ whole

  -- ---- the same look-ups, the same pairs

  at_head : (x : K × X) (xs : List (K × X)) → lookup (is_at (R x.0)) (x ∷ xs) ≡ Some x.1
  at_head x xs = lookup_head (is_at (R x.0)) x xs (ap is_eq (tied_itself o x.0))

  pub past_head : (q : K) (x : K × X) (xs : List (K × X)) → IsStrictlySortedBy R (keys_of (x ∷ xs)) → eq_by_cmp R q x.0 ≡ true → lookup (is_at (R q)) xs ≡ None
  past_head q x xs s t = lookup-none (is_at (R q)) xs (none_past_head (eq_by_cmp_equiv o) q x xs (IsDistinct-from_sorted R _ s) t)

  heads : (x y : K × X) (xs ys : List (K × X)) → IsStrictlySortedBy R (keys_of (x ∷ xs)) → IsStrictlySortedBy R (keys_of (y ∷ ys)) → ((q : K) → lookup (is_at (R q)) (x ∷ xs) ≡ lookup (is_at (R q)) (y ∷ ys)) → (r : Ordering) → R x.0 y.0 ≡ r → R x.0 y.0 ≡ Equal
  heads x y xs ys s t h Less p = absurd (some_not_none x.1 (sym (at_head x xs) ∙ h x.0 ∙ lookup-none _ (y ∷ ys) (none_below_head o x.0 y ys t p)))
  heads x y xs ys s t h Equal p = p
  heads x y xs ys s t h Greater p = absurd (some_not_none y.1 (sym (at_head y ys) ∙ sym (h y.0) ∙ lookup-none _ (x ∷ xs) (none_below_head o y.0 x xs s (o.antisymm y.0 x.0 ∙ ap ordering_reverse p))))

  tails_at : (q : K) (x y : K × X) (xs ys : List (K × X)) → IsStrictlySortedBy R (keys_of (x ∷ xs)) → IsStrictlySortedBy R (keys_of (y ∷ ys)) → lookup (is_at (R q)) (x ∷ xs) ≡ lookup (is_at (R q)) (y ∷ ys) → R q x.0 ≡ R q y.0 → (b : Bool) → is_at (R q) x.0 ≡ b → lookup (is_at (R q)) xs ≡ lookup (is_at (R q)) ys
  tails_at q x y xs ys s t h e true p = past_head q x xs s p ∙ sym (past_head q y ys t (ap is_eq (sym e) ∙ p))
  tails_at q x y xs ys s t h e false p = sym (lookup_tail (is_at (R q)) x xs p) ∙ h ∙ lookup_tail (is_at (R q)) y ys (ap is_eq (sym e) ∙ p)

  pub same_entries : CmpEqualImpliesEq R → (es fs : List (K × X)) → IsStrictlySortedBy R (keys_of es) → IsStrictlySortedBy R (keys_of fs) → ((q : K) → lookup (is_at (R q)) es ≡ lookup (is_at (R q)) fs) → es ≡ fs
  same_entries exact [] [] s t h = refl
  same_entries exact [] (y ∷ ys) s t h = absurd (some_not_none y.1 (sym (h y.0 ∙ at_head y ys)))
  same_entries exact (x ∷ xs) [] s t h = absurd (some_not_none x.1 (sym (at_head x xs) ∙ h x.0))
  same_entries exact (x ∷ xs) (y ∷ ys) s t h =
      let tied : R x.0 y.0 ≡ Equal = heads x y xs ys s t h (R x.0 y.0) refl in
      let key : x.0 ≡ y.0 = exact x.0 y.0 tied in
      let value : x.1 ≡ y.1 = ap (λ u. unwrap_or u x.1) (sym (at_head x xs) ∙ h x.0 ∙ lookup_head (is_at (R x.0)) y ys (ap is_eq tied)) in
      let rest : xs ≡ ys = same_entries exact xs ys (sorted_tail R x.0 (keys_of xs) s) (sorted_tail R y.0 (keys_of ys) t) (λ q. tails_at q x y xs ys s t (h q) (alike_right o x.0 y.0 q tied) (is_at (R q) x.0) refl) in
      λ i. (key i, value i) ∷ rest i

-- ---- entries that are the graph of a function, and those whose keys pass a test

module _ {K X : Type 0} where
  pub keys-graph : (f : K → X) (ks : List K) → keys_of (map (λ k. (k, f k)) ks) ≡ ks
  keys-graph f [] = refl
  keys-graph f (k ∷ ks) = ap (λ rest. k ∷ rest) (keys-graph f ks)

  pub lookup-graph : (f : K → X) (test : K → Bool) (q : K) → ((k : K) → test k ≡ true → q ≡ k) → (ks : List K) → lookup test (map (λ k. (k, f k)) ks) ≡ cond (list_any test ks) (Some (f q)) None
  lookup-graph f test q one [] = refl
  lookup-graph f test q one (k ∷ ks) = by (test k) refl (lookup-graph f test q one ks)
    where
      by : (t : Bool) → test k ≡ t → lookup test (map (λ l. (l, f l)) ks) ≡ cond (list_any test ks) (Some (f q)) None
          → cond t (Some (f k)) (lookup test (map (λ l. (l, f l)) ks)) ≡ cond (t || list_any test ks) (Some (f q)) None
      by true e i = ap (λ l. Some (f l)) (sym (one k e))
      by false e i = i

  keys-filter : (p : K → Bool) (es : List (K × X)) → keys_of (filter (λ e. p e.0) es) ≡ filter p (keys_of es)
  keys-filter p [] = refl
  keys-filter p (e ∷ es) = by (p e.0) (keys-filter p es)
    where
      by : (t : Bool) → keys_of (filter (λ x. p x.0) es) ≡ filter p (keys_of es) → keys_of (cond t (e ∷ filter (λ x. p x.0) es) (filter (λ x. p x.0) es)) ≡ cond t (e.0 ∷ filter p (keys_of es)) (filter p (keys_of es))
      by true i = ap (λ ks. e.0 ∷ ks) i
      by false i = i

  pub filter_ascends : (R : K → K → Ordering) (p : K → Bool) (es : List (K × X)) → IsStrictlySortedBy R (keys_of es) → IsStrictlySortedBy R (keys_of (filter (λ e. p e.0) es))
  filter_ascends R p es s = subst (IsStrictlySortedBy R) (sym (keys-filter p es)) (IsStrictlySortedBy-filter R p (keys_of es) s)

-- items in order are known by which there are
module _ {K : Type 0} {R : K → K → Ordering} (o : IsTotalOrder R) (exact : CmpEqualImpliesEq R) where
  abbrev graph : List K → List (K × Bool)
  graph ks = map (λ k. (k, true)) ks

  graph_ascends : (ks : List K) → IsStrictlySortedBy R ks → IsStrictlySortedBy R (keys_of (graph ks))
  graph_ascends ks s = subst (IsStrictlySortedBy R) (sym (keys-graph (λ k. true) ks)) s

  found_in_graph : (q : K) (ks : List K) → lookup (is_at (R q)) (graph ks) ≡ cond (list_any (is_at (R q)) ks) (Some true) None
  found_in_graph q ks = lookup-graph (λ k. true) (is_at (R q)) q (λ k e. exact q k (is_eq-Equal (R q k) e)) ks

  pub same_items : (xs ys : List K) → IsStrictlySortedBy R xs → IsStrictlySortedBy R ys → ((q : K) → list_any (is_at (R q)) xs ≡ list_any (is_at (R q)) ys) → xs ≡ ys
  same_items xs ys s t h =
      sym (keys-graph (λ k. true) xs)
      ∙ ap keys_of (same_entries o exact (graph xs) (graph ys) (graph_ascends xs s) (graph_ascends ys t) (λ q. found_in_graph q xs ∙ ap (λ b. cond b (Some true) None) (h q) ∙ sym (found_in_graph q ys)))
      ∙ keys-graph (λ k. true) ys
