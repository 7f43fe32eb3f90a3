-- Filed factors: what is found of a key, in its place and in the whole list.
use Rattle.std.proofs.Common.{◌≡◌, ◌+◌, List, [], ◌∷◌, ◌++◌, map, length, Bool, true, false, cond, Option, Some, None, IsSome, IfSome, Result, Ok, Err, OnOk, OnErr, ℤ, refl, sym, ap, ◌∙◌, subst}
use Rattle.std.specs.Prelude.{is_some, ◌≢◌}
use Rattle.std.specs.Ordering.{is_eq}
use Rattle.std.specs.Option.{unwrap_or}
use Rattle.std.specs.List.{filter, flat_map, list_any}
use Rattle.std.specs.List.Sorted.{IsStrictlySortedBy, IsPermutation}
use Rattle.std.specs.Map.{lookup, keys_of}
use Rattle.std.specs.BTreeMap.{insert_entry, is_at}
use Rattle.std.proofs.lemmas.Bool.{false≢true}
use Rattle.std.proofs.lemmas.List.Elements.{filter_agree}
use Rattle.std.proofs.lemmas.Map.Entries.{lookup_head, lookup_tail, lookup-filter-keys}
use Rattle.std.proofs.lemmas.Map.Keys.{sorted_tail}
use Rattle.simm_rules.specs.SimmKinds.declared.key.FactorKey.{FactorKey}
use Rattle.simm_rules.specs.SimmKinds.Order.{same_key, key_cmp}
use Rattle.simm_rules.specs.Sums.{different, put_in}
use Rattle.simm_rules.specs.Net.{Sensitivity}
use Rattle.factor_book.specs.declared.address.Address.{Address}
use Rattle.factor_book.specs.declared.holding.Holding.{Holding}
use Rattle.factor_book.specs.Address.{key_address, address_cmp}
use Rattle.factor_book.specs.Factors.{factors_in}
use Rattle.factor_book.specs.Address.{is_filed_at}
use Rattle.factor_book.specs.Filing.{filed_at, addresses_of, by_address}
use Rattle.factor_book.specs.declared.filing.Left.{Left}
use Rattle.factor_book.specs.Holdings.{shrunk}
use Rattle.factor_book.specs.Filing.{found, found_in, StandAt, FillPlace, AreFiled, in_order, gathered, Leaves, TakesAt}
use Rattle.simm_rules.proofs.SimmKinds.Orders.{key_total, exact_keys}
use Rattle.factor_book.proofs.Keys.{same_key_refl, same_key_sym, one_key}
use Rattle.factor_book.proofs.Addresses.{address_total, exact_addresses, one_address, own_address, tied_address, at_address}
use Rattle.factor_book.proofs.Sorting.{one_unless, lookup-insert_entry, keys-insert_entry, length-insert_entry, different_ascends, put_ascends, any_different, same_entries, past_head, some_not_none, filter_ascends, keys-graph, lookup-graph}
use Rattle.factor_book.proofs.Grouping.{any_is, any-filter, grouped_all}
use Rattle.factor_book.proofs.Held.{come_to, lookup-factors, factors_from}

-- ---- in order

pub lookup-in_order : (q : FactorKey) (es : List (FactorKey × Holding)) → lookup (same_key q) (in_order es) ≡ lookup (same_key q) es
lookup-in_order q [] = refl
lookup-in_order q (e ∷ es) = lookup-insert_entry key_total q e.0 e.1 (in_order es) ∙ ap (λ z. cond (same_key q e.0) (Some e.1) z) (lookup-in_order q es)

keys-in_order : (es : List (FactorKey × Holding)) → keys_of (in_order es) ≡ different key_cmp (keys_of es)
keys-in_order [] = refl
keys-in_order (e ∷ es) = keys-insert_entry key_total e.0 e.1 (in_order es) ∙ ap (put_in key_cmp e.0) (keys-in_order es)

pub order_ascends : (es : List (FactorKey × Holding)) → IsStrictlySortedBy key_cmp (keys_of (in_order es))
order_ascends es = subst (IsStrictlySortedBy key_cmp) (sym (keys-in_order es)) (different_ascends key_cmp key_total (keys_of es))

-- ---- from places to the whole list

pub lookup-none_before : (test : FactorKey → Bool) (xs ys : List (FactorKey × Holding)) → lookup test xs ≡ None → lookup test (xs ++ ys) ≡ lookup test ys
lookup-none_before test [] ys h = refl
lookup-none_before test (x ∷ xs) ys h = by (test x.0) h (lookup-none_before test xs ys)
  where
    by : (t : Bool) → cond t (Some x.1) (lookup test xs) ≡ None → (lookup test xs ≡ None → lookup test (xs ++ ys) ≡ lookup test ys) → cond t (Some x.1) (lookup test (xs ++ ys)) ≡ lookup test ys
    by true e i = absurd (some_not_none x.1 e)
    by false e i = i e

pub lookup-none_after : (test : FactorKey → Bool) (xs ys : List (FactorKey × Holding)) → lookup test ys ≡ None → lookup test (xs ++ ys) ≡ lookup test xs
lookup-none_after test [] ys h = h
lookup-none_after test (x ∷ xs) ys h = ap (λ z. cond (test x.0) (Some x.1) z) (lookup-none_after test xs ys h)

filed_head : (e : Address × List (FactorKey × Holding)) (es : List (Address × List (FactorKey × Holding))) → AreFiled (e ∷ es) → FillPlace e.0 e.1
filed_head e es f = subst (λ (o : Option (List (FactorKey × Holding))). IfSome o (FillPlace e.0)) (lookup_head (is_at (address_cmp e.0)) e es (own_address e.0)) (f.placed e.0)

filed_tail : (e : Address × List (FactorKey × Holding)) (es : List (Address × List (FactorKey × Holding))) → AreFiled (e ∷ es) → AreFiled es
filed_tail e es f = record {
  ordered = sorted_tail address_cmp e.0 (keys_of es) f.ordered;
  placed = λ place. by place (is_eq (address_cmp place e.0)) refl;
}
  where
    by : (place : Address) (t : Bool) → is_eq (address_cmp place e.0) ≡ t → IfSome (lookup (is_at (address_cmp place)) es) (FillPlace place)
    by place true h = subst (λ (o : Option (List (FactorKey × Holding))). IfSome o (FillPlace place)) (sym (past_head address_total place e es f.ordered h)) tt
    by place false h = subst (λ (o : Option (List (FactorKey × Holding))). IfSome o (FillPlace place)) (lookup_tail (is_at (address_cmp place)) e es h) (f.placed place)

-- a key of another place isn't there
not_there : (k : FactorKey) (place : Address) (factors : List (FactorKey × Holding)) → StandAt place factors → (key_address k ≡ place → ⊥) → (o : Option Holding) → lookup (same_key k) factors ≡ o → o ≡ None
not_there k place factors s other None e = refl
not_there k place factors s other (Some h) e = absurd (other (s.placed k (subst IsSome (sym e) refl)))

pub lookup-flat : (filed : List (Address × List (FactorKey × Holding))) (k : FactorKey) → AreFiled filed → lookup (same_key k) (flat_map (λ e. e.1) filed) ≡ found filed k
lookup-flat [] k f = refl
lookup-flat (e ∷ es) k f = by (is_eq (address_cmp (key_address k) e.0)) refl (lookup-flat es k (filed_tail e es f))
  where
    by : (t : Bool) → is_eq (address_cmp (key_address k) e.0) ≡ t → lookup (same_key k) (flat_map (λ x. x.1) es) ≡ found es k → lookup (same_key k) (e.1 ++ flat_map (λ x. x.1) es) ≡ found (e ∷ es) k
    by true h i =
        lookup-none_after (same_key k) e.1 (flat_map (λ x. x.1) es) (i ∙ ap (λ o. found_in o k) (past_head address_total (key_address k) e es f.ordered h))
        ∙ sym (ap (λ o. found_in o k) (lookup_head (is_at (address_cmp (key_address k))) e es h))
    by false h i =
        lookup-none_before (same_key k) e.1 (flat_map (λ x. x.1) es)
        (not_there k e.0 e.1 (filed_head e es f).stand (λ same. false≢true (sym h ∙ ap (λ p. is_eq (address_cmp p e.0)) same ∙ own_address e.0)) (lookup (same_key k) e.1) refl)
        ∙ i ∙ sym (ap (λ o. found_in o k) (lookup_tail (is_at (address_cmp (key_address k))) e es h))

pub lookup-gathered : (filed : List (Address × List (FactorKey × Holding))) (k : FactorKey) → AreFiled filed → lookup (same_key k) (gathered filed) ≡ found filed k
lookup-gathered filed k f = lookup-in_order k (flat_map (λ e. e.1) filed) ∙ lookup-flat filed k f

-- ---- factors that are those of sensitivities

pub found-from : (filed : List (Address × List (FactorKey × Holding))) (ss : List Sensitivity) → AreFiled filed → gathered filed ≡ factors_in ss → (k : FactorKey) → found filed k ≡ come_to ss k
found-from filed ss f e k = sym (lookup-gathered filed k f) ∙ ap (lookup (same_key k)) e ∙ lookup-factors ss k

pub gathered-from : (filed : List (Address × List (FactorKey × Holding))) (ss : List Sensitivity) → AreFiled filed → ((k : FactorKey) → found filed k ≡ come_to ss k) → gathered filed ≡ factors_in ss
gathered-from filed ss f e = factors_from (gathered filed) ss (order_ascends (flat_map (λ x. x.1) filed)) (λ k. lookup-gathered filed k f ∙ e k)

-- ---- those of a place

-- by the order of places
at_addresses : (place : Address) (fs : List (FactorKey × Holding)) → filed_at place fs ≡ filter (λ x. is_eq (address_cmp place (key_address x.0))) fs
at_addresses place fs = filter_agree (λ (x : FactorKey × Holding). is_filed_at place x.0) (λ x. is_eq (address_cmp place (key_address x.0))) (λ x. at_address place x.0) fs

-- something stands at the places that there are
pub any_at : (place : Address) (fs : List (FactorKey × Holding)) → any_is (filed_at place fs) ≡ list_any (is_at (address_cmp place)) (addresses_of fs)
any_at place fs =
    ap any_is (at_addresses place fs)
    ∙ sym (any_different address_cmp (is_at (address_cmp place)) (tied_address place) (map (λ x. key_address x.0) fs) ∙ any-filter (is_at (address_cmp place)) (λ x. key_address x.0) fs)

module _ (filed : List (Address × List (FactorKey × Holding))) (f : AreFiled filed) (place : Address) where
  found-unwrapped : (o : Option (List (FactorKey × Holding))) (k : FactorKey) → lookup (same_key k) (unwrap_or o []) ≡ found_in o k
  found-unwrapped None k = refl
  found-unwrapped (Some factors) k = refl

  ordered_none : IsStrictlySortedBy key_cmp (keys_of {K = FactorKey} {X = Holding} [])
  unfolding IsStrictlySortedBy
  ordered_none = tt

  ordered_at : (o : Option (List (FactorKey × Holding))) → IfSome o (FillPlace place) → IsStrictlySortedBy key_cmp (keys_of (unwrap_or o []))
  ordered_at None h = ordered_none
  ordered_at (Some factors) h = (h.stand).ordered

  other_place : (o : Option (List (FactorKey × Holding))) (k : FactorKey) → IfSome o (FillPlace place) → (key_address k ≡ place → ⊥) → None ≡ found_in o k
  other_place None k h other = refl
  other_place (Some factors) k h other = sym (not_there k place factors h.stand other (lookup (same_key k) factors) refl)

  found_at : (k : FactorKey) (t : Bool) → is_filed_at place k ≡ t → cond t (found filed k) None ≡ found_in (lookup (is_at (address_cmp place)) filed) k
  found_at k true e = ap (λ p. found_in (lookup (is_at (address_cmp p)) filed) k) (sym (one_address place (key_address k) (sym (at_address place k) ∙ e)))
  found_at k false e =
      other_place (lookup (is_at (address_cmp place)) filed) k (f.placed place)
      (λ same. false≢true (sym e ∙ at_address place k ∙ ap (λ p. is_eq (address_cmp place p)) same ∙ own_address place))

  -- what stands at a place are the factors of the whole list that have it
  pub standing : filed_at place (gathered filed) ≡ unwrap_or (lookup (is_at (address_cmp place)) filed) []
  standing =
      same_entries key_total exact_keys (filed_at place (gathered filed)) (unwrap_or (lookup (is_at (address_cmp place)) filed) [])
      (filter_ascends key_cmp (is_filed_at place) (gathered filed) (order_ascends (flat_map (λ x. x.1) filed)))
      (ordered_at (lookup (is_at (address_cmp place)) filed) (f.placed place))
      (λ k. lookup-filter-keys (same_key k) (is_filed_at place) (is_filed_at place k) (λ l e. ap (is_filed_at place) (sym (one_key k l e))) (gathered filed)
      ∙ ap (λ o. cond (is_filed_at place k) o None) (lookup-gathered filed k f)
      ∙ found_at k (is_filed_at place k) refl
      ∙ sym (found-unwrapped (lookup (is_at (address_cmp place)) filed) k))

  filled : (o : Option (List (FactorKey × Holding))) → IfSome o (FillPlace place) → o ≡ cond (any_is (unwrap_or o [])) (Some (unwrap_or o [])) None
  filled None h = refl
  filled (Some []) h = absurd (h.some refl)
  filled (Some (x ∷ xs)) h = refl

  -- a place has an entry where a factor has it
  pub entry_at : lookup (is_at (address_cmp place)) filed ≡ lookup (is_at (address_cmp place)) (by_address (gathered filed))
  entry_at =
      let fs : List (FactorKey × Holding) = gathered filed in
      filled (lookup (is_at (address_cmp place)) filed) (f.placed place)
      ∙ ap (λ xs. cond (any_is xs) (Some xs) None) (sym standing)
      ∙ ap (λ t. cond t (Some (filed_at place fs)) None) (any_at place fs)
      ∙ sym (lookup-graph (λ p. filed_at p fs) (is_at (address_cmp place)) place (one_address place) (addresses_of fs))

pub addresses_ascend : (fs : List (FactorKey × Holding)) → IsStrictlySortedBy address_cmp (keys_of (by_address fs))
addresses_ascend fs = subst (IsStrictlySortedBy address_cmp) (sym (keys-graph (λ p. filed_at p fs) (addresses_of fs))) (different_ascends address_cmp address_total (map (λ x. key_address x.0) fs))

-- the entries are the factors by place
pub entries_are : (filed : List (Address × List (FactorKey × Holding))) → AreFiled filed → filed ≡ by_address (gathered filed)
entries_are filed f = same_entries address_total exact_addresses filed (by_address (gathered filed)) f.ordered (addresses_ascend (gathered filed)) (λ place. entry_at filed f place)

-- each factor stands at one place
pub all_addresses : (fs : List (FactorKey × Holding)) → IsPermutation fs (flat_map (λ e. e.1) (by_address fs))
all_addresses fs =
    subst (λ (es : List (Address × List (FactorKey × Holding))). IsPermutation fs (flat_map (λ e. e.1) es)) (sym (by_order (addresses_of fs)))
    (grouped_all address_cmp address_total (λ x. key_address x.0) (addresses_of fs) fs (different_ascends address_cmp address_total (map (λ x. key_address x.0) fs))
    (λ x. any_different address_cmp (λ q. is_eq (address_cmp q (key_address x.0))) (λ p r e. ap is_eq (address_total.congr p r (key_address x.0) e)) (map (λ y. key_address y.0) fs)))
  where
    by_order : (ps : List Address) → map (λ p. (p, filed_at p fs)) ps ≡ map {B = Address × List (FactorKey × Holding)} (λ p. (p, filter (λ x. is_eq (address_cmp p (key_address x.0))) fs)) ps
    by_order [] = refl
    by_order (p ∷ ps) = λ i. (p, at_addresses p fs i) ∷ by_order ps i

-- ---- one place is written

pub filed_update : (old new : List (Address × List (FactorKey × Holding))) (place : Address) (w : Option (List (FactorKey × Holding))) → AreFiled old → IsStrictlySortedBy address_cmp (keys_of new)
    → ((q : Address) → lookup (is_at (address_cmp q)) new ≡ cond (is_at (address_cmp place) q) w (lookup (is_at (address_cmp q)) old)) → IfSome w (FillPlace place) → AreFiled new
filed_update old new place w f ordered update stand = record {
  ordered = ordered;
  placed = λ q. subst (λ (o : Option (List (FactorKey × Holding))). IfSome o (FillPlace q)) (sym (update q)) (by q (is_eq (address_cmp place q)) refl);
}
  where
    by : (q : Address) (t : Bool) → is_eq (address_cmp place q) ≡ t → IfSome (cond t w (lookup (is_at (address_cmp q)) old)) (FillPlace q)
    by q true e = subst (λ p. IfSome w (FillPlace p)) (one_address place q e) stand
    by q false e = f.placed q

-- v was put at the key in its place, which had these factors
pub found_update : (old new : List (Address × List (FactorKey × Holding))) (key : FactorKey) (now : Option (List (FactorKey × Holding))) (v : Option Holding)
    → ((q : Address) → lookup (is_at (address_cmp q)) new ≡ cond (is_at (address_cmp (key_address key)) q) now (lookup (is_at (address_cmp q)) old))
    → ((k : FactorKey) → found_in now k ≡ cond (same_key key k) v (found_in (lookup (is_at (address_cmp (key_address key))) old) k))
    → (k : FactorKey) → found new k ≡ cond (same_key key k) v (found old k)
found_update old new key now v update put k =
    ap (λ o. found_in o k) (update (key_address k)) ∙ by (is_eq (address_cmp (key_address key) (key_address k))) refl
  where
    apart : (s : Bool) → same_key key k ≡ s → is_eq (address_cmp (key_address key) (key_address k)) ≡ false → found old k ≡ cond s v (found old k)
    apart true e h = absurd (false≢true (sym h ∙ ap (λ l. is_eq (address_cmp (key_address key) (key_address l))) (sym (one_key key k e)) ∙ own_address (key_address key)))
    apart false e h = refl

    by : (t : Bool) → is_eq (address_cmp (key_address key) (key_address k)) ≡ t → found_in (cond t now (lookup (is_at (address_cmp (key_address k))) old)) k ≡ cond (same_key key k) v (found old k)
    by true e =
        put k ∙ ap (λ p. cond (same_key key k) v (found_in (lookup (is_at (address_cmp p)) old) k)) (one_address (key_address key) (key_address k) e)
    by false e = apart (same_key key k) refl e

-- a list in which a key is found isn't empty
pub some_found : (k : FactorKey) (factors : List (FactorKey × Holding)) (h : Holding) → lookup (same_key k) factors ≡ Some h → factors ≢ []
some_found k factors h e none = some_not_none h (sym e ∙ ap (lookup (same_key k)) none)

-- the factors of a place stand in it still when one of its keys is written
pub stand_update : (key : FactorKey) (factors now : List (FactorKey × Holding)) (v : Option Holding) → StandAt (key_address key) factors → IsStrictlySortedBy key_cmp (keys_of now)
    → ((k : FactorKey) → lookup (same_key k) now ≡ cond (same_key key k) v (lookup (same_key k) factors)) → StandAt (key_address key) now
stand_update key factors now v s ordered put = record { ordered = ordered; placed = λ k there. by k (same_key key k) refl (subst IsSome (put k) there) }
  where
    by : (k : FactorKey) (t : Bool) → same_key key k ≡ t → IsSome (cond t v (lookup (same_key k) factors)) → key_address k ≡ key_address key
    by k true e h = ap key_address (sym (one_key key k e))
    by k false e h = s.placed k h

-- a place that had factors still has one, when one of its keys is written
pub fill_update : (key : FactorKey) (factors now : List (FactorKey × Holding)) (v : Holding) → StandAt (key_address key) factors → IsStrictlySortedBy key_cmp (keys_of now)
    → ((k : FactorKey) → lookup (same_key k) now ≡ cond (same_key key k) (Some v) (lookup (same_key k) factors)) → FillPlace (key_address key) now
fill_update key factors now v s ordered put = record {
  stand = stand_update key factors now (Some v) s ordered put;
  some = some_found key now v (put key ∙ ap (λ t. cond t (Some v) (lookup (same_key key) factors)) (same_key_refl key));
}

-- what stands at a key's place
pub filled_at : (filed : List (Address × List (FactorKey × Holding))) (place : Address) (factors : List (FactorKey × Holding)) → AreFiled filed → Some factors ≡ lookup (is_at (address_cmp place)) filed → FillPlace place factors
filled_at filed place factors f at = subst (λ (o : Option (List (FactorKey × Holding))). IfSome o (FillPlace place)) (sym at) (f.placed place)

-- nothing was written at a place
pub found_same : (old new : List (Address × List (FactorKey × Holding))) (place : Address) (factors now : List (FactorKey × Holding)) → Some factors ≡ lookup (is_at (address_cmp place)) old
    → ((q : Address) → lookup (is_at (address_cmp q)) new ≡ cond (is_at (address_cmp place) q) (Some now) (lookup (is_at (address_cmp q)) old)) → now ≡ factors → (k : FactorKey) → found new k ≡ found old k
found_same old new place factors now at update same k = ap (λ o. found_in o k) (update (key_address k) ∙ by (is_eq (address_cmp place (key_address k))) refl)
  where
    by : (t : Bool) → is_eq (address_cmp place (key_address k)) ≡ t → cond t (Some now) (lookup (is_at (address_cmp (key_address k))) old) ≡ lookup (is_at (address_cmp (key_address k))) old
    by true e = ap Some same ∙ at ∙ ap (λ q. lookup (is_at (address_cmp q)) old) (one_address place (key_address k) e)
    by false e = refl

none_filed : AreFiled []
unfolding IsStrictlySortedBy
none_filed = record { ordered = tt; placed = λ place. tt }

pub empty_filed : (filed : List (Address × List (FactorKey × Holding))) → filed ≡ [] → AreFiled filed
empty_filed filed e = subst AreFiled (sym e) none_filed

-- ---- a sensitivity was added or taken at its place

module _ (old : List (Address × List (FactorKey × Holding))) (key : FactorKey) (had : List (FactorKey × Holding)) (at : Some had ≡ lookup (is_at (address_cmp (key_address key))) old) where
  pub found_had : lookup (same_key key) had ≡ found old key
  found_had = ap (λ o. found_in o key) at

  -- what was written over the factors of the place was written over what was found
  pub put_had : (f : Option Holding → Option Holding) (now : List (FactorKey × Holding)) → ((k : FactorKey) → lookup (same_key k) now ≡ cond (same_key key k) (f (lookup (same_key key) had)) (lookup (same_key k) had))
      → (k : FactorKey) → lookup (same_key k) now ≡ cond (same_key key k) (f (found old key)) (found_in (lookup (is_at (address_cmp (key_address key))) old) k)
  put_had f now h k = h k ∙ ap (λ o. cond (same_key key k) (f (found_in o key)) (found_in o k)) at

  pub stand_had : AreFiled old → StandAt (key_address key) had
  stand_had f = (filled_at old (key_address key) had f at).stand

-- the place had nothing
pub put_first : (old : List (Address × List (FactorKey × Holding))) (key : FactorKey) (f : Option Holding → Option Holding) (empty now : List (FactorKey × Holding)) → None ≡ lookup (is_at (address_cmp (key_address key))) old → empty ≡ []
    → ((k : FactorKey) → lookup (same_key k) now ≡ cond (same_key key k) (f (lookup (same_key key) empty)) (lookup (same_key k) empty))
    → (k : FactorKey) → lookup (same_key k) now ≡ cond (same_key key k) (f (found old key)) (found_in (lookup (is_at (address_cmp (key_address key))) old) k)
put_first old key f empty now at none h k =
    h k ∙ ap (λ es. cond (same_key key k) (f (lookup (same_key key) es)) (lookup (same_key k) es)) none
    ∙ ap (λ o. cond (same_key key k) (f (found_in o key)) (found_in o k)) at

stand_none : (place : Address) → StandAt place []
unfolding IsStrictlySortedBy
stand_none place = record { ordered = tt; placed = λ k h. absurd (false≢true h) }

pub stand_empty : (place : Address) (empty : List (FactorKey × Holding)) → empty ≡ [] → StandAt place empty
stand_empty place empty none = subst (StandAt place) (sym none) (stand_none place)

over_cond : (t : Bool) (x y z : Option (List (FactorKey × Holding))) → cond t x (cond t y z) ≡ cond t x z
over_cond true x y z = refl
over_cond false x y z = refl

-- a sensitivity was taken of the factors that its place had
pub takes : (old new : List (Address × List (FactorKey × Holding))) (key : FactorKey) (amount : ℤ) (had now : List (FactorKey × Holding)) (rest : Left) → AreFiled old
    → Some had ≡ lookup (is_at (address_cmp (key_address key))) old → IsStrictlySortedBy address_cmp (keys_of new)
    → ((q : Address) → lookup (is_at (address_cmp q)) new ≡ cond (is_at (address_cmp (key_address key)) q) (Some now) (lookup (is_at (address_cmp q)) old))
    → IsStrictlySortedBy key_cmp (keys_of now) → ((k : FactorKey) → lookup (same_key k) now ≡ cond (same_key key k) (shrunk (lookup (same_key key) had) amount) (lookup (same_key k) had))
    → Leaves rest (shrunk (lookup (same_key key) had) amount) now → TakesAt old new key amount rest
takes old new key amount had now rest f at ordered update ascends put leaves =
    record {
      factors = now;
      ordered = ordered;
      update = update;
      stand = stand_update key had now (shrunk (lookup (same_key key) had) amount) (stand_had old key had at f) ascends put;
      taken = put_had old key had at (λ o. shrunk o amount) now put;
      leaves = subst (λ (o : Option Holding). Leaves rest (shrunk o amount) now) (found_had old key had at) leaves;
    }

module _ (old mid : List (Address × List (FactorKey × Holding))) (key : FactorKey) (amount : ℤ) (rest : Left) (f : AreFiled old) (t : TakesAt old mid key amount rest) where
  -- the place stays, as it has a factor
  pub filed_left : t.factors ≢ [] → AreFiled mid
  filed_left some = filed_update old mid (key_address key) (Some t.factors) f t.ordered t.update (record { stand = t.stand; some = some })

  pub found_left : (k : FactorKey) → found mid k ≡ cond (same_key key k) (shrunk (found old key) amount) (found old k)
  found_left = found_update old mid key (Some t.factors) (shrunk (found old key) amount) t.update t.taken

  pub some_left : IsSome (shrunk (found old key) amount) → t.factors ≢ []
  some_left is = by (shrunk (found old key) amount) is (t.taken key ∙ ap (λ b. cond b (shrunk (found old key) amount) (found old key)) (same_key_refl key))
    where
      by : (o : Option Holding) → IsSome o → lookup (same_key key) t.factors ≡ o → t.factors ≢ []
      by None i e = absurd (false≢true i)
      by (Some h) i e = some_found key t.factors h e

  -- the place goes
  module _ (new : List (Address × List (FactorKey × Holding)))
      (update : (q : Address) → lookup (is_at (address_cmp q)) new ≡ cond (is_at (address_cmp (key_address key)) q) None (lookup (is_at (address_cmp q)) mid)) where
    dropped : (q : Address) → lookup (is_at (address_cmp q)) new ≡ cond (is_at (address_cmp (key_address key)) q) None (lookup (is_at (address_cmp q)) old)
    dropped q =
        update q ∙ ap (λ o. cond (is_at (address_cmp (key_address key)) q) None o) (t.update q)
        ∙ over_cond (is_at (address_cmp (key_address key)) q) None (Some t.factors) (lookup (is_at (address_cmp q)) old)

    pub filed_dropped : IsStrictlySortedBy address_cmp (keys_of new) → AreFiled new
    filed_dropped ordered = filed_update old new (key_address key) None f ordered dropped tt

    pub found_dropped : t.factors ≡ [] → (k : FactorKey) → found new k ≡ cond (same_key key k) (shrunk (found old key) amount) (found old k)
    found_dropped none = found_update old new key None (shrunk (found old key) amount) dropped (λ k. sym (ap (lookup (same_key k)) none) ∙ t.taken k)

-- ---- how many keys there are

-- a key was written
pub count_written : (old new : List (Address × List (FactorKey × Holding))) (key : FactorKey) (v : Holding) → AreFiled old → AreFiled new
    → ((k : FactorKey) → found new k ≡ cond (same_key key k) (Some v) (found old k)) → length (gathered new) ≡ length (gathered old) + one_unless (is_some (found old key))
count_written old new key v f g put =
    let before : List (FactorKey × Holding) = gathered old in
    let after : List (FactorKey × Holding) = gathered new in
    let ascends : IsStrictlySortedBy key_cmp (keys_of before) = order_ascends (flat_map (λ x. x.1) old) in
    let ascend : IsStrictlySortedBy key_cmp (keys_of (insert_entry key_cmp before key v)) =
    subst (IsStrictlySortedBy key_cmp) (sym (keys-insert_entry key_total key v before)) (put_ascends key_cmp key_total key (keys_of before) ascends) in
    let same : after ≡ insert_entry key_cmp before key v =
    same_entries key_total exact_keys after (insert_entry key_cmp before key v) (order_ascends (flat_map (λ x. x.1) new)) ascend
    (λ k. lookup-gathered new k g ∙ put k ∙ ap (λ t. cond t (Some v) (found old k)) (same_key_sym key k) ∙ ap (λ o. cond (same_key k key) (Some v) o) (sym (lookup-gathered old k f)) ∙ sym (lookup-insert_entry key_total k key v before)) in
    ap length same ∙ length-insert_entry key_total key v before ascends ∙ ap (λ o. length before + one_unless (is_some o)) (lookup-gathered old key f)

-- what follows both from an `Ok` and from an `Err`
pub either_way : {T E P Q X : Type 0} (r : Result T E) → OnOk r P → OnErr r Q → (P → X) → (Q → X) → X
either_way (Ok x) p q f g = f p
either_way (Err e) p q f g = g q
