-- Books: what adding and taking sensitivities does to the factors, and how great their nets, sizes and numbers are.
use Rattle.std.proofs.Common.{◌≡◌, ℕ, zero, suc, ◌+◌, ◌*◌, ◌^◌, ◌<◌, ◌≤◌, List, [], ◌∷◌, ◌++◌, map, length, Bool, true, false, cond, Option, Some, None, IsSome, IfSome, IsSomeAnd, sym, ap, ◌∙◌, subst, refl, ℤ, pos, unsigned_abs, arith}
use Rattle.std.specs.Prelude.{is_some, is_none, not}
use Rattle.std.proofs.lemmas.Bool.{false≢true}
use Rattle.std.proofs.lemmas.List.{length-map}
use Rattle.simm_rules.specs.SimmKinds.declared.key.FactorKey.{FactorKey}
use Rattle.simm_rules.specs.SimmKinds.Order.{same_key, key_cmp}
use Rattle.simm_rules.specs.Net.{Sensitivity, net, keys_of}
use Rattle.factor_book.specs.declared.address.Address.{Address}
use Rattle.factor_book.specs.declared.holding.Holding.{Holding}
use Rattle.factor_book.specs.Factors.{factors_in, factor_of, size_of, count_of}
use Rattle.factor_book.specs.Holdings.{first, joined, grown, shrunk, rows_in, IsSmall, IsOfSmall, CanJoin, CanShrink}
use Rattle.factor_book.specs.Filing.{found, AreFiled, gathered, AreSmall, AreNetted, IsFiledBook, HasRoomFor, Holds}
use Rattle.factor_book.proofs.Keys.{same_key_refl, one_key}
use Rattle.factor_book.proofs.Sorting.{one_unless, length-different}
use Rattle.factor_book.proofs.Held.{holding, of_key, come_to, rows_in-come_to, come_to-more, come_to-less, swapped, taken_first, same_factors, net_size, size_size, count_below}
use Rattle.factor_book.proofs.Filed.{found-from, gathered-from, count_written}

-- ---- sensitivities in another order

pub taken_before : (before taken after : List Sensitivity) → factors_in (before ++ taken ++ after) ≡ factors_in (taken ++ (before ++ after))
taken_before before taken after = same_factors (before ++ taken ++ after) (taken ++ (before ++ after)) (taken_first before taken after)

pub swapped_factors : (xs ys : List Sensitivity) → factors_in (xs ++ ys) ≡ factors_in (ys ++ xs)
swapped_factors xs ys = same_factors (xs ++ ys) (ys ++ xs) (swapped xs ys)

-- ---- amounts

pub small-append : (xs ys : List Sensitivity) → AreSmall xs → AreSmall ys → AreSmall (xs ++ ys)
small-append [] ys h g = g
small-append (x ∷ xs) ys h g = (h.0, small-append xs ys h.1 g)

pub small_left : (xs ys : List Sensitivity) → AreSmall (xs ++ ys) → AreSmall xs
small_left [] ys h = tt
small_left (x ∷ xs) ys h = (h.0, small_left xs ys h.1)

pub small_right : (xs ys : List Sensitivity) → AreSmall (xs ++ ys) → AreSmall ys
small_right [] ys h = h
small_right (x ∷ xs) ys h = small_right xs ys h.1

pub small_first : (before taken after : List Sensitivity) → AreSmall (before ++ taken ++ after) → AreSmall (taken ++ (before ++ after))
small_first before taken after h =
    small-append taken (before ++ after) (small_right before taken (small_left (before ++ taken) after h))
    (small-append before after (small_left before taken (small_left (before ++ taken) after h)) (small_right (before ++ taken) after h))

-- ---- one more

abbrev pub one_of : FactorKey → ℤ → Sensitivity
one_of key amount = record { key = key; amount = amount }

-- what is put is one amount
pub put_one : (old new : List (Address × List (FactorKey × Holding))) (key : FactorKey) (amount : ℤ) (h : Holding) → h ≡ first amount
    → ((k : FactorKey) → found new k ≡ cond (same_key key k) (Some (joined (found old key) h)) (found old k))
    → (k : FactorKey) → found new k ≡ cond (same_key key k) (Some (grown (found old key) amount)) (found old k)
put_one old new key amount h e put k = put k ∙ ap (λ x. cond (same_key key k) (Some (joined (found old key) x)) (found old k)) e

module _ (old new : List (Address × List (FactorKey × Holding))) (key : FactorKey) (amount : ℤ) (f : AreFiled old) (g : AreFiled new)
    (put : (k : FactorKey) → found new k ≡ cond (same_key key k) (Some (grown (found old key) amount)) (found old k)) where
  pub added : (ss : List Sensitivity) → gathered old ≡ factors_in ss → gathered new ≡ factors_in (ss ++ one_of key amount ∷ [])
  added ss e =
      gathered-from new (ss ++ one_of key amount ∷ []) g (λ k.
      put k
      ∙ ap (λ o. cond (same_key key k) (Some (grown o amount)) (found old k)) (found-from old ss f e key)
      ∙ ap (λ o. cond (same_key key k) (Some (grown (come_to ss key) amount)) o) (found-from old ss f e k)
      ∙ sym (come_to-more (one_of key amount) ss k) ∙ swapped (one_of key amount ∷ []) ss k)

  pub netted_added : AreNetted (gathered old) → IsSmall amount → AreNetted (gathered new)
  netted_added b small = record {
    held = b.held ++ one_of key amount ∷ [];
    are = added b.held b.are;
    amounts = small-append b.held (one_of key amount ∷ []) b.amounts (small, tt);
  }

  -- how many keys there are now
  pub counted_added : length (gathered new) ≡ length (gathered old) + one_unless (is_some (found old key))
  counted_added = count_written old new key (grown (found old key) amount) f g put

-- nothing found has changed
pub unchanged : (old new : List (Address × List (FactorKey × Holding))) → AreFiled old → AreFiled new → AreNetted (gathered old) → ((k : FactorKey) → found new k ≡ found old k) → gathered new ≡ gathered old
unchanged old new f g b same = gathered-from new b.held g (λ k. same k ∙ found-from old b.held f b.are k) ∙ sym b.are

pub book_unchanged : (old new : List (Address × List (FactorKey × Holding))) (keys : ℕ) → IsFiledBook old keys → AreFiled new → ((k : FactorKey) → found new k ≡ found old k) → IsFiledBook new keys
book_unchanged old new keys b g same =
    let is : gathered new ≡ gathered old = unchanged old new b.filing g b.netted same in
    record { filing = g; netted = subst AreNetted (sym is) b.netted; counted = b.counted ∙ sym (ap length is) }

-- the key is new, or it isn't
pub book_new : (old new : List (Address × List (FactorKey × Holding))) (keys : ℕ) (key : FactorKey) (amount : ℤ) → IsFiledBook old keys → AreFiled new
    → ((k : FactorKey) → found new k ≡ cond (same_key key k) (Some (grown (found old key) amount)) (found old k)) → IsSmall amount → is_none (found old key) ≡ true → IsFiledBook new (keys + 1)
book_new old new keys key amount b g put small none = record {
  filing = g;
  netted = netted_added old new key amount b.filing g put b.netted small;
  counted = omega (arith, b.counted, counted_added old new key amount b.filing g put, by (is_some (found old key)) none);
}
  where
    by : (t : Bool) → not t ≡ true → one_unless t ≡ 1
    by true e = absurd (false≢true e)
    by false e = refl

pub book_known : (old new : List (Address × List (FactorKey × Holding))) (keys : ℕ) (key : FactorKey) (amount : ℤ) → IsFiledBook old keys → AreFiled new
    → ((k : FactorKey) → found new k ≡ cond (same_key key k) (Some (grown (found old key) amount)) (found old k)) → IsSmall amount → is_none (found old key) ≡ false → IsFiledBook new keys
book_known old new keys key amount b g put small known = record {
  filing = g;
  netted = netted_added old new key amount b.filing g put b.netted small;
  counted = omega (arith, b.counted, counted_added old new key amount b.filing g put, by (is_some (found old key)) known);
}
  where
    by : (t : Bool) → not t ≡ false → one_unless t ≡ 0
    by true e = refl
    by false e = absurd (false≢true (sym e))

-- ---- room

-- one amount alone
one_small : (amount : ℤ) → IsSmall amount → IsOfSmall (first amount)
one_small amount small = record { net = omega (arith, small); size = omega (arith, small, size-of amount) }
  where
    size-of : (a : ℤ) → unsigned_abs (pos (unsigned_abs a)) ≡ unsigned_abs a
    size-of a = refl

grows : (n s amount : ℤ) (c : ℕ) → unsigned_abs n ≤ c * 10 ^ 15 → unsigned_abs s ≤ c * 10 ^ 15 → IsSmall amount → c + 1 < 2 ^ 32 → IfSome (holding n s c) (λ had. CanJoin had (first amount))
grows n s amount zero net size small few = tt
grows n s amount (suc c) net size small few = record { had = record { net = net; size = size }; more = one_small amount small; few = few }

-- one more of what some come to
pub joins : (ss : List Sensitivity) (key : FactorKey) (amount : ℤ) → AreSmall ss → IsSmall amount → length ss + 1 < 2 ^ 32 → IfSome (come_to ss key) (λ had. CanJoin had (first amount))
joins ss key amount all small room =
    grows (net ss key) (size_of ss key) amount (count_of ss key) (net_size ss key all) (size_size ss key all) small (omega (arith, count_below ss key, room))

pub can_join : (filed : List (Address × List (FactorKey × Holding))) (keys : ℕ) (key : FactorKey) (amount : ℤ) → IsFiledBook filed keys → HasRoomFor (one_of key amount ∷ []) (gathered filed) → IsSmall amount
    → IfSome (found filed key) (λ had. CanJoin had (first amount))
can_join filed keys key amount b room small =
    let own = b.netted in
    let here : found filed key ≡ come_to own.held key = found-from filed own.held b.filing own.are key in
    let there : found filed key ≡ come_to room.held key = found-from filed room.held b.filing room.are key in
    let counts : count_of own.held key ≡ count_of room.held key =
    sym (rows_in-come_to own.held key) ∙ ap rows_in (sym here ∙ there) ∙ rows_in-come_to room.held key in
    subst (λ (o : Option Holding). IfSome o (λ had. CanJoin had (first amount))) (sym here)
    (grows (net own.held key) (size_of own.held key) amount (count_of own.held key) (net_size own.held key own.amounts) (size_size own.held key own.amounts) small
    (omega (arith, counts, count_below room.held key, room.few)))

-- there are no more keys than sensitivities
pub keys_below : (filed : List (Address × List (FactorKey × Holding))) (keys : ℕ) (more : List Sensitivity) → IsFiledBook filed keys → HasRoomFor more (gathered filed) → keys + length more < 2 ^ 32
keys_below filed keys more b room = omega (arith, b.counted, ap length room.are, length-factors room.held, room.few)
  where
    length-factors : (ss : List Sensitivity) → length (factors_in ss) ≤ length ss
    length-factors ss = omega (arith, length-map (keys_of ss) (factor_of ss), length-different key_cmp (map (λ s. s.key) ss), length-map ss (λ s. s.key))

-- ---- one less

shrinks : (n s : ℤ) (c : ℕ) → unsigned_abs n ≤ c * 10 ^ 15 → unsigned_abs s ≤ c * 10 ^ 15 → 1 ≤ c → IsSomeAnd (holding n s c) CanShrink
shrinks n s zero net size some = absurd (omega arith)
shrinks n s (suc c) net size some = record { net = net; size = size; some = some }

count_own : (s : Sensitivity) (rest : List Sensitivity) → count_of (s ∷ rest) s.key ≡ suc (count_of rest s.key)
count_own s rest = ap (λ t. length (cond t (s ∷ of_key s.key rest) (of_key s.key rest))) (same_key_refl s.key)

pub can_shrink : (filed : List (Address × List (FactorKey × Holding))) (keys : ℕ) (key : FactorKey) (amount : ℤ) → IsFiledBook filed keys → Holds (one_of key amount ∷ []) (gathered filed) → IsSomeAnd (found filed key) CanShrink
can_shrink filed keys key amount b h =
    let all : List Sensitivity = one_of key amount ∷ h.others in
    let here : found filed key ≡ come_to all key = found-from filed all b.filing h.are key in
    subst (λ (o : Option Holding). IsSomeAnd o CanShrink) (sym here)
    (shrinks (net all key) (size_of all key) (count_of all key) (net_size all key h.amounts) (size_size all key h.amounts) (omega (arith, count_own (one_of key amount) h.others)))

module _ (old new : List (Address × List (FactorKey × Holding))) (key : FactorKey) (amount : ℤ) (f : AreFiled old) (g : AreFiled new)
    (put : (k : FactorKey) → found new k ≡ cond (same_key key k) (shrunk (found old key) amount) (found old k)) where
  pub taken : (rest : List Sensitivity) → gathered old ≡ factors_in (one_of key amount ∷ rest) → gathered new ≡ factors_in rest
  taken rest e =
      gathered-from new rest g (λ k.
      put k
      ∙ ap (λ o. cond (same_key key k) (shrunk o amount) (found old k)) (found-from old (one_of key amount ∷ rest) f e key)
      ∙ ap (λ o. cond (same_key key k) (shrunk (come_to (one_of key amount ∷ rest) key) amount) o) (found-from old (one_of key amount ∷ rest) f e k)
      ∙ come_to-less (one_of key amount) rest k)

  pub netted_taken : Holds (one_of key amount ∷ []) (gathered old) → AreNetted (gathered new)
  netted_taken h = record { held = h.others; are = taken h.others h.are; amounts = h.amounts.1 }

  -- more of the key are left
  pub counted_kept : (o : Option Holding) → shrunk (found old key) amount ≡ o → is_none o ≡ false → IsSomeAnd (found old key) CanShrink → length (gathered new) ≡ length (gathered old)
  counted_kept None e known held = absurd (false≢true (sym known))
  counted_kept (Some h) e known held =
      omega (arith, count_written old new key h f g (λ k. put k ∙ ap (λ o. cond (same_key key k) o (found old k)) e), some (found old key) held)
    where
      some : (o : Option Holding) → IsSomeAnd o CanShrink → one_unless (is_some o) ≡ 0
      some None h = absurd h
      some (Some x) h = refl

  -- it was the last of its key
  pub counted_gone : (o : Option Holding) → found old key ≡ o → IsSomeAnd o CanShrink → shrunk (found old key) amount ≡ None → length (gathered old) ≡ length (gathered new) + 1
  counted_gone None e held none = absurd held
  counted_gone (Some h) e held none =
      omega (arith, count_written new old key h g f (λ k. back k (same_key key k) refl), ap (λ o. one_unless (is_some o)) gone)
    where
      back : (k : FactorKey) (t : Bool) → same_key key k ≡ t → found old k ≡ cond t (Some h) (found new k)
      back k true q = ap (found old) (sym (one_key key k q)) ∙ e
      back k false q = sym (put k ∙ ap (λ t. cond t (shrunk (found old key) amount) (found old k)) q)

      gone : found new key ≡ None
      gone = put key ∙ ap (λ t. cond t (shrunk (found old key) amount) (found old key)) (same_key_refl key) ∙ none

pub book_kept : (old new : List (Address × List (FactorKey × Holding))) (keys : ℕ) (key : FactorKey) (amount : ℤ) → IsFiledBook old keys → AreFiled new
    → ((k : FactorKey) → found new k ≡ cond (same_key key k) (shrunk (found old key) amount) (found old k)) → Holds (one_of key amount ∷ []) (gathered old)
    → IsSomeAnd (found old key) CanShrink → is_none (shrunk (found old key) amount) ≡ false → IsFiledBook new keys
book_kept old new keys key amount b g put h held known = record {
  filing = g;
  netted = netted_taken old new key amount b.filing g put h;
  counted = b.counted ∙ sym (counted_kept old new key amount b.filing g put (shrunk (found old key) amount) refl known held);
}

pub none_is : (o : Option Holding) → is_none o ≡ true → o ≡ None
none_is None e = refl
none_is (Some h) e = absurd (false≢true e)

pub some_is : (o : Option Holding) → is_none o ≡ false → IsSome o
some_is None e = absurd (false≢true (sym e))
some_is (Some h) e = refl

pub book_gone : (old new : List (Address × List (FactorKey × Holding))) (keys : ℕ) (key : FactorKey) (amount : ℤ) → IsFiledBook old keys → AreFiled new
    → ((k : FactorKey) → found new k ≡ cond (same_key key k) (shrunk (found old key) amount) (found old k))
    → IsSomeAnd (found old key) CanShrink → is_none (shrunk (found old key) amount) ≡ true → keys ≡ length (gathered new) + 1
book_gone old new keys key amount b g put held gone =
    b.counted ∙ counted_gone old new key amount b.filing g put (found old key) refl held (none_is (shrunk (found old key) amount) gone)
