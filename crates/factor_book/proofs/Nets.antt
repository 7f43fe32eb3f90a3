-- Rows netted by themselves: one more, and from what is noted of each key to the factors of a book.
use Rattle.std.proofs.Common.{◌≡◌, ℕ, suc, ◌+◌, ◌<◌, ◌≤◌, zero, List, [], ◌∷◌, ◌++◌, length, Bool, true, false, cond, Option, Some, None, sym, ap, ◌∙◌, subst, refl, ℤ, arith, take, get_or, append_assoc, append-nil}
use denote.Bor.{Bor}
use Rattle.std.specs.Prelude.{IfSome, is_some}
use Rattle.std.specs.List.{list_all, AllByRecursion, IsDistinct}
use Rattle.std.specs.Map.{lookup, keys_of}
use Rattle.std.proofs.lemmas.List.{length-append, take_more}
use Rattle.simm_rules.specs.SimmKinds.declared.key.FactorKey.{FactorKey}
use Rattle.simm_rules.specs.SimmKinds.declared.row.CrifRow.{CrifRow}
use Rattle.simm_rules.specs.SimmKinds.Batch.{is_in_range}
use Rattle.simm_rules.specs.SimmKinds.Order.{same_key}
use Rattle.simm_rules.specs.Net.{Sensitivity, sensitivity, sensitivities}
use Rattle.factor_book.specs.declared.holding.Holding.{Holding}
use Rattle.factor_book.specs.declared.address.Address.{Address}
use Rattle.factor_book.specs.Factors.{factors_of}
use Rattle.factor_book.specs.Holdings.{first, joined, IsSmall, CanJoin}
use Rattle.factor_book.specs.Places.{Lent}
use Rattle.factor_book.specs.Filing.{AreFiled, AreSmall, IsFiledBook, gathered, found, AreAddressed, factors_by}
use Rattle.factor_book.specs.Netting.{lent_factors, AreNets, AreNetsOf, IsNetting, HasNetRoom, HasNetRoomFor}
use Rattle.factor_book.proofs.Keys.{same_key_sym, one_key}
use Rattle.factor_book.proofs.Sorting.{one_unless}
use Rattle.factor_book.proofs.Held.{come_to, come_to-more, swapped, lookup-factors}
use Rattle.factor_book.proofs.Filed.{lookup-none_before, lookup-none_after, gathered-from, empty_filed, count_written}
use Rattle.factor_book.proofs.Placed.{none_addressed}
use Rattle.factor_book.proofs.Books.{one_of, small-append, joins}
use Rattle.factor_book.proofs.Rows.{sensitivities-append, small_rows, front_small, length-sensitivities}

-- ---- the map by lent keys, whose test is that of keys

module _ (eq : FactorKey → FactorKey → Bool) (ties : (a b : FactorKey) → eq a b ≡ same_key a b) where
  pub lookup_lent : (k : FactorKey) (es : List (Bor FactorKey × Holding)) → lookup (λ (b : Bor FactorKey). eq k b.now) es ≡ lookup (same_key k) (lent_factors es)
  lookup_lent k [] = refl
  lookup_lent k (e ∷ es) =
      ap (λ t. cond t (Some e.1) (lookup (λ (b : Bor FactorKey). eq k b.now) es)) (ties k e.0.now) ∙ ap (λ o. cond (same_key k e.0.now) (Some e.1) o) (lookup_lent k es)

  pub updated_lent : (old new : List (Bor FactorKey × Holding)) (key : FactorKey) (w : Holding)
      → ((q : Bor FactorKey) → lookup (λ (b : Bor FactorKey). eq q.now b.now) new ≡ cond (eq key q.now) (Some w) (lookup (λ (b : Bor FactorKey). eq q.now b.now) old))
      → (k : FactorKey) → lookup (same_key k) (lent_factors new) ≡ cond (same_key key k) (Some w) (lookup (same_key k) (lent_factors old))
  updated_lent old new key w h k =
      let lent : Bor FactorKey = record { ref_ptr = (0, 0); now = k } in
      sym (lookup_lent k new) ∙ h lent
      ∙ ap (λ t. cond t (Some w) (lookup (λ (b : Bor FactorKey). eq k b.now) old)) (ties key k) ∙ ap (λ o. cond (same_key key k) (Some w) o) (lookup_lent k old)

  -- its keys are different
  pub distinct_lent : (es : List (Bor FactorKey × Holding)) → IsDistinct (λ (a b : Bor FactorKey). eq a.now b.now) (keys_of es) → IsDistinct same_key (keys_of (lent_factors es))
  unfolding IsDistinct
  distinct_lent [] d = tt
  distinct_lent (e ∷ es) d = (others es d.0, distinct_lent es d.1)
    where
      others : (xs : List (Bor FactorKey × Holding)) → AllByRecursion (λ (b : Bor FactorKey). eq e.0.now b.now ≡ false) (keys_of xs) → AllByRecursion (λ k. same_key e.0.now k ≡ false) (keys_of (lent_factors xs))
      others [] h = tt
      others (x ∷ xs) h = (sym (ties e.0.now x.0.now) ∙ h.0, others xs h.1)

-- ---- one sensitivity more

module _ (old new : List (FactorKey × Holding)) (key : FactorKey) (amount : ℤ)
    (put : (k : FactorKey) → lookup (same_key k) new ≡ cond (same_key key k) (Some (joined (lookup (same_key key) old) (first amount))) (lookup (same_key k) old)) where
  pub noted : (ss : List Sensitivity) → AreNetsOf ss old → AreNetsOf (ss ++ one_of key amount ∷ []) new
  noted ss e k =
      put k
      ∙ ap (λ o. cond (same_key key k) (Some (joined o (first amount))) (lookup (same_key k) old)) (e key ∙ lookup-factors ss key)
      ∙ ap (λ o. cond (same_key key k) (Some (joined (come_to ss key) (first amount))) o) (e k ∙ lookup-factors ss k)
      ∙ sym (come_to-more (one_of key amount) ss k) ∙ swapped (one_of key amount ∷ []) ss k
      ∙ sym (lookup-factors (ss ++ one_of key amount ∷ []) k)

-- there is room for it
pub noted_room : (nets : List (FactorKey × Holding)) (key : FactorKey) (amount : ℤ) → HasNetRoomFor (one_of key amount ∷ []) nets → IsSmall amount → IfSome (lookup (same_key key) nets) (λ had. CanJoin had (first amount))
noted_room nets key amount room small =
    subst (λ (o : Option Holding). IfSome o (λ had. CanJoin had (first amount))) (sym (room.are key ∙ lookup-factors room.netted key))
    (joins room.netted key amount room.amounts small room.few)

-- ---- rows one by one

-- what netting these rows does
abbrev pub Nets : List (FactorKey × Holding) → List (FactorKey × Holding) → List CrifRow → Type 0
Nets before now rows = (held : List CrifRow) → AreNets held before → AreNets (held ++ rows) now

pub nets_none : (before : List (FactorKey × Holding)) → Nets before before []
nets_none before held e = subst (λ (rows : List CrifRow). AreNets rows before) (sym (append-nil held)) e

pub front_more : (rows : List CrifRow) (i : ℕ) (r : CrifRow) → i < length rows → r ≡ get_or rows i r → sensitivities (take (i + 1) rows) ≡ sensitivities (take i rows) ++ sensitivity r
front_more rows i r below is =
    ap sensitivities (take_more rows i r below ∙ ap (λ x. take i rows ++ x ∷ []) (sym is)) ∙ sensitivities-append (take i rows) (r ∷ []) ∙ ap (λ xs. sensitivities (take i rows) ++ xs) (append-nil (sensitivity r))

pub nets_more : (before now next : List (FactorKey × Holding)) (rows : List CrifRow) (i : ℕ) (r : CrifRow) → i < length rows → r ≡ get_or rows i r → Nets before now (take i rows)
    → ((ss : List Sensitivity) → AreNetsOf ss now → AreNetsOf (ss ++ sensitivity r) next) → Nets before next (take (i + 1) rows)
nets_more before now next rows i r below is a add held e =
    let same : sensitivities (held ++ take i rows) ++ sensitivity r ≡ sensitivities (held ++ take (i + 1) rows) =
    ap (λ xs. xs ++ sensitivity r) (sensitivities-append held (take i rows)) ∙ append_assoc (sensitivities held) (sensitivities (take i rows)) (sensitivity r)
    ∙ ap (λ xs. sensitivities held ++ xs) (sym (front_more rows i r below is)) ∙ sym (sensitivities-append held (take (i + 1) rows)) in
    subst (λ (ss : List Sensitivity). AreNetsOf ss next) same (add (sensitivities (held ++ take i rows)) (a held e))

-- room for one row more
pub net_room_left : (before now : List (FactorKey × Holding)) (rows : List CrifRow) (i : ℕ) (r : CrifRow) → i < length rows → HasNetRoom before (length rows) → list_all is_in_range rows ≡ true → Nets before now (take i rows)
    → HasNetRoomFor (sensitivity r) now
net_room_left before now rows i r below room amounts a = record {
  netted = sensitivities (room.rows ++ take i rows);
  are = a room.rows room.are;
  amounts = subst AreSmall (sym (sensitivities-append room.rows (take i rows))) (small-append (sensitivities room.rows) (sensitivities (take i rows)) (small_rows room.rows room.amounts) (front_small rows i amounts));
  few = omega (arith, length-sensitivities (room.rows ++ take i rows), length-append room.rows (take i rows), length-sensitivities (r ∷ []), length-append (sensitivity r) [], length-taken i rows, room.few);
}
  where
    length-taken : (n : ℕ) (xs : List CrifRow) → length (take n xs) ≤ n
    length-taken zero xs = omega arith
    length-taken (suc n) [] = omega arith
    length-taken (suc n) (x ∷ xs) = omega (arith, length-taken n xs)

-- ---- filed one by one

each_at : {K : Type 0} (P : K → Type 0) (xs ys : List K) (y : K) → AllByRecursion P (xs ++ y ∷ ys) → P y
each_at P [] ys y h = h.0
each_at P (x ∷ xs) ys y h = each_at P xs ys y h.1

-- among different keys one that comes is not among those before it
pub apart : (done : List (FactorKey × Holding)) (key : FactorKey) (rest : List FactorKey) → IsDistinct same_key (keys_of done ++ key ∷ rest) → lookup (same_key key) done ≡ None
unfolding IsDistinct
apart [] key rest d = refl
apart (e ∷ es) key rest d =
    ap (λ t. cond t (Some e.1) (lookup (same_key key) es)) (same_key_sym key e.0 ∙ each_at (λ k. same_key e.0 k ≡ false) (keys_of es) rest key d.0)
    ∙ apart es key rest d.1

-- one key more was filed
pub filed_more : (old new : List (Address × List (FactorKey × Holding))) (done : List (FactorKey × Holding)) (key : FactorKey) (h : Holding) → lookup (same_key key) done ≡ None
    → ((k : FactorKey) → found old k ≡ lookup (same_key k) done)
    → ((k : FactorKey) → found new k ≡ cond (same_key key k) (Some (joined (found old key) h)) (found old k))
    → (k : FactorKey) → found new k ≡ lookup (same_key k) (done ++ (key, h) ∷ [])
filed_more old new done key h none before put k =
    put k
    ∙ ap (λ o. cond (same_key key k) (Some (joined o h)) (found old k)) (before key ∙ none)
    ∙ ap (λ o. cond (same_key key k) (Some h) o) (before k) ∙ by (same_key key k) refl
  where
    by : (t : Bool) → same_key key k ≡ t → cond t (Some h) (lookup (same_key k) done) ≡ lookup (same_key k) (done ++ (key, h) ∷ [])
    by true e =
        sym (lookup-none_before (same_key k) done ((key, h) ∷ []) (ap (λ q. lookup (same_key q) done) (sym (one_key key k e)) ∙ none)
        ∙ ap (λ t. cond t (Some h) None) (same_key_sym k key ∙ e))
    by false e = sym (lookup-none_after (same_key k) done ((key, h) ∷ []) (ap (λ t. cond t (Some h) None) (same_key_sym k key ∙ e)))

-- and there is one more
pub counted_more : (old new : List (Address × List (FactorKey × Holding))) (done : List (FactorKey × Holding)) (key : FactorKey) (h : Holding) → lookup (same_key key) done ≡ None → AreFiled old → AreFiled new
    → ((k : FactorKey) → found old k ≡ lookup (same_key k) done)
    → ((k : FactorKey) → found new k ≡ cond (same_key key k) (Some (joined (found old key) h)) (found old k))
    → length (gathered old) ≡ length done → length (gathered new) ≡ length (done ++ (key, h) ∷ [])
counted_more old new done key h none f g before put counted =
    let absent : found old key ≡ None = before key ∙ none in
    omega (
      arith,
      count_written old new key h f g (λ k. put k ∙ ap (λ o. cond (same_key key k) (Some (joined o h)) (found old k)) absent),
      ap (λ o. one_unless (is_some o)) absent,
      counted,
      length-append done ((key, h) ∷ []),
    )

-- the first of the nets are filed, and no others
pub record AreFront (filed : List (Address × List (FactorKey × Holding))) (done : List (FactorKey × Holding)) : Type 0 where
  pub filing : AreFiled filed
  pub found : (k : FactorKey) → found filed k ≡ lookup (same_key k) done
  pub counted : length (gathered filed) ≡ length done

-- and each place is filed at its address
pub record IsFront (filed : List (Address × Lent)) (done : List (FactorKey × Holding)) : Type 0 where
  pub front : AreFront (factors_by filed) done
  pub addressed : AreAddressed filed

pub front_filed : (old new : List (Address × List (FactorKey × Holding))) (done : List (FactorKey × Holding)) (key : FactorKey) (h : Holding) (rest : List FactorKey) → IsDistinct same_key (keys_of done ++ key ∷ rest)
    → AreFront old done → AreFiled new → ((k : FactorKey) → found new k ≡ cond (same_key key k) (Some (joined (found old key) h)) (found old k)) → AreFront new (done ++ (key, h) ∷ [])
front_filed old new done key h rest d f g put =
    let none = apart done key rest d in
    record {
      filing = g;
      found = filed_more old new done key h none f.found put;
      counted = counted_more old new done key h none f.filing g f.found put f.counted;
    }

-- none are filed yet
pub empty_front : (filed : List (Address × List (FactorKey × Holding))) → filed ≡ [] → AreFront filed []
empty_front filed e = record {
  filing = empty_filed filed e;
  found = λ k. ap (λ f. found f k) e;
  counted = ap (λ f. length (gathered f)) e;
}

pub front_of_none : (filed : List (Address × Lent)) → filed ≡ [] → IsFront filed []
front_of_none filed e = record { front = empty_front (factors_by filed) (ap factors_by e); addressed = none_addressed filed e }

lent_more : (done : List (Bor FactorKey × Holding)) (e : Bor FactorKey × Holding) → lent_factors (done ++ e ∷ []) ≡ lent_factors done ++ (e.0.now, e.1) ∷ []
lent_more [] e = refl
lent_more (x ∷ xs) e = ap (λ fs. (x.0.now, x.1) ∷ fs) (lent_more xs e)

split_keys : (done next : List (Bor FactorKey × Holding)) (e : Bor FactorKey × Holding) → keys_of (lent_factors (done ++ e ∷ next)) ≡ keys_of (lent_factors done) ++ e.0.now ∷ keys_of (lent_factors next)
split_keys [] next e = refl
split_keys (x ∷ xs) next e = ap (λ ks. x.0.now ∷ ks) (split_keys xs next e)

-- the entry that comes is of a key that none before it has
module _ (entries done left next : List (Bor FactorKey × Holding)) (e : Bor FactorKey × Holding) (d : IsDistinct same_key (keys_of (lent_factors entries)))
    (all : done ++ left ≡ entries) (more : left ≡ e ∷ next) where
  lent_apart : IsDistinct same_key (keys_of (lent_factors done) ++ e.0.now ∷ keys_of (lent_factors next))
  lent_apart = subst (IsDistinct same_key) (ap (λ es. keys_of (lent_factors es)) (sym all ∙ ap (λ es. done ++ es) more) ∙ split_keys done next e) d

  pub next_absent : (filed : List (Address × List (FactorKey × Holding))) → AreFront filed (lent_factors done) → found filed e.0.now ≡ None
  next_absent filed f = f.found e.0.now ∙ apart (lent_factors done) e.0.now (keys_of (lent_factors next)) lent_apart

  pub next_filed : (old new : List (Address × List (FactorKey × Holding))) → AreFront old (lent_factors done) → AreFiled new
      → ((k : FactorKey) → found new k ≡ cond (same_key e.0.now k) (Some (joined (found old e.0.now) e.1)) (found old k))
      → (now : List (Bor FactorKey × Holding)) × (now ++ next ≡ entries) × AreFront new (lent_factors now)
  next_filed old new f g put = (
    done ++ e ∷ [],
    append_assoc done (e ∷ []) next ∙ ap (λ es. done ++ es) (sym more) ∙ all,
    subst (AreFront new) (sym (lent_more done e)) (front_filed old new (lent_factors done) e.0.now e.1 (keys_of (lent_factors next)) lent_apart f g put),
  )

-- all are filed where none is left
pub all_filed : (filed : List (Address × List (FactorKey × Holding))) (entries done left : List (Bor FactorKey × Holding)) → done ++ left ≡ entries → left ≡ [] → AreFront filed (lent_factors done) → AreFront filed (lent_factors entries)
all_filed filed entries done left all none f =
    subst (λ (es : List (Bor FactorKey × Holding)). AreFront filed (lent_factors es)) (sym (append-nil done) ∙ ap (λ es. done ++ es) (sym none) ∙ all) f

-- ---- the book

-- what is filed of nets is the book of their rows
pub filed_book : (filed : List (Address × List (FactorKey × Holding))) (nets : List (FactorKey × Holding)) (rows : List CrifRow) → AreFiled filed → ((k : FactorKey) → found filed k ≡ lookup (same_key k) nets)
    → AreNets rows nets → gathered filed ≡ factors_of rows
filed_book filed nets rows f same are = gathered-from filed (sensitivities rows) f (λ k. same k ∙ are k ∙ lookup-factors (sensitivities rows) k)

pub filed_is_book : (filed : List (Address × List (FactorKey × Holding))) (nets : List (FactorKey × Holding)) (keys : ℕ) → IsNetting nets → AreFiled filed → ((k : FactorKey) → found filed k ≡ lookup (same_key k) nets)
    → length (gathered filed) ≡ length nets → keys ≡ length nets → IsFiledBook filed keys
filed_is_book filed nets keys n f same counted len = record {
  filing = f;
  netted = record { held = sensitivities n.rows; are = filed_book filed nets n.rows f same n.are; amounts = small_rows n.rows n.amounts };
  counted = len ∙ sym counted;
}
