-- Keys: the order of the maps is that of the rule, and keys that compare alike are one.
use Rattle.std.proofs.Common.{◌≡◌, ◌↔◌, List, Bool, true, false, cond, Option, refl, sym, ap, ◌∙◌, subst}
use Rattle.std.specs.Bool.{one_answer}
use Rattle.std.specs.Ordering.{is_eq}
use Rattle.std.specs.declared.cmp.Ordering.{Ordering}
use Rattle.std.specs.declared.cmp.Ordering.TheVariants.{Less, Equal, Greater}
use Rattle.std.proofs.lemmas.Bool.{false≢true}
use Rattle.std.proofs.lemmas.Cmp.{eq_by_cmp_equiv, tied_itself, alike_right}
use Rattle.std.specs.List.Sorted.{IsStrictlySortedBy}
use Rattle.std.specs.Map.{lookup, keys_of}
use Rattle.std.specs.BTreeMap.{is_at}
use Rattle.simm_rules.specs.SimmKinds.declared.key.FactorKey.{FactorKey}
use Rattle.simm_rules.specs.SimmKinds.Order.{same_key, key_cmp}
use Rattle.simm_rules.specs.SimmKinds.contracts.key.FactorKeyOrd.TheImpl as key_order
use Rattle.factor_book.specs.declared.holding.Holding.{Holding}
use Rattle.simm_rules.proofs.SimmKinds.Orders.{key_cmp_is, key_total, exact_keys}

pub key_orders : (key_order.cmp-value).it ≡ key_cmp
key_orders = λ i a b. key_cmp_is a b i

pub same_key_refl : (k : FactorKey) → same_key k k ≡ true
same_key_refl k = ap is_eq (tied_itself key_total k)

pub same_key_sym : (k l : FactorKey) → same_key k l ≡ same_key l k
same_key_sym k l = (eq_by_cmp_equiv key_total).symm k l

pub is_eq-Equal : (o : Ordering) → is_eq o ≡ true → o ≡ Equal
is_eq-Equal Less e = absurd (false≢true e)
is_eq-Equal Equal e = refl
is_eq-Equal Greater e = absurd (false≢true e)

pub one_key : (k l : FactorKey) → same_key k l ≡ true → k ≡ l
one_key k l e = exact_keys k l (is_eq-Equal (key_cmp k l) e)

-- an equality that holds of equal keys alone is the test
pub key_ties : (eq : FactorKey → FactorKey → Bool) → ((a b : FactorKey) → (eq a b ≡ true) ↔ (a ≡ b)) → (a b : FactorKey) → eq a b ≡ same_key a b
key_ties eq h a b = one_answer (eq a b) (same_key a b) (h a b) (λ e. one_key a b e, λ e. ap (same_key a) (sym e) ∙ same_key_refl a)

pub tied_test : (q k l : FactorKey) → key_cmp k l ≡ Equal → same_key q k ≡ same_key q l
tied_test q k l e = ap is_eq (alike_right key_total k l q e)

-- ---- the maps by key

pub lookup_key : (q : FactorKey) (es : List (FactorKey × Holding)) → lookup (is_at ((key_order.cmp-value).it q)) es ≡ lookup (same_key q) es
lookup_key q es = ap (λ (R : FactorKey → FactorKey → Ordering). lookup (is_at (R q)) es) key_orders

pub updated_key : (old new : List (FactorKey × Holding)) (k : FactorKey) (w : Option Holding) → ((q : FactorKey) → lookup (is_at ((key_order.cmp-value).it q)) new ≡ cond (is_at ((key_order.cmp-value).it k) q) w (lookup (is_at ((key_order.cmp-value).it q)) old))
    → (q : FactorKey) → lookup (same_key q) new ≡ cond (same_key k q) w (lookup (same_key q) old)
updated_key old new k w h = subst (λ (R : FactorKey → FactorKey → Ordering). (q : FactorKey) → lookup (is_at (R q)) new ≡ cond (is_at (R k) q) w (lookup (is_at (R q)) old)) key_orders h

pub ordered_keys : (es : List (FactorKey × Holding)) → IsStrictlySortedBy (key_order.cmp-value).it (keys_of es) → IsStrictlySortedBy key_cmp (keys_of es)
ordered_keys es h = subst (λ (R : FactorKey → FactorKey → Ordering). IsStrictlySortedBy R (keys_of es)) key_orders h

-- the same, of what a map was seen as
pub written_key : (old seen new : List (FactorKey × Holding)) (k : FactorKey) (w v : Option Holding) → old ≡ seen
    → ((q : FactorKey) → lookup (is_at ((key_order.cmp-value).it q)) new ≡ cond (is_at ((key_order.cmp-value).it k) q) w (lookup (is_at ((key_order.cmp-value).it q)) old)) → w ≡ v
    → (q : FactorKey) → lookup (same_key q) new ≡ cond (same_key k q) v (lookup (same_key q) seen)
written_key old seen new k w v is h e q =
    updated_key old new k w h q ∙ ap (λ z. cond (same_key k q) z (lookup (same_key q) old)) e ∙ ap (λ es. cond (same_key k q) v (lookup (same_key q) es)) is

-- the same, at an equal key
pub inserted_key : (old seen new : List (FactorKey × Holding)) (k l : FactorKey) (w v : Option Holding) → old ≡ seen → l ≡ k
    → ((q : FactorKey) → lookup (is_at ((key_order.cmp-value).it q)) new ≡ cond (is_at ((key_order.cmp-value).it l) q) w (lookup (is_at ((key_order.cmp-value).it q)) old)) → w ≡ v
    → (q : FactorKey) → lookup (same_key q) new ≡ cond (same_key k q) v (lookup (same_key q) seen)
inserted_key old seen new k l w v is same h e =
    subst (λ (m : FactorKey). (q : FactorKey) → lookup (same_key q) new ≡ cond (same_key m q) v (lookup (same_key q) seen)) same (written_key old seen new l w v is h e)

over_cond : (t : Bool) (x y z : Option Holding) → cond t x (cond t y z) ≡ cond t x z
over_cond true x y z = refl
over_cond false x y z = refl

-- v after w was written
pub over_key : (seen old new : List (FactorKey × Holding)) (k : FactorKey) (v w : Option Holding) → ((q : FactorKey) → lookup (same_key q) old ≡ cond (same_key k q) w (lookup (same_key q) seen))
    → ((q : FactorKey) → lookup (same_key q) new ≡ cond (same_key k q) v (lookup (same_key q) old)) → (q : FactorKey) → lookup (same_key q) new ≡ cond (same_key k q) v (lookup (same_key q) seen)
over_key seen old new k v w f g q = g q ∙ ap (λ z. cond (same_key k q) v z) (f q) ∙ over_cond (same_key k q) v w (lookup (same_key q) seen)
