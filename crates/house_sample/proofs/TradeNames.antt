-- The names of trades: two batches have the same name only where they are one.
use Rattle.std.proofs.Common.{◌≡◌, ℕ, ◌<◌, true, false, List, [], ◌∷◌, ◌++◌, length, drop, Option, Some, None, inl, inr, sym, ap, ◌∙◌, arith, append_assoc}
use Rattle.std.specs.Fmt.{decimal}
use Rattle.std.specs.Net.Reader.{read_number}
use Rattle.std.proofs.lemmas.Bool.{cases_Bool}
use Rattle.std.proofs.lemmas.Fmt.{decimal_injective, decimal_is_IsNumeral}
use Rattle.std.proofs.lemmas.List.{append_cancel_left}
use Rattle.std.proofs.lemmas.Map.Text.{is_eq-slice_cmp}
use Rattle.std.proofs.lemmas.Slice.Eq.{bytes_eq-Decides}
use Rattle.std.proofs.NetLemmas.Numbers.{read_number_some}
use Rattle.simm_params.specs.SimmKinds.Order.{same_name}
use Rattle.house_sample.specs.Trades.{trade_name}

-- what stands behind the letter
behind : (feed batch : ℕ) → drop 1 (trade_name feed batch) ≡ decimal feed ++ 45 ∷ decimal batch
behind feed batch = append_assoc (decimal feed) (45 ∷ []) (decimal batch)

-- the feed's number is read from the name
feed_read : (feed batch : ℕ) → feed < 32 → read_number 10 99 (drop 1 (trade_name feed batch)) ≡ Some (feed, length (decimal feed))
feed_read feed batch few =
    let numeral = decimal_is_IsNumeral feed (omega (arith, few)) in
    ap (read_number 10 99) (behind feed batch)
    ∙ read_number_some 10 99 (decimal feed) (45 ∷ decimal batch) numeral.0 (omega (arith, few, numeral.1)) (omega arith)
    ∙ ap (λ n. Some (n, length (decimal feed))) numeral.1

first_of_some : (a b : ℕ × ℕ) → Some a ≡ Some b → a.0 ≡ b.0
first_of_some a b e = ap (λ (o : Option (ℕ × ℕ)). elim o [ None ↦ 0 | Some p ↦ p.0 ]) e

pub one_feed : (f g b c : ℕ) → f < 32 → g < 32 → trade_name f b ≡ trade_name g c → f ≡ g
one_feed f g b c few_f few_g e =
    first_of_some (f, length (decimal f)) (g, length (decimal g))
    (sym (feed_read f b few_f) ∙ ap (λ (name : List ℕ). read_number 10 99 (drop 1 name)) e ∙ feed_read g c few_g)

pub one_batch : (f b c : ℕ) → b < 50 → c < 50 → trade_name f b ≡ trade_name f c → b ≡ c
one_batch f b c less_b less_c e =
    decimal_injective b c (omega (arith, less_b)) (omega (arith, less_c))
    (ap (drop 1) (append_cancel_left (decimal f) (45 ∷ decimal b) (45 ∷ decimal c) (sym (behind f b) ∙ ap (drop 1) e ∙ behind f c)))

-- ---- names that differ

one_name : (a b : List ℕ) → same_name a b ≡ true → a ≡ b
one_name a b h = (bytes_eq-Decides a b).0 (sym (is_eq-slice_cmp a b) ∙ h)

differ : (a b : List ℕ) → (a ≡ b → ⊥) → same_name a b ≡ false
differ a b h = elim (cases_Bool (same_name a b)) [ inl same ↦ absurd (h (one_name a b same)) | inr other ↦ other ]

pub feeds_differ : (f g b c : ℕ) → f < 32 → g < 32 → (f ≡ g → ⊥) → same_name (trade_name f b) (trade_name g c) ≡ false
feeds_differ f g b c few_f few_g h = differ (trade_name f b) (trade_name g c) (λ e. h (one_feed f g b c few_f few_g e))

pub batches_differ : (f b c : ℕ) → b < 50 → c < 50 → (b ≡ c → ⊥) → same_name (trade_name f b) (trade_name f c) ≡ false
batches_differ f b c less_b less_c h = differ (trade_name f b) (trade_name f c) (λ e. h (one_batch f b c less_b less_c e))
