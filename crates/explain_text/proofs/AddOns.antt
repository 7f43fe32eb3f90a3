-- The line of a multiplier, once its pieces are added.
use Rattle.std.proofs.Common.{◌≡◌, ℕ, List, ◌++◌, ap, ◌∙◌, ℤ, pos, ◌-ℤ◌, ◌*ℤ◌, codes}
use Rattle.measured_bucket.specs.MhUnits.Rounding.{up}
use Rattle.breakdown_text.proofs.Pieces.{two_pieces}
use Rattle.explain_text.specs.Lines.{add_on_fields, amount_fields}

pub multiplier_is : (margin its adds rate : ℤ) (word of : List ℕ) (t0 t1 t2 : List ℕ) → its ≡ margin → adds ≡ up ((rate -ℤ pos 10000) *ℤ its) (pos 10000) → of ≡ word
    → t1 ≡ t0 ++ add_on_fields (codes "MULTIPLIER") of rate → t2 ≡ t1 ++ amount_fields its adds
    → t2 ≡ t0 ++ (add_on_fields (codes "MULTIPLIER") word rate ++ amount_fields margin (up ((rate -ℤ pos 10000) *ℤ margin) (pos 10000)))
multiplier_is margin its adds rate word of t0 t1 t2 same up_is named e1 e2 =
    two_pieces (add_on_fields (codes "MULTIPLIER") word rate) (amount_fields margin (up ((rate -ℤ pos 10000) *ℤ margin) (pos 10000))) t0 t1 t2
    (e1 ∙ ap (λ name. t0 ++ add_on_fields (codes "MULTIPLIER") name rate) named)
    (e2 ∙ ap (λ z. t1 ++ amount_fields its z) up_is ∙ (λ k. t1 ++ amount_fields (same k) (up ((rate -ℤ pos 10000) *ℤ same k) (pos 10000))))
