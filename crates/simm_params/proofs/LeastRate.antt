-- The least of a rate and all of a list.
use Rattle.std.proofs.Common.{◌≡◌, ℕ, ◌+◌, ◌<◌, List, length, get_or, take, ℤ, pos, sym, ap, ◌∙◌}
use Rattle.std.specs.Int.{int_min}
use Rattle.std.specs.List.{fold}
use Rattle.std.proofs.lemmas.List.Sums.{fold_more}
use Rattle.std.proofs.lemmas.List.{get_or-map, length-map}
use Rattle.simm_rules.specs.MhUnits.declared.quantities.Rate4.{Rate4}
use Rattle.simm_params.specs.RateUnits.{ten_thousandths}

pub least_more : (first least next : ℤ) (rates : List Rate4) (i : ℕ) → i < length rates → least ≡ fold int_min first (take i (ten_thousandths rates))
    → next ≡ int_min least (get_or rates i (record { 0 = pos 0 })).0 → next ≡ fold int_min first (take (i + 1) (ten_thousandths rates))
least_more first least next rates i lt so_far is =
    let none : Rate4 = record { 0 = pos 0 } in
    let within : i < length (ten_thousandths rates) = simp length-map lt in
    let here : get_or (ten_thousandths rates) i (pos 0) ≡ (get_or rates i none).0 = get_or-map (λ (r : Rate4). r.0) rates i none (pos 0) lt in
    is ∙ ap (λ l. int_min l (get_or rates i none).0) so_far ∙ ap (int_min (fold int_min first (take i (ten_thousandths rates)))) (sym here)
    ∙ sym (fold_more int_min first (ten_thousandths rates) i (pos 0) within)
