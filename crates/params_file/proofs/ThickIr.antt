-- Interest rates whose thresholds pass are thick.
use Rattle.std.proofs.Common.{◌≡◌, ℕ, List, Ok, ℤ, codes, decimal, [], ◌∷◌, subst}
use Rattle.std.specs.List.{All}
use Rattle.simm_params.specs.SimmRules.Params.{CurrencyGroup, IrParams}
use Rattle.simm_params.specs.TomlValues.Paths.{joined}
use Rattle.simm_params.specs.declared.thresholds.ThresholdKind.{ThresholdKind}
use Rattle.simm_params.specs.Ranges.{IsThick}
use Rattle.simm_params.specs.ThresholdKinds.{threshold_key, threshold_in, weight_beside}
use Rattle.params_file.specs.Thickness.{each_passes, least_weight, thick_group, IsThickIr}
use Rattle.params_file.proofs.Passes.{each_passes-all, thick_at-is}

thick_group-is : (kind : ThresholdKind) (weight : ℤ) (number : ℕ) (group : CurrencyGroup) → thick_group kind weight number group ≡ Ok tt → IsThick (weight_beside kind weight) (threshold_in kind group.thresholds)
unfolding thick_group
thick_group-is kind weight number group h = thick_at-is (joined (codes "ir" ∷ codes "group" ∷ decimal number ∷ threshold_key kind ∷ [])) (weight_beside kind weight) (threshold_in kind group.thresholds) h

pub is_thick_ir : (kind : ThresholdKind) (ir : IrParams) (weight : ℤ) (groups : List CurrencyGroup) → weight ≡ least_weight ir → groups ≡ ir.groups
    → IsThick (weight_beside kind weight) (threshold_in kind ir.other) → each_passes (thick_group kind weight) 1 groups ≡ Ok tt → IsThickIr kind ir
is_thick_ir kind ir weight groups least same other passed = record {
  other = subst (λ w. IsThick (weight_beside kind w) (threshold_in kind ir.other)) least other;
  groups =
      subst (λ w. All (λ (g : CurrencyGroup). IsThick (weight_beside kind w) (threshold_in kind g.thresholds)) ir.groups) least
      (subst (All (λ (g : CurrencyGroup). IsThick (weight_beside kind weight) (threshold_in kind g.thresholds))) same
      (each_passes-all (thick_group kind weight) _ (thick_group-is kind weight) 1 groups passed));
}
