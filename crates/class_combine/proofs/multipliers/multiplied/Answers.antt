use Rattle.std.proofs.Common.{◌∙◌, ap, pos, ◌-ℤ◌, ◌*ℤ◌}
use Rattle.simm_params.specs.MhUnits.Rounding.{up}
use Rattle.class_combine.proofs.multipliers.multiplied.Goals as goal

pub returns-clause-value : goal.returns-clause-value
returns-clause-value c =
    c.multiplier_share.ensures.value ∙ ap (λ z. up ((z -ℤ pos 10000) *ℤ c.args.margin.0) (pos 10000)) c.multiplier_of.ensures.value
