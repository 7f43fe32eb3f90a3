use Rattle.std.proofs.Common.{◌∙◌, ap}
use Rattle.weighted_bucket.specs.Bucket.{bucket_value}
use Rattle.measured_bucket.specs.Measured.{value_by}
use Rattle.measured_bucket.proofs.Valued.{valued}
use Rattle.measured_bucket.proofs.measured.measure.Goals as goal

pub returns-clause-value : goal.returns-clause-value
returns-clause-value g c =
    let column = c.in_ok-column.column in
    let its = c.in_ok-column.ensures in
    let m = g.M.Measured in
    let rho = g.M.Rho.Rho.rho column.rho in
    let self = c.args.measured.now in
    c.bucket_margin.ensures.value
    ∙ ap (λ way. bucket_value way c.as_slice.result.now rho column.cr) c.scaling.ensures
    ∙ ap (λ factors. bucket_value m.scaling factors rho column.cr) c.as_slice.ensures.value
    ∙ valued m.scaling m.same (m.rho self) (m.weighted self) column.factors.items rho column.cr.0 its.made its.correlated
    ∙ ap (λ z. value_by m.scaling m.same (m.rho self) z (m.weighted self)) its.cr
