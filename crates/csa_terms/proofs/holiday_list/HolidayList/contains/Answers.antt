use Rattle.std.proofs.Common.{◌∙◌, ap, w32, int_cmp}
use Rattle.std.specs.BTreeSet.{contains_by}
use Rattle.std.proofs.lemmas.Int.{to_z-of_z}
use Rattle.csa_terms.specs.Terms.{is_among}
use Rattle.csa_terms.proofs.holiday_list.HolidayList.contains.Goals as goal

pub returns : goal.returns
returns c =
    c.contains.ensures
    ∙ ap (λ day. contains_by (int_cmp day) c.self.inside.days) (to_z-of_z w32 c.args.day c.ranges.day)
    ∙ ap (λ days. is_among days c.args.day) c.self.view_is
