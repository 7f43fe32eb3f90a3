use Rattle.std.proofs.Common.{◌≡◌, ◌∙◌, ◌+◌, ◌-◌, ◌<◌, ℕ, List, [], length, get_or, ap, sym, pos, arith}
use Rattle.std.proofs.lemmas.Bool.{not-true, not-false}
use Rattle.std.proofs.lemmas.List.{get_or-map}
use Rattle.std.proofs.lemmas.Map.Text.{is_eq-slice_cmp}
use Rattle.measured_bucket.specs.SimmKinds.Order.{same_name}
use Rattle.measured_bucket.specs.SimmRules.Risks.{Amount}
use Rattle.class_credit.specs.declared.points.PointNet.{PointNet}
use Rattle.class_credit.specs.Groups.{net_at, issuer_view, issuers_view}
use Rattle.class_credit.proofs.Numbers.{changes-le, number_same, number_other, number_first}
use Rattle.class_credit.proofs.groups.group_at.Goals as goal
use Rattle.class_credit.proofs.groups.group_at.Goals.{else-place-gt0-via-then-place-gt0+else-ne, else-place-gt0-via-else-place-gt0}

-- the issuers of two points
issuers : (points : List PointNet) (i j : ℕ) (d e : PointNet) → i < length points → j < length points → same_name (net_at (issuers_view points) i).of (net_at (issuers_view points) j).of ≡ same_name (get_or points i d).point.issuer.now (get_or points j e).point.issuer.now
issuers points i j d e h g =
    let none : Amount (List ℕ) = record { of = []; amount = pos 0 } in
    ap (λ (a : Amount (List ℕ)). same_name a.of (net_at (issuers_view points) j).of) (get_or-map issuer_view points i d none h)
    ∙ ap (λ (a : Amount (List ℕ)). same_name (get_or points i d).point.issuer.now a.of) (get_or-map issuer_view points j e none g)

pub overflow_add-result : goal.overflow_add-result
overflow_add-result c = let few = changes-le (issuers_view c.args.points.now) (c.args.place - 1) in omega arith

pub returns-then-ne : goal.returns-then-ne
returns-then-ne c =
    let nets = issuers_view c.args.points.now in
    ap (λ n. n + 1) c.requires.before
    ∙ number_other nets c.args.place c.if-place-gt0.true
    (issuers c.args.points.now (c.args.place - 1) c.args.place c.index-points-place.result c.index-points-place-then-place-gt0.result (omega arith) c.requires.within
    ∙ is_eq-slice_cmp (get_or c.args.points.now (c.args.place - 1) c.index-points-place.result).point.issuer.now (get_or c.args.points.now c.args.place c.index-points-place-then-place-gt0.result).point.issuer.now
    ∙ not-true _ (sym c.if-ne.ensures))

pub returns-else-place-gt0 : goal.returns-else-place-gt0
returns-else-place-gt0 c = elim c.else-place-gt0.branch [
  | else-place-gt0-via-then-place-gt0+else-ne w ↦
      (let nets = issuers_view c.args.points.now in
      c.requires.before
      ∙ number_same nets c.args.place w.if-place-gt0.true
      (issuers c.args.points.now (c.args.place - 1) c.args.place w.index-points-place.result w.index-points-place-then-place-gt0.result (omega arith) c.requires.within
      ∙ is_eq-slice_cmp (get_or c.args.points.now (c.args.place - 1) w.index-points-place.result).point.issuer.now (get_or c.args.points.now c.args.place w.index-points-place-then-place-gt0.result).point.issuer.now
      ∙ not-false _ (sym w.if-ne.ensures)))
  | else-place-gt0-via-else-place-gt0 w ↦ c.requires.before ∙ number_first (issuers_view c.args.points.now) c.args.place w.if-place-gt0.false
]
