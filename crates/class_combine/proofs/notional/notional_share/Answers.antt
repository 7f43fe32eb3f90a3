use Rattle.std.proofs.Common.{◌^◌, ◌∙◌, ap, sym, subst, pos, ◌*ℤ◌}
use Rattle.simm_params.specs.MhUnits.Rounding.{up}
use Rattle.class_combine.specs.Notionals.{size_at, IsNotional}
use Rattle.class_combine.proofs.Shares.{are_sizes, passed_notional}
use Rattle.class_combine.proofs.notional.notional_share.Goals as goal

pub share_of-requires-clause-notional : goal.share_of-requires-clause-notional
share_of-requires-clause-notional c =
    let name = c.args.qualifier.now in
    let there = are_sizes c.args.sums.now c.requires.book.0 c.requires.book.1 name in
    let its = c.size-size.ensures ∙ ap (λ m. size_at m name) c.notionals.ensures in
    subst IsNotional (sym (passed_notional c.size-size.result (size_at c.args.sums.now.notionals name) its there)) there

pub returns-clause-size : goal.returns-clause-size
returns-clause-size c =
    let name = c.args.qualifier.now in
    passed_notional c.size-size.result (size_at c.args.sums.now.notionals name) (c.size-size.ensures ∙ ap (λ m. size_at m name) c.notionals.ensures)
    (are_sizes c.args.sums.now c.requires.book.0 c.requires.book.1 name)

pub returns-clause-amount : goal.returns-clause-amount
returns-clause-amount c =
    let name = c.args.qualifier.now in
    let its = passed_notional c.size-size.result (size_at c.args.sums.now.notionals name) (c.size-size.ensures ∙ ap (λ m. size_at m name) c.notionals.ensures)
    (are_sizes c.args.sums.now c.requires.book.0 c.requires.book.1 name) in
    c.share_of.ensures ∙ ap (λ z. up (c.args.factor.0 *ℤ z) (pos (10 ^ 6))) its
