use Rattle.std.proofs.Common.{◌∷◌, ◌∙◌, [], sym, subst, arith}
use Rattle.factor_book.specs.Filing.{Holds, factors_by}
use Rattle.factor_book.proofs.Books.{one_of, can_shrink, taken, netted_taken, book_kept, book_gone}
use Rattle.factor_book.proofs.factors.Factors.take.Goals as goal

pub take_at_place-requires-clause-held : goal.take_at_place-requires-clause-held
take_at_place-requires-clause-held c =
    can_shrink (factors_by c.self.inside.by_place.entries) c.self.inside.keys c.args.key.now c.args.amount.0 c.self.invariant.book
    (subst (Holds (one_of c.args.key.now c.args.amount.0 ∷ [])) (sym c.self.view_is) c.requires)

pub overflow_sub-self : goal.overflow_sub-self
overflow_sub-self c =
    let old = factors_by c.self.inside.by_place.entries in
    let key = c.args.key.now in
    let held = subst (Holds (one_of key c.args.amount.0 ∷ [])) (sym c.self.view_is) c.requires in
    omega (
      arith,
      book_gone old (factors_by c.take_at_place.new.filed.entries) c.self.inside.keys key c.args.amount.0 c.self.invariant.book c.take_at_place.ensures.filing.filing c.take_at_place.ensures.taken
          (can_shrink old c.self.inside.keys key c.args.amount.0 c.self.invariant.book held) (sym c.take_at_place.ensures.gone ∙ c.if-take_at_place.true),
    )

pub invariant_of-self : goal.invariant_of-self
invariant_of-self c =
    let old = factors_by c.self.inside.by_place.entries in
    let key = c.args.key.now in
    let held = subst (Holds (one_of key c.args.amount.0 ∷ [])) (sym c.self.view_is) c.requires in
    record {
      book = record {
        filing = c.take_at_place.ensures.filing.filing;
        netted = netted_taken old (factors_by c.take_at_place.new.filed.entries) key c.args.amount.0 c.self.invariant.book.filing c.take_at_place.ensures.filing.filing c.take_at_place.ensures.taken held;
        counted = omega (
          arith,
          book_gone old (factors_by c.take_at_place.new.filed.entries) c.self.inside.keys key c.args.amount.0 c.self.invariant.book c.take_at_place.ensures.filing.filing c.take_at_place.ensures.taken
              (can_shrink old c.self.inside.keys key c.args.amount.0 c.self.invariant.book held) (sym c.take_at_place.ensures.gone ∙ c.if-take_at_place.true),
        );
      };
      addressed = c.take_at_place.ensures.filing.addressed;
    }

pub invariant_of-self-else-take_at_place : goal.invariant_of-self-else-take_at_place
invariant_of-self-else-take_at_place c =
    let old = factors_by c.self.inside.by_place.entries in
    let key = c.args.key.now in
    let held = subst (Holds (one_of key c.args.amount.0 ∷ [])) (sym c.self.view_is) c.requires in
    record {
      book = book_kept old (factors_by c.take_at_place.new.filed.entries) c.self.inside.keys key c.args.amount.0 c.self.invariant.book c.take_at_place.ensures.filing.filing c.take_at_place.ensures.taken held
          (can_shrink old c.self.inside.keys key c.args.amount.0 c.self.invariant.book held) (sym c.take_at_place.ensures.gone ∙ c.if-take_at_place.false);
      addressed = c.take_at_place.ensures.filing.addressed;
    }

pub returns-then-take_at_place : goal.returns-then-take_at_place
returns-then-take_at_place c = λ rest e.
    taken (factors_by c.self.inside.by_place.entries) (factors_by c.take_at_place.new.filed.entries) c.args.key.now c.args.amount.0 c.self.invariant.book.filing c.take_at_place.ensures.filing.filing c.take_at_place.ensures.taken rest (c.self.view_is ∙ e)

pub returns-else-take_at_place : goal.returns-else-take_at_place
returns-else-take_at_place c = λ rest e.
    taken (factors_by c.self.inside.by_place.entries) (factors_by c.take_at_place.new.filed.entries) c.args.key.now c.args.amount.0 c.self.invariant.book.filing c.take_at_place.ensures.filing.filing c.take_at_place.ensures.taken rest (c.self.view_is ∙ e)
