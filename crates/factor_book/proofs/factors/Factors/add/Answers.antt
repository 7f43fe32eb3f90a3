use Rattle.std.proofs.Common.{◌∷◌, ◌∙◌, [], sym, subst, Result, Ok, Err, OnErr, IfSome, arith}
use Rattle.factor_book.specs.declared.holding.Holding.{Holding}
use Rattle.factor_book.specs.Holdings.{CanJoin}
use Rattle.factor_book.specs.Filing.{HasRoomFor, factors_by, found}
use Rattle.factor_book.proofs.Books.{one_of, can_join, put_one, keys_below, added, unchanged, book_unchanged, book_new, book_known}
use Rattle.factor_book.proofs.factors.Factors.add.Goals as goal

pub add_at_place-requires-clause-room : goal.add_at_place-requires-clause-room
add_at_place-requires-clause-room c =
    subst (λ (h : Holding). IfSome (found (factors_by c.self.inside.by_place.entries) c.args.key.now) (λ had. CanJoin had h)) (sym c.first.ensures)
    (can_join (factors_by c.self.inside.by_place.entries) c.self.inside.keys c.args.key.now c.args.amount.0 c.self.invariant.book
    (subst (HasRoomFor (one_of c.args.key.now c.args.amount.0 ∷ [])) (sym c.self.view_is) c.requires.room) c.requires.amount)

pub invariant_of-self : goal.invariant_of-self
invariant_of-self c =
    record {
      book = book_unchanged (factors_by c.self.inside.by_place.entries) (factors_by c.add_at_place.new.filed.entries) c.self.inside.keys c.self.invariant.book c.add_at_place.ensures.filing.filing c.in_err-add_at_place.ensures.err;
      addressed = c.add_at_place.ensures.filing.addressed;
    }

on_err : {T E P : Type 0} (r : Result T E) → P → OnErr r P
on_err (Ok x) p = tt
on_err (Err e) p = p

pub returns-in_err-add_at_place-clause-err : goal.returns-in_err-add_at_place-clause-err
returns-in_err-add_at_place-clause-err c =
    on_err c.from_residual.result
    (unchanged (factors_by c.self.inside.by_place.entries) (factors_by c.add_at_place.new.filed.entries) c.self.invariant.book.filing c.add_at_place.ensures.filing.filing c.self.invariant.book.netted c.in_err-add_at_place.ensures.err ∙ c.self.view_is)

pub overflow_add-self : goal.overflow_add-self
overflow_add-self c =
    omega (
      arith,
      keys_below (factors_by c.self.inside.by_place.entries) c.self.inside.keys (one_of c.args.key.now c.args.amount.0 ∷ []) c.self.invariant.book
          (subst (HasRoomFor (one_of c.args.key.now c.args.amount.0 ∷ [])) (sym c.self.view_is) c.requires.room),
    )

pub invariant_of-self-then-branch : goal.invariant_of-self-then-branch
invariant_of-self-then-branch c =
    record {
      book = book_new (factors_by c.self.inside.by_place.entries) (factors_by c.add_at_place.new.filed.entries) c.self.inside.keys c.args.key.now c.args.amount.0 c.self.invariant.book c.add_at_place.ensures.filing.filing
          (put_one (factors_by c.self.inside.by_place.entries) (factors_by c.add_at_place.new.filed.entries) c.args.key.now c.args.amount.0 c.first.result c.first.ensures c.in_ok-add_at_place.ensures.ok) c.requires.amount (sym c.in_ok-add_at_place.ensures.new ∙ c.if-branch.true);
      addressed = c.add_at_place.ensures.filing.addressed;
    }

pub invariant_of-self-else-branch : goal.invariant_of-self-else-branch
invariant_of-self-else-branch c =
    record {
      book = book_known (factors_by c.self.inside.by_place.entries) (factors_by c.add_at_place.new.filed.entries) c.self.inside.keys c.args.key.now c.args.amount.0 c.self.invariant.book c.add_at_place.ensures.filing.filing
          (put_one (factors_by c.self.inside.by_place.entries) (factors_by c.add_at_place.new.filed.entries) c.args.key.now c.args.amount.0 c.first.result c.first.ensures c.in_ok-add_at_place.ensures.ok) c.requires.amount (sym c.in_ok-add_at_place.ensures.new ∙ c.if-branch.false);
      addressed = c.add_at_place.ensures.filing.addressed;
    }

pub returns-then-branch-clause-ok : goal.returns-then-branch-clause-ok
returns-then-branch-clause-ok c = λ ss e.
    added (factors_by c.self.inside.by_place.entries) (factors_by c.add_at_place.new.filed.entries) c.args.key.now c.args.amount.0 c.self.invariant.book.filing c.add_at_place.ensures.filing.filing (put_one (factors_by c.self.inside.by_place.entries) (factors_by c.add_at_place.new.filed.entries) c.args.key.now c.args.amount.0 c.first.result c.first.ensures c.in_ok-add_at_place.ensures.ok) ss (c.self.view_is ∙ e)

pub returns-else-branch-clause-ok : goal.returns-else-branch-clause-ok
returns-else-branch-clause-ok c = λ ss e.
    added (factors_by c.self.inside.by_place.entries) (factors_by c.add_at_place.new.filed.entries) c.args.key.now c.args.amount.0 c.self.invariant.book.filing c.add_at_place.ensures.filing.filing (put_one (factors_by c.self.inside.by_place.entries) (factors_by c.add_at_place.new.filed.entries) c.args.key.now c.args.amount.0 c.first.result c.first.ensures c.in_ok-add_at_place.ensures.ok) ss (c.self.view_is ∙ e)
