use Rattle.std.proofs.Common.{None, ◌≡◌, arith, ◌∙◌, ap, sym, length, eqb-true}
use Rattle.std.proofs.lemmas.Bool.{eqb-false}
use Rattle.std.specs.Result.{result_ok}
use Rattle.mh_units.specs.Numeral.{fixed_of}
use Rattle.mh_units.proofs.Answers.{fixed_none_rest, fixed_none_long, fixed_from}
use Rattle.mh_units.proofs.Written.{exact_answer}
use Rattle.mh_units.proofs.numeral.read_fixed.Goals as goal
use Rattle.mh_units.proofs.numeral.read_fixed.Goals.{then-not-is_empty-via-then-not-is_empty, then-not-is_empty-via-else-not-is_empty+then-parts-places}

none_is : (c : goal.Joined-then-not-is_empty) → None ≡ fixed_of c.args.places c.args.text.now
none_is c =
    let parts = c.take_apart-parts.result in
    let rest = ap length c.take_apart-parts.ensures.rest in
    let behind = ap length c.take_apart-parts.ensures.fraction in
    elim c.then-not-is_empty.branch [
      | then-not-is_empty-via-then-not-is_empty w ↦
          fixed_none_rest c.args.places c.args.text.now (λ e. eqb-false (length parts.rest.now) 0 (sym c.is_empty.ensures ∙ w.if-not-is_empty.true) (rest ∙ e))
      | then-not-is_empty-via-else-not-is_empty+then-parts-places w ↦
          fixed_none_long c.args.places c.args.text.now (omega (arith, w.if-parts-places.true, behind))
    ]

value_is : (c : goal.After-ok) → c.ok.result ≡ fixed_of c.args.places c.args.text.now
value_is c =
    let parts = c.take_apart-parts.result in
    let rest = ap length c.take_apart-parts.ensures.rest in
    let behind = ap length c.take_apart-parts.ensures.fraction in
    c.ok.ensures.value ∙ ap result_ok c.number_of.ensures.value ∙ fixed_from c.args.places c.args.text.now (sym rest ∙ eqb-true (length parts.rest.now) 0 (sym c.is_empty.ensures ∙ c.if-not-is_empty.false)) (omega (arith, behind))

pub returns-then-not-is_empty-clause-value : goal.returns-then-not-is_empty-clause-value
returns-then-not-is_empty-clause-value c = none_is c

pub returns-then-not-is_empty-clause-answer : goal.returns-then-not-is_empty-clause-answer
returns-then-not-is_empty-clause-answer c = exact_answer c.args.places c.args.text.now None (none_is c)

pub returns-clause-value : goal.returns-clause-value
returns-clause-value c = value_is c

pub returns-clause-answer : goal.returns-clause-answer
returns-clause-answer c = exact_answer c.args.places c.args.text.now c.ok.result (value_is c)
