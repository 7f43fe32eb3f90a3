use Rattle.std.proofs.Common.{◌≡◌, IfOk, sym, subst}
use Rattle.class_margin.specs.names_delta.Values.{nets_in}
use Rattle.class_margin.specs.value.Values.{AreBookValues, AreClassValues}
use Rattle.book_margin.specs.Classes.{base_of}
use Rattle.book_margin.proofs.measures.base_part.Goals as goal

pub base_margin-requires : goal.base_margin-requires
base_margin-requires c = subst (λ k. AreBookValues c.args.params.now c.args.product k c.args.values.now) c.in-CreditQ.is c.requires

pub returns-in-CreditQ-clause-value : goal.returns-in-CreditQ-clause-value
returns-in-CreditQ-clause-value c = λ fs book are.
    subst (λ k. IfOk c.base_margin.result (λ m. m.0 ≡ base_of c.args.params.now (nets_in c.args.product fs) k)) (sym c.in-CreditQ.is)
    (c.base_margin.ensures.value fs book (subst (λ k. AreClassValues c.args.params.now c.args.product k fs c.args.values.now) c.in-CreditQ.is are))
