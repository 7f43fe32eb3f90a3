use Rattle.std.proofs.Common.{◌∙◌, ◌*◌, ◌^◌, lit≤}
use Rattle.class_combine.proofs.Products.{six_of, same_six}
use Rattle.class_combine.proofs.product.pairs.Goals as goal

pub overflow_add-result : goal.overflow_add-result
overflow_add-result c = (six_of (6 * (10000 * (2 * 10 ^ 16 * (2 * 10 ^ 16)))) c.pairs_with.result c.pairs_with-2.result c.pairs_with.result c.pairs_with.result c.pairs_with.result c.pairs_with.result (lit≤ tt) c.pairs_with.ensures.size c.pairs_with-2.ensures.size c.pairs_with.ensures.size c.pairs_with.ensures.size c.pairs_with.ensures.size c.pairs_with.ensures.size).first

pub overflow_add-result-2 : goal.overflow_add-result-2
overflow_add-result-2 c = (six_of (6 * (10000 * (2 * 10 ^ 16 * (2 * 10 ^ 16)))) c.pairs_with.result c.pairs_with-2.result c.pairs_with-3.result c.pairs_with.result c.pairs_with.result c.pairs_with.result (lit≤ tt) c.pairs_with.ensures.size c.pairs_with-2.ensures.size c.pairs_with-3.ensures.size c.pairs_with.ensures.size c.pairs_with.ensures.size c.pairs_with.ensures.size).second

pub overflow_add-result-3 : goal.overflow_add-result-3
overflow_add-result-3 c = (six_of (6 * (10000 * (2 * 10 ^ 16 * (2 * 10 ^ 16)))) c.pairs_with.result c.pairs_with-2.result c.pairs_with-3.result c.pairs_with-4.result c.pairs_with.result c.pairs_with.result (lit≤ tt) c.pairs_with.ensures.size c.pairs_with-2.ensures.size c.pairs_with-3.ensures.size c.pairs_with-4.ensures.size c.pairs_with.ensures.size c.pairs_with.ensures.size).third

pub overflow_add-result-4 : goal.overflow_add-result-4
overflow_add-result-4 c = (six_of (6 * (10000 * (2 * 10 ^ 16 * (2 * 10 ^ 16)))) c.pairs_with.result c.pairs_with-2.result c.pairs_with-3.result c.pairs_with-4.result c.pairs_with-5.result c.pairs_with.result (lit≤ tt) c.pairs_with.ensures.size c.pairs_with-2.ensures.size c.pairs_with-3.ensures.size c.pairs_with-4.ensures.size c.pairs_with-5.ensures.size c.pairs_with.ensures.size).fourth

pub overflow_add-result-5 : goal.overflow_add-result-5
overflow_add-result-5 c = (six_of (6 * (10000 * (2 * 10 ^ 16 * (2 * 10 ^ 16)))) c.pairs_with.result c.pairs_with-2.result c.pairs_with-3.result c.pairs_with-4.result c.pairs_with-5.result c.pairs_with-6.result (lit≤ tt) c.pairs_with.ensures.size c.pairs_with-2.ensures.size c.pairs_with-3.ensures.size c.pairs_with-4.ensures.size c.pairs_with-5.ensures.size c.pairs_with-6.ensures.size).fifth

pub returns-clause-value : goal.returns-clause-value
returns-clause-value c =
    (six_of (6 * (10000 * (2 * 10 ^ 16 * (2 * 10 ^ 16)))) c.pairs_with.result c.pairs_with-2.result c.pairs_with-3.result c.pairs_with-4.result c.pairs_with-5.result c.pairs_with-6.result (lit≤ tt) c.pairs_with.ensures.size c.pairs_with-2.ensures.size c.pairs_with-3.ensures.size c.pairs_with-4.ensures.size c.pairs_with-5.ensures.size c.pairs_with-6.ensures.size).value
    ∙ same_six _ _ _ _ _ _ _ _ _ _ _ _ c.pairs_with.ensures.value c.pairs_with-2.ensures.value c.pairs_with-3.ensures.value c.pairs_with-4.ensures.value c.pairs_with-5.ensures.value c.pairs_with-6.ensures.value

pub returns-clause-size : goal.returns-clause-size
returns-clause-size c = (six_of (6 * (10000 * (2 * 10 ^ 16 * (2 * 10 ^ 16)))) c.pairs_with.result c.pairs_with-2.result c.pairs_with-3.result c.pairs_with-4.result c.pairs_with-5.result c.pairs_with-6.result (lit≤ tt) c.pairs_with.ensures.size c.pairs_with-2.ensures.size c.pairs_with-3.ensures.size c.pairs_with-4.ensures.size c.pairs_with-5.ensures.size c.pairs_with-6.ensures.size).size
