use Rattle.std.proofs.Common.{◌∙◌, ◌*◌, ◌^◌, lit≤}
use Rattle.class_combine.proofs.Products.{six_of, same_six}
use Rattle.class_combine.proofs.product.each_pair_with.Goals as goal

pub overflow_add-result : goal.overflow_add-result
overflow_add-result c = (six_of (10000 * (2 * 10 ^ 16 * (2 * 10 ^ 16))) c.pair.result c.pair-2.result c.pair.result c.pair.result c.pair.result c.pair.result (lit≤ tt) c.pair.ensures.size c.pair-2.ensures.size c.pair.ensures.size c.pair.ensures.size c.pair.ensures.size c.pair.ensures.size).first

pub overflow_add-result-2 : goal.overflow_add-result-2
overflow_add-result-2 c = (six_of (10000 * (2 * 10 ^ 16 * (2 * 10 ^ 16))) c.pair.result c.pair-2.result c.pair-3.result c.pair.result c.pair.result c.pair.result (lit≤ tt) c.pair.ensures.size c.pair-2.ensures.size c.pair-3.ensures.size c.pair.ensures.size c.pair.ensures.size c.pair.ensures.size).second

pub overflow_add-result-3 : goal.overflow_add-result-3
overflow_add-result-3 c = (six_of (10000 * (2 * 10 ^ 16 * (2 * 10 ^ 16))) c.pair.result c.pair-2.result c.pair-3.result c.pair-4.result c.pair.result c.pair.result (lit≤ tt) c.pair.ensures.size c.pair-2.ensures.size c.pair-3.ensures.size c.pair-4.ensures.size c.pair.ensures.size c.pair.ensures.size).third

pub overflow_add-result-4 : goal.overflow_add-result-4
overflow_add-result-4 c = (six_of (10000 * (2 * 10 ^ 16 * (2 * 10 ^ 16))) c.pair.result c.pair-2.result c.pair-3.result c.pair-4.result c.pair-5.result c.pair.result (lit≤ tt) c.pair.ensures.size c.pair-2.ensures.size c.pair-3.ensures.size c.pair-4.ensures.size c.pair-5.ensures.size c.pair.ensures.size).fourth

pub overflow_add-result-5 : goal.overflow_add-result-5
overflow_add-result-5 c = (six_of (10000 * (2 * 10 ^ 16 * (2 * 10 ^ 16))) c.pair.result c.pair-2.result c.pair-3.result c.pair-4.result c.pair-5.result c.pair-6.result (lit≤ tt) c.pair.ensures.size c.pair-2.ensures.size c.pair-3.ensures.size c.pair-4.ensures.size c.pair-5.ensures.size c.pair-6.ensures.size).fifth

pub returns-clause-value : goal.returns-clause-value
returns-clause-value c =
    (six_of (10000 * (2 * 10 ^ 16 * (2 * 10 ^ 16))) c.pair.result c.pair-2.result c.pair-3.result c.pair-4.result c.pair-5.result c.pair-6.result (lit≤ tt) c.pair.ensures.size c.pair-2.ensures.size c.pair-3.ensures.size c.pair-4.ensures.size c.pair-5.ensures.size c.pair-6.ensures.size).value
    ∙ same_six _ _ _ _ _ _ _ _ _ _ _ _ c.pair.ensures.value c.pair-2.ensures.value c.pair-3.ensures.value c.pair-4.ensures.value c.pair-5.ensures.value c.pair-6.ensures.value

pub returns-clause-size : goal.returns-clause-size
returns-clause-size c = (six_of (10000 * (2 * 10 ^ 16 * (2 * 10 ^ 16))) c.pair.result c.pair-2.result c.pair-3.result c.pair-4.result c.pair-5.result c.pair-6.result (lit≤ tt) c.pair.ensures.size c.pair-2.ensures.size c.pair-3.ensures.size c.pair-4.ensures.size c.pair-5.ensures.size c.pair-6.ensures.size).size
