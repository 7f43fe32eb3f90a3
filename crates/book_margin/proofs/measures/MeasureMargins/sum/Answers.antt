use Rattle.book_margin.proofs.Parts.{sum_of}
use Rattle.book_margin.proofs.measures.MeasureMargins.sum.Goals as goal

pub overflow_add-result : goal.overflow_add-result
overflow_add-result c = (sum_of c.args.self c.requires).two

pub overflow_add-result-2 : goal.overflow_add-result-2
overflow_add-result-2 c = (sum_of c.args.self c.requires).three

pub overflow_add-result-3 : goal.overflow_add-result-3
overflow_add-result-3 c = (sum_of c.args.self c.requires).four

pub returns : goal.returns
returns c = (sum_of c.args.self c.requires).value
