use Rattle.book_margin.proofs.Classes.{classes_read}
use Rattle.book_margin.proofs.renewal.kept_classes.Goals as goal

pub returns : goal.returns
returns c = classes_read c.args.side c.args.kept.now c.args.product
    (record { ir = c.kept_margin.result; credit_q = c.kept_margin-2.result; credit_nonq = c.kept_margin-3.result; equity = c.kept_margin-4.result; commodity = c.kept_margin-5.result; fx = c.kept_margin-6.result })
    c.kept_margin.ensures c.kept_margin-2.ensures c.kept_margin-3.ensures c.kept_margin-4.ensures c.kept_margin-5.ensures c.kept_margin-6.ensures
