use Rattle.std.proofs.Common.{◌∙◌, sym, ap, ◌||◌}
use Rattle.std.specs.List.{list_any}
use Rattle.std.proofs.lemmas.List.{take_all}
use Rattle.book_margin.specs.SimmKinds.Order.{same_name}
use Rattle.book_margin.specs.SimmKinds.Repeats.{repeats}
use Rattle.bucket_cache.specs.Entries.{is_among, lent_names}
use Rattle.bucket_cache.proofs.Maps.{is_among-insert_key, any_next, different-insert_key}
use Rattle.bucket_cache.proofs.changing.distinct_names.Goals as goal

pub loop-name-preserved : goal.loop-name-preserved
loop-name-preserved c = record {
  among = λ name.
      ap (λ ks. is_among ks name) c.in_ok-insert.ensures.keys ∙ is_among-insert_key c.loop-name.distinct.keys _ name
      ∙ ap (λ b. b || same_name name c.name-item.result) (c.loop-name.invariant.among name)
      ∙ sym (any_next name c.args.names.now c.loop-name.name-index c.name-item.result c.loop-name-test.true c.name-item.is);
  different = ap (λ ks. repeats same_name (lent_names ks)) c.in_ok-insert.ensures.keys ∙ different-insert_key c.loop-name.distinct.keys _ c.loop-name.invariant.different;
}

pub returns-clause-among : goal.returns-clause-among
returns-clause-among c = λ name. c.loop-name.invariant.among name ∙ ap (list_any (same_name name)) (take_all c.loop-name.name-index c.args.names.now c.loop-name-test.false)
