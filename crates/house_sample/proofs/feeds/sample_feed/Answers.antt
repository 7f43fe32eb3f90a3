use Rattle.std.proofs.Common.{◌≡◌, ℕ, List, ap, ◌∙◌, true, arith}
use Rattle.feed_reader.specs.Feed.{block_of, feed}
use Rattle.crif_writer.specs.Text.{batch_text}
use Rattle.house_sample.specs.Trades.{batch_from}
use Rattle.house_sample.proofs.Messages.{lines_to, feed_is, text_step, state_step, no_text_yet, first_state_is}
use Rattle.house_sample.proofs.feeds.sample_feed.Goals as goal

pub loop-batch-init : goal.loop-batch-init
loop-batch-init c = (no_text_yet c.args.seed c.args.number c.new-text.result c.new-text.ensures, first_state_is c.args.seed c.args.number c.new-draws.result.state c.new-draws.ensures)

pub loop-batch-preserved : goal.loop-batch-preserved
loop-batch-preserved c = (
  text_step c.args.seed c.args.number c.loop-batch.batch c.loop-batch.text c.as_slice.result.now c.set_name.result.now c.push_messages.new.text
      c.loop-batch.invariant.0
      (c.as_slice.ensures ∙ (c.in_ok-block.ensures.text ∙ (ap batch_text c.in_ok-trades.ensures.batch ∙ ap (λ (x : ℕ). batch_text (batch_from c.args.number c.loop-batch.batch x)) c.loop-batch.invariant.1)))
      c.set_name.ensures c.in_ok-push_messages.ensures,
  state_step c.args.seed c.args.number c.loop-batch.batch c.loop-batch.draws.state c.draw_batch.new.draws.state c.loop-batch.invariant.1 c.in_ok-trades.ensures.state,
)

pub returns : goal.returns
returns c =
    let whole : c.loop-batch.batch ≡ 50 = omega (arith, c.loop-batch-test.false, c.loop-batch.auto.batch-end) in
    ap (λ (text : List ℕ). feed text true) (c.loop-batch.invariant.0 ∙ ap (λ (n : ℕ). block_of (lines_to c.args.seed c.args.number n)) whole)
    ∙ feed_is c.args.seed c.args.number c.requires
