use Rattle.std.proofs.Common.{◌==◌, ◌∙◌, length, ap, sym}
use Rattle.bucket_cache.specs.Live.{rows_in}
use Rattle.bucket_cache.specs.Entries.{trades_of}
use Rattle.bucket_cache.proofs.Gone.{none_named, others_named}
use Rattle.bucket_cache.proofs.leaving.parameters_without.Goals as goal

pub returns-then-is_empty : goal.returns-then-is_empty
returns-then-is_empty c =
    none_named c.args.name.now (trades_of c.args.current.now.entries) (ap (λ n. length n == 0) (sym c.bytes.ensures.value) ∙ sym c.is_empty.ensures ∙ c.if-is_empty.true)

pub returns : goal.returns
returns c =
    c.rows_in.ensures ∙ ap (rows_in (trades_of c.args.current.now.entries)) c.empty-nameless.ensures
    ∙ others_named c.args.name.now (trades_of c.args.current.now.entries) (ap (λ n. length n == 0) (sym c.bytes.ensures.value) ∙ sym c.is_empty.ensures ∙ c.if-is_empty.false)
