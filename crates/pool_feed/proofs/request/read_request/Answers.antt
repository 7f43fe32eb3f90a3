use Rattle.std.proofs.Common.{[], ◌∷◌, ap, ◌∙◌}
use Rattle.feed_reader.specs.Fields.{fields_of}
use Rattle.pool_feed.proofs.ManyFields.{by_fields, too_many}
use Rattle.pool_feed.proofs.request.read_request.Goals as goal

pub returns-in_err-word-clause-value : goal.returns-in_err-word-clause-value
returns-in_err-word-clause-value c = c.from_residual.ensures ∙ by_fields c.args.line.now (c.args.line.now ∷ []) c.in_err-word.ensures.parts

pub returns-in-None-clause-value : goal.returns-in-None-clause-value
returns-in-None-clause-value c =
    let word = c.in_ok-word.word.now in
    c.read_move.ensures.value
    ∙ by_fields c.args.line.now (word ∷ c.in_ok-word.fields.now ∷ [])
    (c.in_ok-word.ensures.parts ∙ ap (λ fields. word ∷ fields) c.in-None.ensures.parts)

pub returns-in-None-cut_at-clause-value : goal.returns-in-None-cut_at-clause-value
returns-in-None-cut_at-clause-value c =
    let word = c.in_ok-word.word.now in
    let margin = c.in-Some.margin.now in
    c.read_call.ensures.value
    ∙ by_fields c.args.line.now (word ∷ margin ∷ c.in-Some.further.now ∷ [])
    (c.in_ok-word.ensures.parts ∙ ap (λ fields. word ∷ fields) c.in-Some.ensures.parts ∙ ap (λ fields. word ∷ margin ∷ fields) c.in-None-cut_at.ensures.parts)

pub returns-in-Some-cut_at-clause-value : goal.returns-in-Some-cut_at-clause-value
returns-in-Some-cut_at-clause-value c =
    let word = c.in_ok-word.word.now in
    let margin = c.in-Some.margin.now in
    let booked = c.in-Some-cut_at.field-0.0.now in
    let rest = c.in-Some-cut_at.field-0.1.now in
    too_many word margin booked rest
    ∙ by_fields c.args.line.now (word ∷ margin ∷ booked ∷ fields_of rest)
    (c.in_ok-word.ensures.parts ∙ ap (λ fields. word ∷ fields) c.in-Some.ensures.parts ∙ ap (λ fields. word ∷ margin ∷ fields) c.in-Some-cut_at.ensures.parts)
