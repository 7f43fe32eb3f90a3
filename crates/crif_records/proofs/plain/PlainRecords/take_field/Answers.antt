use Rattle.std.proofs.Common.{◌∙◌, refl, get_or, ◌+◌}
use Rattle.std.proofs.lemmas.List.Sums.{prefix_len-le-length}
use Rattle.std.specs.Prelude.{not}
use Rattle.csv.specs.declared.parser.State.TheVariants as st
use Rattle.crif_records.specs.Plain.{ends_field, plain_fields}
use Rattle.crif_records.proofs.PlainAscii.{field_pushed, behind_field, plain_pushed}
use Rattle.crif_records.proofs.PlainReads.{last_field, field_before, first_and_rest}
use Rattle.crif_records.proofs.plain.PlainRecords.take_field.Goals as goal

pub split_at-requires : goal.split_at-requires
split_at-requires c = rw c.field_len.ensures (prefix_len-le-length (λ b. not (ends_field c.args.self.now.delimiter b)) c.args.self.now.rest.now)

pub returns-in_default-clause-field : goal.returns-in_default-clause-field
returns-in_default-clause-field c =
    let last = last_field c.args.self.now.delimiter (plain_fields c.args.self.now) c.args.self.now.rest.now c.split_at.result.0.now c.split_at.result.1.now c.field_len.result
    c.requires.quoteless c.field_len.ensures c.split_at.ensures.front c.split_at.ensures.back c.in_default.len_below in
    (st.StartRecord, rw (field_pushed c.args.self.now.fields.items c.push.new.self.items c.split_at.result.0 c.in_ok-push.ensures.items) last)

pub returns-in_default-clause-plain : goal.returns-in_default-clause-plain
returns-in_default-clause-plain c =
    plain_pushed c.args.self.now _ c.split_at.result.0 c.field_len.result c.field_len.result c.requires refl c.in_ok-push.ensures.items c.split_at.ensures.front c.split_at.ensures.back

pub returns-clause-field : goal.returns-clause-field
returns-clause-field c =
    field_before c.args.self.now _ c.split_at.result.0.now (get_or c.split_at.result.1.now 0 0) c.field_len.result
    c.requires.quoteless c.field_len.ensures c.split_at.ensures.front (first_and_rest c.split_at.result.1.now c.in-len1-up.len_at_least ∙ c.split_at.ensures.back)
    (field_pushed c.args.self.now.fields.items c.push.new.self.items c.split_at.result.0 c.in_ok-push.ensures.items) refl

pub returns-clause-plain : goal.returns-clause-plain
returns-clause-plain c =
    plain_pushed c.args.self.now _ c.split_at.result.0 c.field_len.result (c.field_len.result + 1) c.requires refl c.in_ok-push.ensures.items c.split_at.ensures.front
    (behind_field (get_or c.split_at.result.1.now 0 0) c.field_len.result _ c.args.self.now.rest.now (first_and_rest c.split_at.result.1.now c.in-len1-up.len_at_least ∙ c.split_at.ensures.back))
