-- The fields that are read of a record of ASCII bytes are UTF-8.
use Rattle.std.proofs.Common.{◌≡◌, Bool, true, false, cond, List, ℕ, Some, None, refl, ap, ◌∙◌}
use Rattle.std.specs.List.{AllByRecursion}
use Rattle.std.specs.Str.{IsAscii}
use Rattle.crif_records.proofs.AsciiFields.{text_at_utf8}
use Rattle.schedule_reader.specs.declared.columns.Columns.{Columns}
use Rattle.schedule_reader.specs.Fields.{Texts, texts_of, are_text, if_text}

pub ascii_text : (columns : Columns) (fields : List (List ℕ)) → AllByRecursion IsAscii fields → are_text (texts_of columns fields) ≡ true
ascii_text columns fields h =
    rw (
      text_at_utf8 fields columns.trade_id h,
      text_at_utf8 fields columns.product_class h,
      text_at_utf8 fields columns.risk_type h,
      text_at_utf8 fields columns.amount h,
      text_at_utf8 fields columns.amount_currency h,
      text_at_utf8 fields columns.amount_usd h,
      text_at_utf8 fields columns.im_model h,
      text_at_utf8 fields columns.end_date h,
    ) refl

pub some_text : (t u : Texts) → t ≡ u → are_text u ≡ true → Some t ≡ if_text u
some_text t u same text = ap Some same ∙ kept (are_text u) u text
  where
    kept : (b : Bool) (x : Texts) → b ≡ true → Some x ≡ cond b (Some x) None
    kept true x h = refl
    kept false x h = cc
