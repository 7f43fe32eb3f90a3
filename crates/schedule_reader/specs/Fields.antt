-- The fields of a record that the schedule reads.
use Rattle.std.specs.Prelude.{ℕ, List, Bool, ◌&&◌, Option, Some, None, if◌then◌else◌}
use Rattle.std.specs.Str.{is_utf8}
use Rattle.crif_records.specs.Fields.{text_at}
use Rattle.schedule_reader.specs.declared.columns.Columns.{Columns}
use Rattle.schedule_reader.specs.declared.fields.Fields.{Fields}

-- what a record has in each column
pub record Texts : Type 0 where
  pub trade_id : List ℕ
  pub product_class : List ℕ
  pub risk_type : List ℕ
  pub amount : List ℕ
  pub amount_currency : List ℕ
  pub amount_usd : List ℕ
  pub im_model : List ℕ
  pub end_date : List ℕ

abbrev pub texts_of : Columns → List (List ℕ) → Texts
texts_of columns fields =
    record {
      trade_id = text_at fields columns.trade_id;
      product_class = text_at fields columns.product_class;
      risk_type = text_at fields columns.risk_type;
      amount = text_at fields columns.amount;
      amount_currency = text_at fields columns.amount_currency;
      amount_usd = text_at fields columns.amount_usd;
      im_model = text_at fields columns.im_model;
      end_date = text_at fields columns.end_date;
    }

-- each of them is UTF-8
abbrev pub are_text : Texts → Bool
are_text t =
    is_utf8 t.trade_id && is_utf8 t.product_class && is_utf8 t.risk_type && is_utf8 t.amount && is_utf8 t.amount_currency
    && is_utf8 t.amount_usd && is_utf8 t.im_model && is_utf8 t.end_date

-- the texts, where they are
abbrev pub if_text : Texts → Option Texts
if_text t = if are_text t then Some t else None

-- the texts that are lent
abbrev pub texts : Fields → Texts
texts f =
    record {
      trade_id = f.trade_id.now;
      product_class = f.product_class.now;
      risk_type = f.risk_type.now;
      amount = f.amount.now;
      amount_currency = f.amount_currency.now;
      amount_usd = f.amount_usd.now;
      im_model = f.im_model.now;
      end_date = f.end_date.now;
    }
