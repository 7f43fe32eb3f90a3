-- The columns of a written header, and what a record of ten plain fields has in them.
use Rattle.std.proofs.Common.{◌≡◌, ℕ, true, List, [], ◌∷◌, None, Ok, refl}
use Rattle.std.specs.List.{AllByRecursion}
use Rattle.csv.specs.Records.{field_at}
use Rattle.crif_reader.specs.declared.columns.Columns.{Columns}
use Rattle.crif_reader.specs.Columns.{columns_of}
use Rattle.crif_reader.specs.Fields.{Texts, texts_of, are_text}
use Rattle.crif_writer.specs.Text.{header_fields}
use Rattle.crif_writer.proofs.Plain.{IsPlain, plain_empty}

abbrev pub places : Columns
places =
    record {
      count = 10;
      trade_id = 0;
      product_class = 1;
      risk_type = 2;
      qualifier = 3;
      bucket = 4;
      label1 = 5;
      label2 = 6;
      amount = 7;
      amount_currency = 8;
      amount_usd = 9;
      im_model = None;
    }

pub header_read : columns_of header_fields ≡ Ok places
unfolding columns_of
header_read = refl

-- the ten fields of a record
abbrev pub fields_in : Texts → List (List ℕ)
fields_in t =
    t.trade_id ∷ t.product_class ∷ t.risk_type ∷ t.qualifier ∷ t.bucket ∷ t.label1 ∷ t.label2 ∷ t.amount ∷ t.amount_currency
    ∷ t.amount_usd ∷ []

pub record ArePlain (t : Texts) : Type 0 where
  pub fields : AllByRecursion IsPlain (fields_in t)
  pub no_model : t.im_model ≡ []

pub texts_read : (t : Texts) → ArePlain t → texts_of places (fields_in t) ≡ t
unfolding field_at
texts_read t h =
    let f = h.fields in
    rw (f.0.trim, f.1.0.trim, f.1.1.0.trim, f.1.1.1.0.trim, f.1.1.1.1.0.trim, f.1.1.1.1.1.0.trim, f.1.1.1.1.1.1.0.trim, f.1.1.1.1.1.1.1.0.trim, f.1.1.1.1.1.1.1.1.0.trim, f.1.1.1.1.1.1.1.1.1.0.trim, ← h.no_model) refl

pub text_read : (t : Texts) → ArePlain t → are_text t ≡ true
text_read t h =
    let f = h.fields in
    rw (f.0.text, f.1.0.text, f.1.1.0.text, f.1.1.1.0.text, f.1.1.1.1.0.text, f.1.1.1.1.1.0.text, f.1.1.1.1.1.1.0.text, f.1.1.1.1.1.1.1.0.text, f.1.1.1.1.1.1.1.1.0.text, f.1.1.1.1.1.1.1.1.1.0.text, h.no_model, plain_empty.text) refl
