-- The lines of a place in a measure, once they are added.
use Rattle.std.proofs.Common.{◌≡◌, ℕ, List, ◌++◌, Some, Result, ap, ◌∙◌}
use Rattle.std.specs.Prelude.{OnOk}
use Rattle.std.proofs.lemmas.Result.{on_ok_weaker}
use Rattle.measured_bucket.specs.SimmKinds.declared.kinds.Measure.{Measure}
use Rattle.measured_bucket.specs.SimmRules.declared.values.BucketMargin.{BucketMargin}
use Rattle.bucket_cache.specs.FactorBook.declared.place.Place.{Place}
use Rattle.breakdown_text.proofs.Pieces.{two_pieces}
use Rattle.explain_text.specs.Factors.{lines_of}
use Rattle.explain_text.specs.Lines.{bucket_line}
use Rattle.explain_text.specs.Sides.{Values, value_lines}

-- its factors, and then its value, as the place is told
pub value_added : {T E : Type 0} (r : Result T E) (values : Values) (told place : Place) (m : Measure) (factors : Place → List ℕ) (v : BucketMargin) (t0 t1 t2 : List ℕ) → told ≡ place → Some v ≡ values told m
    → t1 ≡ t0 ++ factors told → OnOk r (t2 ≡ t1 ++ bucket_line told m v) → OnOk r (t2 ≡ t0 ++ value_lines values place m (factors place))
value_added r values told place m factors v t0 t1 t2 here is first then =
    on_ok_weaker r
    (λ grown.
    two_pieces (factors told) (bucket_line told m v) t0 t1 t2 first grown
    ∙ ap (λ o. t0 ++ lines_of (λ w. factors told ++ bucket_line told m w) o) is
    ∙ ap (λ q. t0 ++ value_lines values q m (factors q)) here)
    then
