-- The fields of a risk factor in printed text.
use Rattle.std.specs.Prelude.{ℕ, List, [], ◌++◌, decimal}
use Rattle.simm_kinds.specs.declared.factor.Factor.{Factor}
use Rattle.simm_kinds.specs.declared.factor.Factor.TheVariants as factor
use Rattle.simm_kinds.specs.Kinds.{sub_word}
use Rattle.simm_kinds.specs.Tenors.{tenor_word, tenor_at}
use Rattle.simm_kinds.specs.Bucket.{bucket_text}
use Rattle.fault_text.specs.Fields.{field}

-- qualifier, bucket, tenor, sub-curve, second label
abbrev pub parts : List ℕ → List ℕ → List ℕ → List ℕ → List ℕ → List ℕ
parts qualifier bucket tenor sub label = field qualifier ++ field bucket ++ field tenor ++ field sub ++ field label

-- a part that a factor doesn't have is empty, and so is the bucket of a class that has one alone; a rate's is its currency
abbrev pub factor_fields : Factor → List ℕ
factor_fields (factor.IrCurve c t s) = parts c c (tenor_word t) (sub_word s) []
factor_fields (factor.Inflation c) = parts c c [] [] []
factor_fields (factor.XccyBasis c) = parts c c [] [] []
factor_fields (factor.IrVol c t) = parts c c (tenor_word t) [] []
factor_fields (factor.InflationVol c t) = parts c c (tenor_word t) [] []
factor_fields (factor.CreditQ i b t l) = parts i (bucket_text b) (tenor_word (tenor_at t)) [] l
factor_fields (factor.CreditVol i b t l) = parts i (bucket_text b) (tenor_word (tenor_at t)) [] l
factor_fields (factor.CreditNonQ i b t l) = parts i (bucket_text b) (tenor_word (tenor_at t)) [] l
factor_fields (factor.CreditVolNonQ i b t l) = parts i (bucket_text b) (tenor_word (tenor_at t)) [] l
factor_fields (factor.BaseCorr i) = parts i [] [] [] []
factor_fields (factor.Equity i b) = parts i (bucket_text b) [] [] []
factor_fields (factor.EquityVol i b t) = parts i (bucket_text b) (tenor_word t) [] []
factor_fields (factor.Commodity n b) = parts n (decimal b) [] [] []
factor_fields (factor.CommodityVol n b t) = parts n (decimal b) (tenor_word t) [] []
factor_fields (factor.Fx c) = parts c [] [] [] []
factor_fields (factor.FxVol p t) = parts (p.first ++ p.second) [] (tenor_word t) [] []
