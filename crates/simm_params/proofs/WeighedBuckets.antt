-- What parameters of a class keep at each of its buckets.
use Rattle.std.proofs.Common.{get_or}
use Rattle.simm_rules.specs.Params.{BucketTerms, CreditBucket, PricedBucket, CreditParams, PricedParams, Params}
use Rattle.simm_rules.specs.declared.classes.CreditClass.{CreditClass}
use Rattle.simm_rules.specs.declared.classes.CreditClass.TheVariants.{Qualifying, NonQualifying}
use Rattle.simm_rules.specs.declared.classes.PricedClass.{PricedClass}
use Rattle.simm_rules.specs.declared.classes.PricedClass.TheVariants.{Equities, Commodities}
use Rattle.simm_rules.specs.Credit.{credit_params}
use Rattle.simm_rules.specs.Priced.{priced_params}
use Rattle.simm_params.specs.declared.thresholds.ThresholdKind.{ThresholdKind}
use Rattle.simm_params.specs.declared.thresholds.ThresholdKind.TheVariants.{Delta, Vega}
use Rattle.simm_params.specs.Ranges.{IsThick}
use Rattle.simm_params.specs.ThresholdKinds.{weight_beside, threshold_in}
use Rattle.simm_params.specs.ClassRanges.{AreTerms}
use Rattle.simm_params.specs.Facts.{IsCreditParams, IsPricedParams, IsParams}
use Rattle.simm_params.specs.Weighed.{AreWeighedTerms, AreWeighedCredit, AreWeighedPriced}
use Rattle.simm_params.proofs.Correlated.{correlated}
use Rattle.simm_params.proofs.Found.{All-unmap}
use Rattle.simm_params.proofs.Weighed.{beside}
use Rattle.simm_params.proofs.WeighedRates.{beside_one}

abbrev IsThickFor : ThresholdKind → BucketTerms → Type 0
IsThickFor kind t = IsThick (weight_beside kind t.weight) (threshold_in kind t.thresholds)

terms_weighed : (t : BucketTerms) → AreTerms t → IsThickFor Delta t → IsThickFor Vega t → AreWeighedTerms t
terms_weighed t are delta vega = record {
  delta = beside t.weight t.thresholds.delta are.weight are.thresholds.delta delta;
  vega = beside_one t.thresholds.vega (record { range = are.thresholds.vega; thick = vega });
  rho = are.rho;
  vrw = are.vrw;
}

pub credit_weighed : (c : CreditParams) → IsCreditParams c → AreWeighedCredit c
credit_weighed c is = record {
  buckets = λ k d lt.
      let b : CreditBucket = get_or c.buckets k d in
      let ranged = is.ranged.buckets k d lt in
      record {
        terms = terms_weighed b.terms ranged.terms (All-unmap (IsThickFor Delta) (λ (x : CreditBucket). x.terms) c.buckets is.delta_thick k d lt) (All-unmap (IsThickFor Vega) (λ (x : CreditBucket). x.terms) c.buckets is.vega_thick k d lt);
        same = ranged.same;
      };
  gamma = correlated _ c.gamma is.ranged.gamma is.gamma_mirrored;
}

pub priced_weighed : (c : PricedParams) → IsPricedParams c → AreWeighedPriced c
priced_weighed c is = record {
  buckets = λ k d lt.
      let b : PricedBucket = get_or c.buckets k d in
      let ranged = is.ranged.buckets k d lt in
      record {
        terms = terms_weighed b.terms ranged.terms (All-unmap (IsThickFor Delta) (λ (x : PricedBucket). x.terms) c.buckets is.delta_thick k d lt) (All-unmap (IsThickFor Vega) (λ (x : PricedBucket). x.terms) c.buckets is.vega_thick k d lt);
        sigma = ranged.sigma;
      };
  hvr = is.ranged.hvr;
  gamma = correlated _ c.gamma is.ranged.gamma is.gamma_mirrored;
}

pub credit_class_weighed : (p : Params) (class : CreditClass) → IsParams p → AreWeighedCredit (credit_params p class)
credit_class_weighed p Qualifying is = credit_weighed p.credit_q is.credit_q
credit_class_weighed p NonQualifying is = credit_weighed p.credit_nq is.credit_nq

pub priced_class_weighed : (p : Params) (class : PricedClass) → IsParams p → AreWeighedPriced (priced_params p class)
priced_class_weighed p Equities is = priced_weighed p.equity is.equity
priced_class_weighed p Commodities is = priced_weighed p.commodity is.commodity
