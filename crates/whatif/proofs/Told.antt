-- Why names are not taken out of a book is why there is no what-if.
use Rattle.std.proofs.Common.{◌≡◌, ◌∙◌, ℕ, ◌⊎◌, inl, inr, Option, Some, Result, Err, IsErrAnd, refl, sym, ap, subst}
use Rattle.std.proofs.lemmas.Result.{err_from_is_err_and}
use Rattle.bucket_cache.specs.declared.fault.WithdrawFault.{WithdrawFault}
use Rattle.bucket_cache.specs.declared.fault.WithdrawFault.TheVariants as withdraw
use Rattle.whatif.specs.declared.fault.WhatIfFault.{WhatIfFault}
use Rattle.whatif.specs.declared.fault.WhatIfFault.TheVariants as fault
use Rattle.whatif.specs.Faults.{if_known, of_withdrawal}

abbrev IsTold : Option ℕ → Option WhatIfFault → WhatIfFault → Type 0
IsTold unknown later f = (f ≡ fault.Memory) ⊎ (if_known unknown later ≡ Some f)

-- where the place that it tells is that of the first name that isn't current
of_unknown : {T : Type 0} (unknown : Option ℕ) (later : Option WhatIfFault) (e : WithdrawFault) → ((place : ℕ) → ◌≡◌ {A = Result T WithdrawFault} (Err e) (Err (withdraw.UnknownTrade place)) → unknown ≡ Some place)
    → IsTold unknown later (of_withdrawal e)
of_unknown unknown later (withdraw.UnknownTrade place) first = inr (ap (λ o. if_known o later) (first place refl))
of_unknown unknown later withdraw.Memory first = inl refl

same_fault : {T : Type 0} (one other : WhatIfFault) → ◌≡◌ {A = Result T WhatIfFault} (Err one) (Err other) → one ≡ other
same_fault one other h = cc

pub told : {T R : Type 0} (unknown : Option ℕ) (later : Option WhatIfFault) (e : WithdrawFault) (r : Result R WhatIfFault)
    → ((place : ℕ) → ◌≡◌ {A = Result T WithdrawFault} (Err e) (Err (withdraw.UnknownTrade place)) → unknown ≡ Some place)
    → IsErrAnd r (λ f. f ≡ of_withdrawal e) → (f : WhatIfFault) → r ≡ Err f → (f ≡ fault.Memory) ⊎ (if_known unknown later ≡ Some f)
told unknown later e r first gives f is =
    let p = err_from_is_err_and r gives in
    subst (IsTold unknown later) (sym p.2 ∙ same_fault p.0 f (sym p.1 ∙ is)) (of_unknown unknown later e first)
