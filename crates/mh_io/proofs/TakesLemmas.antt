-- Takings in a row.
use Rattle.std.proofs.Common.{◌≡◌, ℕ, ◌+◌, ◌-◌, List, [], ◌++◌, Option, Some, None, length, take, drop, refl, sym, ap, ◌∙◌, append_assoc}
use Rattle.std.proofs.lemmas.List.{append-nil, length-drop}
use Rattle.std.proofs.Math.Seq.{take-add, take-length}
use Rattle.std.specs.Io.KnownBytes.{append_known, prepend_known}
use Rattle.mh_io.specs.Told.{Appends}
use Rattle.mh_io.specs.Source.{SourceSeen, Takes}

-- bytes appended in two parts
pub append_known-twice : (held : Option (List ℕ)) (xs ys : List ℕ) → append_known (append_known held xs) ys ≡ append_known held (xs ++ ys)
append_known-twice None xs ys = refl
append_known-twice (Some held) xs ys = ap (λ (zs : List ℕ). Some zs) (append_assoc held xs ys)

-- bytes given in two parts
pub prepend_known-twice : (left : Option (List ℕ)) (xs ys : List ℕ) → prepend_known xs (prepend_known ys left) ≡ prepend_known (xs ++ ys) left
prepend_known-twice None xs ys = refl
prepend_known-twice (Some left) xs ys = ap (λ (zs : List ℕ). Some zs) (sym (append_assoc xs ys left))

append_known-none : (held : Option (List ℕ)) → held ≡ append_known held []
append_known-none None = refl
append_known-none (Some held) = ap (λ (zs : List ℕ). Some zs) (sym (append-nil held))

prepend_known-none : (left : Option (List ℕ)) → left ≡ prepend_known [] left
prepend_known-none None = refl
prepend_known-none (Some left) = refl

-- where nothing was taken
pub nothing_taken : (old new : SourceSeen) → new.gave ≡ old.gave → new.left ≡ old.left → Takes old new []
nothing_taken old new gave left = record { gave = gave ∙ append_known-none old.gave; left = sym left ∙ prepend_known-none new.left }

-- one taking after another
pub then_taken : {old mid new : SourceSeen} {xs ys : List ℕ} → Takes old mid xs → Takes mid new ys → Takes old new (xs ++ ys)
then_taken {old} {mid} {new} {xs} {ys} a b = record {
  gave = b.gave ∙ (ap (λ g. append_known g ys) a.gave ∙ append_known-twice old.gave xs ys);
  left = a.left ∙ (ap (λ l. prepend_known xs l) b.left ∙ prepend_known-twice new.left xs ys);
}

-- all that is left after a front
pub whole_rest : (n : ℕ) (bytes : List ℕ) → take (length bytes - n) (drop n bytes) ≡ drop n bytes
whole_rest n bytes = ap (λ k. take k (drop n bytes)) (sym (length-drop n bytes)) ∙ take-length (drop n bytes)

-- a front that went out, and then a front of the rest
pub then_put : (h0 h1 h2 : Option (List ℕ)) (bytes : List ℕ) (n m : ℕ) → Appends h0 h1 (take n bytes) → Appends h1 h2 (take m (take (length bytes - n) (drop n bytes))) → Appends h0 h2 (take (n + m) bytes)
then_put h0 h1 h2 bytes n m a b =
    let part : take m (take (length bytes - n) (drop n bytes)) ≡ take m (drop n bytes) = ap (λ r. take m r) (whole_rest n bytes) in
    b ∙ (ap (λ r. append_known h1 r) part ∙ (ap (λ h. append_known h (take m (drop n bytes))) a ∙ (append_known-twice h0 (take n bytes) (take m (drop n bytes)) ∙ ap (λ zs. append_known h0 zs) (sym (take-add n m bytes)))))
