-- Notices told in a row.
use Rattle.std.proofs.Common.{◌≡◌, ℕ, ◌+◌, ◌<◌, List, [], ◌∷◌, ◌++◌, Option, Some, None, length, length-append, take, get_or, option_map, Result, Ok, refl, sym, ap, subst, ◌∙◌, append_assoc, arith}
use Rattle.std.proofs.lemmas.List.{append-nil, take_more}
use Rattle.call_desk.specs.declared.notice.Notice.{Notice}
use Rattle.call_desk.specs.declared.fault.DeskFault.{DeskFault}
use Rattle.call_desk.specs.Desk.{DeskSeen, Tells, WasTold}

-- lists added in two parts
added_twice : (told : Option (List Notice)) (xs ys : List Notice) → option_map (λ held. held ++ ys) (option_map (λ held. held ++ xs) told) ≡ option_map (λ held. held ++ (xs ++ ys)) told
added_twice None xs ys = refl
added_twice (Some held) xs ys = ap (λ (zs : List Notice). Some zs) (append_assoc held xs ys)

added_none : (told : Option (List Notice)) → told ≡ option_map (λ held. held ++ []) told
added_none None = refl
added_none (Some held) = ap (λ (zs : List Notice). Some zs) (sym (append-nil held))

-- before the first notice
pub told_none : (seen : DeskSeen) → WasTold seen seen []
told_none seen = record { faults = omega arith; wants = omega arith; tellings = omega arith; list = added_none seen.told }

-- notices after notices
told_then : (old mid new : DeskSeen) (xs ys : List Notice) → WasTold old mid xs → WasTold mid new ys → WasTold old new (xs ++ ys)
told_then old mid new xs ys a b = record {
  faults = omega arith;
  wants = omega arith;
  tellings = omega (arith, a.tellings, b.tellings, length-append xs ys);
  list = b.list ∙ (ap (λ (t : Option (List Notice)). option_map (λ held. held ++ ys) t) a.list ∙ added_twice old.told xs ys);
}

-- one notice more of a list
pub told_more : (old mid new : DeskSeen) (xs : List Notice) (i : ℕ) (notice : Notice) → i < length xs → notice ≡ get_or xs i notice → WasTold old mid (take i xs) → WasTold mid new (notice ∷ []) → WasTold old new (take (i + 1) xs)
told_more old mid new xs i notice inside is a b =
    let e : take (i + 1) xs ≡ take i xs ++ notice ∷ [] = take_more xs i notice inside ∙ ap (λ (n : Notice). take i xs ++ n ∷ []) (sym is) in
    subst (λ (zs : List Notice). WasTold old new zs) (sym e) (told_then old mid new (take i xs) (notice ∷ []) a b)

-- a notice that the desk took
pub told_one : (old new : DeskSeen) (notice : Notice) (result : Result (Unit {0}) DeskFault) (u : Unit {0}) → result ≡ Ok u → Tells old new notice result → WasTold old new (notice ∷ [])
told_one old new notice result u is t =
    let done : Tells old new notice (Ok u) = subst (λ (r : Result (Unit {0}) DeskFault). Tells old new notice r) is t in
    record { faults = done.faults; wants = done.wants; tellings = done.counted; list = done.ok }
