-- One line more that was met.
use Rattle.std.proofs.Common.{◌≡◌, ℕ, List, [], ◌∷◌, ◌++◌, Option, Some, None, refl, ap, ◌∙◌, append-nil}
use Rattle.std.specs.List.{flat_map}
use Rattle.std.proofs.lemmas.List.Concat.{flat_map-append}
use Rattle.csa_terms.specs.Terms.{Agreement}
use Rattle.pool_gate.specs.declared.reply.Reply.{Reply}
use Rattle.pool_gate.specs.declared.reply.Reply.TheVariants.{Got, Short, Gave, Over, Called}
use Rattle.pool_gate.specs.Replies.{OfRest}
use Rattle.pool_gate.specs.Met.{Met, IsMet, AreMet, held_with, top_with, OfRestIn, held_after, top_after, OfEachRest}

pub held_more : (held : ℕ) (mets : List Met) (m : Met) → held_after held (mets ++ m ∷ []) ≡ held_with (held_after held mets) m.reply
held_more held [] m = refl
held_more held (n ∷ mets) m = held_more (held_with held n.reply) mets m

pub top_more : (top : ℕ) (mets : List Met) (m : Met) → top_after top (mets ++ m ∷ []) ≡ top_with (top_after top mets) m.reply
top_more top [] m = refl
top_more top (n ∷ mets) m = top_more (top_with top n.reply) mets m

pub met_more : (total : ℕ) (terms : Agreement) (held : ℕ) (mets : List Met) (m : Met) → AreMet total terms held mets → IsMet total terms (held_after held mets) m → AreMet total terms held (mets ++ m ∷ [])
met_more total terms held [] m all here = (here, tt)
met_more total terms held (n ∷ mets) m all here = (all.0, met_more total terms (held_with held n.reply) mets m all.1 here)

-- what each line adds to a list
pub added_more : {X : Type 0} (f : Met → List X) (mets : List Met) (m : Met) → flat_map f (mets ++ m ∷ []) ≡ flat_map f mets ++ f m
added_more f mets m = flat_map-append f mets (m ∷ []) ∙ ap (λ xs. flat_map f mets ++ xs) (append-nil (f m))

-- ---- rests

rest_of : (P Q : ℕ → Type 0) → ((rest : ℕ) → P rest → Q rest) → (reply : Reply) → OfRest P reply → OfRest Q reply
rest_of P Q weaker (Got now) h = tt
rest_of P Q weaker (Short rest) h = weaker rest h
rest_of P Q weaker (Gave now) h = tt
rest_of P Q weaker (Over now) h = tt
rest_of P Q weaker (Called call) h = tt

pub rest_in : (P Q : ℕ → Type 0) → ((rest : ℕ) → P rest → Q rest) → (reply : Option Reply) → OfRestIn P reply → OfRestIn Q reply
rest_in P Q weaker None h = tt
rest_in P Q weaker (Some reply) h = rest_of P Q weaker reply h

pub rests_in : (P Q : ℕ → Type 0) → ((rest : ℕ) → P rest → Q rest) → (mets : List Met) → OfEachRest P mets → OfEachRest Q mets
rests_in P Q weaker [] all = tt
rests_in P Q weaker (m ∷ mets) all = (rest_in P Q weaker m.reply all.0, rests_in P Q weaker mets all.1)

pub rests_more : (P : ℕ → Type 0) (mets : List Met) (m : Met) → OfEachRest P mets → OfRestIn P m.reply → OfEachRest P (mets ++ m ∷ [])
rests_more P [] m all here = (here, tt)
rests_more P (n ∷ mets) m all here = (all.0, rests_more P mets m all.1 here)
