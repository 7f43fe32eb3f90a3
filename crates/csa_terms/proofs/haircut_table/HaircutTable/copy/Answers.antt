use Rattle.std.proofs.Common.{rules, ◌≡◌, ◌++◌, ◌∷◌, [], List, sym, ap, ◌∙◌, append_assoc, append-nil}
use Rattle.std.specs.Map.Iter.{deref_pair}
use Rattle.std.proofs.lemmas.Map.Iter.{rest_more, rest_all}
use Rattle.csa_terms.specs.Terms.{Haircut}
use Rattle.csa_terms.specs.Held.{haircuts_at}
use Rattle.csa_terms.proofs.Tables.{share_at, room_at, last_at}
use Rattle.csa_terms.proofs.haircut_table.HaircutTable.copy.Goals as goal

pub loop-class-init : goal.loop-class-init
loop-class-init c =
    let start : c.into_iter-class-iterator.result ≡ c.self.inside.rates.entries = search rules in
    rw (c.new-copy.ensures) (ap haircuts_at start ∙ c.self.view_is)

pub put-requires-clause-few : goal.put-requires-clause-few
put-requires-clause-few c =
    let next = rest_more deref_pair c.loop-class.class-iterator c.next.new.self c.next.result (c.in-Some.class, c.in-Some.rate) c.in-Some.is c.next.ensures.steps in
    room_at c.loop-class.copy (record { class = c.in-Some.class.now; rate = c.in-Some.rate.now.0 }) (haircuts_at c.next.new.self) c.args.self.now (rw next at c.loop-class.invariant) 256 c.facts.ensures.haircuts.few

pub put-requires-clause-share : goal.put-requires-clause-share
put-requires-clause-share c =
    let next = rest_more deref_pair c.loop-class.class-iterator c.next.new.self c.next.result (c.in-Some.class, c.in-Some.rate) c.in-Some.is c.next.ensures.steps in
    share_at c.loop-class.copy (record { class = c.in-Some.class.now; rate = c.in-Some.rate.now.0 }) (haircuts_at c.next.new.self) c.args.self.now (rw next at c.loop-class.invariant) c.facts.ensures.haircuts.shares

pub loop-class-preserved : goal.loop-class-preserved
loop-class-preserved c =
    let next = rest_more deref_pair c.loop-class.class-iterator c.next.new.self c.next.result (c.in-Some.class, c.in-Some.rate) c.in-Some.is c.next.ensures.steps in
    let whole = rw next at c.loop-class.invariant in
    let one : Haircut = record { class = c.in-Some.class.now; rate = c.in-Some.rate.now.0 } in
    let rest : List Haircut = haircuts_at c.next.new.self in
    let put = rw c.in_ok-copy.ensures at c.in_ok-put.ensures.ok in
    ap (λ hs. hs ++ rest) (put ∙ last_at c.loop-class.copy one rest c.args.self.now whole c.facts.ensures.ascending)
    ∙ append_assoc c.loop-class.copy (one ∷ []) rest ∙ whole

pub returns : goal.returns
returns c =
    let none = rest_all deref_pair c.loop-class.class-iterator c.next.new.self c.next.result c.in-None.is c.next.ensures.steps in
    sym (append-nil c.loop-class.copy) ∙ (rw none at c.loop-class.invariant)
