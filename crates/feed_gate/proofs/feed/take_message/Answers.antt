use Rattle.std.proofs.Common.{◌≡◌, arith, length, Some, None, refl, sym, subst}
use Rattle.feed_events.specs.FeedReader.Feed.{Sent}
use Rattle.feed_gate.specs.Seats.{AllSee, OfEachSet}
use Rattle.feed_gate.specs.Met.{IsWithin, MeetsFate, Steps}
use Rattle.feed_gate.proofs.EachSet.{all_see_self, fate_within, meets_set, put_back}
use Rattle.feed_gate.proofs.ManyFeeds.{refused_meets}
use Rattle.feed_gate.proofs.feed.take_message.Goals as goal

pub returns-in_default-clause-meets : goal.returns-in_default-clause-meets
returns-in_default-clause-meets g c = record { sees = all_see_self c.args.job.now.seats.items; report = refl; line = refl }

pub make_call-requires-clause-within : goal.make_call-requires-clause-within
make_call-requires-clause-within g c lifetimes live =
    subst (λ n. IsWithin n c.in-Ok.fate) (sym c.requires.named.count) (fate_within c.args.names.now c.args.fed c.in-Ok.fate c.in-Ok.ensures)

pub returns-in-Ok-None-clause-meets : goal.returns-in-Ok-None-clause-meets
returns-in-Ok-None-clause-meets g c =
    let h = subst (λ o. MeetsFate c.in-Ok.fate o c.deref_mut.result.now c.make_call.new.seats) c.in-Ok-None.field-0-is c.in-Ok-None.ensures.meets in
    let it = meets_set c.args.names.now c.args.fed c.in-Ok.fate None c.deref_mut.result.now c.make_call.new.seats c.requires.named.different c.in-Ok.ensures h in
    let long : length c.make_call.new.seats ≡ c.args.job.now.seats.len = omega (arith, it.sets.count, c.deref_mut.ensures.len) in
    record {
      refused = None;
      met = it.met;
      sets = put_back (OfEachSet (Steps (record { item = Sent c.args.fed; refused = None })) c.args.names.now) c.args.job.now.seats.len c.deref_mut.result.now c.args.job.now.seats.items c.make_call.new.seats c.deref_mut.ensures.value long it.sets;
      report = refl;
    }

pub returns-in-Ok-Some-clause-meets : goal.returns-in-Ok-Some-clause-meets
returns-in-Ok-Some-clause-meets g c =
    let h = subst (λ o. MeetsFate c.in-Ok.fate o c.deref_mut.result.now c.make_call.new.seats) c.in-Ok-Some.field-0-is c.in-Ok-Some.ensures.meets in
    let it = meets_set c.args.names.now c.args.fed c.in-Ok.fate (Some c.in-Ok-Some.refused) c.deref_mut.result.now c.make_call.new.seats c.requires.named.different c.in-Ok.ensures h in
    let long : length c.make_call.new.seats ≡ c.args.job.now.seats.len = omega (arith, it.sets.count, c.deref_mut.ensures.len) in
    refused_meets g.S.Source.seen c.args.names.now c.args.fed c.in-Ok.fate c.in-Ok-Some.refused c.args.job.now _ c.refuse.result c.requires.named.different c.in-Ok.ensures
    (put_back (MeetsFate c.in-Ok.fate (Some c.in-Ok-Some.refused)) c.args.job.now.seats.len c.deref_mut.result.now c.args.job.now.seats.items c.make_call.new.seats c.deref_mut.ensures.value long h) c.refuse.ensures

pub returns-in-Err-clause-meets : goal.returns-in-Err-clause-meets
returns-in-Err-clause-meets g c =
    let long : length c.make_call.new.seats ≡ c.args.job.now.seats.len = omega (arith, c.in-Err.ensures.sees.count, c.deref_mut.ensures.len) in
    record {
      sees = put_back AllSee c.args.job.now.seats.len c.deref_mut.result.now c.args.job.now.seats.items c.make_call.new.seats c.deref_mut.ensures.value long c.in-Err.ensures.sees;
      report = refl;
      line = refl;
    }
