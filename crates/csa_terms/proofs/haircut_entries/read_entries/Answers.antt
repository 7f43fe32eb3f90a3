use Rattle.std.proofs.Common.{rules, ◌≡◌, ◌≤◌, length, arith}
use Rattle.std.specs.Map.Iter.{deref_pair}
use Rattle.std.proofs.lemmas.Map.Iter.{rest_more, rest_all}
use Rattle.std.proofs.lemmas.Result.{err_from_is_err_and}
use Rattle.toml_values.proofs.Shapes.{members_count-view}
use Rattle.csa_terms.specs.Faults.{is_memory}
use Rattle.csa_terms.proofs.Loops.{entries_begin, has_room, entry_ends, entry_goes_on, entries_done}
use Rattle.csa_terms.proofs.haircut_entries.read_entries.Goals as goal

pub loop-class-init : goal.loop-class-init
loop-class-init c =
    let start : c.into_iter-class-iterator.result ≡ c.args.entries.now.entries = search rules in
    let same = members_count-view c.args.entries.now.entries in
    let few = c.requires in
    let short : length c.args.entries.now.entries ≤ 256 = omega arith in
    rw (c.new-haircuts.ensures, start) (entries_begin c.args.table c.args.entries.now.entries short c.len-count.ensures.ordered)

pub returns-in_err-entry : goal.returns-in_err-entry
returns-in_err-entry c =
    let next = rest_more deref_pair c.loop-class.class-iterator c.next.new.self c.next.result (c.in-Some.class, c.in-Some.value) c.in-Some.is c.next.ensures.steps in
    let way = rw next at c.loop-class.invariant in
    let fails = rw c.as_str.ensures.value at c.in_err-entry.ensures.value in
    let p = err_from_is_err_and c.from_residual.result c.from_residual.ensures.1 in
    rw (p.1, p.2) (entry_ends c.args.table c.loop-class.haircuts c.in-Some.class.now c.in-Some.value.now c.next.new.self _ way (is_memory c.in_err-entry.field-0.0) c.in_err-entry.field-0.0 fails)

pub put-requires-clause-few : goal.put-requires-clause-few
put-requires-clause-few c =
    let next = rest_more deref_pair c.loop-class.class-iterator c.next.new.self c.next.result (c.in-Some.class, c.in-Some.value) c.in-Some.is c.next.ensures.steps in
    let way = rw next at c.loop-class.invariant in
    has_room c.args.table c.loop-class.haircuts c.in-Some.class.now c.in-Some.value.now c.next.new.self _ way

pub loop-class-preserved : goal.loop-class-preserved
loop-class-preserved c =
    let next = rest_more deref_pair c.loop-class.class-iterator c.next.new.self c.next.result (c.in-Some.class, c.in-Some.value) c.in-Some.is c.next.ensures.steps in
    let way = rw next at c.loop-class.invariant in
    let read = rw c.as_str.ensures.value at c.in_ok-entry.ensures.value in
    let same = rw c.as_str.ensures.value at c.in_ok-entry.ensures.same in
    entry_goes_on c.args.table c.loop-class.haircuts c.in-Some.class.now c.in-Some.value.now c.next.new.self _ way
    (record { class = c.in_ok-entry.entry.class; rate = c.in_ok-entry.entry.rate.0 }) c.put.new.self read same c.in_ok-put.ensures.ok

pub returns : goal.returns
returns c =
    let none = rest_all deref_pair c.loop-class.class-iterator c.next.new.self c.next.result c.in-None.is c.next.ensures.steps in
    entries_done c.args.table c.loop-class.haircuts c.loop-class.class-iterator _ none c.loop-class.invariant
