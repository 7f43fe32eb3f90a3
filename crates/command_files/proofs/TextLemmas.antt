-- What putting texts out, one after another, leaves in a sink.
use Rattle.std.proofs.Common.{◌≡◌, ℕ, ◌+◌, ◌-◌, ◌<◌, ◌≤◌, List, [], ◌++◌, length, take, drop, get_or, Option, Some, None, true, Result, Ok, Err, is_err, IfErr, OnErr, refl, sym, ap, subst, ◌∙◌, length-append, arith}
use Rattle.std.specs.Io.KnownBytes.{append_known}
use Rattle.std.specs.List.{flat_map}
use Rattle.std.proofs.lemmas.List.{append-nil, take_all, take_at, drop_at, drop_more, take-append-drop, take-append-le}
use Rattle.std.proofs.lemmas.List.Concat.{flat_map-append}
use Rattle.mh_io.specs.Faults.{Rises}
use Rattle.mh_io.specs.Sink.{BreaksOff, SinkSeen}
use Rattle.mh_io.specs.declared.writing.PutFault.{PutFault}
use Rattle.mh_io.proofs.TakesLemmas.{append_known-twice, whole_rest, then_put}
use Rattle.command_files.specs.declared.texts.Printed.{Printed}
use Rattle.command_files.specs.declared.texts.Printed.TheVariants as printed
use Rattle.command_files.specs.Printed.{Got, GotFront, GotLine}
use Rattle.command_files.specs.Texts.{TextGoes}
use Rattle.command_files.proofs.FileLemmas.{rises_earlier}

nothing_more : (held : Option (List ℕ)) → held ≡ append_known held []
nothing_more None = refl
nothing_more (Some bytes) = ap Some (sym (append-nil bytes))

pub got_none : (seen : SinkSeen) → Got seen seen []
got_none seen = nothing_more seen.holds

-- one text went out whole after another
pub got_both : (old mid new : SinkSeen) (a b : List ℕ) → Got old mid a → Got mid new b → Got old new (a ++ b)
got_both old mid new a b before got = got ∙ ap (λ held. append_known held b) before ∙ append_known-twice old.holds a b

-- the texts before went out whole, and the sink failed in this one
pub cut_after : (old mid new : SinkSeen) (a b rest : List ℕ) (n : ℕ) → Got old mid a → old.faults ≤ mid.faults
    → BreaksOff mid new b n → Rises mid.faults new.faults → GotFront old new (a ++ (b ++ rest))
cut_after old mid new a b rest n before count cut rose =
    let all = a ++ (b ++ rest) in
    let first : take (length a) all ≡ a = take_at a (b ++ rest) (length a) refl in
    let left : take n (take (length all - length a) (drop (length a) all)) ≡ take n b =
    ap (take n) (whole_rest (length a) all ∙ drop_at a (b ++ rest) (length a) refl) ∙ take-append-le n b rest (omega (arith, cut.short)) in
    record {
      put = length a + n;
      breaks = record {
        short = omega (arith, cut.short, length-append a (b ++ rest), length-append b rest);
        front = then_put old.holds mid.holds new.holds all (length a) n
            (before ∙ ap (append_known old.holds) (sym first)) (cut.front ∙ ap (append_known mid.holds) (sym left));
      };
      rose = rises_earlier old.faults mid.faults new.faults count rose;
    }

-- all texts are those before one, that one, and those behind it
around : (texts : List (List ℕ)) (i : ℕ) (d : List ℕ) → i < length texts
    → flat_map (λ t. t) texts ≡ flat_map (λ t. t) (take i texts) ++ (get_or texts i d ++ flat_map (λ t. t) (drop (i + 1) texts))
around texts i d less =
    ap (flat_map (λ t. t)) (sym (take-append-drop i texts)) ∙ flat_map-append (λ t. t) (take i texts) (drop i texts)
    ∙ ap (λ ts. flat_map (λ t. t) (take i texts) ++ flat_map (λ t. t) ts) (drop_more texts i d less)

-- the sink failed in one of the texts
pub cut_at : (old mid new : SinkSeen) (texts : List (List ℕ)) (i : ℕ) (t text : List ℕ) (result : Result (Unit {0}) PutFault) → is_err result ≡ true
    → i < length texts → t ≡ get_or texts i t → text ≡ t → Got old mid (flat_map (λ t. t) (take i texts)) → old.faults ≤ mid.faults
    → IfErr result (λ fault. BreaksOff mid new text fault.put) → OnErr result (Rises mid.faults new.faults) → GotFront old new (flat_map (λ t. t) texts)
cut_at old mid new texts i t text (Ok done) none less at is before count cut rose = cc
cut_at old mid new texts i t text (Err fault) failed less at is before count cut rose =
    let whole : flat_map (λ t. t) texts ≡ flat_map (λ t. t) (take i texts) ++ (text ++ flat_map (λ t. t) (drop (i + 1) texts)) =
    around texts i t less ∙ ap (λ t. flat_map (λ t. t) (take i texts) ++ (t ++ flat_map (λ t. t) (drop (i + 1) texts))) (sym (is ∙ at)) in
    subst (GotFront old new) (sym whole)
    (cut_after old mid new (flat_map (λ t. t) (take i texts)) text (flat_map (λ t. t) (drop (i + 1) texts)) fault.put before count cut rose)

-- all of the text went out, or a front of it where the sink failed
pub line_of : (text : List ℕ) (old new : SinkSeen) (p : Printed) → TextGoes text old new p → GotLine old new text
line_of text old new printed.Whole got = record {
  put = length text;
  front = got ∙ ap (append_known old.holds) (sym (take_all (length text) text (omega arith)));
  within = omega arith;
  cut = λ short. absurd (omega (arith, short));
}
line_of text old new printed.Cut front = record {
  put = front.put;
  front = (front.breaks).front;
  within = let short = (front.breaks).short in omega arith;
  cut = λ _. front.rose;
}
