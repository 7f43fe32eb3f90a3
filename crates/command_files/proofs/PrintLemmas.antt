-- What printing one piece after another leaves in a sink.
use Rattle.std.proofs.Common.{◌≡◌, ℕ, ◌+◌, ◌≤◌, List, [], ◌∷◌, ◌++◌, length, take, true, false, Option, Some, None, ap, sym, refl, ◌∙◌, append_assoc, length-append, add-one, arith, Result, Ok, Err, is_err, IfErr, OnErr, OnOk}
use Rattle.std.proofs.lemmas.List.{take-append-le}
use Rattle.std.specs.Io.KnownBytes.{append_known}
use Rattle.mh_io.specs.Faults.{Rises}
use Rattle.mh_io.specs.Sink.{BreaksOff, SinkSeen}
use Rattle.mh_io.specs.declared.writing.PutFault.{PutFault}
use Rattle.command_files.proofs.FileLemmas.{rises_earlier}
use Rattle.command_files.specs.Printed.{Got, GotLine}

append_twice : (known : Option (List ℕ)) (a b : List ℕ) → append_known (append_known known a) b ≡ append_known known (a ++ b)
append_twice None a b = refl
append_twice (Some xs) a b = ap Some (append_assoc xs a b)

take_past : (a b : List ℕ) (n : ℕ) → take (length a + n) (a ++ b) ≡ a ++ take n b
take_past [] b n = ap (λ k. take k b) (omega arith)
take_past (x ∷ a) b n =
    let more : length (x ∷ a) + n ≡ (length a + n) + 1 = omega arith in
    rw (more, add-one) (ap (λ xs. x ∷ xs) (take_past a b n))

-- the sink failed in the first of two pieces
pub got_front_of : (old new : SinkSeen) (a b : List ℕ) (n : ℕ) → BreaksOff old new a n → Rises old.faults new.faults → GotLine old new (a ++ b)
got_front_of old new a b n h r = record {
  put = n;
  front = h.front ∙ ap (append_known old.holds) (sym (take-append-le n a b (omega (arith, h.short))));
  within = omega (arith, h.short, length-append a b);
  cut = λ _. r;
}

-- the first of two pieces went out whole
pub got_line_after : (old mid new : SinkSeen) (a b : List ℕ) → Got old mid a → old.faults ≤ mid.faults → GotLine mid new b → GotLine old new (a ++ b)
got_line_after old mid new a b got count line = record {
  put = length a + line.put;
  front = line.front ∙ (ap (λ known. append_known known (take line.put b)) got ∙ (append_twice old.holds a (take line.put b) ∙ ap (append_known old.holds) (sym (take_past a b line.put))));
  within = omega (arith, line.within, length-append a b);
  cut = λ short. rises_earlier old.faults mid.faults new.faults count (line.cut (omega (arith, length-append a b)));
}

pub put_failed : (old new : SinkSeen) (a b : List ℕ) (r : Result (Unit {0}) PutFault) → is_err r ≡ true → IfErr r (λ f. BreaksOff old new a f.put) → OnErr r (Rises old.faults new.faults) → GotLine old new (a ++ b)
put_failed old new a b (Ok x) h cut rose = cc
put_failed old new a b (Err f) h cut rose = got_front_of old new a b f.put cut rose

pub put_went : (old new : SinkSeen) (a : List ℕ) (r : Result (Unit {0}) PutFault) → is_err r ≡ false → OnOk r (Got old new a) → Got old new a
put_went old new a (Ok x) h went = went
put_went old new a (Err f) h went = cc
