-- What the way in which the lines of bytes stop tells of the bytes, and of all bytes that begin with them.
use Rattle.std.proofs.Common.{◌≡◌, ℕ, ◌+◌, ◌-◌, ◌<◌, ◌≤◌, Bool, true, false, cond, List, [], ◌∷◌, ◌++◌, length, take, refl, sym, ap, ◌∙◌, subst, arith, nat_le, nat_lt, length-append}
use Rattle.std.specs.List.{slice_split, onto_first}
use Rattle.std.proofs.lemmas.List.{take_all}
use Rattle.std.proofs.lemmas.List.Splits.{length-slice_split}
use Rattle.std.proofs.lemmas.Bool.Decides.{nat_tests}
use Rattle.std.proofs.lemmas.Bool.{leb-true}
use Rattle.mh_io.specs.Lines.{LineRun, Stop, Whole, Open, Long, Over, stopped, with_lines, is_lf, without_cr, last_line, cut, lines_behind, lines}
use Rattle.mh_io.specs.Limits.{most_bytes, line_bytes}

-- ---- parts that grow

-- each part has a part at its place that is at least as long
AreAsLong : List (List ℕ) → List (List ℕ) → Type 0
AreAsLong [] longer = Unit {0}
AreAsLong (part ∷ parts) [] = ⊥
AreAsLong (part ∷ parts) (p ∷ longer) = (length part ≤ length p) × AreAsLong parts longer

grown_first : (b : ℕ) (parts longer : List (List ℕ))
    → AreAsLong parts longer → AreAsLong (onto_first b parts) (onto_first b longer)
unfolding AreAsLong
grown_first b [] [] h = (omega arith, tt)
grown_first b [] (p ∷ longer) h = (omega arith, tt)
grown_first b (part ∷ parts) [] h = absurd h
grown_first b (part ∷ parts) (p ∷ longer) h = (let le = h.0 in omega arith, h.1)

no_shorter : (parts : List (List ℕ)) → 0 < length parts → AreAsLong ([] ∷ []) parts
unfolding AreAsLong
no_shorter [] some = absurd (omega arith)
no_shorter (p ∷ parts) some = (omega arith, tt)

-- bytes behind others only make parts longer
parts_grow : (bytes more : List ℕ) → AreAsLong (slice_split is_lf bytes) (slice_split is_lf (bytes ++ more))
unfolding AreAsLong
parts_grow [] more = no_shorter (slice_split is_lf more) (omega (arith, length-slice_split is_lf more))
parts_grow (b ∷ bytes) more =
    let parts = slice_split is_lf bytes in
    let longer = slice_split is_lf (bytes ++ more) in
    let rest = parts_grow bytes more in
    elim (is_lf b)
    as (λ v. AreAsLong (cond v ([] ∷ parts) (onto_first b parts)) (cond v ([] ∷ longer) (onto_first b longer)))
    [ true ↦ (omega arith, rest) | false ↦ grown_first b parts longer rest ]

-- ---- lines too long

is_full : (a b : ℕ) → a ≤ b → nat_le a b ≡ true
is_full a b h = grind (arith, nat_tests)

is_over : (a b : ℕ) → nat_lt a b ≡ true → a < b
is_over a b h = grind (arith, nat_tests)

-- a first line that is too long
long_first : (part : List ℕ) (parts : List (List ℕ)) (over ended : Bool)
    → line_bytes ≤ length part → (cut (part ∷ parts) over ended).stop ≡ Long
long_first part [] over ended long = rw (is_full line_bytes (length part) long) refl
long_first part (next ∷ more) over ended long = rw (is_full line_bytes (length part) long) refl

-- and one behind the first
long_behind : (p q : List ℕ) (parts : List (List ℕ)) (over ended : Bool)
    → (cut (q ∷ parts) over ended).stop ≡ Long → (cut (p ∷ q ∷ parts) over ended).stop ≡ Long
long_behind p q parts over ended e =
    let behind = with_lines (without_cr p ∷ []) (cut (q ∷ parts) over ended) in
    elim (nat_le line_bytes (length p)) as (λ b. (cond b (stopped Long) behind).stop ≡ Long) [ true ↦ refl | false ↦ e ]

-- the way in which the last part stops, where `full` says that it is too long
rest_run : (full over ended : Bool) (rest : List ℕ) → LineRun
rest_run full over ended rest =
    cond full (stopped Long) (cond over (stopped Over) (cond ended (last_line rest) (stopped Open)))

rest_long : (full over ended : Bool) (rest : List ℕ) → (rest_run full over ended rest).stop ≡ Long → full ≡ true
unfolding rest_run
rest_long true over ended rest e = refl
rest_long false true ended rest e = cc e
rest_long false false true [] e = cc e
rest_long false false true (b ∷ bs) e = cc e
rest_long false false false rest e = cc e

-- the first line is too long, or one behind it
long_step : (full : Bool) (text p q : List ℕ) (parts : List (List ℕ)) (run : LineRun) (over ended : Bool)
    → nat_le line_bytes (length text) ≡ full → length text ≤ length p
    → (run.stop ≡ Long → (cut (q ∷ parts) over ended).stop ≡ Long)
    → (cond full (stopped Long) (with_lines (without_cr text ∷ []) run)).stop ≡ Long
    → (cut (p ∷ q ∷ parts) over ended).stop ≡ Long
long_step true text p q parts run over ended is le behind e =
    let full : line_bytes ≤ length text = leb-true line_bytes (length text) is in
    long_first p (q ∷ parts) over ended (omega arith)
long_step false text p q parts run over ended is le behind e = long_behind p q parts over ended (behind e)

-- a line that is too long stays so, whatever more comes
long_stays : (parts longer : List (List ℕ)) (over ended over' ended' : Bool)
    → AreAsLong parts longer → (cut parts over ended).stop ≡ Long → (cut longer over' ended').stop ≡ Long
unfolding AreAsLong rest_run
long_stays [] longer over ended over' ended' h e = cc e
long_stays (part ∷ parts) [] over ended over' ended' h e = absurd h
long_stays (rest ∷ []) (p ∷ longer) over ended over' ended' h e =
    let is = rest_long (nat_le line_bytes (length rest)) over ended rest e in
    let full : line_bytes ≤ length rest = leb-true line_bytes (length rest) is in
    long_first p longer over' ended' (let le = h.0 in omega arith)
long_stays (text ∷ next ∷ more) (p ∷ []) over ended over' ended' h e = absurd h.1
long_stays (text ∷ next ∷ more) (p ∷ q ∷ longer) over ended over' ended' h e =
    let behind = long_stays (next ∷ more) (q ∷ longer) over ended over' ended' h.1 in
    let run = cut (next ∷ more) over ended in
    long_step (nat_le line_bytes (length text)) text p q longer run over' ended' refl h.0 behind e

-- ---- other ways to stop

-- the bytes stop whole only where the input ended, and over only where more bytes came than are looked at
IsWay : Stop → Bool → Bool → Type 0
IsWay Whole over ended = ended ≡ true
IsWay Open over ended = Unit {0}
IsWay Long over ended = Unit {0}
IsWay Over over ended = over ≡ true

rest_way : (full over ended : Bool) (rest : List ℕ) → IsWay (rest_run full over ended rest).stop over ended
unfolding IsWay rest_run
rest_way true over ended rest = tt
rest_way false true ended rest = refl
rest_way false false true [] = refl
rest_way false false true (b ∷ bs) = refl
rest_way false false false rest = tt

cut_way : (parts : List (List ℕ)) (over ended : Bool) → IsWay (cut parts over ended).stop over ended
unfolding IsWay rest_run
cut_way [] over ended = tt
cut_way (rest ∷ []) over ended = rest_way (nat_le line_bytes (length rest)) over ended rest
cut_way (text ∷ next ∷ more) over ended =
    let behind = with_lines (without_cr text ∷ []) (cut (next ∷ more) over ended) in
    let way = cut_way (next ∷ more) over ended in
    elim (nat_le line_bytes (length text)) as (λ b. IsWay (cond b (stopped Long) behind).stop over ended)
    [ true ↦ tt | false ↦ way ]

-- ---- of all bytes that were taken

taken_way : (taken : List ℕ) (ended : Bool)
    → IsWay (lines taken ended).stop (nat_lt most_bytes (0 + length taken)) ended
unfolding lines_behind
taken_way taken ended =
    cut_way (slice_split is_lf (take (most_bytes - 0) taken)) (nat_lt most_bytes (0 + length taken)) ended

pub whole_ended : (taken : List ℕ) (ended : Bool) → (lines taken ended).stop ≡ Whole → ended ≡ true
unfolding IsWay
whole_ended taken ended e =
    subst (λ s. IsWay s (nat_lt most_bytes (0 + length taken)) ended) e (taken_way taken ended)

pub over_long : (taken : List ℕ) (ended : Bool) → (lines taken ended).stop ≡ Over → most_bytes < length taken
unfolding IsWay
over_long taken ended e =
    let many = nat_lt most_bytes (0 + length taken) in
    let over : many ≡ true = subst (λ s. IsWay s many ended) e (taken_way taken ended) in
    omega (arith, is_over most_bytes (0 + length taken) over)

-- the lines of bytes that are all looked at
all_lines : (bytes : List ℕ) (ended : Bool) → length bytes ≤ most_bytes
    → lines bytes ended ≡ cut (slice_split is_lf bytes) (nat_lt most_bytes (0 + length bytes)) ended
unfolding lines_behind
all_lines bytes ended few =
    ap (λ xs. cut (slice_split is_lf xs) (nat_lt most_bytes (0 + length bytes)) ended)
    (take_all (most_bytes - 0) bytes (omega arith))

-- a line that is too long is so in the whole file, where that one isn't too long
pub line_stays_long : (taken rest : List ℕ) (ended : Bool) → length (taken ++ rest) ≤ most_bytes
    → (lines taken ended).stop ≡ Long → (lines (taken ++ rest) true).stop ≡ Long
line_stays_long taken rest ended few e =
    let front = all_lines taken ended (omega (arith, length-append taken rest)) in
    let whole = all_lines (taken ++ rest) true few in
    ap (λ (r : LineRun). r.stop) whole
    ∙ long_stays (slice_split is_lf taken) (slice_split is_lf (taken ++ rest)) _ ended _ true (parts_grow taken rest)
    (ap (λ (r : LineRun). r.stop) (sym front) ∙ e)
