-- A read of a record takes the first of the records that are left.
use Rattle.std.proofs.Common.{◌≡◌, ◌==◌, ◌&&◌, ◌∷◌, [], ℕ, suc, zero, ◌+◌, ◌<◌, ◌≤◌, ◌⊎◌, inl, inr, Bool, true, false, cond, List, length, Option, Some, None, IsSome, refl, ap, subst, arith, add-one}
use Rattle.std.specs.Borrow.{Bor}
use Rattle.std.proofs.lemmas.Option.{cond_some}
use Rattle.csv.specs.Machine.{Read, step, start_record, start_field, in_field, ends_with, after_end, is_end, ends_at_end, next_record, fields_after, field_after, is_byte, line_feed, carriage_return}
use Rattle.csv.specs.Reading.{records_from, records_next, Reached, ReadRecord}
use Rattle.csv.specs.declared.parser.Action.{Action}
use Rattle.csv.specs.declared.parser.Config.{Config}
use Rattle.csv.specs.declared.parser.State.{State}
use Rattle.csv.specs.declared.parser.State.TheVariants as st
use Rattle.csv.specs.declared.parser.Terminator.{Terminator}
use Rattle.csv.specs.declared.parser.Terminator.TheVariants as term
use Rattle.csv.specs.declared.reader.Reader.{Reader}
use Rattle.csv.proofs.ReadFacts.{rows-more, rows-end}
use Rattle.crif_records.specs.Records.{records_after, reader_left, source_left}

-- ---- the machine stands between records once one is over

abbrev IsBetween : State × Action → Type 0
IsBetween next = is_end next.1 ≡ true → ends_at_end next.0 ≡ false

chosen : (b : Bool) (x y : State × Action) → IsBetween x → IsBetween y → IsBetween (cond b x y)
chosen true x y h k = h
chosen false x y h k = k

after_end-between : (t : Terminator) (c : ℕ) → ends_at_end (after_end t c) ≡ false
after_end-between term.CRLF c = elim (c == carriage_return) as (λ b. ends_at_end (cond b st.AfterCr st.StartRecord) ≡ false) [ true ↦ refl | false ↦ refl ]
after_end-between (term.Any t) c = refl

in_field-between : (config : Config) (c : ℕ) → IsBetween (in_field config c)
in_field-between config c = chosen (c == config.delimiter) _ _ (λ h. cc) (chosen (ends_with config.terminator c) _ _ (λ h. after_end-between config.terminator c) (λ h. cc))

start_field-between : (config : Config) (c : ℕ) → IsBetween (start_field config c)
start_field-between config c = chosen (config.quoting && (c == config.quote)) _ _ (λ h. cc) (in_field-between config c)

start_record-between : (config : Config) (c : ℕ) → IsBetween (start_record config c)
start_record-between config c = chosen (ends_with config.terminator c) _ _ (λ h. cc) (chosen (is_byte config.comment c) _ _ (λ h. cc) (start_field-between config c))

step-between : (config : Config) (s : State) (c : ℕ) → IsBetween (step config s c)
step-between config st.StartRecord c = start_record-between config c
step-between config st.StartField c = start_field-between config c
step-between config st.InField c = in_field-between config c
step-between config st.InQuoted c = chosen (config.quoting && (c == config.quote)) _ _ (λ h. cc) (chosen (config.quoting && is_byte config.escape c) _ _ (λ h. cc) (λ h. cc))
step-between config st.InEscape c = λ h. cc
step-between config st.AfterQuote c = chosen (config.quoting && config.double_quote && (c == config.quote)) _ _ (λ h. cc) (in_field-between config c)
step-between config st.InComment c = chosen (c == line_feed) _ _ (λ h. cc) (λ h. cc)
step-between config st.AfterCr c = chosen (c == line_feed) _ _ (λ h. cc) (start_record-between config c)

-- ---- a record takes bytes

-- between records, with at most so many bytes left
record IsAfter (most : ℕ) (p : Read) : Type 0 where
  between : ends_at_end p.1 ≡ false
  few : length p.2 ≤ most

either : (b : Bool) (x y : Option Read) (p : Read) → cond b x y ≡ Some p → ((b ≡ true) × (x ≡ Some p)) ⊎ ((b ≡ false) × (y ≡ Some p))
either true x y p e = inl (refl, e)
either false x y p e = inr (refl, e)

same_read : (x p : Read) → Some x ≡ Some p → x ≡ p
same_read x p e = cc

after_nothing : (config : Config) (s : State) (fields : List (List ℕ)) (field : List ℕ) (p : Read) → next_record config s fields field [] ≡ Some p → IsAfter 0 p
unfolding next_record
after_nothing config s fields field p e = subst (IsAfter 0) (cond_some (ends_at_end s) _ p e).1 (record { between = refl; few = omega arith })

after_bytes : (config : Config) (s : State) (fields : List (List ℕ)) (field : List ℕ) (c : ℕ) (rest : List ℕ) (p : Read) → next_record config s fields field (c ∷ rest) ≡ Some p → IsAfter (length rest) p
unfolding next_record
after_bytes config s fields field c [] p e =
    elim (either (is_end (step config s c).1) _ _ p e) [
      | inl h ↦ subst (IsAfter 0) (same_read _ p h.1) (record { between = step-between config s c h.0; few = omega arith })
      | inr h ↦ after_nothing config (step config s c).0 (fields_after (step config s c).1 fields field) (field_after (step config s c).1 c field) p h.1
    ]
after_bytes config s fields field c (d ∷ rest) p e =
    elim (either (is_end (step config s c).1) _ _ p e) [
      | inl h ↦ subst (IsAfter (length (d ∷ rest))) (same_read _ p h.1) (record { between = step-between config s c h.0; few = omega arith })
      | inr h ↦
          let next = after_bytes config (step config s c).0 (fields_after (step config s c).1 fields field) (field_after (step config s c).1 c field) d rest p h.1 in
          record { between = next.between; few = omega (arith, next.few) }
    ]

-- from between two records at least one byte is taken
record IsShorter (bytes : List ℕ) (p : Read) : Type 0 where
  between : ends_at_end p.1 ≡ false
  fewer : length p.2 < length bytes

shorter : (config : Config) (s : State) (bytes : List ℕ) (p : Read) → ends_at_end s ≡ false → next_record config s [] [] bytes ≡ Some p → IsShorter bytes p
unfolding next_record
shorter config s [] p h e = absurd (cc (rw h at e))
shorter config s (c ∷ rest) p h e = let next = after_bytes config s [] [] c rest p e in record { between = next.between; fewer = omega (arith, next.few) }

-- ---- the records of bytes

next_same : (f g : State → List ℕ → List (List (List ℕ))) (o : Option Read) → ((p : Read) → o ≡ Some p → f p.1 p.2 ≡ g p.1 p.2) → records_next f o ≡ records_next g o
next_same f g None h = refl
next_same f g (Some p) h = ap (λ (rs : List (List (List ℕ))). p.0 ∷ rs) (h p refl)

-- more turns than bytes find no more records
enough : (config : Config) (n m : ℕ) (s : State) (bytes : List ℕ) → ends_at_end s ≡ false → length bytes < n → length bytes < m → records_from config n s bytes ≡ records_from config m s bytes
unfolding records_from
enough config zero m s bytes h a b = absurd (omega arith)
enough config (suc n) zero s bytes h a b = absurd (omega arith)
enough config (suc n) (suc m) s bytes h a b =
    next_same (records_from config n) (records_from config m) (next_record config s [] [] bytes) (λ p e.
    let next = shorter config s bytes p h e in
    enough config n m p.1 p.2 next.between (omega (arith, next.fewer)) (omega (arith, next.fewer)))

pub record TakesFirst (config : Config) (s : State) (bytes : List ℕ) (fields : List (List ℕ)) (after : State) (rest : List ℕ) : Type 0 where
  pub records : records_after config s (Some bytes) ≡ fields ∷ records_after config after (Some rest)
  pub between : ends_at_end after ≡ false

pub takes_first : (config : Config) (s : State) (bytes : List ℕ) (fields : List (List ℕ)) (p : Read) → ends_at_end s ≡ false → next_record config s [] [] bytes ≡ Some p → fields ≡ p.0 → TakesFirst config s bytes fields p.1 p.2
unfolding records_from
takes_first config s bytes fields p h e f =
    let next = shorter config s bytes p h e in
    record {
      records = rw (add-one (length bytes), e, f) (ap (λ (rs : List (List (List ℕ))). p.0 ∷ rs) (enough config (length bytes) (length p.2 + 1) p.1 p.2 next.between next.fewer (omega arith)));
      between = next.between;
    }

pub none_left : (config : Config) (s : State) (bytes : List ℕ) → next_record config s [] [] bytes ≡ None → records_after config s (Some bytes) ≡ []
unfolding records_from
none_left config s bytes e = rw (add-one (length bytes), e) refl

-- ---- what a reader has left

known_bytes : (o : Option (List ℕ)) → IsSome o → (bytes : List ℕ) × (o ≡ Some bytes)
known_bytes None h = cc
known_bytes (Some bytes) h = (bytes, refl)

pub record LeavesRest (old new : Reader (Bor (List ℕ))) (fields : List (List ℕ)) : Type 0 where
  pub records : reader_left old ≡ fields ∷ reader_left new
  pub between : ends_at_end new.state ≡ false
  pub known : IsSome (source_left new)

-- one record was read
record ReadsOne (config : Config) (s : State) (bytes : List ℕ) (fields : List (List ℕ)) (after : State) (rest : List ℕ) : Type 0 where
  read : Read
  next : next_record config s [] [] bytes ≡ Some read
  same : fields ≡ read.0
  state : read.1 ≡ after
  left : read.2 ≡ rest

reads_one : (config : Config) (s : State) (bytes : List ℕ) (fields : List (List ℕ)) (after : State) (rest : List ℕ) → Reached config s bytes (fields ∷ []) after rest → ReadsOne config s bytes fields after rest
unfolding Reached
reads_one config s bytes fields after rest h = record { read = h.0; next = h.1; same = h.2; state = h.3.0; left = h.3.1 }

same_records : (config other : Config) (s after : State) (source left : Option (List ℕ)) (bytes rest : List ℕ) (fields : List (List ℕ)) → source ≡ Some bytes → left ≡ Some rest → other ≡ config
    → records_after config s (Some bytes) ≡ fields ∷ records_after config after (Some rest) → records_after config s source ≡ fields ∷ records_after other after left
same_records config other s after source left bytes rest fields e f g h = rw (e, f, g) h

pub first_taken : (old new : Reader (Bor (List ℕ))) (fields : List (List ℕ)) → ends_at_end old.state ≡ false → IsSome (source_left old) → ReadRecord (λ (s : Bor (List ℕ)). Some s.now) old new true fields → LeavesRest old new fields
unfolding Reached reader_left
first_taken old new fields h known r =
    let k = known_bytes (source_left old) known in
    let more = rows-more (λ (s : Bor (List ℕ)). Some s.now) old new fields old.config old.state k.0 k.0 [] refl k.1 (refl, refl) r in
    let one = reads_one old.config old.state k.0 fields new.state more.0 more.2 in
    let first = takes_first old.config old.state k.0 fields one.read h one.next one.same in
    record {
      records = same_records old.config new.config old.state new.state (source_left old) (source_left new) k.0 more.0 fields k.1 more.1 r.2 (rw (one.state, one.left) at first.records);
      between = rw one.state at first.between;
      known = rw more.1 refl;
    }

pub none_taken : (old new : Reader (Bor (List ℕ))) (fields : List (List ℕ)) → IsSome (source_left old) → ReadRecord (λ (s : Bor (List ℕ)). Some s.now) old new false fields → reader_left old ≡ []
unfolding reader_left
none_taken old new fields known r =
    let k = known_bytes (source_left old) known in
    rw k.1 (none_left old.config old.state k.0 (rows-end (λ (s : Bor (List ℕ)). Some s.now) old new fields old.config k.0 refl k.1 r))
