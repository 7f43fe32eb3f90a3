-- The place of a trade among trades, through a change of one of them and a new one behind them, and the newest that stands apart.
use Rattle.std.proofs.Common.{◌≡◌, ◌≢◌, ◌∷◌, [], ◌++◌, ℕ, suc, zero, ◌<◌, ◌==◌, Bool, true, false, cond, inl, inr, List, length, get_or, set, Option, Some, None, option_map, unwrap_or, refl, ap, sym, ◌∙◌, arith}
use Rattle.std.specs.Bool.{one_answer}
use Rattle.std.specs.Cmp.Lexicographic.{pointwise, bytes_decides}
use Rattle.std.specs.Map.{lookup}
use Rattle.std.specs.Str.{bytes_eq}
use Rattle.std.proofs.lemmas.Map.Text.{is_eq-slice_cmp}
use Rattle.std.proofs.lemmas.List.{append-nil}
use Rattle.std.proofs.lemmas.Bool.{cases_Bool}
use Rattle.std.proofs.lemmas.Slice.Eq.{bytes_eq-Decides}
use Rattle.std.proofs.lemmas.Bool.Decides.{same_from_decides}
use Rattle.crif_records.specs.SimmKinds.declared.row.CrifRow.{CrifRow}
use Rattle.crif_records.specs.SimmKinds.declared.row.TradeRows.{TradeRows}
use Rattle.crif_records.specs.SimmKinds.Order.{same_name}
use Rattle.crif_reader.specs.declared.gather.Gathering.{Gathering}
use Rattle.crif_reader.specs.Row.{Entry}
use Rattle.crif_reader.specs.Growth.{with_entry, place_of, noted_at, is_newest, newest_of, grown, IsApart, IsIndex}

-- ---- names

pub same_name-equal : (a b : List ℕ) → same_name a b ≡ true → a ≡ b
same_name-equal a b h = (bytes_eq-Decides a b).0 (sym (is_eq-slice_cmp a b) ∙ h)

pub same_name-refl : (a : List ℕ) → same_name a a ≡ true
same_name-refl a = is_eq-slice_cmp a a ∙ (bytes_eq-Decides a a).1 refl

pub same_name-bytes_eq : (a b : List ℕ) → same_name a b ≡ bytes_eq b a
same_name-bytes_eq a b = is_eq-slice_cmp a b ∙ same_from_decides {P = a ≡ b} (bytes_eq a b) (bytes_eq b a) (bytes_eq-Decides a b) (λ h. sym ((bytes_eq-Decides b a).0 h), λ e. (bytes_eq-Decides b a).1 (sym e))

pub same_name_comm : (a b : List ℕ) → same_name a b ≡ same_name b a
same_name_comm a b = same_name-bytes_eq a b ∙ sym (is_eq-slice_cmp b a)

-- ---- a trade that is there

-- the trade with one more row
abbrev pub longer : TradeRows → Entry → TradeRows
longer t entry = record { trade = t.trade; rows = t.rows ++ entry.row ∷ [] }

record IsAt (ts : List TradeRows) (entry : Entry) (place : ℕ) : Type 0 where
  within : place < length ts
  after : (t : TradeRows) → t ≡ get_or ts place t → with_entry ts entry ≡ set ts place (longer t entry)

place-cons : (b : Bool) (o : Option ℕ) (place : ℕ) → cond b (Some 0) (option_map (λ n. suc n) o) ≡ Some place → (P : Type 0) → (b ≡ true → place ≡ 0 → P) → ((n : ℕ) → b ≡ false → o ≡ Some n → place ≡ suc n → P) → P
place-cons true o place e P here there = here refl cc
place-cons false None place e P here there = cc
place-cons false (Some n) place e P here there = there n refl refl cc

found_there : (ts : List TradeRows) (entry : Entry) (place : ℕ) → place_of entry.trade ts ≡ Some place → IsAt ts entry place
found_there [] entry place e = cc
found_there (t ∷ ts) entry place e = place-cons (same_name entry.trade t.trade) (place_of entry.trade ts) place e (IsAt (t ∷ ts) entry place)
    (λ b z. record { within = omega arith; after = λ u h. rw (b, z) (ap (λ (x : TradeRows). longer x entry ∷ ts) (rw z at (sym h))) })
    (λ n b o z. let next = found_there ts entry n o in record { within = omega (arith, next.within); after = λ u h. rw (b, z) (ap (λ (x : List TradeRows). t ∷ x) (next.after u (rw z at h))) })

-- the trades behind those stay
with_entry_before : (ts others : List TradeRows) (entry : Entry) (place : ℕ) → place_of entry.trade ts ≡ Some place → with_entry (ts ++ others) entry ≡ with_entry ts entry ++ others
with_entry_before [] others entry place e = cc
with_entry_before (t ∷ ts) others entry place e = place-cons (same_name entry.trade t.trade) (place_of entry.trade ts) place e _
    (λ b z. rw b refl)
    (λ n b o z. rw b (ap (λ (x : List TradeRows). t ∷ x) (with_entry_before ts others entry n o)))

-- a trade with the same name changes no place
pub place_of-set : (name : List ℕ) (ts others : List TradeRows) (place : ℕ) (t u : TradeRows) → t ≡ get_or ts place t → u.trade ≡ t.trade → place_of name (set ts place u ++ others) ≡ place_of name (ts ++ others)
place_of-set name [] others place t u h e = refl
place_of-set name (v ∷ ts) others zero t u h e = rw (e ∙ ap (λ (x : TradeRows). x.trade) h) refl
place_of-set name (v ∷ ts) others (suc place) t u h e = ap (λ o. cond (same_name name v.trade) (Some 0) (option_map (λ n. suc n) o)) (place_of-set name ts others place t u h e)

-- where the name is that of a trade, its place is noted already
pub found_again : (trade name : List ℕ) (ts : List TradeRows) (place : ℕ) → place_of trade ts ≡ Some place → cond (same_name trade name) (Some place) (place_of name ts) ≡ place_of name ts
found_again trade name ts place e = elim (cases_Bool (same_name trade name)) [
  | inl here ↦ rw here (sym e ∙ ap (λ n. place_of n ts) (same_name-equal trade name here))
  | inr apart ↦ rw apart refl
]

-- ---- a new trade

nowhere-cons : (b : Bool) (o : Option ℕ) → cond b (Some 0) (option_map (λ n. suc n) o) ≡ None → (b ≡ false) × (o ≡ None)
nowhere-cons true o e = cc
nowhere-cons false None e = (refl, refl)
nowhere-cons false (Some n) e = cc

with_entry_new : (ts : List TradeRows) (entry : Entry) → place_of entry.trade ts ≡ None → with_entry ts entry ≡ ts ++ record { trade = entry.trade; rows = entry.row ∷ [] } ∷ []
with_entry_new [] entry e = refl
with_entry_new (t ∷ ts) entry e =
    let parts = nowhere-cons (same_name entry.trade t.trade) (place_of entry.trade ts) e in
    rw parts.0 (ap (λ (x : List TradeRows). t ∷ x) (with_entry_new ts entry parts.1))

-- the name is that of the new trade, or it isn't
push_step : (new here : Bool) (n : ℕ) (o : Option ℕ) → (new ≡ true → here ≡ false) → cond here (Some 0) (option_map (λ n. suc n) (cond new (Some n) o)) ≡ cond new (Some (suc n)) (cond here (Some 0) (option_map (λ n. suc n) o))
push_step true here n o apart = rw (apart refl) refl
push_step false here n o apart = refl

place_of-push : (name : List ℕ) (ts : List TradeRows) (t : TradeRows) → place_of t.trade ts ≡ None → place_of name (ts ++ t ∷ []) ≡ cond (same_name t.trade name) (Some (length ts)) (place_of name ts)
place_of-push name [] t e = ap (λ b. cond b (Some 0) None) (same_name_comm name t.trade)
place_of-push name (u ∷ ts) t e =
    let parts = nowhere-cons (same_name t.trade u.trade) (place_of t.trade ts) e in
    ap (λ o. cond (same_name name u.trade) (Some 0) (option_map (λ n. suc n) o)) (place_of-push name ts t parts.1)
    ∙ push_step (same_name t.trade name) (same_name name u.trade) (length ts) (place_of name ts)
    (λ yes. let same : name ≡ t.trade = sym (same_name-equal t.trade name yes) in rw same parts.0)

-- what is looked up with the end of the trades for a name that none of them has
pub record IsPlaceOrEnd (ts : List TradeRows) (name : List ℕ) (place : ℕ) : Type 0 where
  pub nowhere : place ≡ length ts → place_of name ts ≡ None
  pub there : place ≢ length ts → place_of name ts ≡ Some place

pub within : (ts : List TradeRows) (name : List ℕ) (place : ℕ) → place_of name ts ≡ Some place → place < length ts
within [] name place e = cc
within (t ∷ ts) name place e = place-cons (same_name name t.trade) (place_of name ts) place e (place < length (t ∷ ts))
    (λ b z. omega (arith, z))
    (λ n b o z. omega (arith, z, within ts name n o))

or_end : (o : Option ℕ) (end place : ℕ) → ((n : ℕ) → o ≡ Some n → n < end) → place ≡ unwrap_or o end → (place ≡ end → o ≡ None) × (place ≢ end → o ≡ Some place)
or_end None end place h e = (λ at_end. refl, λ apart. absurd (apart e))
or_end (Some n) end place h e = (λ at_end. absurd (omega (arith, e, at_end, h n refl)), λ apart. ap Some (sym e))

place_or_end : (ts : List TradeRows) (name : List ℕ) (place : ℕ) → place ≡ unwrap_or (place_of name ts) (length ts) → IsPlaceOrEnd ts name place
place_or_end ts name place e = let cases = or_end (place_of name ts) (length ts) place (λ n. within ts name n) e in record { nowhere = cases.0; there = cases.1 }

-- ---- the newest trade stands apart

-- one more row of it
pub with_entry_newest : (ts : List TradeRows) (newest : Option (List ℕ)) (rows : List CrifRow) (entry : Entry) → IsApart ts newest rows → is_newest newest entry.trade ≡ true
    → with_entry (ts ++ newest_of newest rows) entry ≡ ts ++ newest_of newest (rows ++ entry.row ∷ [])
with_entry_newest ts None rows entry apart is = cc
with_entry_newest [] (Some n) rows entry apart is = rw is refl
with_entry_newest (t ∷ ts) (Some n) rows entry apart is =
    let parts = nowhere-cons (same_name n t.trade) (place_of n ts) apart in
    let other : same_name entry.trade t.trade ≡ false = ap (λ x. same_name x t.trade) (same_name-equal entry.trade n is) ∙ parts.0 in
    rw other (ap (λ (x : List TradeRows). t ∷ x) (with_entry_newest ts (Some n) rows entry parts.1 is))

pub place_of-newest : (name : List ℕ) (ts : List TradeRows) (newest : Option (List ℕ)) (rows more : List CrifRow) → place_of name (ts ++ newest_of newest more) ≡ place_of name (ts ++ newest_of newest rows)
place_of-newest name [] None rows more = refl
place_of-newest name [] (Some n) rows more = refl
place_of-newest name (t ∷ ts) newest rows more = ap (λ o. cond (same_name name t.trade) (Some 0) (option_map (λ n. suc n) o)) (place_of-newest name ts newest rows more)

pub apart_more : (ts : List TradeRows) (newest : Option (List ℕ)) (rows more : List CrifRow) (name : List ℕ) → is_newest newest name ≡ true → IsApart ts newest rows → IsApart ts newest more
apart_more ts None rows more name is apart = cc
apart_more ts (Some n) rows more name is apart = apart

pub apart-set : (ts : List TradeRows) (newest : Option (List ℕ)) (rows : List CrifRow) (place : ℕ) (t u : TradeRows) → t ≡ get_or ts place t → u.trade ≡ t.trade → IsApart ts newest rows → IsApart (set ts place u) newest rows
apart-set ts None rows place t u h e apart = apart
apart-set ts (Some n) rows place t u h e apart =
    ap (place_of n) (sym (append-nil (set ts place u))) ∙ place_of-set n ts [] place t u h e ∙ ap (place_of n) (append-nil ts) ∙ apart

-- another name that is found is that of a trade before it
found_before : (name : List ℕ) (ts : List TradeRows) (newest : Option (List ℕ)) (rows : List CrifRow) (place : ℕ) → is_newest newest name ≡ false → place_of name (ts ++ newest_of newest rows) ≡ Some place → place_of name ts ≡ Some place
found_before name [] None rows place other e = e
found_before name [] (Some n) rows place other e = cc (rw other at e)
found_before name (t ∷ ts) newest rows place other e = place-cons (same_name name t.trade) (place_of name (ts ++ newest_of newest rows)) place e _
    (λ b z. rw (b, z) refl)
    (λ n b o z. rw (b, found_before name ts newest rows n other o, z) refl)

-- ---- what one more row makes of what is gathered

-- where its trade is there, and isn't the newest
pub record IsThere (ts : List TradeRows) (newest : Option (List ℕ)) (rows : List CrifRow) (entry : Entry) (place : ℕ) : Type 0 where
  pub inside : place < length ts
  pub after : (t : TradeRows) → t ≡ get_or ts place t → set ts place (longer t entry) ++ newest_of newest rows ≡ with_entry (ts ++ newest_of newest rows) entry

pub found_elsewhere : (ts : List TradeRows) (newest : Option (List ℕ)) (rows : List CrifRow) (entry : Entry) (place : ℕ) → is_newest newest entry.trade ≡ false → place_of entry.trade (ts ++ newest_of newest rows) ≡ Some place → IsThere ts newest rows entry place
found_elsewhere ts newest rows entry place other e =
    let before = found_before entry.trade ts newest rows place other e in
    let at = found_there ts entry place before in
    record {
      inside = at.within;
      after = λ t h. ap (λ (x : List TradeRows). x ++ newest_of newest rows) (sym (at.after t h)) ∙ sym (with_entry_before ts (newest_of newest rows) entry place before);
    }

-- where it has a new trade
pub grown_new : (ts made : List TradeRows) (entry : Entry) (trade : List ℕ) (rows : List CrifRow) → place_of entry.trade ts ≡ None → made ≡ ts → trade ≡ entry.trade → rows ≡ entry.row ∷ [] → made ++ record { trade = trade; rows = rows } ∷ [] ≡ with_entry ts entry
grown_new ts made entry trade rows nowhere m t r = rw (m, t, r) (sym (with_entry_new ts entry nowhere))

pub place_of-new : (name : List ℕ) (ts made : List TradeRows) (trade new : List ℕ) (rows : List CrifRow) (place : ℕ) → place_of trade ts ≡ None → made ≡ ts → new ≡ trade → place ≡ length ts
    → cond (same_name trade name) (Some place) (place_of name ts) ≡ place_of name (made ++ record { trade = new; rows = rows } ∷ [])
place_of-new name ts made trade new rows place nowhere m t p = rw (m, t, p) (sym (place_of-push name ts (record { trade = trade; rows = rows }) nowhere))

-- ---- the map of places

-- the test of its keys
key_test : (a b : List ℕ) → pointwise ◌==◌ a b ≡ same_name a b
key_test a b = one_answer (pointwise ◌==◌ a b) (same_name a b) (bytes_decides a b) (λ h. same_name-equal a b h, λ e. ap (same_name a) (sym e) ∙ same_name-refl a)

-- a look-up in it
pub found : (name : List ℕ) (places : List (List ℕ × ℕ)) → lookup (pointwise ◌==◌ name) places ≡ noted_at places name
found name [] = refl
found name (p ∷ ps) = ap (λ t. cond t (Some p.1) (lookup (pointwise ◌==◌ name) ps)) (key_test name p.0) ∙ ap (cond (same_name name p.0) (Some p.1)) (found name ps)

-- and one more place
pub found_more : (key trade name : List ℕ) (old new : List (List ℕ × ℕ)) (place : ℕ) → key ≡ trade → lookup (pointwise ◌==◌ name) new ≡ cond (pointwise ◌==◌ key name) (Some place) (lookup (pointwise ◌==◌ name) old)
    → noted_at new name ≡ cond (same_name trade name) (Some place) (noted_at old name)
found_more key trade name old new place same updated =
    sym (found name new) ∙ updated
    ∙ ap (λ t. cond t (Some place) (lookup (pointwise ◌==◌ name) old)) (key_test key name ∙ ap (λ k. same_name k name) same)
    ∙ ap (cond (same_name trade name) (Some place)) (found name old)

-- what is looked up in the index
pub looked_up : (g : Gathering) (name : List ℕ) (place count : ℕ) → IsIndex g → count ≡ length (grown g) → place ≡ unwrap_or (noted_at g.places.entries name) count → IsPlaceOrEnd (grown g) name place
looked_up g name place count index c p = place_or_end (grown g) name place (p ∙ ap (λ o. unwrap_or o count) (index.found name) ∙ ap (unwrap_or (place_of name (grown g))) c)
