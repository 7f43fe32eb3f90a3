-- The trades of a map of names to rows.
use Rattle.std.proofs.Common.{◌≡◌, ℕ, ◌+◌, ◌<◌, List, [], ◌∷◌, ◌++◌, length, get_or, take, slice_get, find, is_some, Option, Some, None, option_map, Bool, true, false, ◌||◌, cond, ◌==◌, if◌then◌else◌, zero, suc, refl, sym, ap, ◌∙◌}
use Rattle.std.specs.Bool.{one_answer}
use Rattle.std.specs.Ordering.{is_eq}
use Rattle.std.specs.Cmp.Lexicographic.{pointwise, bytes_decides}
use denote.Bor.{Bor}
use Rattle.std.specs.List.{list_any}
use Rattle.std.specs.Map.{lookup}
use Rattle.std.proofs.lemmas.Bool.{or_parts, or_from}
use Rattle.std.proofs.lemmas.List.{take_more}
use Rattle.std.proofs.lemmas.List.Folds.{list_any-append}
use Rattle.indexmap.specs.IndexSet.{insert_key}
use Rattle.std.proofs.lemmas.Cmp.{nat_list_cmp_total, tied_itself, eq_by_cmp_equiv}
use Rattle.std.proofs.lemmas.Map.Lookups.{exact_bytes}
use Rattle.std.proofs.lemmas.Map.Views.{tells_apart}
use Rattle.book_margin.specs.SimmKinds.declared.row.CrifRow.{CrifRow}
use Rattle.book_margin.specs.SimmKinds.declared.row.TradeRows.{TradeRows}
use Rattle.book_margin.specs.SimmKinds.Order.{same_name}
use Rattle.book_margin.specs.SimmKinds.Repeats.{repeats}
use Rattle.bucket_cache.specs.Live.{name_at, rows_named, is_current}
use Rattle.bucket_cache.specs.Entries.{trade_of, trades_of, lent_names, is_among}

pub same_name-refl : (a : List ℕ) → same_name a a ≡ true
same_name-refl a = ap is_eq (tied_itself nat_list_cmp_total a)

pub same_name-equal : (a b : List ℕ) → same_name a b ≡ true → a ≡ b
same_name-equal a b h = tells_apart exact_bytes a b h

pub same_name-sym : (a b : List ℕ) → same_name a b ≡ same_name b a
same_name-sym a b = (eq_by_cmp_equiv nat_list_cmp_total).symm a b

-- the test of a map's keys
pub key_test : (a b : List ℕ) → pointwise ◌==◌ a b ≡ same_name a b
key_test a b = one_answer (pointwise ◌==◌ a b) (same_name a b) (bytes_decides a b) (λ h. same_name-equal a b h, λ e. ap (same_name a) (sym e) ∙ same_name-refl a)

rows_first : (s t : Bool) (u : TradeRows) (a b : Option (List CrifRow)) (c : Option TradeRows) → s ≡ t → a ≡ option_map (λ (x : TradeRows). x.rows) c → cond s (Some u.rows) a ≡ option_map (λ (x : TradeRows). x.rows) (cond t (Some u) c)
rows_first true true u a b c e h = refl
rows_first true false u a b c e h = absurd (cc)
rows_first false true u a b c e h = absurd (cc)
rows_first false false u a b c e h = h

-- a look-up in the map
pub rows_named-trades_of : (name : List ℕ) (es : List (List ℕ × List CrifRow)) → lookup (pointwise ◌==◌ name) es ≡ rows_named (trades_of es) name
rows_named-trades_of name [] = refl
rows_named-trades_of name (e ∷ es) = rows_first (pointwise ◌==◌ name e.0) (same_name name e.0) (trade_of e) (lookup (pointwise ◌==◌ name) es) None (find (λ t. same_name name t.trade) (trades_of es)) (key_test name e.0) (rows_named-trades_of name es)

pub name_at-trades_of : (es : List (List ℕ × List CrifRow)) (i : ℕ) (e : List ℕ × List CrifRow) → Some e ≡ slice_get es i → Some e.0 ≡ name_at (trades_of es) (suc i)
name_at-trades_of [] i e h = absurd (cc)
name_at-trades_of (f ∷ es) zero e h = ap (option_map (λ (x : List ℕ × List CrifRow). x.0)) h
name_at-trades_of (f ∷ es) (suc i) e h = name_at-trades_of es i e h

pub name_at-beyond : (es : List (List ℕ × List CrifRow)) (i : ℕ) → None ≡ slice_get es i → None ≡ name_at (trades_of es) (suc i)
name_at-beyond [] i h = refl
name_at-beyond (f ∷ es) zero h = absurd (cc)
name_at-beyond (f ∷ es) (suc i) h = name_at-beyond es i h

found_first : (s t : Bool) (x : List CrifRow) (o : Option (List CrifRow)) (b : Bool) → s ≡ t → is_some o ≡ b → is_some (cond s (Some x) o) ≡ (t || b)
found_first true true x o b e h = refl
found_first false false x o b e h = h
found_first true false x o b e h = absurd (cc)
found_first false true x o b e h = absurd (cc)

pub is_current-trades_of : (name : List ℕ) (es : List (List ℕ × List CrifRow)) → is_some (lookup (pointwise ◌==◌ name) es) ≡ is_current (trades_of es) name
is_current-trades_of name [] = refl
is_current-trades_of name (e ∷ es) = found_first (pointwise ◌==◌ name e.0) (same_name name e.0) e.1 (lookup (pointwise ◌==◌ name) es) (is_current (trades_of es) name) (key_test name e.0) (is_current-trades_of name es)

pub is_among-by_eq : (name : List ℕ) (ks : List (Bor (List ℕ))) → list_any (λ k. pointwise ◌==◌ name k.now) ks ≡ is_among ks name
is_among-by_eq name [] = refl
is_among-by_eq name (k ∷ ks) = ap (λ b. b || list_any (λ l. pointwise ◌==◌ name l.now) ks) (key_test name k.now) ∙ ap (λ b. same_name name k.now || b) (is_among-by_eq name ks)

or_twice : (s t : Bool) → (t ≡ true → s ≡ true) → s ≡ (s || t)
or_twice true t h = refl
or_twice false false h = refl
or_twice false true h = h refl

or_end : (s t : Bool) → (s || (t || false)) ≡ (s || t)
or_end true t = refl
or_end false true = refl
or_end false false = refl

among_put : (t : Bool) (ks : List (Bor (List ℕ))) (k : Bor (List ℕ)) (name : List ℕ) → is_among ks k.now ≡ t → is_among (if t then ks else ks ++ k ∷ []) name ≡ (is_among ks name || same_name name k.now)
among_put true ks k name h =
    or_twice (is_among ks name) (same_name name k.now) (λ same. ap (is_among ks) (same_name-equal name k.now same) ∙ h)
among_put false ks k name h =
    list_any-append (λ (l : Bor (List ℕ)). same_name name l.now) ks (k ∷ []) ∙ or_end (is_among ks name) (same_name name k.now)

-- one more name in the set
pub is_among-insert_key : (ks : List (Bor (List ℕ))) (k : Bor (List ℕ)) (name : List ℕ) → is_among (insert_key (λ a b. pointwise ◌==◌ a.now b.now) ks k) name ≡ (is_among ks name || same_name name k.now)
is_among-insert_key ks k name =
    among_put (list_any (λ (l : Bor (List ℕ)). pointwise ◌==◌ k.now l.now) ks) ks k name (sym (is_among-by_eq k.now ks))

pub any_next : (name : List ℕ) (ns : List (List ℕ)) (i : ℕ) (n : List ℕ) → i < length ns → n ≡ get_or ns i n → list_any (same_name name) (take (i + 1) ns) ≡ (list_any (same_name name) (take i ns) || same_name name n)
any_next name ns i n h at =
    ap (list_any (same_name name)) (take_more ns i n h ∙ ap (λ x. take i ns ++ x ∷ []) (sym at)) ∙ list_any-append (same_name name) (take i ns) (n ∷ [])
    ∙ or_end (list_any (same_name name) (take i ns)) (same_name name n)

-- ---- different names

none_behind : (k name : List ℕ) (ks : List (List ℕ)) → list_any (same_name name) ks ≡ false → same_name name k ≡ false → list_any (same_name name) (ks ++ k ∷ []) ≡ false
none_behind k name ks h other = list_any-append (same_name name) ks (k ∷ []) ∙ or_from (list_any (same_name name) ks) (same_name name k || false) h (ap (λ b. b || false) other)

-- a name that is not among them, behind them
one_behind : (ks : List (List ℕ)) (k : List ℕ) → list_any (same_name k) ks ≡ false → repeats same_name ks ≡ false → repeats same_name (ks ++ k ∷ []) ≡ false
one_behind [] k new once = refl
one_behind (n ∷ ks) k new once =
    let here = or_parts (same_name k n) (list_any (same_name k) ks) new in
    let parts = or_parts (list_any (same_name n) ks) (repeats same_name ks) once in
    or_from (list_any (same_name n) (ks ++ k ∷ [])) (repeats same_name (ks ++ k ∷ [])) (none_behind k n ks parts.0 (same_name-sym n k ∙ here.0)) (one_behind ks k here.1 parts.1)

lent_push : (ks : List (Bor (List ℕ))) (k : Bor (List ℕ)) → lent_names (ks ++ k ∷ []) ≡ lent_names ks ++ k.now ∷ []
lent_push [] k = refl
lent_push (n ∷ ks) k = ap (λ ns. n.now ∷ ns) (lent_push ks k)

pub among_lent : (name : List ℕ) (ks : List (Bor (List ℕ))) → list_any (same_name name) (lent_names ks) ≡ is_among ks name
among_lent name [] = refl
among_lent name (k ∷ ks) = ap (λ b. same_name name k.now || b) (among_lent name ks)

different_put : (t : Bool) (ks : List (Bor (List ℕ))) (k : Bor (List ℕ)) → is_among ks k.now ≡ t → repeats same_name (lent_names ks) ≡ false → repeats same_name (lent_names (if t then ks else ks ++ k ∷ [])) ≡ false
different_put true ks k e h = h
different_put false ks k e h = ap (repeats same_name) (lent_push ks k) ∙ one_behind (lent_names ks) k.now (among_lent k.now ks ∙ e) h

-- the names of a set stay different
pub different-insert_key : (ks : List (Bor (List ℕ))) (k : Bor (List ℕ)) → repeats same_name (lent_names ks) ≡ false → repeats same_name (lent_names (insert_key (λ a b. pointwise ◌==◌ a.now b.now) ks k)) ≡ false
different-insert_key ks k h = different_put (list_any (λ (l : Bor (List ℕ)). pointwise ◌==◌ k.now l.now) ks) ks k (sym (is_among-by_eq k.now ks)) h
