-- A batch put into a book trade by trade is the book with its rows renewed, and then the trades that are new.
use Rattle.std.proofs.Common.{◌≡◌, ℕ, List, [], ◌∷◌, ◌++◌, Bool, true, false, ◌||◌, not, cond, map, refl, sym, ap, ◌∙◌, append_assoc, append-nil}
use Rattle.std.proofs.lemmas.List.{map-append}
use Rattle.std.specs.List.{filter, AllByRecursion}
use Rattle.std.proofs.lemmas.Bool.{false≢true, or_parts, or_from}
use Rattle.std.proofs.lemmas.List.Folds.{list_any-append}
use Rattle.set_core.proofs.Filters.{filter_agrees, each_always}
use Rattle.collateral_ledger.specs.SimmKinds.declared.row.TradeRows.{TradeRows}
use Rattle.collateral_ledger.specs.SimmKinds.Order.{same_name}
use Rattle.bucket_cache.specs.Live.{put_trade, put_trades, is_current as has_trade}
use Rattle.set_core.specs.Book.{Word, Given, Taken, Silent, word_of_batch}
use Rattle.set_core.specs.Kept.{AreDifferent}
use Rattle.set_core.proofs.Names.{one_name, same_name_sym}

-- a trade after a batch
abbrev pub renewed_by : Word → TradeRows → TradeRows
renewed_by (Given rows) t = record t { rows = rows }
renewed_by _ t = t

abbrev pub renewed : List TradeRows → TradeRows → TradeRows
renewed batch t = renewed_by (word_of_batch t.trade batch) t

-- the trades of a batch that a book hasn't
abbrev pub new_in : List TradeRows → List TradeRows → List TradeRows
new_in book batch = filter (λ t. not (has_trade book t.trade)) batch

-- ---- names of trades

same_trade : (w : Word) (t : TradeRows) → (renewed_by w t).trade ≡ t.trade
same_trade (Given rows) t = refl
same_trade Taken t = refl
same_trade Silent t = refl

pub map_agrees : {X Y : Type 0} (f g : X → Y) (xs : List X) → AllByRecursion (λ x. f x ≡ g x) xs → map f xs ≡ map g xs
map_agrees f g [] h = refl
map_agrees f g (x ∷ xs) h = ap (λ y. y ∷ map f xs) h.0 ∙ ap (λ ys. g x ∷ ys) (map_agrees f g xs h.1)

pub map-map : {X Y Z : Type 0} (f : X → Y) (g : Y → Z) (xs : List X) → map g (map f xs) ≡ map (λ x. g (f x)) xs
map-map f g [] = refl
map-map f g (x ∷ xs) = ap (λ ys. g (f x) ∷ ys) (map-map f g xs)

pub map_same : {X : Type 0} (f : X → X) (xs : List X) → AllByRecursion (λ x. f x ≡ x) xs → map f xs ≡ xs
map_same f [] h = refl
map_same f (x ∷ xs) h = ap (λ y. y ∷ map f xs) h.0 ∙ ap (λ ys. x ∷ ys) (map_same f xs h.1)

-- a map that keeps the names of trades
pub has_trade-map : (f : TradeRows → TradeRows) → ((t : TradeRows) → (f t).trade ≡ t.trade) → (ts : List TradeRows) (name : List ℕ) → has_trade (map f ts) name ≡ has_trade ts name
has_trade-map f keeps [] name = refl
has_trade-map f keeps (t ∷ ts) name = ap (λ n. same_name name n || has_trade (map f ts) name) (keeps t) ∙ ap (λ s. same_name name t.trade || s) (has_trade-map f keeps ts name)

pub different-map : (f : TradeRows → TradeRows) → ((t : TradeRows) → (f t).trade ≡ t.trade) → (ts : List TradeRows) → AreDifferent ts → AreDifferent (map f ts)
different-map f keeps [] d = tt
different-map f keeps (t ∷ ts) d = (ap (has_trade (map f ts)) (keeps t) ∙ has_trade-map f keeps ts t.trade ∙ d.0, different-map f keeps ts d.1)

-- what a batch says of a name that it hasn't
pub silent_of : (name : List ℕ) (batch : List TradeRows) → has_trade batch name ≡ false → word_of_batch name batch ≡ Silent
silent_of name [] h = refl
silent_of name (t ∷ batch) h =
    let parts = or_parts (same_name name t.trade) (has_trade batch name) h in
    ap (λ s. cond s (Given t.rows) (word_of_batch name batch)) parts.0 ∙ silent_of name batch parts.1

-- ---- one trade put in

abbrev pub renewed_one : TradeRows → TradeRows → TradeRows
renewed_one t u = renewed (t ∷ []) u

stays_same : (t : TradeRows) (us : List TradeRows) → has_trade us t.trade ≡ false → map (renewed_one t) us ≡ us
stays_same t [] h = refl
stays_same t (u ∷ us) h =
    let parts = or_parts (same_name t.trade u.trade) (has_trade us t.trade) h in
    ap (λ s. renewed_by (cond s (Given t.rows) Silent) u ∷ map (renewed_one t) us) (same_name_sym u.trade t.trade ∙ parts.0)
    ∙ ap (λ vs. u ∷ vs) (stays_same t us parts.1)

put_known : (t : TradeRows) (us : List TradeRows) → AreDifferent us → has_trade us t.trade ≡ true → put_trade t us ≡ map (renewed_one t) us
put_known t [] d h = absurd (false≢true h)
put_known t (u ∷ us) d h = at (same_name t.trade u.trade) refl (λ g. put_known t us d.1 g)
  where
    at : (s : Bool) → same_name t.trade u.trade ≡ s → (has_trade us t.trade ≡ true → put_trade t us ≡ map (renewed_one t) us) → put_trade t (u ∷ us) ≡ map (renewed_one t) (u ∷ us)
    at true e rest =
        ap (λ s. cond s (record u { rows = t.rows } ∷ us) (u ∷ put_trade t us)) e
        ∙ ap (λ s. renewed_by (cond s (Given t.rows) Silent) u ∷ us) (sym (same_name_sym u.trade t.trade ∙ e))
        ∙ ap (λ vs. renewed_one t u ∷ vs) (sym (stays_same t us (ap (has_trade us) (one_name t.trade u.trade e) ∙ d.0)))
    at false e rest =
        ap (λ s. cond s (record u { rows = t.rows } ∷ us) (u ∷ put_trade t us)) e
        ∙ ap (λ vs. u ∷ vs) (rest (sym (ap (λ s. s || has_trade us t.trade) e) ∙ h))
        ∙ ap (λ s. renewed_by (cond s (Given t.rows) Silent) u ∷ map (renewed_one t) us) (sym (same_name_sym u.trade t.trade ∙ e))

put_new : (t : TradeRows) (us : List TradeRows) → has_trade us t.trade ≡ false → put_trade t us ≡ us ++ t ∷ []
put_new t [] h = refl
put_new t (u ∷ us) h =
    let parts = or_parts (same_name t.trade u.trade) (has_trade us t.trade) h in
    ap (λ s. cond s (record u { rows = t.rows } ∷ us) (u ∷ put_trade t us)) parts.0 ∙ ap (λ vs. u ∷ vs) (put_new t us parts.1)

different-push : (t : TradeRows) (us : List TradeRows) → AreDifferent us → has_trade us t.trade ≡ false → AreDifferent (us ++ t ∷ [])
different-push t [] d h = (refl, tt)
different-push t (u ∷ us) d h =
    let parts = or_parts (same_name t.trade u.trade) (has_trade us t.trade) h in (
      list_any-append (λ v. same_name u.trade v.trade) us (t ∷ []) ∙ or_from (has_trade us u.trade) (same_name u.trade t.trade || false) d.0 (or_from (same_name u.trade t.trade) false (same_name_sym u.trade t.trade ∙ parts.0) refl),
      different-push t us d.1 parts.1,
    )

-- ---- the whole batch

keeps_trade : (batch : List TradeRows) (u : TradeRows) → (renewed batch u).trade ≡ u.trade
keeps_trade batch u = same_trade (word_of_batch u.trade batch) u

-- renewed by a trade and then by the others
renewed_both : (t : TradeRows) (batch : List TradeRows) → has_trade batch t.trade ≡ false → (u : TradeRows) → renewed batch (renewed_one t u) ≡ renewed (t ∷ batch) u
renewed_both t batch h u = at (same_name u.trade t.trade) refl
  where
    at : (s : Bool) → same_name u.trade t.trade ≡ s → renewed batch (renewed_one t u) ≡ renewed (t ∷ batch) u
    at true e =
        ap (λ s. renewed batch (renewed_by (cond s (Given t.rows) Silent) u)) e
        ∙ ap (λ w. renewed_by w (record u { rows = t.rows })) (silent_of u.trade batch (ap (has_trade batch) (one_name u.trade t.trade e) ∙ h))
        ∙ ap (λ s. renewed_by (cond s (Given t.rows) (word_of_batch u.trade batch)) u) (sym e)
    at false e =
        ap (λ s. renewed batch (renewed_by (cond s (Given t.rows) Silent) u)) e
        ∙ ap (λ s. renewed_by (cond s (Given t.rows) (word_of_batch u.trade batch)) u) (sym e)

renewed_past : (t : TradeRows) (batch us : List TradeRows) → has_trade us t.trade ≡ false → AllByRecursion (λ u. renewed batch u ≡ renewed (t ∷ batch) u) us
renewed_past t batch [] h = tt
renewed_past t batch (u ∷ us) h =
    let parts = or_parts (same_name t.trade u.trade) (has_trade us t.trade) h in
    (ap (λ s. renewed_by (cond s (Given t.rows) (word_of_batch u.trade batch)) u) (sym (same_name_sym u.trade t.trade ∙ parts.0)), renewed_past t batch us parts.1)

new_after : (t : TradeRows) (book batch : List TradeRows) → has_trade batch t.trade ≡ false → AllByRecursion (λ u. not (has_trade (book ++ t ∷ []) u.trade) ≡ not (has_trade book u.trade)) batch
new_after t book [] h = tt
new_after t book (u ∷ batch) h =
    let parts = or_parts (same_name t.trade u.trade) (has_trade batch t.trade) h in
    (ap not (list_any-append (λ v. same_name u.trade v.trade) book (t ∷ []) ∙ ap (λ s. has_trade book u.trade || (s || false)) (same_name_sym u.trade t.trade ∙ parts.0) ∙ or_false (has_trade book u.trade)), new_after t book batch parts.1)
  where
    or_false : (s : Bool) → (s || (false || false)) ≡ s
    or_false true = refl
    or_false false = refl

pub put_trades_is : (batch book : List TradeRows) → AreDifferent batch → AreDifferent book → put_trades batch book ≡ map (renewed batch) book ++ new_in book batch
put_trades_is [] book d e = sym (append-nil (map (renewed []) book) ∙ map_same (renewed []) book (each_always (λ u. renewed [] u ≡ u) (λ u. refl) book))
put_trades_is (t ∷ batch) book d e =
    at (has_trade book t.trade) refl (λ other h. put_trades_is batch other d.1 h)
  where
    at : (s : Bool) → has_trade book t.trade ≡ s → ((other : List TradeRows) → AreDifferent other → put_trades batch other ≡ map (renewed batch) other ++ new_in other batch) → put_trades (t ∷ batch) book ≡ map (renewed (t ∷ batch)) book ++ new_in book (t ∷ batch)
    at true k rest =
        ap (put_trades batch) (put_known t book e k)
        ∙ rest (map (renewed_one t) book) (different-map (renewed_one t) (keeps_trade (t ∷ [])) book e)
        ∙ ap (λ ts. ts ++ new_in (map (renewed_one t) book) batch) (map-map (renewed_one t) (renewed batch) book ∙ map_agrees (λ u. renewed batch (renewed_one t u)) (renewed (t ∷ batch)) book (each_always (λ u. renewed batch (renewed_one t u) ≡ renewed (t ∷ batch) u) (renewed_both t batch d.0) book))
        ∙ ap (λ ts. map (renewed (t ∷ batch)) book ++ ts) (filter_agrees (λ u. not (has_trade (map (renewed_one t) book) u.trade)) (λ u. not (has_trade book u.trade)) batch (each_always (λ u. not (has_trade (map (renewed_one t) book) u.trade) ≡ not (has_trade book u.trade)) (λ u. ap not (has_trade-map (renewed_one t) (keeps_trade (t ∷ [])) book u.trade)) batch))
        ∙ ap (λ s. map (renewed (t ∷ batch)) book ++ cond (not s) (t ∷ new_in book batch) (new_in book batch)) (sym k)
    at false k rest =
        ap (put_trades batch) (put_new t book k)
        ∙ rest (book ++ t ∷ []) (different-push t book e k)
        ∙ ap (λ ts. ts ++ new_in (book ++ t ∷ []) batch) (map-append (renewed batch) book (t ∷ []))
        ∙ ap (λ u. (map (renewed batch) book ++ u ∷ []) ++ new_in (book ++ t ∷ []) batch) (ap (λ w. renewed_by w t) (silent_of t.trade batch d.0))
        ∙ append_assoc (map (renewed batch) book) (t ∷ []) (new_in (book ++ t ∷ []) batch)
        ∙ ap (λ ts. ts ++ t ∷ new_in (book ++ t ∷ []) batch) (map_agrees (renewed batch) (renewed (t ∷ batch)) book (renewed_past t batch book k))
        ∙ ap (λ ts. map (renewed (t ∷ batch)) book ++ t ∷ ts) (filter_agrees (λ u. not (has_trade (book ++ t ∷ []) u.trade)) (λ u. not (has_trade book u.trade)) batch (new_after t book batch d.0))
        ∙ ap (λ s. map (renewed (t ∷ batch)) book ++ cond (not s) (t ∷ new_in book batch) (new_in book batch)) (sym k)
