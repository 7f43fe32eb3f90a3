-- The book of a live margin under other parameters.
use Rattle.std.proofs.Common.{◌≡◌, ℕ, ◌+◌, ◌^◌, ◌<◌, ◌≤◌, List, [], ◌∷◌, ◌++◌, length, Option, Some, None, true, refl, sym, ap, ◌∙◌, subst, arith, append_assoc, append-nil}
use Rattle.std.specs.List.{list_all, flat_map}
use Rattle.std.specs.Map.{values_of}
use Rattle.std.proofs.lemmas.List.{length-append, length-map}
use Rattle.book_margin.specs.SimmKinds.declared.row.CrifRow.{CrifRow}
use Rattle.book_margin.specs.SimmKinds.declared.row.TradeRows.{TradeRows}
use Rattle.book_margin.specs.SimmKinds.Batch.{rows_of, is_in_range}
use Rattle.book_margin.specs.SimmRules.Params.{Params}
use Rattle.book_margin.specs.SimmRules.Range.{range}
use Rattle.book_margin.specs.FactorBook.Factors.{factors_of}
use Rattle.book_margin.specs.BookRange.declared.sizes.GrossSizes.{GrossSizes}
use Rattle.book_margin.specs.BookRange.Faults.{AreOf}
use Rattle.book_margin.specs.BookRange.Sizes.{sizes_in, HasSizeRoom}
use Rattle.bucket_cache.specs.declared.place.RowPlace.{RowPlace}
use Rattle.bucket_cache.specs.declared.sums.Sums.{Sums}
use Rattle.bucket_cache.specs.Entries.{trade_of, trades_of}
use Rattle.bucket_cache.specs.Live.{IsLive, unadmitted_row, row_at, unadmitted_from, first_unadmitted}
use Rattle.bucket_cache.specs.Sums.{book_sums}
use Rattle.bucket_cache.proofs.Admitted.{all_admitted}
use Rattle.bucket_cache.proofs.Gaining.{each_pass}
use Rattle.bucket_cache.proofs.Keeping.{Entries}
use Rattle.bucket_cache.proofs.Ranges.{few_rows}
use Rattle.bucket_cache.proofs.Sizes.{few_trades}

-- ---- the rows of each trade, as a map has them

abbrev pub joined : List (List CrifRow) → List CrifRow
joined lists = flat_map (λ (rows : List CrifRow). rows) lists

joined_rows : (es : Entries) → joined (values_of es) ≡ rows_of (trades_of es)
joined_rows [] = refl
joined_rows (e ∷ es) = ap (λ rows. e.1 ++ rows) (joined_rows es)

-- ---- the search for a row that isn't admitted

abbrev pub unadmitted_lists : ℕ → Params → List (List CrifRow) → Option RowPlace
unadmitted_lists place p [] = None
unadmitted_lists place p (rows ∷ lists) = row_at place (unadmitted_row p rows) (unadmitted_lists (place + 1) p lists)

unadmitted_listed : (place : ℕ) (p : Params) (es : Entries) → unadmitted_from place p (trades_of es) ≡ unadmitted_lists place p (values_of es)
unadmitted_listed place p [] = refl
unadmitted_listed place p (e ∷ es) = ap (row_at place (unadmitted_row p e.1)) (unadmitted_listed (place + 1) p es)

-- so many trades were searched and these are left, which are few
pub record IsSearched (p : Params) (es : Entries) (trade : ℕ) (left : List (List CrifRow)) : Type 0 where
  pub same : first_unadmitted p (trades_of es) ≡ unadmitted_lists (trade + 1) p left
  pub few : trade + length left ≤ 200000
  pub small : length (joined left) ≤ 200000

abbrev pub AreLive : Entries → Type 0
AreLive es = (p : Params) × IsLive p (trades_of es)

module _ (p : Params) (es : Entries) where
  pub search_begins : (left : List (List CrifRow)) → left ≡ values_of es → AreLive es → IsSearched p es 0 left
  search_begins left same live = record {
    same = unadmitted_listed 1 p es ∙ ap (unadmitted_lists 1 p) (sym same);
    few = omega (
      arith,
      ap length same,
      length-map es (λ (e : List ℕ × List CrifRow). e.1),
      length-map es trade_of,
      few_trades live.0 (trades_of es) live.1,
    );
    small = omega (arith, ap (λ lists. length (joined lists)) same, ap length (joined_rows es), few_rows live.0 (rows_of (trades_of es)) (live.1).in_range);
  }

  pub searched_more : (trade : ℕ) (rows : List CrifRow) (left : List (List CrifRow)) → IsSearched p es trade (rows ∷ left) → unadmitted_row p rows ≡ None → IsSearched p es (trade + 1) left
  searched_more trade rows left searched none = record {
    same = searched.same ∙ ap (λ o. row_at (trade + 1) o (unadmitted_lists (trade + 1 + 1) p left)) none;
    few = omega (arith, searched.few);
    small = omega (arith, searched.small, length-append rows (joined left));
  }

  pub found_here : (trade row : ℕ) (rows : List CrifRow) (left : List (List CrifRow)) → IsSearched p es trade (rows ∷ left) → unadmitted_row p rows ≡ Some row
      → Some (record { trade = trade + 1; row = row }) ≡ first_unadmitted p (trades_of es)
  found_here trade row rows left searched found = sym (searched.same ∙ ap (λ o. row_at (trade + 1) o (unadmitted_lists (trade + 1 + 1) p left)) found)

  pub few_here : (trade : ℕ) (rows : List CrifRow) (left : List (List CrifRow)) → IsSearched p es trade (rows ∷ left) → length rows < 2 ^ 31
  few_here trade rows left searched = omega (arith, searched.small, length-append rows (joined left))

-- ---- the gross sizes

-- the rows of some trades are weighed, and these are left
pub record IsWeighedTo (p : Params) (es : Entries) (sizes : GrossSizes) (left : List (List CrifRow)) : Type 0 where
  pub front : List CrifRow
  pub whole : front ++ joined left ≡ rows_of (trades_of es)
  pub are : sizes ≡ sizes_in p (factors_of front)

module _ (p : Params) (es : Entries) where
  pub weighing_begins : (sizes : GrossSizes) (left : List (List CrifRow)) → sizes ≡ sizes_in p [] → left ≡ values_of es → IsWeighedTo p es sizes left
  weighing_begins sizes left none same = record { front = []; whole = ap joined same ∙ joined_rows es; are = none }

  -- the rows of the next trade, as they are lent
  pub next_left : (sizes : GrossSizes) (left rest : List (List CrifRow)) (rows lent : List CrifRow) → left ≡ rows ∷ rest → lent ≡ rows → IsWeighedTo p es sizes left → IsWeighedTo p es sizes (lent ∷ rest)
  next_left sizes left rest rows lent first same = subst (IsWeighedTo p es sizes) (first ∙ ap (λ its. its ∷ rest) (sym same))

  module _ (live : AreLive es) (sizes : GrossSizes) (rows : List CrifRow) (left : List (List CrifRow)) (weighed : IsWeighedTo p es sizes (rows ∷ left)) where
    amounts : (list_all is_in_range weighed.front ≡ true) × (list_all is_in_range (rows ++ joined left) ≡ true)
    amounts = each_pass is_in_range weighed.front (rows ++ joined left) (ap (list_all is_in_range) weighed.whole ∙ (live.1).amounts)

    pub room_here : HasSizeRoom p sizes (length rows)
    room_here = record {
      held = weighed.front;
      are = weighed.are;
      amounts = amounts.0;
      few = omega (
        arith,
        few_rows live.0 (rows_of (trades_of es)) (live.1).in_range,
        ap length weighed.whole,
        length-append weighed.front (rows ++ joined left),
        length-append rows (joined left),
      );
    }

    pub amounts_here : list_all is_in_range rows ≡ true
    amounts_here = (each_pass is_in_range rows (joined left) amounts.1).0

    pub weighed_more : (next : GrossSizes) → ((held : List CrifRow) → sizes ≡ sizes_in p (factors_of held) → next ≡ sizes_in p (factors_of (held ++ rows))) → IsWeighedTo p es next left
    weighed_more next more = record {
      front = weighed.front ++ rows;
      whole = append_assoc weighed.front rows (joined left) ∙ weighed.whole;
      are = more weighed.front weighed.are;
    }

  pub all_weighed : (sizes : GrossSizes) (left : List (List CrifRow)) → left ≡ [] → IsWeighedTo p es sizes left → sizes ≡ sizes_in p (factors_of (rows_of (trades_of es)))
  all_weighed sizes left none weighed =
      weighed.are ∙ ap (λ rows. sizes_in p (factors_of rows)) (sym (append-nil weighed.front) ∙ ap (λ lists. weighed.front ++ joined lists) (sym none) ∙ weighed.whole)

-- ---- the book under the other parameters

pub live_under : (p q : Params) (us : List TradeRows) → IsLive p us → first_unadmitted q us ≡ None → range q (rows_of us) ≡ None → IsLive q us
live_under p q us live admitted in_range = record {
  named = live.named;
  placed = live.placed;
  factored = live.factored;
  amounts = live.amounts;
  admitted = all_admitted q us admitted;
  filled = live.filled;
  in_range = in_range;
}

pub are_of : (p : Params) (us : List TradeRows) (sums : Sums) → IsLive p us → sums ≡ book_sums p (rows_of us) → AreOf sums.rows sums.factors
are_of p us sums live summed = record {
  held = rows_of us;
  are = ap (λ (s : Sums). s.factors) summed;
  count = ap (λ (s : Sums). s.rows) summed;
  amounts = live.amounts;
}

-- the sums with the gross sizes by the other parameters
pub summed_under : (p q : Params) (rows : List CrifRow) (sums : Sums) (sizes : GrossSizes) → sums ≡ book_sums p rows → sizes ≡ sizes_in q (factors_of rows) → record sums { sizes = sizes } ≡ book_sums q rows
summed_under p q rows sums sizes summed weighed =
    λ i. record { rows = (summed i).rows; factors = (summed i).factors; sizes = weighed i; add_ons = (summed i).add_ons }
