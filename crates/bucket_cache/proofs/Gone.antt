-- A trade goes from a book and comes back.
use Rattle.std.proofs.Common.{◌≡◌, ◌∙◌, ℕ, ◌^◌, List, [], ◌∷◌, ◌++◌, length, find, Bool, true, false, not, ◌||◌, cond, Some, option_map, suc, ◌==◌, true≢false, refl, sym, ap, subst, arith}
use Rattle.std.specs.List.Sorted.{IsPermutation}
use Rattle.std.proofs.lemmas.Bool.Decides.{nat_tests}
use Rattle.book_margin.specs.SimmKinds.declared.row.CrifRow.{CrifRow}
use Rattle.book_margin.specs.SimmKinds.declared.row.TradeRows.{TradeRows}
use Rattle.book_margin.specs.SimmKinds.Batch.{rows_of}
use Rattle.book_margin.specs.SimmKinds.Order.{same_name}
use Rattle.book_margin.specs.SimmRules.Params.{Params}
use Rattle.bucket_cache.specs.declared.sums.Sums.{Sums}
use Rattle.bucket_cache.specs.Live.{IsLive, without, named, rows_in, rows_or_none}
use Rattle.bucket_cache.specs.Sums.{book_sums, HasRoom}
use Rattle.bucket_cache.proofs.Exchanges.{FactorsMove, AddOnsMove, moved_sums, moved_amounts, moved_few}
use Rattle.bucket_cache.proofs.Maps.{same_name-equal}
use Rattle.bucket_cache.proofs.Moves.{after, on_right, turned, rows_apart, rows_each-named}
use Rattle.bucket_cache.proofs.Ranges.{few_rows}

-- ---- its rows come back

module _ (p : Params) (name : List ℕ) (us : List TradeRows) (live : IsLive p us) where
  -- the rows of the others and of this one are those of the book
  back : IsPermutation (rows_of us) (rows_of (without (name ∷ []) us) ++ (rows_in us name ++ []))
  back = after (rows_apart (name ∷ []) us) (on_right (rows_of (without (name ∷ []) us)) (turned (rows_each-named (name ∷ []) us refl live.named)))

  pub room_for : (sums : Sums) (rows : List CrifRow) → rows ≡ rows_in us name → sums ≡ book_sums p (rows_of (without (name ∷ []) us)) → HasRoom p sums (rows ++ [])
  room_for sums rows same are =
      subst (λ (its : List CrifRow). HasRoom p sums (its ++ [])) (sym same)
      (record {
        held = rows_of (without (name ∷ []) us);
        are = are;
        amounts = moved_amounts back live.amounts;
        few = moved_few (2 ^ 32) back (omega (arith, few_rows p (rows_of us) live.in_range));
      })

  pub came_back : (old now : Sums) (rows : List CrifRow) → FactorsMove → AddOnsMove → rows ≡ rows_in us name → old ≡ book_sums p (rows_of us) → now ≡ book_sums p (rows_of (without (name ∷ []) us) ++ (rows ++ [])) → now ≡ old
  came_back old now rows factors_move add_ons_move same was is =
      is ∙ ap (λ its. book_sums p (rows_of (without (name ∷ []) us) ++ (its ++ []))) same ∙ sym (moved_sums p factors_move add_ons_move back) ∙ sym was

-- ---- the rows of a trade of what is left

abbrev no_rows : List CrifRow
no_rows = []

none_left : (b : Bool) → no_rows ≡ cond b no_rows no_rows
none_left true = refl
none_left false = refl

-- by whether the first trade has the name that goes, and whether it has the one that is asked for
pub rows_left : (name q : List ℕ) (us : List TradeRows) → rows_in (without (name ∷ []) us) q ≡ cond (same_name q name) [] (rows_in us q)
rows_left name q [] = none_left (same_name q name)
rows_left name q (u ∷ us) = by (same_name u.trade name) refl (same_name q u.trade) refl (rows_left name q us)
  where
    by : (a : Bool) → same_name u.trade name ≡ a → (s : Bool) → same_name q u.trade ≡ s → rows_in (without (name ∷ []) us) q ≡ cond (same_name q name) [] (rows_in us q)
        → rows_in (cond (not (a || false)) (u ∷ without (name ∷ []) us) (without (name ∷ []) us)) q
        ≡ cond (same_name q name) [] (rows_or_none (option_map (λ (t : TradeRows). t.rows) (cond s (Some u) (find (λ (t : TradeRows). same_name q t.trade) us))))
    by true gone true asked rest =
        rest ∙ (ap (λ b. cond b [] (rows_in us q)) (ap (λ n. same_name n name) (same_name-equal q u.trade asked) ∙ gone) ∙ sym (ap (λ b. cond b [] u.rows) (ap (λ n. same_name n name) (same_name-equal q u.trade asked) ∙ gone)))
    by true gone false asked rest = rest
    by false gone true asked rest =
        ap (λ b. rows_or_none (option_map (λ (t : TradeRows). t.rows) (cond b (Some u) (find (λ (t : TradeRows). same_name q t.trade) (without (name ∷ []) us))))) asked
        ∙ sym (ap (λ b. cond b [] u.rows) (ap (λ n. same_name n name) (same_name-equal q u.trade asked) ∙ gone))
    by false gone false asked rest =
        ap (λ b. rows_or_none (option_map (λ (t : TradeRows). t.rows) (cond b (Some u) (find (λ (t : TradeRows). same_name q t.trade) (without (name ∷ []) us))))) asked ∙ rest

-- the parameters, which the trade without a name has: none where that one goes
pub none_named : (name : List ℕ) (us : List TradeRows) → (length name == 0) ≡ true → no_rows ≡ rows_in (without (name ∷ []) us) []
none_named [] us h = sym (rows_left [] [] us)
none_named (x ∷ xs) us h = let none : suc (length xs) ≡ 0 = grind (arith, nat_tests) in absurd (omega arith)

pub others_named : (name : List ℕ) (us : List TradeRows) → (length name == 0) ≡ false → rows_in us [] ≡ rows_in (without (name ∷ []) us) []
others_named [] us h = absurd (true≢false h)
others_named (x ∷ xs) us h = sym (rows_left (x ∷ xs) [] us)
