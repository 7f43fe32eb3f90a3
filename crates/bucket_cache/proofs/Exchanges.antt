-- What a batch and a withdrawal make of what is kept of a book.
use Rattle.std.proofs.Common.{◌≡◌, ◌^◌, ◌<◌, ℕ, List, [], ◌∷◌, ◌++◌, length, Bool, true, false, ◌||◌, if◌then◌else◌, None, refl, sym, ap, ◌∙◌, subst, arith, append-nil}
use denote.Bor.{Bor}
use Rattle.std.specs.List.{flat_map, list_all, list_any}
use Rattle.std.specs.List.Sorted.{IsPermutation}
use Rattle.std.proofs.lemmas.List.{length-append}
use Rattle.std.proofs.lemmas.List.Folds.{list_any-append}
use Rattle.std.proofs.lemmas.List.Sorted.{length_permutation, list_any-IsPermutation}
use Rattle.book_margin.specs.SimmKinds.declared.key.FactorKey.{FactorKey}
use Rattle.book_margin.specs.SimmKinds.declared.row.CrifRow.{CrifRow}
use Rattle.book_margin.specs.SimmKinds.declared.row.TradeRows.{TradeRows}
use Rattle.book_margin.specs.SimmKinds.Batch.{rows_of, is_in_range, IsBatch}
use Rattle.book_margin.specs.SimmKinds.Order.{same_name}
use Rattle.book_margin.specs.SimmKinds.Repeats.{repeats}
use Rattle.book_margin.specs.SimmRules.Params.{Params}
use Rattle.book_margin.specs.SimmRules.Net.{Sensitivity, sensitivity, sensitivities}
use Rattle.book_margin.specs.SimmRules.Range.{range}
use Rattle.book_margin.specs.FactorBook.declared.holding.Holding.{Holding}
use Rattle.book_margin.specs.FactorBook.Factors.{factors_of}
use Rattle.book_margin.specs.FactorBook.Places.{stands_at}
use Rattle.book_margin.specs.ClassCombine.Sums.{sums_of}
use Rattle.book_margin.specs.BookRange.declared.sizes.GrossSizes.{GrossSizes}
use Rattle.book_margin.specs.BookRange.Sizes.{sizes_in}
use Rattle.book_margin.specs.BookRange.After.{AreFewElsewhere, IsAfter}
use Rattle.book_margin.specs.KeptBuckets.Kept.{Kept, value_at, margin_at}
use Rattle.book_margin.specs.KeptBuckets.Touched.{has_key, is_of_class, Forgets, SameElsewhere}
use Rattle.book_margin.specs.Right.{AreRight}
use Rattle.bucket_cache.specs.declared.sums.Sums.{Sums}
use Rattle.bucket_cache.specs.Entries.{names_of, lent_names}
use Rattle.bucket_cache.specs.Live.{IsLive, put_trades, without, named, rows_in, rows_moved}
use Rattle.bucket_cache.specs.Sums.{book_sums, Holds, IsExchange, IsNetted}
use Rattle.bucket_cache.specs.Held.{IsMoved}
use Rattle.bucket_cache.proofs.Gaining.{both_pass, each_pass}
use Rattle.bucket_cache.proofs.Lives.{batch_facts}
use Rattle.bucket_cache.proofs.Moves.{after, same_as, on_right, turned, list_all-IsPermutation, rows_apart, puts_apart, rows_each-named, rows_moved_by}
use Rattle.bucket_cache.proofs.Ranges.{few_rows}

-- ---- in another order

abbrev pub FactorsMove : Type 0
FactorsMove = (xs ys : List CrifRow) → IsPermutation xs ys → factors_of xs ≡ factors_of ys

abbrev pub AddOnsMove : Type 0
AddOnsMove = (xs ys : List CrifRow) → IsPermutation xs ys → sums_of xs ≡ sums_of ys

pub moved_sums : (p : Params) {xs ys : List CrifRow} → FactorsMove → AddOnsMove → IsPermutation xs ys → book_sums p xs ≡ book_sums p ys
moved_sums p {xs = xs} {ys = ys} factors_move add_ons_move h =
    let count = sym (length_permutation xs ys h) in
    let factors = factors_move xs ys h in
    let add_ons = add_ons_move xs ys h in
    λ i. record { rows = count i; factors = factors i; sizes = sizes_in p (factors i); add_ons = add_ons i }

pub moved_amounts : {xs ys : List CrifRow} → IsPermutation xs ys → list_all is_in_range xs ≡ true → list_all is_in_range ys ≡ true
moved_amounts h amounts = sym (list_all-IsPermutation is_in_range h) ∙ amounts

pub moved_few : (n : ℕ) {xs ys : List CrifRow} → IsPermutation xs ys → length xs < n → length ys < n
moved_few n {xs = xs} {ys = ys} h few = omega (arith, length_permutation xs ys h, few)

-- ---- sums whose rows are exchanged

pub exchange_netted : (p : Params) (old sums : Sums) (leaving : List (FactorKey × Holding)) (batch came gone held : List CrifRow) → FactorsMove → AddOnsMove
    → (e : IsExchange p old came gone held) → sums ≡ book_sums p (e.before ++ came) → leaving ≡ factors_of gone → came ≡ batch → IsNetted p sums leaving batch gone held
exchange_netted p old sums leaving batch came gone held factors_move add_ons_move e now leave same = record {
  are = now ∙ moved_sums p factors_move add_ons_move e.moved;
  leave = leave;
  amounts = moved_amounts e.moved e.amounts;
  few = moved_few (2 ^ 32) e.moved e.few;
  elsewhere = subst (λ rows. AreFewElsewhere rows (factors_of held)) same e.elsewhere;
}

pub gone_amounts : (p : Params) (sums : Sums) (came gone held : List CrifRow) → IsExchange p sums came gone held → list_all is_in_range gone ≡ true
gone_amounts p sums came gone held e = (each_pass is_in_range held gone (moved_amounts e.moved e.amounts)).1

pub gone_few : (p : Params) (sums : Sums) (came gone held : List CrifRow) → IsExchange p sums came gone held → length gone < 2 ^ 32
gone_few p sums came gone held e = omega (arith, moved_few (2 ^ 32) e.moved e.few, length-append held gone)

-- the book without the rows that go, for the test of its range
pub netted_after : (p : Params) (sums : Sums) (leaving : List (FactorKey × Holding)) (came gone held : List CrifRow) (rows : ℕ) (sizes : GrossSizes) → IsNetted p sums leaving came gone held
    → rows ≡ length held → sizes ≡ sizes_in p (factors_of held) → IsAfter p sums.factors leaving rows sizes came held
netted_after p sums leaving came gone held rows sizes n number weigh = record {
  without = record { held = held; gone = gone; are = ap (λ (s : Sums). s.factors) n.are; go = n.leave; stay = refl };
  number = number;
  weigh = weigh;
  elsewhere = n.elsewhere;
}

-- ---- a batch

abbrev pub RangeMoves : Params → Type 0
RangeMoves p = (xs ys : List CrifRow) → IsPermutation xs ys → range p xs ≡ range p ys

abbrev pub FewElsewhere : Params → Type 0
FewElsewhere p = (stay left came : List CrifRow) → range p (stay ++ left) ≡ None → AreFewElsewhere came (factors_of (stay ++ came))

module _ (p : Params) (ts us : List TradeRows) (batch : IsBatch ts) (live : IsLive p us) (came gone : List CrifRow) (comes : came ≡ rows_of ts) (goes : gone ≡ flat_map (λ (t : TradeRows). rows_in us t.trade) ts) where
  its_names : (xs : List TradeRows) → flat_map (λ (t : TradeRows). rows_in us t.trade) xs ≡ flat_map (rows_in us) (names_of xs)
  its_names [] = refl
  its_names (x ∷ xs) = ap (λ rows. rows_in us x.trade ++ rows) (its_names xs)

  pub gone_named : IsPermutation gone (rows_of (named (names_of ts) us))
  gone_named = after (same_as (goes ∙ its_names ts)) (rows_each-named (names_of ts) us (batch_facts ts batch).once live.named)

  pub batch_moved : IsPermutation (rows_of us ++ came) (rows_of (put_trades ts us) ++ gone)
  batch_moved =
      subst (λ (rows : List CrifRow). IsPermutation (rows_of us ++ rows) (rows_of (put_trades ts us) ++ gone)) (sym comes) (rows_moved_by ts us gone (batch_facts ts batch).once live.named gone_named)

  pub batch_exchange : (sums : Sums) → FactorsMove → RangeMoves p → FewElsewhere p → sums ≡ book_sums p (rows_of us) → IsExchange p sums came gone (rows_of (put_trades ts us))
  batch_exchange sums factors_move range_moves few_elsewhere are =
      let stay = rows_of (without (names_of ts) us) in
      let its = rows_of (named (names_of ts) us) in
      let facts = batch_facts ts batch in
      let in_range : range p (stay ++ its) ≡ None = sym (range_moves (rows_of us) (stay ++ its) (rows_apart (names_of ts) us)) ∙ live.in_range in
      let same : factors_of (stay ++ rows_of ts) ≡ factors_of (rows_of (put_trades ts us)) =
      sym (factors_move (rows_of (put_trades ts us)) (stay ++ rows_of ts) (puts_apart ts us facts.once live.named)) in
      record {
        before = rows_of us;
        are = are;
        moved = batch_moved;
        amounts = both_pass is_in_range (rows_of us) came live.amounts (ap (list_all is_in_range) comes ∙ facts.amounts);
        few = omega (arith, length-append (rows_of us) came, ap length comes, facts.few, few_rows p (rows_of us) live.in_range);
        elsewhere = subst (λ (rows : List CrifRow). AreFewElsewhere rows (factors_of (rows_of (put_trades ts us)))) (sym comes)
            (subst (AreFewElsewhere (rows_of ts)) same (few_elsewhere stay its (rows_of ts) in_range));
      }

-- ---- what is touched

touched_by : (test : FactorKey → Bool) (rows : List CrifRow) → has_key test rows ≡ list_any (λ r. list_any (λ (s : Sensitivity). test s.key) (sensitivity r)) rows
touched_by test [] = refl
touched_by test (r ∷ rows) =
    list_any-append (λ (s : Sensitivity). test s.key) (sensitivity r) (sensitivities rows) ∙ ap (λ b. list_any (λ (s : Sensitivity). test s.key) (sensitivity r) || b) (touched_by test rows)

same_touched : (test : FactorKey → Bool) {xs ys : List CrifRow} → IsPermutation xs ys → has_key test xs ≡ has_key test ys
same_touched test {xs = xs} {ys = ys} h =
    touched_by test xs ∙ list_any-IsPermutation (λ r. list_any (λ (s : Sensitivity). test s.key) (sensitivity r)) xs ys h ∙ sym (touched_by test ys)

pub same_forgotten : {xs ys : List CrifRow} (old new : Kept) → IsPermutation xs ys → Forgets xs old new → Forgets ys old new
same_forgotten old new h f = record {
  values = λ place. f.values place ∙ ap (λ b. if b then None else value_at old place) (same_touched (stands_at place) h);
  margins = λ c k. f.margins c k ∙ ap (λ b. if b then None else margin_at old c k) (same_touched (is_of_class c k) h);
}

same_elsewhere : {xs ys : List CrifRow} (f g : List (FactorKey × Holding)) → IsPermutation xs ys → SameElsewhere xs f g → SameElsewhere ys f g
same_elsewhere f g h s = record { same = λ test none. s.same test (same_touched test h ∙ none) }

abbrev pub RowsCome : Type 0
RowsCome = (held came : List CrifRow) → SameElsewhere came (factors_of held) (factors_of (held ++ came))

abbrev pub RowsGo : Type 0
RowsGo = (before gone after : List CrifRow) → SameElsewhere gone (factors_of (before ++ gone ++ after)) (factors_of (before ++ after))

abbrev pub AddUp : Type 0
AddUp = (xs ys : List CrifRow) (f g h : List (FactorKey × Holding)) → SameElsewhere xs f g → SameElsewhere ys g h → SameElsewhere (xs ++ ys) f h

last_gone : RowsGo → (held gone : List CrifRow) → SameElsewhere gone (factors_of (held ++ gone)) (factors_of held)
last_gone go held gone =
    subst (λ (rows : List CrifRow). SameElsewhere gone (factors_of rows) (factors_of held)) (append-nil (held ++ gone))
    (subst (λ (rows : List CrifRow). SameElsewhere gone (factors_of (held ++ gone ++ [])) (factors_of rows)) (append-nil held) (go held gone []))

-- from one book to another
pub exchanged_elsewhere : (before held came gone : List CrifRow) → FactorsMove → RowsCome → RowsGo → AddUp → IsPermutation (before ++ came) (held ++ gone)
    → SameElsewhere (came ++ gone) (factors_of before) (factors_of held)
exchanged_elsewhere before held came gone factors_move come go add_up moved =
    add_up came gone (factors_of before) (factors_of (before ++ came)) (factors_of held) (come before came)
    (subst (λ factors. SameElsewhere gone factors (factors_of held)) (sym (factors_move (before ++ came) (held ++ gone) moved)) (last_gone go held gone))

pub gone_elsewhere : (before held gone : List CrifRow) → FactorsMove → RowsGo → IsPermutation before (held ++ gone) → SameElsewhere gone (factors_of before) (factors_of held)
gone_elsewhere before held gone factors_move go moved =
    subst (λ factors. SameElsewhere gone factors (factors_of held)) (sym (factors_move before (held ++ gone) moved)) (last_gone go held gone)

-- ---- a withdrawal

pub its_rows : (us : List TradeRows) (names : List (Bor (List ℕ))) {rows : List CrifRow} → rows ≡ flat_map (λ (name : Bor (List ℕ)). rows_in us name.now) names → rows ≡ flat_map (rows_in us) (lent_names names)
its_rows us names e = e ∙ each names
  where
    each : (ns : List (Bor (List ℕ))) → flat_map (λ (name : Bor (List ℕ)). rows_in us name.now) ns ≡ flat_map (rows_in us) (lent_names ns)
    each [] = refl
    each (n ∷ ns) = ap (λ rows. rows_in us n.now ++ rows) (each ns)

module _ (p : Params) (us : List TradeRows) (names : List (List ℕ)) (sums : Sums) (gone : List CrifRow) (live : IsLive p us) (once : repeats same_name names ≡ false) (goes : gone ≡ flat_map (rows_in us) names) where
  pub withdrawn_named : IsPermutation gone (rows_of (named names us))
  withdrawn_named = after (same_as goes) (rows_each-named names us once live.named)

  pub withdrawn_moved : IsPermutation (rows_of us) (rows_of (without names us) ++ gone)
  withdrawn_moved = after (rows_apart names us) (on_right (rows_of (without names us)) (turned withdrawn_named))

  pub withdrawn_holds : FactorsMove → AddOnsMove → sums ≡ book_sums p (rows_of us) → Holds p sums gone
  withdrawn_holds factors_move add_ons_move are = record {
    rest = rows_of (without names us);
    are = are ∙ moved_sums p factors_move add_ons_move withdrawn_moved;
    amounts = moved_amounts withdrawn_moved live.amounts;
    few = moved_few (2 ^ 32) withdrawn_moved (omega (arith, few_rows p (rows_of us) live.in_range));
  }

abbrev pub StaysRight : Type 0
StaysRight = (p : Params) (rows : List CrifRow) (f g : List (FactorKey × Holding)) (old new : Kept) → AreRight p f old → SameElsewhere rows f g → Forgets rows old new → AreRight p g new

-- what the rows touch that came and went is forgotten, and the rest is right
pub batch_is_moved : (p : Params) (ts us : List TradeRows) → IsBatch ts → IsLive p us → (came gone : List CrifRow) → came ≡ rows_of ts → gone ≡ flat_map (λ (t : TradeRows). rows_in us t.trade) ts
    → (had kept : Kept) (sums : Sums) → FactorsMove → RowsCome → RowsGo → AddUp → StaysRight → AreRight p (factors_of (rows_of us)) had
    → sums ≡ book_sums p (rows_of (put_trades ts us)) → Forgets (came ++ gone) had kept → IsMoved p (rows_of us) (rows_of (put_trades ts us)) (rows_moved ts us) had sums kept
batch_is_moved p ts us batch live came gone comes goes had kept sums factors_move come go add_up stays right summed forgets =
    let elsewhere = exchanged_elsewhere (rows_of us) (rows_of (put_trades ts us)) came gone factors_move come go add_up (batch_moved p ts us batch live came gone comes goes) in
    let order : IsPermutation (came ++ gone) (rows_moved ts us) =
    after (same_as (ap (λ (rows : List CrifRow). rows ++ gone) comes)) (on_right (rows_of ts) (gone_named p ts us batch live came gone comes goes)) in
    record {
      summed = summed;
      right = stays p (came ++ gone) (factors_of (rows_of us)) (factors_of (rows_of (put_trades ts us))) had kept right elsewhere forgets;
      forgotten = same_forgotten had kept order forgets;
      elsewhere = same_elsewhere (factors_of (rows_of us)) (factors_of (rows_of (put_trades ts us))) order elsewhere;
    }

pub withdrawn_is_moved : (p : Params) (us : List TradeRows) (names : List (List ℕ)) (gone : List CrifRow) → IsLive p us → repeats same_name names ≡ false → gone ≡ flat_map (rows_in us) names
    → (had kept : Kept) (old sums : Sums) → FactorsMove → AddOnsMove → RowsGo → StaysRight → AreRight p (factors_of (rows_of us)) had → old ≡ book_sums p (rows_of us)
    → ((rest : List CrifRow) → old ≡ book_sums p (rest ++ gone) → sums ≡ book_sums p rest) → Forgets gone had kept
    → IsMoved p (rows_of us) (rows_of (without names us)) (rows_of (named names us)) had sums kept
withdrawn_is_moved p us names gone live once goes had kept old sums factors_move add_ons_move go stays right are less forgets =
    let moved = withdrawn_moved p us names old gone live once goes in
    let rest = rows_of (without names us) in
    let order = withdrawn_named p us names old gone live once goes in
    let elsewhere = gone_elsewhere (rows_of us) rest gone factors_move go moved in
    record {
      summed = less rest (are ∙ moved_sums p factors_move add_ons_move moved);
      right = stays p gone (factors_of (rows_of us)) (factors_of rest) had kept right elsewhere forgets;
      forgotten = same_forgotten had kept order forgets;
      elsewhere = same_elsewhere (factors_of (rows_of us)) (factors_of rest) order elsewhere;
    }
