-- All trades that the feeds bring to a set: how many they are, that each is drawn, and that no two have one name.
use Rattle.std.proofs.Common.{◌≡◌, ◌==◌, ◌⊎◌, ℕ, zero, suc, ◌*◌, ◌<◌, ◌≤◌, Bool, true, false, cond, List, [], ◌∷◌, ◌++◌, length, inl, inr, refl, sym, ◌∙◌, subst, arith, length-append}
use Rattle.std.specs.List.{AllByRecursion, IsDistinct}
use Rattle.simm_params.specs.SimmKinds.declared.row.TradeRows.{TradeRows}
use Rattle.simm_params.specs.SimmKinds.Order.{same_name}
use Rattle.book_range.proofs.Lists.{each_weaker, each_append}
use Rattle.house_sample.specs.Trades.{trade_name, rows_from, batch_at, place_of, batches, state_at, trades_to, all_trades}
use Rattle.house_sample.proofs.InRange.{IsDrawn}
use Rattle.house_sample.proofs.TradeNames.{feeds_differ, batches_differ}

-- a set is the first or the second
abbrev pub IsPlace : ℕ → Type 0
IsPlace place = (place ≡ 0) ⊎ (place ≡ 1)

-- ---- how many there are

feed_count : (seed feed place : ℕ) → IsPlace place → length (trades_to seed feed place batches) ≡ 25
unfolding trades_to
feed_count seed feed place (inl e) = subst (λ k. length (trades_to seed feed k batches) ≡ 25) (sym e) first
  where
    first : length (trades_to seed feed 0 batches) ≡ 25
    first = refl
feed_count seed feed place (inr e) = subst (λ k. length (trades_to seed feed k batches) ≡ 25) (sym e) second
  where
    second : length (trades_to seed feed 1 batches) ≡ 25
    second = refl

pub all_count : (seed place feeds : ℕ) → IsPlace place → length (all_trades seed place feeds) ≡ 25 * feeds
unfolding all_trades
all_count seed place zero at = refl
all_count seed place (suc feeds) at =
    omega (arith, feed_count seed feeds place at, all_count seed place feeds at, length-append (all_trades seed place feeds) (trades_to seed feeds place batches))

-- ---- they are drawn

feed_drawn : (seed feed place n : ℕ) → AllByRecursion IsDrawn (trades_to seed feed place n)
unfolding trades_to
feed_drawn seed feed place zero = tt
feed_drawn seed feed place (suc n) = each_append IsDrawn (trades_to seed feed place n) (cond (place_of n == place) (batch_at seed feed n) []) (feed_drawn seed feed place n) (new (place_of n == place))
  where
    new : (t : Bool) → AllByRecursion IsDrawn (cond t (batch_at seed feed n) [])
    new true = (record { state = state_at seed feed n; rows = refl }, tt)
    new false = tt

pub all_drawn : (seed place feeds : ℕ) → AllByRecursion IsDrawn (all_trades seed place feeds)
unfolding all_trades
all_drawn seed place zero = tt
all_drawn seed place (suc feeds) = each_append IsDrawn (all_trades seed place feeds) (trades_to seed feeds place batches) (all_drawn seed place feeds) (feed_drawn seed feeds place batches)

-- ---- they have different names

abbrev pub same_trade : TradeRows → TradeRows → Bool
same_trade t u = same_name t.trade u.trade

-- one of the first batches of a feed
record IsOf (feed batches : ℕ) (t : TradeRows) : Type 0 where
  batch : ℕ
  less : batch < batches
  named : t.trade ≡ trade_name feed batch

-- a batch of one of the first feeds
record IsFrom (feeds : ℕ) (t : TradeRows) : Type 0 where
  feed : ℕ
  few : feed < feeds
  is : IsOf feed batches t

feed_named : (seed feed place n : ℕ) → AllByRecursion (IsOf feed n) (trades_to seed feed place n)
unfolding trades_to
feed_named seed feed place zero = tt
feed_named seed feed place (suc n) =
    each_append (IsOf feed (suc n)) (trades_to seed feed place n) (cond (place_of n == place) (batch_at seed feed n) [])
    (each_weaker (IsOf feed n) (IsOf feed (suc n)) (λ t h. record { batch = h.batch; less = omega (arith, h.less); named = h.named }) (trades_to seed feed place n) (feed_named seed feed place n))
    (new (place_of n == place))
  where
    new : (t : Bool) → AllByRecursion (IsOf feed (suc n)) (cond t (batch_at seed feed n) [])
    new true = (record { batch = n; less = omega arith; named = refl }, tt)
    new false = tt

all_named : (seed place feeds : ℕ) → AllByRecursion (IsFrom feeds) (all_trades seed place feeds)
unfolding all_trades
all_named seed place zero = tt
all_named seed place (suc feeds) =
    each_append (IsFrom (suc feeds)) (all_trades seed place feeds) (trades_to seed feeds place batches)
    (each_weaker (IsFrom feeds) (IsFrom (suc feeds)) (λ t h. record { feed = h.feed; few = omega (arith, h.few); is = h.is }) (all_trades seed place feeds) (all_named seed place feeds))
    (each_weaker (IsOf feeds batches) (IsFrom (suc feeds)) (λ t h. record { feed = feeds; few = omega arith; is = h }) (trades_to seed feeds place batches) (feed_named seed feeds place batches))

distinct-append : {K : Type 0} (e : K → K → Bool) (xs ys : List K) → IsDistinct e xs → IsDistinct e ys → AllByRecursion (λ x. AllByRecursion (λ y. e x y ≡ false) ys) xs → IsDistinct e (xs ++ ys)
unfolding IsDistinct
distinct-append e [] ys d g h = g
distinct-append e (x ∷ xs) ys d g h = (each_append (λ y. e x y ≡ false) xs ys d.0 h.0, distinct-append e xs ys d.1 g h.1)

-- by their names
named_apart : (t u : TradeRows) (a b : List ℕ) → t.trade ≡ a → u.trade ≡ b → same_name a b ≡ false → same_trade t u ≡ false
named_apart t u a b is_a is_b h = (λ i. same_name (is_a i) (is_b i)) ∙ h

feed_apart : (seed feed place n : ℕ) → n ≤ 50 → IsDistinct same_trade (trades_to seed feed place n)
unfolding trades_to IsDistinct
feed_apart seed feed place zero h = tt
feed_apart seed feed place (suc n) h =
    let new : List TradeRows = cond (place_of n == place) (batch_at seed feed n) [] in
    distinct-append same_trade (trades_to seed feed place n) new (feed_apart seed feed place n (omega (arith, h))) (one (place_of n == place))
    (each_weaker (IsOf feed n) (λ t. AllByRecursion (λ u. same_trade t u ≡ false) new) (λ t its. apart t its (place_of n == place)) (trades_to seed feed place n) (feed_named seed feed place n))
  where
    one : (t : Bool) → IsDistinct same_trade (cond t (batch_at seed feed n) [])
    one true = (tt, tt)
    one false = tt

    apart : (t : TradeRows) → IsOf feed n t → (b : Bool) → AllByRecursion (λ u. same_trade t u ≡ false) (cond b (batch_at seed feed n) [])
    apart t its true =
        let low = its.less in
        let new : TradeRows = record { trade = trade_name feed n; rows = rows_from (state_at seed feed n) } in
        (named_apart t new (trade_name feed its.batch) (trade_name feed n) its.named refl (batches_differ feed its.batch n (omega (arith, low, h)) (omega (arith, h)) (λ e. omega (arith, low, e))), tt)
    apart t its false = tt

pub all_apart : (seed place feeds : ℕ) → feeds ≤ 32 → IsDistinct same_trade (all_trades seed place feeds)
unfolding all_trades IsDistinct
all_apart seed place zero h = tt
all_apart seed place (suc feeds) h =
    distinct-append same_trade (all_trades seed place feeds) (trades_to seed feeds place batches)
    (all_apart seed place feeds (omega (arith, h))) (feed_apart seed feeds place batches (omega arith))
    (each_weaker (IsFrom feeds) (λ t. AllByRecursion (λ u. same_trade t u ≡ false) (trades_to seed feeds place batches)) apart (all_trades seed place feeds) (all_named seed place feeds))
  where
    apart : (t : TradeRows) → IsFrom feeds t → AllByRecursion (λ u. same_trade t u ≡ false) (trades_to seed feeds place batches)
    apart t its =
        each_weaker (IsOf feeds batches) (λ u. same_trade t u ≡ false) (λ u other.
        let low = its.few in
        named_apart t u (trade_name its.feed its.is.batch) (trade_name feeds other.batch) its.is.named other.named (feeds_differ its.feed feeds its.is.batch other.batch (omega (arith, low, h)) (omega (arith, h)) (λ e. omega (arith, low, e)))) (trades_to seed feeds place batches) (feed_named seed feeds place batches)
