-- The items of lines that stand behind one another.
use Rattle.std.proofs.Common.{◌≡◌, ℕ, ◌+◌, true, false, List, [], ◌∷◌, ◌++◌, length, refl, sym, ap, ◌∙◌, arith, append_assoc}
use Rattle.std.specs.List.{AllByRecursion}
use Rattle.std.proofs.lemmas.List.Elements.{recursion_from_All}
use Rattle.feed_reader.specs.Line.{is_passed_over}
use Rattle.feed_reader.specs.Steps.{ArePassed}
use Rattle.pool_feed.specs.Requests.{request_of}
use Rattle.pool_feed.specs.Items.{item_at, items_of}

pub items_of-append : (n : ℕ) (xs ys : List (List ℕ)) → items_of n (xs ++ ys) ≡ items_of n xs ++ items_of (n + length xs) ys
unfolding items_of
items_of-append n [] ys = ap (λ k. items_of k ys) (omega arith)
items_of-append n (line ∷ xs) ys =
    let number : n + 1 + length xs ≡ n + length (line ∷ xs) = omega arith in
    ap (λ items. item_at n line ++ items) (items_of-append (n + 1) xs ys ∙ ap (λ k. items_of (n + 1) xs ++ items_of k ys) number)
    ∙ sym (append_assoc (item_at n line) (items_of (n + 1) xs) (items_of (n + length (line ∷ xs)) ys))

passed_none : (n : ℕ) (passed : List (List ℕ)) → AllByRecursion (λ line. is_passed_over line ≡ true) passed → items_of n passed ≡ []
unfolding items_of
passed_none n [] over = refl
passed_none n (line ∷ passed) over = rw over.0 (passed_none (n + 1) passed over.1)

-- lines that are passed over are no items
pub no_items : (n : ℕ) (passed : List (List ℕ)) → ArePassed passed → items_of n passed ≡ []
no_items n passed over = passed_none n passed (recursion_from_All (λ line. is_passed_over line ≡ true) passed over)

one_line : (n : ℕ) (line : List ℕ) → is_passed_over line ≡ false → items_of n (line ∷ []) ≡ record { line = n; request = request_of line } ∷ []
unfolding items_of
one_line n line full = rw full refl

-- a line behind those
pub one_item : (n : ℕ) (passed : List (List ℕ)) (line : List ℕ) → ArePassed passed → is_passed_over line ≡ false → items_of n (passed ++ line ∷ []) ≡ record { line = n + length passed; request = request_of line } ∷ []
one_item n passed line over full =
    items_of-append n passed (line ∷ [])
    ∙ (ap (λ items. items ++ items_of (n + length passed) (line ∷ [])) (no_items n passed over)
    ∙ one_line (n + length passed) line full)
