-- The entries of a table and the places of an array, counted and found.
use Rattle.std.proofs.Common.{◌≡◌, ℕ, ◌+◌, List, [], ◌∷◌, length, Option, Some, None, Bor, refl, ap, ◌∙◌, add-one}
use Rattle.std.specs.Slice.{IsGetResult}
use Rattle.toml.specs.Data.{get_item}
use Rattle.toml.specs.View.{view, items_view, members_view}
use Rattle.toml.specs.declared.value.Value.{Value}
use Rattle.toml.proofs.Views.{Entry, get_item_within, get_item_past}
use Rattle.toml_values.specs.Values.{found, members_count, items_count}

pub items_count-view : (vs : List Value) → items_count (items_view vs) ≡ length vs
items_count-view [] = refl
items_count-view (v ∷ vs) = ap (λ n. n + 1) (items_count-view vs) ∙ add-one (length vs)

pub members_count-view : (es : List Entry) → members_count (members_view es) ≡ length es
members_count-view [] = refl
members_count-view (e ∷ es) = ap (λ n. n + 1) (members_count-view es) ∙ add-one (length es)

-- what a slice's `get` finds
pub get_item-found : (vs : List Value) (i : ℕ) (r : Option (Bor Value)) → IsGetResult vs i i r → found r ≡ get_item i (items_view vs)
get_item-found vs i None h = get_item_past vs i h.3
get_item-found vs i (Some v) h = ap (λ x. Some (view x)) h.1 ∙ get_item_within vs i v.now h.3.0
