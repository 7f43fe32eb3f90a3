-- The concentration groups, read one after another.
use Rattle.std.proofs.Common.{◌≡◌, ℕ, ◌+◌, ◌<◌, List, [], ◌∷◌, ◌++◌, map, length, get_or, take, sym, ap, ◌∙◌}
use Rattle.std.proofs.lemmas.Grind.{flat_map-append}
use Rattle.std.proofs.lemmas.List.{map-append, append-nil, take_more}
use Rattle.simm_params.specs.SimmRules.Params.{CurrencyGroup}
use Rattle.params_file.specs.Groups.{currencies_in}

-- one more that is seen alike
pub map_more : {A B : Type 0} (f : A → B) (xs ys : List A) (i : ℕ) (x y : A) → i < length xs → x ≡ get_or xs i x → f y ≡ f x → map f ys ≡ map f (take i xs) → map f (ys ++ y ∷ []) ≡ map f (take (i + 1) xs)
map_more f xs ys i x y lt at same so_far =
    map-append f ys (y ∷ []) ∙ ap (λ l. l ++ f y ∷ []) so_far ∙ ap (λ b. map f (take i xs) ++ b ∷ []) same
    ∙ sym (ap (map f) (take_more xs i x lt ∙ ap (λ z. take i xs ++ z ∷ []) (sym at)) ∙ map-append f (take i xs) (x ∷ []))

pub currencies_in-push : (groups : List CurrencyGroup) (group : CurrencyGroup) → currencies_in (groups ++ group ∷ []) ≡ currencies_in groups ++ group.currencies
currencies_in-push groups group = flat_map-append (λ g. g.currencies) groups (group ∷ []) ∙ ap (λ l. currencies_in groups ++ l) (append-nil group.currencies)
