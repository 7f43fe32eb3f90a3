-- Pieces of a text added one after another.
use Rattle.std.proofs.Common.{◌≡◌, ℕ, ◌+◌, ◌<◌, List, ◌++◌, length, get_or, drop, ap, sym, ◌∙◌, append_assoc}
use Rattle.std.specs.List.{flat_map}
use Rattle.std.proofs.lemmas.List.{drop_more}

-- the piece of the element at i, and then those of the elements behind it
pub piece_step : {X : Type 0} (f : X → List ℕ) (xs : List X) (i : ℕ) (d : X) (text new : List ℕ) → i < length xs → new ≡ text ++ f (get_or xs i d) → new ++ flat_map f (drop (i + 1) xs) ≡ text ++ flat_map f (drop i xs)
piece_step f xs i d text new p h =
    let rest = flat_map f (drop (i + 1) xs) in
    ap (λ t. t ++ rest) h ∙ append_assoc text (f (get_or xs i d)) rest ∙ ap (λ t. text ++ t) (sym (ap (flat_map f) (drop_more xs i d p)))

-- two pieces added one after another, and three
pub two_pieces : (a b t0 t1 t2 : List ℕ) → t1 ≡ t0 ++ a → t2 ≡ t1 ++ b → t2 ≡ t0 ++ (a ++ b)
two_pieces a b t0 t1 t2 e1 e2 = e2 ∙ ap (λ t. t ++ b) e1 ∙ append_assoc t0 a b

pub three_pieces : (a b c t0 t1 t2 t3 : List ℕ) → t1 ≡ t0 ++ a → t2 ≡ t1 ++ b → t3 ≡ t2 ++ c → t3 ≡ t0 ++ (a ++ b ++ c)
three_pieces a b c t0 t1 t2 t3 e1 e2 e3 = two_pieces (a ++ b) c t0 t2 t3 (two_pieces a b t0 t1 t2 e1 e2) e3
