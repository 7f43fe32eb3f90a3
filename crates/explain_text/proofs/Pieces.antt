-- Pieces of a text over what is lent, and the same pieces of the same things.
use Rattle.std.proofs.Common.{◌≡◌, ℕ, suc, ◌+◌, ◌<◌, List, [], ◌∷◌, ◌++◌, length, map, get_or, drop, Bool, true, false, ◌||◌, refl, sym, ap, ◌∙◌, append_assoc, append-nil, arith}
use Rattle.std.specs.List.{flat_map, list_any}
use Rattle.std.proofs.lemmas.List.{drop_more}

-- ---- after a loop over what is lent, that has gone as far as what is left

pub lent_step : {X : Type 0} (f : X → List ℕ) (left rest : List X) (x : X) (text new all : List ℕ) → left ≡ x ∷ rest → text ++ flat_map f left ≡ all → new ≡ text ++ f x → new ++ flat_map f rest ≡ all
lent_step f left rest x text new all at so_far grown =
    ap (λ t. t ++ flat_map f rest) grown ∙ append_assoc text (f x) (flat_map f rest) ∙ ap (λ xs. text ++ flat_map f xs) (sym at) ∙ so_far

pub lent_end : {X : Type 0} (f : X → List ℕ) (left : List X) (text all : List ℕ) → left ≡ [] → text ++ flat_map f left ≡ all → text ≡ all
lent_end f left text all at so_far = sym (append-nil text) ∙ ap (λ xs. text ++ flat_map f xs) (sym at) ∙ so_far

-- ---- over rows, of which each has some things

of_appended : {X : Type 0} (f : X → List ℕ) (xs ys : List X) → flat_map f (xs ++ ys) ≡ flat_map f xs ++ flat_map f ys
of_appended f [] ys = refl
of_appended f (x ∷ xs) ys = ap (λ t. f x ++ t) (of_appended f xs ys) ∙ sym (append_assoc (f x) (flat_map f xs) (flat_map f ys))

pub row_step : {R X : Type 0} (f : X → List ℕ) (g : R → List X) (rows : List R) (i : ℕ) (r : R) (text new : List ℕ) → i < length rows → r ≡ get_or rows i r → new ≡ text ++ flat_map f (g r)
    → new ++ flat_map f (flat_map g (drop (i + 1) rows)) ≡ text ++ flat_map f (flat_map g (drop i rows))
row_step f g rows i r text new inside is grown =
    let rest = flat_map g (drop (i + 1) rows) in
    ap (λ t. t ++ flat_map f rest) grown ∙ append_assoc text (flat_map f (g r)) (flat_map f rest)
    ∙ ap (λ t. text ++ t) (sym (of_appended f (g r) rest))
    ∙ ap (λ x. text ++ flat_map f (g x ++ rest)) is
    ∙ ap (λ xs. text ++ flat_map f (flat_map g xs)) (sym (drop_more rows i r inside))

-- a line of one thing is that of the list of it
pub one_line : {X : Type 0} (f : X → List ℕ) (x : X) (text new : List ℕ) → new ≡ text ++ f x → new ≡ text ++ flat_map f (x ∷ [])
one_line f x text new grown = grown ∙ ap (λ t. text ++ t) (sym (append-nil (f x)))

-- ---- the same pieces of the same things

pub of_mapped : {X Y : Type 0} (f : Y → List ℕ) (g : X → Y) (xs : List X) → flat_map f (map g xs) ≡ flat_map (λ x. f (g x)) xs
of_mapped f g [] = refl
of_mapped f g (x ∷ xs) = ap (λ t. f (g x) ++ t) (of_mapped f g xs)

pub any_mapped : {X Y : Type 0} (f : Y → Bool) (g : X → Y) (xs : List X) → list_any f (map g xs) ≡ list_any (λ x. f (g x)) xs
any_mapped f g [] = refl
any_mapped f g (x ∷ xs) = ap (λ b. f (g x) || b) (any_mapped f g xs)

abbrev pub AreSame : {X B : Type 0} → (X → B) → (X → B) → List X → Type 0
AreSame {X = X} f g xs = (i : ℕ) (x : X) → i < length xs → x ≡ get_or xs i x → f x ≡ g x

pub same_pieces : {X : Type 0} (f g : X → List ℕ) (xs : List X) → AreSame f g xs → flat_map f xs ≡ flat_map g xs
same_pieces f g [] h = refl
same_pieces f g (x ∷ xs) h = λ k. h 0 x (omega arith) refl k ++ same_pieces f g xs (λ i y inside is. h (suc i) y (omega (arith, inside)) is) k

pub same_any : {X : Type 0} (f g : X → Bool) (xs : List X) → AreSame f g xs → list_any f xs ≡ list_any g xs
same_any f g [] h = refl
same_any f g (x ∷ xs) h = λ k. h 0 x (omega arith) refl k || same_any f g xs (λ i y inside is. h (suc i) y (omega (arith, inside)) is) k

-- ---- whether one of those that are left passes

pub any_next : {X : Type 0} (f : X → Bool) (left rest : List X) (x : X) (all : Bool) → left ≡ x ∷ rest → list_any f left ≡ all → f x ≡ false → list_any f rest ≡ all
any_next f left rest x all at so_far none = ap (λ b. b || list_any f rest) (sym none) ∙ ap (list_any f) (sym at) ∙ so_far

pub any_here : {X : Type 0} (f : X → Bool) (left rest : List X) (x : X) (all : Bool) → left ≡ x ∷ rest → list_any f left ≡ all → f x ≡ true → true ≡ all
any_here f left rest x all at so_far here = ap (λ b. b || list_any f rest) (sym here) ∙ ap (list_any f) (sym at) ∙ so_far

pub any_end : {X : Type 0} (f : X → Bool) (left : List X) (all : Bool) → left ≡ [] → list_any f left ≡ all → false ≡ all
any_end f left all at so_far = ap (list_any f) (sym at) ∙ so_far
