-- What the weighted values of a bucket's factors are made of.
use Rattle.std.proofs.Common.{◌≡◌, ℕ, ◌+◌, ◌<◌, List, [], ◌∷◌, ◌++◌, map, take, length, get_or, ℤ, sym, ap, ◌∙◌, arith}
use Rattle.std.proofs.lemmas.List.{get_or-map, length-map, map-append, take_more}
use Rattle.std.proofs.lemmas.Simd.{map-map}
use Rattle.simm_params.specs.SimmRules.Bucket.{Weighted}
use Rattle.weighted_bucket.specs.declared.weighed.Weighed.{Weighed}
use Rattle.measured_bucket.specs.declared.weighing.Weighing.{Weighing}
use Rattle.measured_bucket.specs.declared.explained.Explained.{Explained}
use Rattle.measured_bucket.specs.Explained.{Unweighed, weighted_from, unweighed_view, weighted_view}
use Rattle.measured_bucket.specs.Values.{weighed_as}
use Rattle.measured_bucket.proofs.Lists.{maps_agree}

-- one more of those that are made place by place
pub front_more : {X Y : Type 0} (f : X → Y) (ys : List Y) (place : ℕ) (so_far more : List X) (x : X) (d : Y) → place < length ys → map f so_far ≡ take place ys → more ≡ so_far ++ x ∷ [] → f x ≡ get_or ys place d → map f more ≡ take (place + 1) ys
front_more f ys place so_far more x d h front grown is =
    ap (map f) grown ∙ map-append f so_far (x ∷ []) ∙ ap (λ zs. zs ++ f x ∷ []) front ∙ ap (λ z. take place ys ++ z ∷ []) is ∙ sym (take_more ys place d h)

-- ---- factors made each from an amount

-- weighted each from what it is weighed from
pub made_by : {A B : Type 0} (weigh : ℤ → ℤ → ℤ → ℤ) (U : B → Unweighed A) (W : B → Weighted A) → ((b : B) → W b ≡ weighted_from weigh (U b)) → (bs : List B) → map W bs ≡ map (weighted_from weigh) (map U bs)
made_by weigh U W is bs = maps_agree W (λ b. weighted_from weigh (U b)) is bs ∙ sym (map-map (weighted_from weigh) U bs)

-- listed each as the code has it
pub listed_by : {A B N : Type 0} (U : B → Unweighed A) (view : N → B) (nets : List N) (weighings : List Weighing) → weighings ≡ map (λ n. (U (view n)).from) nets → weighings ≡ map (λ f. f.from) (map U (map view nets))
listed_by {A} U view nets weighings e = e ∙ sym (map-map (λ (f : Unweighed A). f.from) U (map view nets) ∙ map-map (λ b. (U b).from) view nets)

-- ---- factors that are explained, one by one

module _ {N A : Type 0} (of : N → A) (weigh : ℤ → ℤ → ℤ → ℤ) (nets : List N) (weighings : List Weighing) (factors : List Weighed) (unweighed : List (Unweighed A)) (weighted : List (Weighted A)) (named : map of nets ≡ map (λ f. f.of) weighted) (listed : weighings ≡ map (λ f. f.from) unweighed) (made : weighted ≡ map (weighted_from weigh) unweighed) (column : factors ≡ map weighed_as weighted) where
  abbrev with : A → Weighed → Weighted A
  with x f = record { of = x; w = f.w; cr = f.cr.0 }

  abbrev before : A → Weighing → Unweighed A
  before x f = record { of = x; from = f }

  pub count_weighted : length weighted ≡ length nets
  count_weighted = sym (length-map weighted (λ (f : Weighted A). f.of)) ∙ sym (ap length named) ∙ length-map nets of

  pub count_unweighed : length unweighed ≡ length nets
  count_unweighed = sym (length-map unweighed (weighted_from weigh)) ∙ sym (ap length made) ∙ count_weighted

  pub count_weighings : length weighings ≡ length nets
  count_weighings = ap length listed ∙ length-map unweighed (λ (f : Unweighed A). f.from) ∙ count_unweighed

  pub count_factors : length factors ≡ length nets
  count_factors = ap length column ∙ length-map weighted weighed_as ∙ count_weighted

  module _ (place : ℕ) (inside : place < length nets) (e : Explained N) (net_is : e.net ≡ get_or nets place e.net) (from_is : e.from ≡ get_or weighings place e.from) (weighed_is : e.weighed ≡ get_or factors place e.weighed) where
    abbrev own : Weighted A
    own = get_or weighted place (weighted_view of e)

    abbrev unweighed_own : Unweighed A
    unweighed_own = get_or unweighed place (unweighed_view of e)

    of_is : of e.net ≡ own.of
    of_is =
        ap of net_is ∙ sym (get_or-map of nets place e.net (of e.net) inside) ∙ ap (λ xs. get_or xs place (of e.net)) named
        ∙ get_or-map (λ (f : Weighted A). f.of) weighted place (weighted_view of e) (of e.net) (omega (arith, count_weighted))

    factor_is : e.weighed ≡ weighed_as own
    factor_is = weighed_is ∙ ap (λ xs. get_or xs place e.weighed) column ∙ get_or-map weighed_as weighted place (weighted_view of e) e.weighed (omega (arith, count_weighted))

    weighing_is : e.from ≡ unweighed_own.from
    weighing_is = from_is ∙ ap (λ xs. get_or xs place e.from) listed ∙ get_or-map (λ (f : Unweighed A). f.from) unweighed place (unweighed_view of e) e.from (omega (arith, count_unweighed))

    own_is : own ≡ weighted_from weigh unweighed_own
    own_is = ap (λ xs. get_or xs place (weighted_view of e)) made ∙ get_or-map (weighted_from weigh) unweighed place (unweighed_view of e) (weighted_view of e) (omega (arith, count_unweighed))

    weighted_is : weighted_view of e ≡ own
    weighted_is = ap (λ x. with x e.weighed) of_is ∙ ap (with own.of) factor_is

    unweighed_is : unweighed_view of e ≡ unweighed_own
    unweighed_is = ap (λ x. before x e.from) (of_is ∙ ap (λ (f : Weighted A). f.of) own_is) ∙ ap (before unweighed_own.of) weighing_is

    module _ (so_far more : List (Explained N)) (grown : more ≡ so_far ++ e ∷ []) where
      pub weighted_more : map (weighted_view of) so_far ≡ take place weighted → map (weighted_view of) more ≡ take (place + 1) weighted
      weighted_more front = front_more (weighted_view of) weighted place so_far more e (weighted_view of e) (omega (arith, count_weighted)) front grown weighted_is

      pub unweighed_more : map (unweighed_view of) so_far ≡ take place unweighed → map (unweighed_view of) more ≡ take (place + 1) unweighed
      unweighed_more front = front_more (unweighed_view of) unweighed place so_far more e (unweighed_view of e) (omega (arith, count_unweighed)) front grown unweighed_is
