-- Lines of which nothing was taken have the sources that they were made of.
use Rattle.std.proofs.Common.{◌≡◌, List, [], ◌∷◌, ◌++◌, map, refl, sym, ap, ◌∙◌}
use Rattle.std.proofs.lemmas.List.{map-append}
use Rattle.mh_io.specs.Lined.{Lined}
use Rattle.feed_runs.specs.Untaken.{fresh}

module _ {S : Type 0} where
  fresh_sources : (sources : List S) → map (λ (l : Lined S). l.source) (map fresh sources) ≡ sources
  fresh_sources [] = refl
  fresh_sources (s ∷ sources) = ap (λ xs. s ∷ xs) (fresh_sources sources)

  pub back_of : (made : List (Lined S)) (waiting sources : List S) → made ++ map fresh waiting ≡ map fresh sources → map (λ l. l.source) made ++ waiting ≡ sources
  back_of made waiting sources is =
      ap (λ xs. map (λ (l : Lined S). l.source) made ++ xs) (sym (fresh_sources waiting))
      ∙ sym (map-append (λ (l : Lined S). l.source) made (map fresh waiting))
      ∙ ap (map (λ (l : Lined S). l.source)) is ∙ fresh_sources sources
