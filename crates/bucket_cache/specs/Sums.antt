-- What the rows of a book come to, as rows come and go.
use Rattle.std.specs.Prelude.{◌≡◌, ◌^◌, ◌<◌, List, ◌++◌, length, true, IsPermutation}
use Rattle.std.specs.List.{list_all}
use Rattle.book_margin.specs.SimmKinds.declared.row.CrifRow.{CrifRow}
use Rattle.book_margin.specs.SimmKinds.Batch.{is_in_range}
use Rattle.book_margin.specs.SimmRules.Params.{Params}
use Rattle.book_margin.specs.SimmKinds.declared.key.FactorKey.{FactorKey}
use Rattle.book_margin.specs.FactorBook.declared.holding.Holding.{Holding}
use Rattle.book_margin.specs.FactorBook.Factors.{factors_of}
use Rattle.book_margin.specs.ClassCombine.Sums.{sums_of}
use Rattle.book_margin.specs.BookRange.declared.sizes.GrossSizes.{GrossSizes}
use Rattle.book_margin.specs.BookRange.Sizes.{sizes_in}
use Rattle.book_margin.specs.BookRange.After.{AreFewElsewhere}
use Rattle.bucket_cache.specs.declared.sums.Sums.{Sums}

-- how many rows there are, their factors, their gross sizes and the sums of their add-ons; all the same in any order
abbrev pub book_sums : Params → List CrifRow → Sums
book_sums p held = record {
  rows = length held;
  factors = factors_of held;
  sizes = sizes_in p (factors_of held);
  add_ons = sums_of held;
}

-- the sums are those of some rows, and there is room for these rows too
pub record HasRoom (p : Params) (sums : Sums) (more : List CrifRow) : Type 0 where
  pub held : List CrifRow
  pub are : sums ≡ book_sums p held
  pub amounts : list_all is_in_range (held ++ more) ≡ true
  pub few : length (held ++ more) < 2 ^ 32

-- these rows stand among those that are held
pub record AreHeld (p : Params) (sums : Sums) (taken : List CrifRow) : Type 0 where
  pub before : List CrifRow
  pub after : List CrifRow
  pub are : sums ≡ book_sums p (before ++ taken ++ after)
  pub amounts : list_all is_in_range (before ++ taken ++ after) ≡ true
  pub few : length (before ++ taken ++ after) < 2 ^ 32

-- these rows are held, and others before them
pub record Holds (p : Params) (sums : Sums) (taken : List CrifRow) : Type 0 where
  pub rest : List CrifRow
  pub are : sums ≡ book_sums p (rest ++ taken)
  pub amounts : list_all is_in_range (rest ++ taken) ≡ true
  pub few : length (rest ++ taken) < 2 ^ 32

-- From a book in range some rows go and others come, and these are then held.
pub record IsExchange (p : Params) (sums : Sums) (came gone held : List CrifRow) : Type 0 where
  pub before : List CrifRow
  pub are : sums ≡ book_sums p before
  pub moved : IsPermutation (before ++ came) (held ++ gone)
  pub amounts : list_all is_in_range (before ++ came) ≡ true
  pub few : length (before ++ came) < 2 ^ 32
  pub elsewhere : AreFewElsewhere came (factors_of held)

-- the sums hold these rows, whose factors are `leaving`, and others, among which those of a batch are
pub record IsNetted (p : Params) (sums : Sums) (leaving : List (FactorKey × Holding)) (came gone held : List CrifRow) : Type 0 where
  pub are : sums ≡ book_sums p (held ++ gone)
  pub leave : leaving ≡ factors_of gone
  pub amounts : list_all is_in_range (held ++ gone) ≡ true
  pub few : length (held ++ gone) < 2 ^ 32
  pub elsewhere : AreFewElsewhere came (factors_of held)

-- the sizes are those of these rows and of others before them
pub record AreWeighed (p : Params) (sizes : GrossSizes) (taken : List CrifRow) : Type 0 where
  pub rest : List CrifRow
  pub are : sizes ≡ sizes_in p (factors_of (rest ++ taken))
  pub amounts : list_all is_in_range (rest ++ taken) ≡ true
  pub few : length (rest ++ taken) < 2 ^ 32
