-- The terms of the sample's two netting sets: amounts in cents, the haircut in ten-thousandths, minutes from midnight.
use Rattle.std.specs.Prelude.{ℕ, List, [], ◌∷◌, ◌==◌, codes, pos, if◌then◌else◌}
use Rattle.feed_reader.specs.CsaTerms.Terms.{Agreement, Agreements}

-- the name of the set at a place, from 0
abbrev pub set_name : ℕ → List ℕ
set_name place = if place == 0 then codes "S0" else codes "S1"

-- one class of collateral, cash in dollars, is taken whole
abbrev pub agreement : List ℕ → Agreement
agreement name = record {
  name = name;
  threshold = pos 500000;
  mta_delivery = pos 50000;
  mta_return = pos 50000;
  rounding = pos 10000;
  notification = 780;
  fx_haircut = pos 800;
  haircuts = record { class = codes "CASH-USD"; rate = pos 0 } ∷ [];
  holidays = [];
}

-- it posts by what it collects by
abbrev pub agreements : List ℕ → Agreements
agreements name = record { collect = agreement name; post = agreement name }

abbrev pub sample_terms : List Agreements
sample_terms = agreements (set_name 0) ∷ agreements (set_name 1) ∷ []
