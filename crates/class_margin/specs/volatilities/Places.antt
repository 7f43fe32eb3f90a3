-- The volatilities of a bucket among the factors of a book, and where they stand.
-- (ISDA SIMM methodology, definition of the sensitivities: vega of interest rates, credit, equity, commodities and foreign exchange.)
pub use Rattle.class_rates.specs.Places.{volatilities_place as currency_place, volatilities_of}
pub use Rattle.class_credit.specs.Points.{volatilities_place as points_place, volatilities_in as points_of}
pub use Rattle.class_priced.specs.Names.{volatilities_place as names_place, volatilities_in as name_volatilities}
pub use Rattle.class_exchange.specs.Pairs.{pairs_place, pair_volatilities}
