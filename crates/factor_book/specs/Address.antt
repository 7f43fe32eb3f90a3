-- What the places of a book are sorted by: product class, risk class, side and bucket.
use Rattle.std.specs.Prelude.{ℕ, Bool, true, false, ◌&&◌}
use Rattle.std.specs.Ordering.{nat_cmp, ordering_then}
use Rattle.std.specs.declared.cmp.Ordering.{Ordering}
use Rattle.simm_rules.specs.SimmKinds.declared.kinds.Side.{Side}
use Rattle.simm_rules.specs.SimmKinds.declared.kinds.Side.TheVariants as side
use Rattle.simm_rules.specs.SimmKinds.declared.key.FactorKey.{FactorKey}
use Rattle.simm_rules.specs.SimmKinds.Factors.{class_of, side_of, bucket_of}
use Rattle.simm_rules.specs.SimmKinds.Order.{product_place, class_place, bucket_id_cmp, same_product, same_class, same_bucket_id}
use Rattle.factor_book.specs.declared.place.BookSide.{BookSide}
use Rattle.factor_book.specs.declared.place.BookSide.TheVariants as book
use Rattle.factor_book.specs.declared.address.Address.{Address}

-- base correlation counts with delta
abbrev pub book_side : Side → BookSide
book_side side.Delta = book.Delta
book_side side.Volatility = book.Volatility
book_side side.BaseCorr = book.Delta

abbrev pub same_side : BookSide → BookSide → Bool
same_side book.Delta book.Delta = true
same_side book.Delta book.Volatility = false
same_side book.Volatility book.Delta = false
same_side book.Volatility book.Volatility = true

-- what the factors of a key are sorted by
abbrev pub key_address : FactorKey → Address
key_address k = record {
  product = k.product;
  class = class_of k.factor;
  side = book_side (side_of k.factor);
  bucket = bucket_of k.factor;
}

-- the key is of the address's product class, of its risk class and side, and of its bucket
abbrev pub is_filed_at : Address → FactorKey → Bool
is_filed_at at k =
    same_product k.product at.product
    && (same_class (class_of k.factor) at.class && same_side (book_side (side_of k.factor)) at.side)
    && same_bucket_id (bucket_of k.factor) at.bucket

abbrev pub book_side_place : BookSide → ℕ
book_side_place book.Delta = 0
book_side_place book.Volatility = 1

-- the order of addresses: part by part
abbrev pub address_cmp : Address → Address → Ordering
address_cmp p q =
    ordering_then (nat_cmp (product_place p.product) (product_place q.product))
    (ordering_then (nat_cmp (class_place p.class) (class_place q.class))
    (ordering_then (nat_cmp (book_side_place p.side) (book_side_place q.side))
    (bucket_id_cmp p.bucket q.bucket)))
