-- When the ranges of two movements share a token. A book has the ranges of a movement under each replication of the
-- keyspaces. The books of a cluster are under the same replications, in the same order.
use Rattle.std.specs.Prelude.{◌≡◌, Bool, true, false, ◌&&◌, ℤ, List, map, zip}
use Rattle.std.specs.List.{AllByRecursion, list_any}
use Rattle.cluster_terms.specs.Arc.{IsToken}
use Rattle.token_ring.specs.TokenRanges.{have_token}
use Rattle.token_ring.specs.declared.range_book.RangeRow.{RangeRow}

-- whether a token is in the ranges of both books in one row. Where both books list the same replications in the same
-- order, this is: under one replication
abbrev pub share_token : List RangeRow → List RangeRow → ℤ → Bool
share_token one other t = list_any (λ rows. have_token rows.0.ranges t && have_token rows.1.ranges t) (zip one other)

-- two books share no token
abbrev pub ShareNoToken : List RangeRow → List RangeRow → Type 0
ShareNoToken one other = (t : ℤ) → IsToken t → share_token one other t ≡ false

-- a book is inside a wider one: both are under the same replications, and under each the wider one has all its tokens
pub record IsInside (book wide : List RangeRow) : Type 0 where
  pub rows : map (λ r. r.replication) book ≡ map (λ r. r.replication) wide
  pub tokens : AllByRecursion
      (λ rows. (t : ℤ) → IsToken t → have_token rows.0.ranges t ≡ true → have_token rows.1.ranges t ≡ true) (zip book wide)
