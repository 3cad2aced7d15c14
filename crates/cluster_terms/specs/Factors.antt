-- The factors of a topology replication: datacenters, each with its number of replicas.
use Rattle.std.specs.Prelude.{ℕ, ◌≤◌, Bool, ◌&&◌, List, map, length, nat_le, ◌==◌, IsTrue, sum_by}
use Rattle.std.specs.Cmp.Lexicographic.{slice_cmp}
use Rattle.std.specs.List.{All}
use Rattle.std.specs.List.Sorted.{IsStrictlySortedBy}
use Rattle.std.specs.Ordering.{nat_cmp}
use Rattle.std.specs.Set.{distinct_count}
use Rattle.std.specs.Str.{bytes_eq}
use Rattle.std.specs.declared.cmp.Ordering.{Ordering}
use Rattle.cluster_terms.specs.Name.{is_name}
use Rattle.cluster_terms.specs.Rf.{IsFactor}

-- rows are ordered by the bytes of their names
abbrev pub by_datacenter : List ℕ × ℕ → List ℕ × ℕ → Ordering
by_datacenter a b = slice_cmp nat_cmp a.0 b.0

-- the names of the rows
abbrev pub names_of : List (List ℕ × ℕ) → List (List ℕ)
names_of rows = map (λ row. row.0) rows

-- whether rows make up factors: there are 1 to 16 rows, and no two of them have the same name
abbrev pub are_factors : List (List ℕ × ℕ) → Bool
are_factors rows =
    nat_le 1 (length rows) && nat_le (length rows) 16 && (distinct_count bytes_eq (names_of rows) == length rows)

-- a row is a name and a factor
pub record IsFactorRow (row : List ℕ × ℕ) : Type 0 where
  pub name : IsTrue (is_name row.0)
  pub factor : IsFactor row.1

-- factors are 1 to 16 rows, each with a name below all later ones
pub record IsFactors (rows : List (List ℕ × ℕ)) : Type 0 where
  pub some : 1 ≤ length rows
  pub few : length rows ≤ 16
  pub ascending : IsStrictlySortedBy by_datacenter rows
  pub valid : All IsFactorRow rows

-- the number of replicas that the factors ask for in all
abbrev pub sum_of_factors : List (List ℕ × ℕ) → ℕ
sum_of_factors rows = sum_by (λ row. row.1) rows
