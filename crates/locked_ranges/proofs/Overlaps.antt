-- Locks that overlap: one after another is compared with those after it.
use Rattle.std.proofs.Common.{◌≡◌, ◌↔◌, ℕ, suc, ℤ, List, [], ◌∷◌, Option, Some, None, option_map, ap, arith}
use Rattle.std.proofs.lemmas.List.Elements.{All-from_recursion, recursion_from_All}
use Rattle.std.proofs.lemmas.List.Kept.{AllPairs-cons}
use Rattle.std.specs.List.{AllByRecursion, AllPairs}
use Rattle.std.specs.Option.{option_or}
use Rattle.cluster_terms.specs.declared.token.RightEnd.{RightEnd}
use Rattle.token_ring.specs.declared.range_book.LockRow.{LockRow}
use Rattle.locked_ranges.specs.Conflict.{conflict_of, overlap_among}
use Rattle.locked_ranges.specs.Sharing.{ShareNoToken}

abbrev IsApart : LockRow → LockRow → Type 0
IsApart one other = ShareNoToken one.ranges other.ranges

module _ (row : LockRow) (later : List LockRow) where
  pub next_overlap : (cuts : List ℤ) → conflict_of row.ranges later cuts ≡ None → overlap_among (row ∷ later) cuts ≡ overlap_among later cuts
  next_overlap cuts none = ap (λ (o : Option (ℕ × RightEnd)). option_or (option_map (λ c. (row.node, c.0, c.1)) o) (overlap_among later cuts)) none

  pub next_apart : AllByRecursion (λ w. ShareNoToken row.ranges w.ranges) later → AllPairs IsApart (row ∷ later) ↔ AllPairs IsApart later
  next_apart free = (
    λ pairs i j d before within. pairs (suc i) (suc j) d (omega (arith, before)) (omega (arith, within)),
    λ pairs. AllPairs-cons IsApart row later (All-from_recursion (λ (w : LockRow). ShareNoToken row.ranges w.ranges) later free) pairs,
  )

  pub first_free : AllPairs IsApart (row ∷ later) → AllByRecursion (λ w. ShareNoToken row.ranges w.ranges) later
  first_free pairs = recursion_from_All (λ (w : LockRow). ShareNoToken row.ranges w.ranges) later (λ k d within. pairs 0 (suc k) d (omega arith) (omega (arith, within)))
