-- The delta of one side of a delta.
use Rattle.std.proofs.Common.{◌≡◌, ℕ, suc, ◌+◌, ◌<◌, Bool, true, false, if◌then◌else◌, ℤ, int_le, List, [], ◌∷◌, ◌++◌, length, map, take, get_or, not, nat_eq, ◌==◌, None, refl, sym, ap, ◌∙◌, arith}
use Rattle.std.proofs.lemmas.Bool.Decides.{nat_tests}
use Rattle.std.proofs.lemmas.Cmp.{nat_eq_equiv}
use Rattle.std.proofs.lemmas.Int.{ints}
use Rattle.std.proofs.lemmas.List.{map-append, take_more}
use Rattle.std.proofs.lemmas.Map.Made.{All-is_member}
use Rattle.std.specs.Cmp.Lexicographic.{pointwise}
use Rattle.std.specs.List.{AllByRecursion}
use Rattle.cluster_terms.specs.Arc.{IsToken, greatest_token}
use Rattle.cluster_terms.specs.Row.{CoverRing, last_token}
use Rattle.cluster_terms.specs.declared.token.RightEnd.{RightEnd}
use Rattle.token_ring.proofs.RangeLemmas.{from_all}
use Rattle.node_sets.specs.NodeSets.{has_node, without}
use Rattle.placement_deltas.proofs.DeltaLemmas.{covers_ring}
use Rattle.placement_deltas.proofs.JoinedDeltas.{joined_at, joined_is}
use Rattle.placement_deltas.specs.Deltas.{IsDelta, change_in, delta_at, only}
use Rattle.placement_deltas.specs.code.JoinedRows.{change_row, joined_from, row_of_side}
use Rattle.placement_deltas.specs.declared.delta_row.DeltaRow.{DeltaRow}
use Rattle.placement_deltas.specs.declared.side.Side.{Side}
use Rattle.placement_deltas.specs.declared.side.Side.TheVariants.{Gained, Lost}

-- the rows of one side cover the ring
side_covers : (side : Side) (rows : List DeltaRow) → CoverRing (λ (r : DeltaRow). r.right) rows → CoverRing (λ (r : DeltaRow). r.right) (map (row_of_side side) rows)
side_covers side [] covers = covers
side_covers side (row ∷ []) covers = covers
side_covers side (row ∷ next ∷ rows) covers = (covers.0, side_covers side (next ∷ rows) covers.1)

-- they tell this side at each token
side_at : (side : Side) (rows : List DeltaRow) (x : ℤ) → delta_at (map (row_of_side side) rows) x ≡ only side (delta_at rows x)
side_at Gained [] x = refl
side_at Lost [] x = refl
side_at side (row ∷ rows) x = by (int_le x (last_token row.right)) (side_at side rows x)
  where
    by : (b : Bool) → delta_at (map (row_of_side side) rows) x ≡ only side (delta_at rows x)
        → (if b then change_in (row_of_side side row) else delta_at (map (row_of_side side) rows) x) ≡ only side (if b then change_in row else delta_at rows x)
    by true rest = refl
    by false rest = rest

-- and so do they once they are joined, which makes them a delta
module _ (side : Side) where
  pub side_is : (rows : List DeltaRow) → IsDelta rows → IsDelta (joined_from None (map (row_of_side side) rows))
  side_is [] delta = absurd delta
  side_is (row ∷ rows) delta =
      joined_is (row_of_side side row) (map (row_of_side side) rows) (side_covers side (row ∷ rows) (covers_ring (row ∷ rows) delta))

  pub side_told : (rows : List DeltaRow) → IsDelta rows → (x : ℤ) → IsToken x → delta_at (joined_from None (map (row_of_side side) rows)) x ≡ only side (delta_at rows x)
  side_told [] delta x token = absurd delta
  side_told (row ∷ rows) delta x token =
      joined_at (row_of_side side row) (map (row_of_side side) rows) x (side_covers side (row ∷ rows) (covers_ring (row ∷ rows) delta)) top ∙ side_at side (row ∷ rows) x
    where
      top : int_le x greatest_token ≡ true
      top = let most = token.1 in grind (arith, ints)

  -- ---- one row more

  pub sides_more : (rows : List DeltaRow) (i : ℕ) (row : DeltaRow) → i < length rows → row ≡ get_or rows i row → map (row_of_side side) (take (i + 1) rows) ≡ map (row_of_side side) (take i rows) ++ row_of_side side row ∷ []
  sides_more rows i row within is =
      ap (map (row_of_side side)) (take_more rows i row within ∙ ap (λ (r : DeltaRow). take i rows ++ r ∷ []) (sym is)) ∙ map-append (row_of_side side) (take i rows) (row ∷ [])

-- a list is that of no node if it is empty
pub none_in : (xs : List ℕ) → pointwise nat_eq xs [] ≡ (length xs == 0)
none_in [] = refl
none_in (x ∷ xs) = let some : (suc (length xs) == 0) ≡ false = grind (arith, nat_tests) in sym some

-- nothing changes between equal sets
without_members : (all xs : List ℕ) → AllByRecursion (λ x. has_node all x ≡ true) xs → without xs all ≡ []
without_members all [] among = refl
without_members all (x ∷ xs) among = ap (λ b. if not b then x ∷ without xs all else without xs all) among.0 ∙ without_members all xs among.1

are_members : (xs : List ℕ) → AllByRecursion (λ x. has_node xs x ≡ true) xs
are_members xs = from_all (λ x. has_node xs x ≡ true) xs (All-is_member nat_eq_equiv xs)

pub unchanged_row : (right : RightEnd) (before after : List ℕ) → before ≡ after → change_row right before after ≡ record { right = right; gained = []; lost = [] }
unchanged_row right before after same =
    let none = without_members after after (are_members after) in
    rw same (λ j. record { right = right; gained = none j; lost = none j })
