-- The placement map of an image under a replication: its order, its cuts, and what it says at each token.
use Rattle.std.proofs.Common.{◌≡◌, ℕ, ◌≤◌, Bool, ◌&&◌, true, false, if◌then◌else◌, ℤ, ◌≤ℤ◌, int_lt, int_le, List, [], ◌∷◌, length, map, Option, Some, None, refl, sym, ap, ◌∙◌, arith}
use Rattle.std.proofs.lemmas.Int.{ints}
use Rattle.std.proofs.lemmas.List.Elements.{recursion_from_All}
use Rattle.std.proofs.lemmas.Map.Keys.{sorted_head, sorted_tail}
use Rattle.std.specs.List.{AllByRecursion}
use Rattle.std.specs.List.Sorted.{IsStrictlySortedBy}
use Rattle.std.specs.Ordering.{int_cmp, int_eq}
use Rattle.std.specs.declared.cmp.Ordering.TheVariants.{Less}
use Rattle.cluster_terms.specs.Arc.{IsToken, greatest_token}
use Rattle.cluster_terms.specs.Row.{is_last, is_past, is_within, rows_between, rows_from}
use Rattle.cluster_terms.specs.declared.replication.Replication.{Replication}
use Rattle.cluster_terms.specs.declared.row.TokenRange.{TokenRange}
use Rattle.cluster_terms.specs.declared.token.RightEnd.TheVariants.{At, Max}
use Rattle.range_placements.specs.Placements.{IsPlacementMap, map_at, placement_in}
use Rattle.transformations.proofs.ranges.RowsServed.{cuts_ascend, rows_stand}
use Rattle.transformations.specs.Rings.{StandsForTokens, cuts, reads_at, writes_at}
use Rattle.transformations.specs.declared.image.Image.{Image}
use Rattle.placement_maps.specs.Maps.{placement_row, placement_rows}
use Rattle.placement_maps.specs.code.Turns.{row_with}

-- ---- what the map says at a token

-- a token is left after each left end that it is past
some_left : (left : Option ℤ) (x : ℤ) → x ≤ℤ greatest_token → is_past left x ≡ true → is_last left ≡ false
some_left None x le past = refl
some_left (Some left) x le past = grind (arith, ints)

both : (a b : Bool) → a ≡ true → b ≡ true → (a && b) ≡ true
both true true h k = refl
both true false h k = k
both false b h k = h

module _ (image : Image) (r : Replication) (x : ℤ) (le : x ≤ℤ greatest_token) where
  abbrev served : List ℕ × List ℕ
  served = (reads_at image r x, writes_at image r x)

  served_from : (left : Option ℤ) (ends : List ℤ) → is_past left x ≡ true → AllByRecursion (StandsForTokens image r) (rows_from left ends)
      → map_at (map (placement_row image r) (rows_from left ends)) x ≡ served
  served_from left [] past all = by (is_last left) (some_left left x le past) all
    where
      by : (b : Bool) → b ≡ false → AllByRecursion (StandsForTokens image r) (if b then [] else (record { left = left; right = Max }) ∷ [])
          → map_at (map (placement_row image r) (if b then [] else (record { left = left; right = Max }) ∷ [])) x ≡ served
      by true h all = cc
      by false h all =
          let row : TokenRange = record { left = left; right = Max } in
          let end : int_le x greatest_token ≡ true = grind (arith, ints) in
          let within : is_within x row ≡ true = both (is_past left x) (int_le x greatest_token) past end in
          ap (λ b. if b then placement_in (placement_row image r row) else map_at [] x) end
          ∙ (λ i. (sym (all.0.reads x within) i, sym (all.0.writes x within) i))
  served_from left (cut ∷ ends) past all = by (int_le x cut) refl (λ later. served_from (Some cut) ends later all.1)
    where
      row : TokenRange
      row = record { left = left; right = At cut }

      by : (b : Bool) → int_le x cut ≡ b → (int_lt cut x ≡ true → map_at (map (placement_row image r) (rows_from (Some cut) ends)) x ≡ served)
          → (if b then placement_in (placement_row image r row) else map_at (map (placement_row image r) (rows_from (Some cut) ends)) x) ≡ served
      by true e rest =
          let within : is_within x row ≡ true = both (is_past left x) (int_le x cut) past e in
          λ i. (sym (all.0.reads x within) i, sym (all.0.writes x within) i)
      by false e rest = rest (grind (arith, ints))

  -- at each token it has the nodes that are read there and the nodes that are written
  pub served_at : map_at (placement_rows image r) x ≡ served
  served_at = served_from None (cuts image) refl (recursion_from_All (StandsForTokens image r) (rows_between (cuts image)) (rows_stand image r))

-- ---- the order of the rows

module _ (placement : ℤ → List ℕ × List ℕ) where
  map_from : (left : Option ℤ) (cut : ℤ) (ends : List ℤ) → IsStrictlySortedBy int_cmp (cut ∷ ends) → AllByRecursion IsToken (cut ∷ ends)
      → IsPlacementMap (map (row_with placement) (rows_from left (cut ∷ ends)))
  map_from left cut [] up tokens = by (is_last (Some cut)) refl
    where
      by : (b : Bool) → is_last (Some cut) ≡ b
          → IsPlacementMap (row_with placement (record { left = left; right = At cut }) ∷ map (row_with placement) (if b then [] else (record { left = Some cut; right = Max }) ∷ []))
      by true e = grind (arith, ints)
      by false e = (below cut e tokens.0.1, refl)
        where
          below : (t : ℤ) → int_eq t greatest_token ≡ false → t ≤ℤ greatest_token → int_lt t greatest_token ≡ true
          below t h k = grind (arith, ints)
  map_from left cut (next ∷ ends) up tokens =
      (below (sorted_head int_cmp cut (next ∷ ends) up).0, map_from (Some cut) next ends (sorted_tail int_cmp cut (next ∷ ends) up) tokens.1)
    where
      below : int_cmp cut next ≡ Less → int_lt cut next ≡ true
      below h = grind (arith, ints)

  pub ranges_map : (ends : List ℤ) → IsStrictlySortedBy int_cmp ends → AllByRecursion IsToken ends → IsPlacementMap (map (row_with placement) (rows_between ends))
  ranges_map [] up tokens = refl
  ranges_map (cut ∷ ends) up tokens = map_from None cut ends up tokens

module _ (image : Image) (r : Replication) where
  -- it is a map, if its cuts are tokens
  pub is_map : AllByRecursion IsToken (cuts image) → IsPlacementMap (placement_rows image r)
  is_map tokens = ranges_map (λ x. (reads_at image r x, writes_at image r x)) (cuts image) (cuts_ascend image) tokens

some_from : (ends : List ℤ) → 1 ≤ length (rows_between ends)
some_from [] = omega arith
some_from (cut ∷ ends) = omega arith

pub some_row : (image : Image) → 1 ≤ length (rows_between (cuts image))
some_row image = some_from (cuts image)
