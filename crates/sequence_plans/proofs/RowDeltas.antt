-- What the deltas of a movement show under one replication.
use Rattle.std.proofs.Common.{◌≡◌, ℕ, Bool, true, false, if◌then◌else◌, ℤ, List, [], ◌∷◌, None, map, refl, sym, ap, ◌∙◌, subst}
use Rattle.std.proofs.lemmas.List.{length-map}
use Rattle.std.proofs.lemmas.List.Elements.{All-contains, All-from_recursion}
use Rattle.std.specs.List.{AllByRecursion, Contains}
use Rattle.std.specs.List.Sorted.{IsStrictlySortedBy}
use Rattle.std.specs.Ordering.{int_cmp}
use Rattle.cluster_terms.proofs.rows.RowLemmas.{rows_have_last}
use Rattle.cluster_terms.specs.Arc.{IsToken}
use Rattle.cluster_terms.specs.Row.{is_within, last_token, rows_between}
use Rattle.cluster_terms.specs.declared.replication.Replication.{Replication}
use Rattle.cluster_terms.specs.declared.row.TokenRange.{TokenRange}
use Rattle.node_sets.specs.NodeSets.{without}
use Rattle.placement_deltas.proofs.JoinedDeltas.{between_is, between_shows}
use Rattle.placement_deltas.proofs.ShownChanges.{StandInRows, at_ends, shown_at}
use Rattle.placement_deltas.specs.Deltas.{IsDelta, ShowsChanges}
use Rattle.placement_deltas.specs.code.JoinedRows.{change_rows, joined_from}
use Rattle.placement_deltas.specs.declared.delta_row.DeltaRow.{DeltaRow}
use Rattle.token_ring.specs.TokenRanges.{AreCutOut, HaveTokens, IsRangeList, have_token}
use Rattle.transformations.proofs.deltas.DeltaRows.{IsWithPart, before-between, with-between, with_parts}
use Rattle.transformations.proofs.deltas.OutsideDeltas.{none_outside}
use Rattle.transformations.proofs.lists.ListLemmas.{all_both}
use Rattle.transformations.proofs.ranges.RowEndLemmas.{IsUpTo}
use Rattle.transformations.proofs.ranges.RowsServed.{cuts_ascend}
use Rattle.transformations.specs.MovementDeltas.{gained_at, lost_at}
use Rattle.transformations.specs.Ranges.{in_ranges, moved_by}
use Rattle.transformations.specs.Rings.{cuts}
use Rattle.transformations.specs.Valid.{IsSound}
use Rattle.transformations.specs.declared.image.Image.{Image}
use Rattle.transformations.specs.declared.sequence.SeqRow.{SeqRow}
use Rattle.sequence_plans.proofs.HomeDeltas.{gained_at_homes, lost_at_homes}
use Rattle.sequence_plans.proofs.NearCutSearch.{near_ascend}
use Rattle.sequence_plans.proofs.NearRows.{IsNearRow, near_rows}
use Rattle.placement_deltas.specs.ExactDeltas.{IsExact, gained_by, lost_by}
use Rattle.sequence_plans.specs.code.MovementRings.{PlacesMovement}
use Rattle.sequence_plans.specs.code.NearCuts.{near_cuts}
use Rattle.replica_placer.specs.Placers.{at_homes, placed_by}
use Rattle.sequence_plans.specs.code.RowChanges.{change_at}
use Rattle.sequence_plans.specs.declared.movement_rings.MovementPlacers.{MovementPlacers}

-- nodes at the tokens of ranges, and none elsewhere
abbrev inside : List TokenRange → (ℤ → List ℕ) → ℤ → List ℕ
inside ranges nodes x = if have_token ranges x then nodes x else []

module _ (image : Image) (s : SeqRow) (r : Replication) (h : IsSound image) (there : Contains image.sequences s) (ranges : List TokenRange) (have : HaveTokens (in_ranges image r s) ranges)
    (list : IsRangeList ranges) (out : AreCutOut (cuts image) ranges) (near : List ℤ) (is : near ≡ near_cuts (cuts image) ranges) (tokens : AllByRecursion IsToken near)
    (placers : MovementPlacers) (places : PlacesMovement image s (at_homes image.nodes (moved_by s) r) placers) where
  -- the replication in the datacenters where the movement changes something
  abbrev homes : Replication
  homes = at_homes image.nodes (moved_by s) r

  -- the nodes before the movement and after it, and those that are gained and lost
  abbrev before : ℤ → List ℕ
  before = inside ranges (placed_by placers.before)

  abbrev after : ℤ → List ℕ
  after = inside ranges (placed_by placers.after)

  abbrev gained : ℤ → List ℕ
  gained x = without (after x) (before x)

  abbrev lost : ℤ → List ℕ
  lost x = without (before x) (after x)

  gained_is : (x : ℤ) → IsToken x → gained x ≡ gained_at image r s x
  gained_is x token = by (have_token ranges x) refl
    where
      by : (b : Bool) → have_token ranges x ≡ b → without (if b then placed_by placers.after x else []) (if b then placed_by placers.before x else []) ≡ gained_at image r s x
      by true e = (λ i. without (places.after x i) (places.before x i)) ∙ gained_at_homes image s x r
      by false e = sym (none_outside image r s x h there (sym (have x token) ∙ e)).0

  lost_is : (x : ℤ) → IsToken x → lost x ≡ lost_at image r s x
  lost_is x token = by (have_token ranges x) refl
    where
      by : (b : Bool) → have_token ranges x ≡ b → without (if b then placed_by placers.before x else []) (if b then placed_by placers.after x else []) ≡ lost_at image r s x
      by true e = (λ i. without (places.before x i) (places.after x i)) ∙ lost_at_homes image s x r
      by false e = sym (none_outside image r s x h there (sym (have x token) ∙ e)).1

  -- ---- they are the same at all tokens of a row

  up : IsStrictlySortedBy int_cmp near
  up = near_ascend (cuts image) ranges near is (cuts_ascend image)

  stands : (nodes : ℤ → List ℕ) → ((x w : ℤ) → IsToken x → IsToken w → IsUpTo (cuts image) x w → nodes x ≡ nodes w) → StandInRows (inside ranges nodes) (rows_between near)
  stands nodes same =
      all_both (λ row. (x : ℤ) → is_within x row ≡ true → IsNearRow (cuts image) ranges x (last_token row.right))
      (λ row. (is_within (last_token row.right) row ≡ true) × IsToken (last_token row.right))
      (λ row. (x : ℤ) → IsToken x → is_within x row ≡ true → inside ranges nodes x ≡ inside ranges nodes (last_token row.right))
      (λ row alike last x token here.
      let a = alike x here in
      ap (λ b. if b then nodes x else []) a.same ∙ by x (last_token row.right) token last.1 (have_token ranges (last_token row.right)) refl a.upto)
      (rows_between near) (near_rows (cuts image) ranges near is (cuts_ascend image) list out tokens) (rows_have_last near up tokens)
    where
      by : (x w : ℤ) → IsToken x → IsToken w → (b : Bool) → have_token ranges w ≡ b → (have_token ranges w ≡ true → IsUpTo (cuts image) x w) → (if b then nodes x else []) ≡ (if b then nodes w else [])
      by x w one other true e upto = same x w one other (upto e)
      by x w one other false e upto = refl

  before_stands : StandInRows before (rows_between near)
  before_stands = stands (placed_by placers.before) (λ x w one other u. places.before x ∙ before-between image x w u.upto u.clear homes ∙ sym (places.before w))

  after_stands : StandInRows after (rows_between near)
  after_stands =
      let part = All-contains (IsWithPart image) image.sequences s (All-from_recursion (IsWithPart image) image.sequences (with_parts image)) there in
      stands (placed_by placers.after) (λ x w one other u. places.after x ∙ with-between image x w u.upto u.clear homes s part ∙ sym (places.after w))

  -- ---- so the delta is exact

  abbrev change : TokenRange → DeltaRow
  change = change_at ranges (placed_by placers.before) (placed_by placers.after)

  changes_are : (rows : List TokenRange) → map change rows ≡ change_rows rows (at_ends before rows) (at_ends after rows)
  changes_are [] = refl
  changes_are (row ∷ rows) = ap (λ more. change row ∷ more) (changes_are rows)

  joined_is : joined_from None (map change (rows_between near)) ≡ joined_from None (change_rows (rows_between near) (at_ends before (rows_between near)) (at_ends after (rows_between near)))
  joined_is = ap (joined_from None) (changes_are (rows_between near))

  pub swap_is : IsDelta (joined_from None (map change (rows_between near)))
  swap_is =
      subst IsDelta (sym joined_is)
      (between_is near (at_ends before (rows_between near)) (at_ends after (rows_between near)) up tokens (length-map (rows_between near) _) (length-map (rows_between near) _))

  pub swap_found : (delta : List DeltaRow) → delta ≡ joined_from None (map change (rows_between near)) → IsExact (gained_by image s r) (lost_by image s r) delta
  swap_found delta delta_is x token =
      let one = at_ends before (rows_between near) in
      let other = at_ends after (rows_between near) in
      let shows : ShowsChanges (rows_between near) one other delta =
      subst (ShowsChanges (rows_between near) one other) (sym (delta_is ∙ joined_is)) (between_shows near one other up tokens (length-map (rows_between near) _) (length-map (rows_between near) _)) in
      shown_at near one other delta before after up tokens shows refl refl before_stands after_stands x token
      ∙ (λ i. (gained_is x token i, lost_is x token i))
