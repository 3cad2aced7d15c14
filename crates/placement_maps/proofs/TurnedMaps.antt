-- Placement maps that are changed by the deltas of a movement are those of the image after its step.
use Rattle.std.proofs.Common.{◌≡◌, ℕ, true, false, true≢false, ℤ, List, [], ◌∷◌, map, refl, sym, ap, ◌∙◌, subst}
use Rattle.std.specs.List.{AllByRecursion}
use Rattle.cluster_terms.proofs.rows.RowLemmas.{rows_have_last}
use Rattle.cluster_terms.specs.Arc.{IsToken}
use Rattle.cluster_terms.specs.Row.{is_within, last_token, rows_between}
use Rattle.cluster_terms.specs.declared.replication.Replication.{Replication}
use Rattle.cluster_terms.specs.declared.row.TokenRange.{TokenRange}
use Rattle.placement_deltas.specs.Deltas.{delta_at}
use Rattle.placement_deltas.specs.declared.delta_book.DeltaBookRow.{DeltaBookRow}
use Rattle.placement_deltas.specs.declared.delta_row.DeltaRow.{DeltaRow}
use Rattle.range_placements.specs.code.Changing.{row_changed}
use Rattle.range_placements.specs.declared.placement_row.PlacementRow.{PlacementRow}
use Rattle.placement_deltas.specs.ExactDeltas.{AreDeltas, IsExact, gained_by, lost_by, no_nodes}
use Rattle.placement_deltas.specs.Replications.{replications_of}
use Rattle.transformation_laws.proofs.deltas.SetChanges.{changed_none}
use Rattle.transformations.proofs.lists.ListLemmas.{all_both, all_from_map, all_weaker}
use Rattle.transformations.proofs.ranges.RowsServed.{cuts_ascend}
use Rattle.transformations.specs.DeltaSteps.{AreChanged, PlacementDelta, cancel_delta, step_delta, with_delta}
use Rattle.transformations.specs.Rings.{cuts, is_mid, reads_at, writes_at}
use Rattle.transformations.specs.declared.image.Image.{Image}
use Rattle.transformations.specs.declared.sequence.Goal.TheVariants as goal
use Rattle.transformations.specs.declared.sequence.Phase.{Phase}
use Rattle.transformations.specs.declared.sequence.Phase.TheVariants as phase
use Rattle.transformations.specs.declared.sequence.SeqRow.{SeqRow}
use Rattle.placement_maps.proofs.EditedMaps.{RecutsAll}
use Rattle.placement_maps.proofs.ExchangedMaps.{same_count}
use Rattle.placement_maps.proofs.ImageMaps.{served_at}
use Rattle.placement_maps.specs.code.MapChanges.{maps_after}
use Rattle.placement_maps.specs.code.Moves.{MovesBy, Stays, deltas_of, no_deltas}
use Rattle.placement_maps.specs.Maps.{placement_row, placement_rows}
use Rattle.placement_maps.specs.code.ShownMaps.{AreMaps, IsMapOf}
use Rattle.placement_maps.specs.Served.{served_by}
use Rattle.placement_maps.specs.code.Turns.{each_map, recut_rows, row_to, row_with, turned, turned_at, turned_rows, undoing}
use Rattle.placement_maps.specs.declared.map_change.MapChange.{MapChange}
use Rattle.range_placements.specs.declared.map_row.MapRow.{MapRow}
use Rattle.placement_maps.specs.declared.turn.Turn.{Turn}
use Rattle.placement_maps.specs.declared.turn.Turn.TheVariants.{Keep, Reads, Writes, ReadsBack}

-- ---- the rows of a map

-- the last token of each row between cuts is a token
end_tokens : (image : Image) → AllByRecursion IsToken (cuts image) → AllByRecursion (λ (range : TokenRange). IsToken (last_token range.right)) (rows_between (cuts image))
end_tokens image tokens =
    all_weaker (λ (range : TokenRange). (is_within (last_token range.right) range ≡ true) × IsToken (last_token range.right)) (λ (range : TokenRange). IsToken (last_token range.right)) (λ range both. both.1)
    (rows_between (cuts image)) (rows_have_last (cuts image) (cuts_ascend image) tokens)

module _ (before after : Image) (r : Replication) where
  module _ (same : cuts after ≡ cuts before) (tokens : AllByRecursion IsToken (cuts before)) where
    rows_turned : (turn : Turn) (delta : List DeltaRow) → ((x : ℤ) → IsToken x → turned turn (served_by before x r) (delta_at delta x) ≡ served_by after x r)
        → turned_rows turn (placement_rows before r) delta ≡ placement_rows after r
    rows_turned turn delta turns = each (rows_between (cuts before)) (end_tokens before tokens) ∙ ap (λ cs. map (placement_row after r) (rows_between cs)) (sym same)
      where
        each : (ranges : List TokenRange) → AllByRecursion (λ (range : TokenRange). IsToken (last_token range.right)) ranges
            → turned_rows turn (map (placement_row before r) ranges) delta ≡ map (placement_row after r) ranges
        each [] all = refl
        each (range ∷ ranges) all =
            let row : row_changed (turned turn) delta (placement_row before r range) ≡ placement_row after r range = ap (row_to range.right) (turns (last_token range.right) all.0) in
            λ i. row i ∷ each ranges all.1 i

    same_rows : ((x : ℤ) → IsToken x → served_by before x r ≡ served_by after x r) → placement_rows before r ≡ placement_rows after r
    same_rows stay = each (rows_between (cuts before)) (end_tokens before tokens) ∙ ap (λ cs. map (placement_row after r) (rows_between cs)) (sym same)
      where
        each : (ranges : List TokenRange) → AllByRecursion (λ (range : TokenRange). IsToken (last_token range.right)) ranges → map (placement_row before r) ranges ≡ map (placement_row after r) ranges
        each [] all = refl
        each (range ∷ ranges) all =
            let row : placement_row before r range ≡ placement_row after r range = ap (row_to range.right) (stay (last_token range.right) all.0) in
            λ i. row i ∷ each ranges all.1 i

  -- the rows between other cuts
  rows_recut : AllByRecursion IsToken (cuts after) → (turn : Turn) (delta : List DeltaRow) → ((x : ℤ) → IsToken x → turned turn (served_by before x r) (delta_at delta x) ≡ served_by after x r)
      → recut_rows turn (rows_between (cuts after)) (placement_rows before r) delta ≡ placement_rows after r
  rows_recut tokens turn delta turns = each (rows_between (cuts after)) (end_tokens after tokens)
    where
      found : ℤ → List ℕ × List ℕ
      found = turned_at turn (placement_rows before r) delta

      each : (ranges : List TokenRange) → AllByRecursion (λ (range : TokenRange). IsToken (last_token range.right)) ranges → map (row_with found) ranges ≡ map (placement_row after r) ranges
      each [] all = refl
      each (range ∷ ranges) all =
          let x = last_token range.right in
          let at : found x ≡ served_by after x r = ap (λ p. turned turn p (delta_at delta x)) (served_at before r x all.0.1) ∙ turns x all.0 in
          let row : row_with found range ≡ placement_row after r range = ap (row_to range.right) at in
          λ i. row i ∷ each ranges all.1 i

-- ---- books

-- a turn by what a movement gains and loses is the change by a delta
abbrev pub Turns : Turn → (ℤ → List ℕ) → (ℤ → List ℕ) → (ℤ → PlacementDelta) → Type 0
Turns turn gained lost delta = (x : ℤ) (reads writes : List ℕ) → turned turn (reads, writes) (gained x, lost x) ≡ (with_delta reads (delta x).reads, with_delta writes (delta x).writes)

module _ (before after : Image) (gained lost : Replication → ℤ → List ℕ) (delta : Replication → ℤ → PlacementDelta) where
  abbrev Changes : Replication → Type 0
  Changes r = (x : ℤ) → IsToken x → AreChanged before after r x (delta r x)

  -- a change of maps leads to those of the image after, from an exact delta
  abbrev LeadsOn : (List PlacementRow → List DeltaRow → List PlacementRow) → Type 0
  LeadsOn change = (r : Replication) (rows : List DeltaRow) → AllByRecursion IsToken (cuts before) → IsExact (gained r) (lost r) rows → Changes r → change (placement_rows before r) rows ≡ placement_rows after r

  module _ (change : List PlacementRow → List DeltaRow → List PlacementRow) (tokens : AllByRecursion IsToken (cuts before) → AllByRecursion IsToken (cuts after)) (leads : LeadsOn change) where
    each_leads : (rs : List Replication) (book : List MapRow) (deltas : List DeltaBookRow) → map (λ (row : MapRow). row.replication) book ≡ rs → map (λ (row : DeltaBookRow). row.replication) deltas ≡ rs
        → AllByRecursion (IsMapOf before) book → AllByRecursion (λ (row : DeltaBookRow). IsExact (gained row.replication) (lost row.replication) row.delta) deltas → AllByRecursion Changes rs
        → (map (λ (row : MapRow). row.replication) (each_map change book deltas) ≡ rs) × AllByRecursion (IsMapOf after) (each_map change book deltas)
    each_leads rs [] deltas mine theirs have exact changes = (mine, tt)
    each_leads [] (row ∷ book) [] mine theirs have exact changes = cc mine
    each_leads (r ∷ rs) (row ∷ book) [] mine theirs have exact changes = cc theirs
    each_leads [] (row ∷ book) (d ∷ deltas) mine theirs have exact changes = cc mine
    each_leads (r ∷ rs) (row ∷ book) (d ∷ deltas) mine theirs have exact changes =
        let own : row.replication ≡ r = cc mine in
        let other : d.replication ≡ r = cc theirs in
        let rest = each_leads rs book deltas (cc mine) (cc theirs) have.1 exact.1 changes.1 in
        let here : change row.map d.delta ≡ placement_rows after row.replication =
        ap (λ rows. change rows d.delta) (have.0.0 ∙ ap (placement_rows before) own)
        ∙ leads r d.delta have.0.1 (subst (λ q. IsExact (gained q) (lost q) d.delta) other exact.0) changes.0 ∙ ap (placement_rows after) (sym own) in
        ((λ i. own i ∷ rest.0 i), ((here, tokens have.0.1), rest.1))

    maps_led : (book : List MapRow) (deltas : List DeltaBookRow) → MovesBy before after delta → AreMaps before book → AreDeltas (replications_of before.keyspaces) gained lost deltas
        → AreMaps after (each_map change book deltas)
    maps_led book deltas moves are exact =
        let led = each_leads (replications_of before.keyspaces) book deltas are.replications exact.rows are.placements exact.exact moves.changes in
        record { replications = led.0 ∙ ap replications_of (sym moves.keyspaces); placements = led.1 }

  module _ (turn : Turn) (turns : (r : Replication) → Turns turn (gained r) (lost r) (delta r)) where
    serves : (r : Replication) (rows : List DeltaRow) → IsExact (gained r) (lost r) rows → Changes r → (x : ℤ) → IsToken x → turned turn (served_by before x r) (delta_at rows x) ≡ served_by after x r
    serves r rows exact changes x token =
        ap (turned turn (served_by before x r)) (exact x token) ∙ turns r x (reads_at before r x) (writes_at before r x)
        ∙ (let c = changes x token in λ i. (sym c.reads i, sym c.writes i))

    pub maps_turned : (book : List MapRow) (deltas : List DeltaBookRow) → cuts after ≡ cuts before → MovesBy before after delta → AreMaps before book → AreDeltas (replications_of before.keyspaces) gained lost deltas
        → AreMaps after (each_map (turned_rows turn) book deltas)
    maps_turned book deltas same moves are exact =
        maps_led (turned_rows turn) (subst (AllByRecursion IsToken) (sym same)) (λ r rows tokens exact changes. rows_turned before after r same tokens turn rows (serves r rows exact changes)) book deltas
        moves are exact

    pub maps_recut : (book : List MapRow) (deltas : List DeltaBookRow) → AllByRecursion IsToken (cuts after) → MovesBy before after delta → AreMaps before book → AreDeltas (replications_of before.keyspaces) gained lost deltas
        → AreMaps after (each_map (recut_rows turn (rows_between (cuts after))) book deltas)
    maps_recut book deltas tokens moves are exact =
        maps_led (recut_rows turn (rows_between (cuts after))) (λ was. tokens) (λ r rows was exact changes. rows_recut before after r tokens turn rows (serves r rows exact changes)) book deltas moves are exact

module _ (before after : Image) (same : cuts after ≡ cuts before) where
  -- a replication's rows stay, if the cuts are tokens
  abbrev KeepsRows : Replication → Type 0
  KeepsRows r = AllByRecursion IsToken (cuts before) → placement_rows before r ≡ placement_rows after r

  -- where nothing changes, the maps stay
  maps_stay : (book : List MapRow) → MovesBy before after no_deltas → AreMaps before book → AreMaps after book
  maps_stay book moves are = record {
    replications = are.replications ∙ ap replications_of (sym moves.keyspaces);
    placements =
        all_both (IsMapOf before) (λ (row : MapRow). KeepsRows row.replication) (IsMapOf after) (λ row have stay. (have.0 ∙ stay have.1, subst (AllByRecursion IsToken) (sym same) have.1)) book are.placements
        (all_from_map KeepsRows (λ (row : MapRow). row.replication) book
        (subst (AllByRecursion KeepsRows) (sym are.replications)
        (all_weaker (λ r. (x : ℤ) → IsToken x → AreChanged before after r x (no_deltas r x)) KeepsRows
        (λ r changes tokens. same_rows before after r same tokens (λ x token. (let c = changes x token in λ i. ((changed_none (reads_at before r x) ∙ sym c.reads) i, (changed_none (writes_at before r x) ∙ sym c.writes) i))))
        (replications_of before.keyspaces) moves.changes)));
  }

-- a change of one node keeps them
pub nodes_maps : (image after : Image) → Stays image after → (book : List MapRow) → AreMaps image book → AreMaps after book
nodes_maps image after stays book are = maps_stay image after stays.1 book stays.0 are

-- ---- the steps of a movement

module _ (image : Image) (s : SeqRow) (r : Replication) where
  pub start_turns : Turns Writes (gained_by image s r) (no_nodes r) (deltas_of (step_delta goal.Start) image s r)
  start_turns x reads writes = λ i. (changed_none reads i, with_delta writes (deltas_of (step_delta goal.Start) image s r x).writes)

  pub mid_turns : Turns Reads (gained_by image s r) (lost_by image s r) (deltas_of (step_delta goal.Mid) image s r)
  mid_turns x reads writes = λ i. (with_delta reads (deltas_of (step_delta goal.Mid) image s r x).reads, changed_none writes i)

  pub back_turns : Turns ReadsBack (gained_by image s r) (lost_by image s r) (deltas_of (cancel_delta phase.Mid) image s r)
  back_turns x reads writes = λ i. (with_delta reads (deltas_of (cancel_delta phase.Mid) image s r x).reads, changed_none writes i)

  pub finish_turns : Turns Writes (no_nodes r) (lost_by image s r) (deltas_of (step_delta goal.Finish) image s r)
  finish_turns x reads writes = λ i. (changed_none reads i, with_delta writes (deltas_of (step_delta goal.Finish) image s r x).writes)

  -- the last step is undone, with the deltas of the start
  pub undo_turns : (phase : Phase) → is_mid phase ≡ false → Turns (undoing phase) (gained_by image s r) (no_nodes r) (deltas_of (cancel_delta phase) image s r)
  undo_turns phase.Prepared early x reads writes = λ i. (changed_none reads i, changed_none writes i)
  undo_turns phase.Started early x reads writes = λ i. (changed_none reads i, with_delta writes (deltas_of (cancel_delta phase.Started) image s r x).writes)
  undo_turns phase.Mid early x reads writes = absurd (true≢false early)

-- a movement that begins changes no set
pub begin_maps : (image after : Image) (book : List MapRow) (gained lost : Replication → ℤ → List ℕ) (deltas : List DeltaBookRow) (made : MapChange) → RecutsAll Keep (rows_between (cuts after)) book deltas made
    → AreMaps image book → AreDeltas (replications_of image.keyspaces) gained lost deltas → AllByRecursion IsToken (cuts after) → MovesBy image after no_deltas → AreMaps after (maps_after made book)
begin_maps image after book gained lost deltas made sets are exact tokens moves =
    subst (AreMaps after) (sym (sets (same_count image book deltas gained lost are exact)))
    (maps_recut image after gained lost no_deltas Keep (λ r x reads writes. λ i. (changed_none reads i, changed_none writes i)) book deltas tokens moves are exact)
