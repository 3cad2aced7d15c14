use Rattle.std.proofs.Common.{◌≡◌, ℤ, List, Result, Ok, Err, IfOk, OnOk, ap, sym, subst, ◌∙◌, inl, inr}
use Rattle.std.specs.List.{AllByRecursion}
use Rattle.cluster_terms.specs.Arc.{IsToken}
use Rattle.cluster_terms.specs.Row.{rows_between}
use Rattle.placement_deltas.specs.declared.delta_book.DeltaBookRow.{DeltaBookRow}
use Rattle.placement_deltas.specs.declared.plan.Plan.{Plan}
use Rattle.range_placements.specs.declared.row_changes.RowChange.{RowChange}
use Rattle.placement_deltas.specs.ExactDeltas.{AreDeltas, gained_by, no_nodes}
use Rattle.placement_deltas.specs.Replications.{replications_of}
use Rattle.transformations.specs.declared.image.Image.{Image}
use Rattle.transformations.specs.Rings.{cuts, cuts_among}
use Rattle.transformations.specs.declared.keyspace.KeyspaceRow.{KeyspaceRow}
use Rattle.cluster_metadata.proofs.accepted.KeyspaceLemmas.{unchanged_maps}
use Rattle.cluster_metadata.proofs.map_changes.ChangeSteps.{back_at, back_moves, begun_deltas, begun_moves, ended_at, ended_moves, finished_at, finished_moves, mid_at, mid_moves, registered_stays, started_at, started_moves, unregistered_stays}
use Rattle.placement_maps.proofs.EditedMaps.{RecutsAll}
use Rattle.cluster_metadata.proofs.map_changes.ChangedMaps.{made_from}
use Rattle.cluster_metadata.proofs.map_changes.MovementMaps.{SetsTurned, back_maps, end_maps, finish_maps, mid_maps, start_maps}
use Rattle.placement_maps.proofs.TurnedMaps.{begin_maps, nodes_maps}
use Rattle.cluster_metadata.specs.code.Change.{changed}
use Rattle.cluster_metadata.specs.code.MapSteps.{BringsMaps}
use Rattle.placement_maps.specs.code.MapChanges.{maps_after}
use Rattle.placement_maps.specs.code.ShownMaps.{AreMaps}
use Rattle.cluster_metadata.specs.code.Running.{plan_of}
use Rattle.cluster_metadata.specs.declared.changes.change.Change.{Change}
use Rattle.placement_maps.specs.declared.map_change.MapChange.{MapChange}
use Rattle.placement_maps.specs.declared.map_change.MapChange.TheVariants.{Sets}
use Rattle.range_placements.specs.declared.map_row.MapRow.{MapRow}
use Rattle.placement_maps.specs.declared.turn.Turn.{Turn}
use Rattle.placement_maps.specs.declared.turn.Turn.TheVariants as turn
use Rattle.cluster_metadata.proofs.changes.maps_after.maps_for.Goals as goal

pub returns-in-Unchanged : goal.returns-in-Unchanged
returns-in-Unchanged c book are =
    let image = c.args.image.now in
    let change = c.args.change.now in
    elim c.in-Unchanged.is [
      | inl unchanged ↦ unchanged_maps image change unchanged book are
      | inr (inl registered) ↦ nodes_maps image (changed image change) (registered_stays image change registered.0 registered.1 c.requires.steps) book are
      | inr (inr unregistered) ↦ nodes_maps image (changed image change) (unregistered_stays image change unregistered.0 unregistered.1 c.requires.steps) book are
    ]

-- new sets that the deltas of a plan give lead to the maps of the next image, where those of an equal plan do
turned_to : (image : Image) (change : Change) (made : MapChange) (maps : List MapRow) → AreMaps image maps → (t : Turn) (sets : List (List RowChange)) (deltas : Plan → List DeltaBookRow) (found own : Plan) → found ≡ own
    → SetsTurned maps t sets (deltas found) → (SetsTurned maps t sets (deltas own) → AreMaps (changed image change) (maps_after made maps)) → BringsMaps image change made
turned_to image change made maps are t sets deltas found own same turned leads =
    made_from image change made maps are (leads (subst (λ (p : Plan). SetsTurned maps t sets (deltas p)) same turned))

pub returns-in_ok-turned_book-in-Started : goal.returns-in_ok-turned_book-in-Started
returns-in_ok-turned_book-in-Started c =
    let image = c.args.image.now in
    let change = c.args.change.now in
    let maps = c.args.maps.now in
    let s = c.in-Started in
    let found = started_at image change s.at s.is c.requires.follows in
    let made = c.in_ok-turned_book-in-Started.field-0 in
    let movement = c.index-running-at in
    turned_to image change (Sets made) maps c.requires.maps turn.Writes made.items (λ (p : Plan). p.gain) _ _ c.plan.ensures.plan c.in_ok-turned_book-in-Started.ensures
    (λ turned. start_maps image maps c.args.running.now s.at movement.result found.row c.requires.maps c.requires.running c.requires.deltas found.here movement.is (changed image change) made.items turned
    (started_moves image change s.at s.is c.requires.steps))

pub returns-in_ok-turned_book-in-Mid : goal.returns-in_ok-turned_book-in-Mid
returns-in_ok-turned_book-in-Mid c =
    let image = c.args.image.now in
    let change = c.args.change.now in
    let maps = c.args.maps.now in
    let s = c.in-Mid in
    let found = mid_at image change s.at s.is c.requires.follows in
    let made = c.in_ok-turned_book-in-Mid.field-0 in
    let movement = c.index-running-at-in-Mid in
    turned_to image change (Sets made) maps c.requires.maps turn.Reads made.items (λ (p : Plan). p.swap) _ _ c.plan-in-Mid.ensures.plan c.in_ok-turned_book-in-Mid.ensures
    (λ turned. mid_maps image maps c.args.running.now s.at movement.result found.row c.requires.maps c.requires.running c.requires.deltas found.here movement.is (changed image change) made.items turned
    (mid_moves image change s.at s.is c.requires.steps))

pub returns-in_ok-turned_book-in-BroughtBack : goal.returns-in_ok-turned_book-in-BroughtBack
returns-in_ok-turned_book-in-BroughtBack c =
    let image = c.args.image.now in
    let change = c.args.change.now in
    let maps = c.args.maps.now in
    let s = c.in-BroughtBack in
    let found = back_at image change s.at s.is c.requires.follows in
    let made = c.in_ok-turned_book-in-BroughtBack.field-0 in
    let movement = c.index-running-at-in-BroughtBack in
    turned_to image change (Sets made) maps c.requires.maps turn.ReadsBack made.items (λ (p : Plan). p.swap) _ _ c.plan-in-BroughtBack.ensures.plan c.in_ok-turned_book-in-BroughtBack.ensures
    (λ turned. back_maps image maps c.args.running.now s.at movement.result found.row c.requires.maps c.requires.running c.requires.deltas found.here movement.is (changed image change) made.items turned
    (back_moves image change s.at s.is c.requires.steps))

-- the maps of other ranges lead to those of the next image, if these ranges are those between its cuts
recut_to : {E : Type 0} (image : Image) (change : Change) (maps : List MapRow) → AreMaps image maps → (t : Turn) (cuts_of : List ℤ) (deltas : Plan → List DeltaBookRow) (found own : Plan) → found ≡ own
    → cuts (changed image change) ≡ cuts_of → (next : Result MapChange E) → IfOk next (RecutsAll t (rows_between cuts_of) maps (deltas found)) → OnOk next (AllByRecursion IsToken cuts_of)
    → ((next : MapChange) → RecutsAll t (rows_between (cuts (changed image change))) maps (deltas own) next → AllByRecursion IsToken (cuts (changed image change)) → AreMaps (changed image change) (maps_after next maps))
    → IfOk next (BringsMaps image change)
recut_to image change maps are t cuts_of deltas found own same cut (Ok next) sets tokens leads =
    made_from image change next maps are
    (leads next (subst (λ (p : Plan). RecutsAll t (rows_between (cuts (changed image change))) maps (deltas p) next) same (subst (λ (ts : List ℤ). RecutsAll t (rows_between ts) maps (deltas found) next) (sym cut) sets))
    (subst (AllByRecursion IsToken) (sym cut) tokens))
recut_to image change maps are t cuts_of deltas found own same cut (Err e) sets tokens leads = tt

pub returns-in-Begun : goal.returns-in-Begun
returns-in-Begun c =
    let image = c.args.image.now in
    let change = c.args.change.now in
    let after : Image = changed image change in
    let b = c.in-Begun in
    let maps = c.args.maps.now in
    let recut = c.recut_among in
    let cut : cuts after ≡ cuts_among image.tokens b.sequences = ap (λ (ch : Change). cuts (changed image ch)) b.is in
    let moves = begun_moves image change b.at b.sequences b.plan b.is c.requires.steps in
    let deltas = begun_deltas image change b.at b.sequences b.plan b.is c.requires.brings in
    let exact = subst (λ (ks : List KeyspaceRow). AreDeltas (replications_of ks) (gained_by after b.plan.row) no_nodes b.plan.gain) moves.keyspaces deltas.gains in
    recut_to image change maps c.requires.maps turn.Keep (cuts_among image.tokens b.sequences) (λ (p : Plan). p.gain) _ _ c.get.ensures cut recut.result recut.ensures.maps recut.ensures.tokens
    (λ next sets tokens. begin_maps image after maps (gained_by after b.plan.row) no_nodes b.plan.gain next sets c.requires.maps exact tokens moves)

pub returns-in_ok-sequences-in-Finished : goal.returns-in_ok-sequences-in-Finished
returns-in_ok-sequences-in-Finished c =
    let image = c.args.image.now in
    let change = c.args.change.now in
    let s = c.in-Finished in
    let found = finished_at image change s.at s.left s.tokens s.is c.requires.follows in
    let movement = c.index-running-at-in-Finished in
    let sequences = c.in_ok-sequences-in-Finished.sequences in
    let maps = c.args.maps.now in
    let recut = c.recut_among-in-Finished in
    let cut : cuts (changed image change) ≡ cuts_among s.tokens sequences = ap (λ (ch : Change). cuts (changed image ch)) s.is ∙ ap (cuts_among s.tokens) (sym c.in_ok-sequences-in-Finished.ensures) in
    recut_to image change maps c.requires.maps turn.Writes (cuts_among s.tokens sequences) (λ (p : Plan). p.lose) _ _ c.plan-in-Finished.ensures.plan cut recut.result recut.ensures.maps recut.ensures.tokens
    (λ next sets tokens. finish_maps image maps c.args.running.now s.at movement.result found.row c.requires.maps c.requires.running c.requires.deltas found.here movement.is (changed image change) next sets tokens
    (finished_moves image change s.at s.left s.tokens s.is c.requires.steps))

pub returns-in_ok-sequences-in-Ended : goal.returns-in_ok-sequences-in-Ended
returns-in_ok-sequences-in-Ended c =
    let image = c.args.image.now in
    let change = c.args.change.now in
    let s = c.in-Ended in
    let found = ended_at image change s.at s.is c.requires.follows in
    let movement = c.index-running-at-in-Ended in
    let sequences = c.in_ok-sequences-in-Ended.sequences in
    let maps = c.args.maps.now in
    let recut = c.recut_among-in-Ended in
    let cut : cuts (changed image change) ≡ cuts_among image.tokens sequences = ap (λ (ch : Change). cuts (changed image ch)) s.is ∙ ap (cuts_among image.tokens) (sym c.in_ok-sequences-in-Ended.ensures) in
    recut_to image change maps c.requires.maps c.undoing-turn.result (cuts_among image.tokens sequences) (λ (p : Plan). p.gain) _ _ c.plan-in-Ended.ensures.plan cut recut.result recut.ensures.maps recut.ensures.tokens
    (λ next sets tokens. end_maps image maps c.args.running.now s.at movement.result found.row c.requires.maps c.requires.running c.requires.deltas found.here movement.is (changed image change) next
    (subst (λ (t : Turn). RecutsAll t (rows_between (cuts (changed image change))) maps (plan_of movement.result).gain next) c.undoing-turn.ensures sets) found.holds tokens
    (ended_moves image change s.at s.is c.requires.steps))
