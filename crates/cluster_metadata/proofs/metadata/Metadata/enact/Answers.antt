use Rattle.std.proofs.Common.{◌≡◌, true, false, subst, sym}
use Rattle.std.specs.List.{Contains}
use Rattle.transformation_laws.proofs.cut_changes.CutsFollowed.{same_across}
use Rattle.transformations.specs.Meeting.{MeetsAfter, is_unsafe_join, makes_movement_epoch}
use Rattle.transformations.specs.Ranges.{KeepsRanges}
use Rattle.transformations.specs.Valid.{IsValid}
use Rattle.transformations.specs.declared.image.Image.{Image}
use Rattle.transformations.specs.declared.keyspace.KeyspaceRow.{KeyspaceRow}
use Rattle.cluster_metadata.proofs.map_changes.DeltasAcross.{deltas_across}
use Rattle.cluster_metadata.proofs.locks.LockPlaces.{locks_named}
use Rattle.cluster_metadata.proofs.locks.LocksKept.{locks_held}
use Rattle.cluster_metadata.proofs.locks.LocksTaken.{may_lock}
use Rattle.cluster_metadata.proofs.PermitOutcomes.{acts_by_delta, cuts_move, keeps_ranges, placed, placements, quorums_meet, replications_kept, rings, valid_after}
use Rattle.cluster_metadata.proofs.in_flight.PlanLemmas.{deltas_held}
use Rattle.placement_maps.proofs.EditedMaps.{maps_hold}
use Rattle.cluster_metadata.specs.code.Change.{changed}
use Rattle.cluster_metadata.specs.CutDeltas.{ActsByDelta, CutsMove}
use Rattle.placement_maps.specs.code.ShownMaps.{AreMaps}
use Rattle.cluster_metadata.specs.code.PermitParts.{IsPermitted}
use Rattle.cluster_metadata.proofs.metadata.Metadata.enact.Goals as goal

-- the permit is for this image and this command
permitted : (c : goal.After-make) → IsPermitted c.self.inside.image c.args.permit.command c.permit.inside.change
permitted c =
    let same : c.permit.inside.image.value ≡ c.self.inside.image = cc in
    let command : c.permit.inside.command.value ≡ c.args.permit.command = cc in
    rw (same, command) at c.permit.invariant.0

-- the image that is made is valid
valid : (c : goal.After-make) → IsValid c.make.new.image
valid c = valid_after c.self.inside.image c.make.new.image _ _ (permitted c) c.make.ensures.made c.self.invariant.valid

pub invariant_of-self : goal.invariant_of-self
invariant_of-self c =
    let same : c.permit.inside.image.value ≡ c.self.inside.image = cc in
    let brings = rw same at c.permit.invariant.3 in
    let maps = subst (AreMaps _) (sym c.exchange.ensures) (brings c.self.inside.maps c.self.invariant.maps) in
    record {
      valid = valid c;
      replications = replications_kept c.self.inside.image c.make.new.image _ _ (permitted c) c.make.ensures.made c.self.invariant.valid c.self.invariant.replications;
      directory = c.make.ensures.directory;
      maps = rw c.make.ensures.made maps;
      running = c.make.ensures.running;
      deltas = deltas_held c.self.inside.image c.make.new.image _ _ _ _ (permitted c) c.make.ensures.made c.self.invariant.valid c.self.invariant.running c.self.invariant.deltas
          (valid c).sound.movements c.make.ensures.running c.make.ensures.plans;
      locks = rw c.make.ensures.locks
          (locks_held c.self.inside.image c.make.new.image _ _ _ _ _ (permitted c) c.make.ensures.made c.self.invariant.valid c.self.invariant.running c.self.invariant.locks
          (valid c).sound.movements c.make.ensures.running c.make.ensures.plans);
    }

pub exchange-requires : goal.exchange-requires
exchange-requires c =
    let same : c.permit.inside.image.value ≡ c.self.inside.image = cc in
    let brings = rw same at c.permit.invariant.3 in
    maps_hold (changed c.self.inside.image c.permit.inside.change) _ (brings c.self.inside.maps c.self.invariant.maps).placements

pub make-requires-clause-names : goal.make-requires-clause-names
make-requires-clause-names c = locks_named _ _ _ c.self.invariant.locks

pub make-requires-clause-free : goal.make-requires-clause-free
make-requires-clause-free c =
    let same : c.permit.inside.image.value ≡ c.self.inside.image = cc in
    let permitted = rw same at c.permit.invariant.0 in
    may_lock c.self.inside.image _ _ _ permitted c.self.invariant.valid c.self.invariant.locks

pub returns-clause-apart : goal.returns-clause-apart
returns-clause-apart c = (valid c).apart

pub returns-clause-outcomes : goal.returns-clause-outcomes
returns-clause-outcomes c = placed _ (valid c)

pub returns-clause-rings : goal.returns-clause-rings
returns-clause-rings c = rings _ (valid c)

pub returns-clause-placements : goal.returns-clause-placements
returns-clause-placements c = placements _ (valid c)

pub returns-clause-ranges : goal.returns-clause-ranges
returns-clause-ranges c =
    subst (λ i. KeepsRanges i c.make.new.image) c.self.view_is
    (keeps_ranges c.self.inside.image c.make.new.image _ _ (permitted c) c.make.ensures.made c.self.invariant.valid)

pub returns-clause-meets : goal.returns-clause-meets
returns-clause-meets c =
    subst (λ (i : Image). (k : KeyspaceRow) → Contains i.keyspaces k → makes_movement_epoch k.name c.args.permit.command ≡ true → MeetsAfter i c.make.new.image k) c.self.view_is
    (quorums_meet c.self.inside.image c.make.new.image _ _ (permitted c) c.make.ensures.made c.self.invariant.valid c.self.invariant.replications)

pub returns-clause-acts : goal.returns-clause-acts
returns-clause-acts c =
    subst (λ i. ActsByDelta i c.make.new.image c.args.permit.command) c.self.view_is
    (acts_by_delta c.self.inside.image c.make.new.image _ _ (permitted c) c.make.ensures.made c.self.invariant.valid)

pub returns-clause-cuts : goal.returns-clause-cuts
returns-clause-cuts c =
    subst (λ i. is_unsafe_join c.args.permit.command ≡ false → CutsMove i c.make.new.image c.args.permit.command) c.self.view_is
    (cuts_move c.self.inside.image c.make.new.image _ _ (permitted c) c.make.ensures.made c.self.invariant.valid)

pub returns-clause-across : goal.returns-clause-across
returns-clause-across c = same_across _

pub returns-clause-live : goal.returns-clause-live
returns-clause-live c = deltas_across _
