-- What the ranges of the movements and the quorums say of a valid image, and of the one that a permit leads to.
use Rattle.std.proofs.Common.{◌≡◌, ◌<◌, true, false, None, ◌∙◌, subst, sym}
use Rattle.std.specs.List.{Contains}
use Rattle.transformation_laws.proofs.cut_changes.CutsFollowed.{cuts_followed}
use Rattle.transformation_laws.proofs.deltas.ChangedByCommands.{changes_by_deltas}
use Rattle.transformations.proofs.quorums.AdjacentLemmas.{meet_next}
use Rattle.transformation_laws.proofs.histories.HistoryMeetings.{next_replications}
use Rattle.transformations.proofs.ranges.OutcomeLemmas.{are_outcomes, placed_by_outcomes, placed_by_ranges}
use Rattle.transformations.proofs.ranges.RangesKept.{ranges_kept}
use Rattle.transformations.proofs.histories.ValidLemmas.{valid_next}
use Rattle.transformations.specs.History.{is_command, most_epochs, next_image}
use Rattle.transformations.specs.Meeting.{HaveReplications, MeetsAfter, is_unsafe_join, makes_movement_epoch}
use Rattle.transformations.specs.Ranges.{AreOutcomes, ArePlacedByOutcomes, KeepsRanges, PlacedByRanges}
use Rattle.transformations.specs.Refusals.{refusal_of}
use Rattle.transformations.specs.Valid.{IsValid}
use Rattle.transformations.specs.declared.command.Command.{Command}
use Rattle.transformations.specs.declared.image.Image.{Image}
use Rattle.transformations.specs.declared.keyspace.KeyspaceRow.{KeyspaceRow}
use Rattle.cluster_metadata.specs.code.Change.{IsChange, changed}
use Rattle.cluster_metadata.specs.CutDeltas.{ActsByDelta, CutsMove}
use Rattle.cluster_metadata.specs.code.PermitParts.{IsPermitted}
use Rattle.cluster_metadata.specs.declared.changes.change.Change.{Change}

pub placed : (image : Image) → IsValid image → PlacedByRanges image
placed image valid = placed_by_ranges image valid.sound

pub rings : (image : Image) → IsValid image → AreOutcomes image
rings image valid = are_outcomes image valid.sound

pub placements : (image : Image) → IsValid image → ArePlacedByOutcomes image
placements image valid = placed_by_outcomes image valid.sound

-- the image that a change leads to is valid, if the change is that of a command that is accepted
pub valid_changed : (image : Image) (c : Command) (change : Change) → IsValid image → is_command c ≡ true → refusal_of image c ≡ None → image.epoch < most_epochs → IsChange image c change → IsValid (changed image change)
valid_changed image c change valid formed accepted below_limit makes = subst IsValid (sym makes.made) (valid_next image c valid formed accepted below_limit)

module _ (image after : Image) (c : Command) (change : Change) (permitted : IsPermitted image c change) (made : after ≡ changed image change) (valid : IsValid image) where
  leads : next_image image c ≡ after
  leads = sym (made ∙ permitted.makes.made)

  pub valid_after : IsValid after
  valid_after = subst IsValid leads (valid_next image c valid permitted.formed permitted.accepted permitted.below_limit)

  pub keeps_ranges : KeepsRanges image after
  keeps_ranges = subst (λ i. KeepsRanges image i) leads (ranges_kept image c valid permitted.formed permitted.accepted)

  pub replications_kept : HaveReplications image → HaveReplications after
  replications_kept have = subst HaveReplications leads (next_replications image c permitted.replicated have)

  -- the quorums of both meet under each keyspace for which the command makes a movement epoch
  pub quorums_meet : HaveReplications image → (k : KeyspaceRow) → Contains image.keyspaces k → makes_movement_epoch k.name c ≡ true → MeetsAfter image after k
  quorums_meet have k there moves =
      subst (λ i. MeetsAfter image i k) leads (meet_next image c valid have permitted.formed permitted.accepted permitted.below_limit k there moves)

  -- it changes the reads and the writes by its delta, and the cuts by the movement that begins or ends
  pub acts_by_delta : ActsByDelta image after c
  acts_by_delta = subst (λ i. ActsByDelta image i c) leads (changes_by_deltas image c valid permitted.formed permitted.accepted)

  pub cuts_move : is_unsafe_join c ≡ false → CutsMove image after c
  cuts_move moves = subst (λ i. CutsMove image i c) leads (cuts_followed image c valid.sound permitted.formed permitted.accepted moves)
