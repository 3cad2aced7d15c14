use Rattle.cluster_metadata.proofs.locks.LocksResumed.{cause_through}
use Rattle.cluster_metadata.proofs.RuleLemmas.{bad_first, bad_later, good_image}
use Rattle.transformation_laws.proofs.images.SoundLaws.{sound_from}
use Rattle.transformation_laws.proofs.images.ValidLaws.{valid_from}
use Rattle.cluster_metadata.proofs.metadata_parts.parts_of.Goals as goal

pub directory_for-requires : goal.directory_for-requires
directory_for-requires c = sound_from _ c.in_ok-check_lists.ensures

pub resume_all-requires-clause-sound : goal.resume_all-requires-clause-sound
resume_all-requires-clause-sound c = sound_from _ c.in_ok-check_lists.ensures

pub maps_in-requires-clause-valid : goal.maps_in-requires-clause-valid
maps_in-requires-clause-valid c = valid_from _ (good_image _ c.in_ok-check_lists.ensures c.in_ok-in_flight.ensures.overlap)

pub returns-in-Ok-clause-held : goal.returns-in-Ok-clause-held
returns-in-Ok-clause-held c = record {
  valid = valid_from _ (good_image _ c.in_ok-check_lists.ensures c.in_ok-in_flight.ensures.overlap);
  replications = rw c.as_slice.ensures at c.have_replications.ensures;
  directory = c.in_ok-directory.ensures;
  maps = c.in-Ok.ensures;
  running = c.in_ok-in_flight.ensures.running;
  deltas = c.in_ok-in_flight.ensures.deltas;
  locks = c.in_ok-in_flight.ensures.locks;
}

pub returns-in-Ok-clause-bad : goal.returns-in-Ok-clause-bad
returns-in-Ok-clause-bad c = good_image _ c.in_ok-check_lists.ensures c.in_ok-in_flight.ensures.overlap

pub returns-in_err-check_lists-clause-bad : goal.returns-in_err-check_lists-clause-bad
returns-in_err-check_lists-clause-bad c = cause_through _ _ _ c.from_residual.ensures.1 (bad_first _ c.in_err-check_lists.field-0.0 c.in_err-check_lists.ensures)

pub returns-in_err-in_flight-clause-bad : goal.returns-in_err-in_flight-clause-bad
returns-in_err-in_flight-clause-bad c = cause_through _ _ _ c.from_residual-in_err-in_flight.ensures.1 (bad_later _ c.in_err-in_flight.field-0.0 c.in_ok-check_lists.ensures c.in_err-in_flight.ensures.overlap)
