use Rattle.transformation_laws.proofs.commands.EarlyRefusals.{refused_as_locked}
use Rattle.transformation_laws.proofs.ranges.LockedLemmas.{free_unlocked, is_locked_by, locked_overlaps, none_overlaps}
use Rattle.transformations.proofs.ranges.MovementRanges.{shared_found}
use Rattle.transformation_laws.proofs.validity.locked_ranges_overlap.Goals as goal

pub returns-clause-none_shared : goal.returns-clause-none_shared
returns-clause-none_shared c = none_overlaps

pub returns-clause-shared : goal.returns-clause-shared
returns-clause-shared c = shared_found

pub returns-clause-free : goal.returns-clause-free
returns-clause-free c = free_unlocked

pub returns-clause-taken : goal.returns-clause-taken
returns-clause-taken c = locked_overlaps

pub returns-clause-least : goal.returns-clause-least
returns-clause-least c = is_locked_by

pub returns-clause-refused : goal.returns-clause-refused
returns-clause-refused c = refused_as_locked
