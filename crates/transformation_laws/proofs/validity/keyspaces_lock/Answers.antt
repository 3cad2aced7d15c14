use Rattle.transformation_laws.proofs.commands.EarlyRefusals.{refused_as_keyspace_locked}
use Rattle.transformation_laws.proofs.ranges.KeyspaceLocks.{is_keyspace_locked}
use Rattle.transformations.proofs.ranges.KeyspacesApart.{apart_unlocked}
use Rattle.transformations.specs.Refusals.{keyspace_row}
use Rattle.transformation_laws.proofs.validity.keyspaces_lock.Goals as goal

pub returns-clause-free : goal.returns-clause-free
returns-clause-free c = apart_unlocked

pub returns-clause-taken : goal.returns-clause-taken
returns-clause-taken c = is_keyspace_locked

pub returns-clause-refused : goal.returns-clause-refused
returns-clause-refused c = λ image name replication n o right h tokens is.
    is_keyspace_locked image (keyspace_row name replication) n o right h tokens (refused_as_keyspace_locked image name replication n o right is)
