use Rattle.std.proofs.Common.{◌∙◌, ap, filter, not}
use Rattle.std.specs.Str.{bytes_eq}
use Rattle.transformations.specs.declared.keyspace.KeyspaceRow.{KeyspaceRow}
use Rattle.cluster_metadata.proofs.accepted.KeyspaceLemmas.{drop_valid, drops_keyspace}
use Rattle.cluster_metadata.proofs.locks.RenewedLocks.{renewed_apart}
use Rattle.cluster_metadata.specs.code.Change.{rekeyed}
use Rattle.cluster_metadata.proofs.changes.keyspaces.drop_keyspace.Goals as goal

pub replan-requires-clause-sound : goal.replan-requires-clause-sound
replan-requires-clause-sound c =
    let same = c.remove_keyspace.ensures ∙ ap (filter (λ (row : KeyspaceRow). not (bytes_eq row.name c.args.name.now))) c.in_ok-keyspaces.ensures in
    rw c.in_ok-next.ensures (drop_valid c.args.image.now c.args.name.now c.remove_keyspace.new.rows same c.requires.early c.requires.valid c.requires.below_limit).sound

pub returns : goal.returns
returns c =
    let image = c.args.image.now in
    let rows = c.remove_keyspace.new.rows in
    let same = c.remove_keyspace.ensures ∙ ap (filter (λ (row : KeyspaceRow). not (bytes_eq row.name c.args.name.now))) c.in_ok-keyspaces.ensures in
    let valid = drop_valid image c.args.name.now rows same c.requires.early c.requires.valid c.requires.below_limit in
    drops_keyspace image c.args.name.now rows c.in_ok-renewed.renewed same (renewed_apart (rekeyed image rows) c.in_ok-renewed.renewed (rw c.in_ok-next.ensures at c.in_ok-renewed.ensures) valid.apart)
