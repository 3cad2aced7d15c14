use Rattle.std.proofs.Common.{◌≡◌, ◌∙◌, Some, ap, sym}
use Rattle.transformations.proofs.commands.AcceptedLemmas.{early_accepted}
use Rattle.transformations.specs.History.{next_image}
use Rattle.transformations.specs.Refusals.{prepared_by}
use Rattle.cluster_metadata.specs.code.Change.{rekeyed}
use Rattle.cluster_metadata.proofs.in_flight.PrepareLemmas.{prepared_begun}
use Rattle.cluster_metadata.proofs.changes.next_image.advance.Goals as goal

pub row_prepared-requires-clause-early : goal.row_prepared-requires-clause-early
row_prepared-requires-clause-early c = early_accepted _ _ c.requires.accepted

pub change_at_once-requires-clause-early : goal.change_at_once-requires-clause-early
change_at_once-requires-clause-early c = early_accepted _ _ c.requires.accepted

pub returns-in-Some : goal.returns-in-Some
returns-in-Some c =
    let prepared : prepared_by c.args.image.now.tokens c.args.cmd.now ≡ Some c.in-Some.row = cc c.in_ok-row.ensures.row in
    rw (prepared_begun c.args.image.now c.args.cmd.now c.in-Some.row prepared) at c.begin.ensures

pub returns-in_ok-put_keyspace-in-Keyspace : goal.returns-in_ok-put_keyspace-in-Keyspace
unfolding next_image
returns-in_ok-put_keyspace-in-Keyspace c = ap (rekeyed c.args.image.now) c.in_ok-put_keyspace-in-Keyspace.ensures.rows ∙ ap (next_image c.args.image.now) (sym c.in-Keyspace.is)

pub returns-in-DropKeyspace : goal.returns-in-DropKeyspace
unfolding next_image
returns-in-DropKeyspace c = ap (rekeyed c.args.image.now) c.remove_keyspace.ensures ∙ ap (next_image c.args.image.now) (sym c.in-DropKeyspace.is)
