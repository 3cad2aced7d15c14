use Rattle.std.proofs.Common.{◌≡◌, MatchResult, None, Option, Some, refl, subst}
use Rattle.std.proofs.lemmas.Result.{IfOk-weaker}
use Rattle.transformations.specs.Refusals.{prepared_by}
use Rattle.transformations.specs.declared.refusal.Refusal.{Refusal}
use Rattle.cluster_metadata.proofs.in_flight.PrepareLemmas.{prepared_new, prepared_replicated, prepares}
use Rattle.cluster_metadata.proofs.locks.LockRefusals.{dropped_accepted, none_later, off_keyspaces, prepared_locked}
use Rattle.cluster_metadata.specs.Permission.{ShowsRefusal}
use Rattle.cluster_metadata.proofs.changes.command_change.change_of.Goals as goal

pub prepare-requires-clause-new : goal.prepare-requires-clause-new
prepare-requires-clause-new g c =
    let prepared : prepared_by c.args.image.now.tokens c.args.cmd.now ≡ Some c.in-Some.row = cc c.in_ok-row.ensures.row in
    prepared_new _ _ _ c.requires.valid.sound c.requires.formed c.requires.early prepared

pub returns-in-Some-clause-change : goal.returns-in-Some-clause-change
returns-in-Some-clause-change g c =
    let prepared : prepared_by c.args.image.now.tokens c.args.cmd.now ≡ Some c.in-Some.row = cc c.in_ok-row.ensures.row in
    prepares _ _ _ prepared c.prepare.result c.prepare.ensures.change

pub returns-in-Some-clause-replicated : goal.returns-in-Some-clause-replicated
returns-in-Some-clause-replicated g c =
    let prepared : prepared_by c.args.image.now.tokens c.args.cmd.now ≡ Some c.in-Some.row = cc c.in_ok-row.ensures.row in
    IfOk-weaker c.prepare.result _ _ (λ change begins. prepared_replicated c.args.image.now c.args.cmd.now c.in-Some.row prepared) c.prepare.ensures.change

pub returns-in-Some-clause-refusal : goal.returns-in-Some-clause-refusal
returns-in-Some-clause-refusal g c =
    let prepared : prepared_by c.args.image.now.tokens c.args.cmd.now ≡ Some c.in-Some.row = cc c.in_ok-row.ensures.row in
    let same = prepared_locked _ _ _ c.requires.early prepared in
    subst (λ (r : Option Refusal). MatchResult c.prepare.result (λ _. r ≡ None) (ShowsRefusal r)) same c.prepare.ensures.refusal

pub returns-in_ok-drop_keyspace-in-DropKeyspace-clause-refusal : goal.returns-in_ok-drop_keyspace-in-DropKeyspace-clause-refusal
returns-in_ok-drop_keyspace-in-DropKeyspace-clause-refusal g c = rw c.in-DropKeyspace.is (dropped_accepted _ _ (rw c.in-DropKeyspace.is at c.requires.early))

pub returns-in_ok-change_at_once-in_default-cmd : goal.returns-in_ok-change_at_once-in_default-cmd
returns-in_ok-change_at_once-in_default-cmd g c =
    let unprepared : prepared_by c.args.image.now.tokens c.args.cmd.now ≡ None = cc (c.in_ok-row.ensures.row, c.in_default.is) in
    let other = off_keyspaces c.args.cmd.now c.in_default-cmd.not-Keyspace c.in_default-cmd.not-DropKeyspace in
    record {
      change = c.in_ok-change_at_once-in_default-cmd.ensures.change;
      replicated = c.in_ok-change_at_once-in_default-cmd.ensures.replicated;
      refusal = none_later _ _ unprepared other c.requires.early;
      uncounted = λ none. refl;
    }
