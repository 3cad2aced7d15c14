use Rattle.std.proofs.Common.{◌≡◌, ◌∙◌, MatchResult, None, Option, ap, length, rules, subst, sym}
use Rattle.std.proofs.lemmas.List.{nil_from_length}
use Rattle.std.proofs.lemmas.Result.{IfOk-weaker}
use Rattle.cluster_terms.specs.Ascending.{put}
use Rattle.transformations.specs.Orders.{by_name}
use Rattle.transformations.specs.Refusals.{keyspace_row}
use Rattle.transformations.specs.declared.refusal.Refusal.{Refusal}
use Rattle.cluster_metadata.proofs.accepted.KeyspaceLemmas.{idle_accepted, set_refused, set_sound, sets_keyspace, unchanged_keyspace}
use Rattle.cluster_metadata.specs.Permission.{ShowsRefusal}
use Rattle.cluster_metadata.proofs.changes.keyspaces.set_keyspace.Goals as goal

pub returns-then-has_keyspace-clause-change : goal.returns-then-has_keyspace-clause-change
returns-then-has_keyspace-clause-change c = unchanged_keyspace c.args.image.now c.args.name.now c.args.replication.now c.requires.valid.sound (c.has_keyspace.ensures c.if-has_keyspace.true)

pub returns-then-has_keyspace-clause-refusal : goal.returns-then-has_keyspace-clause-refusal
returns-then-has_keyspace-clause-refusal c =
    let none : length c.as_slice.result.now ≡ 0 = search rules in
    idle_accepted c.args.image.now c.args.name.now c.args.replication.now c.requires.early (sym c.as_slice.ensures ∙ nil_from_length c.as_slice.result.now none)

pub unless_overlapping-requires-clause-sound : goal.unless_overlapping-requires-clause-sound
unless_overlapping-requires-clause-sound c =
    let same = c.in_ok-put_keyspace.ensures.rows ∙ ap (put by_name (keyspace_row c.args.name.now c.args.replication.now)) c.in_ok-keyspaces.ensures in
    set_sound c.args.image.now c.args.name.now c.args.replication.now _ same c.requires.early c.requires.valid.sound c.requires.below_limit

pub returns-clause-change : goal.returns-clause-change
returns-clause-change c =
    let same = c.in_ok-put_keyspace.ensures.rows ∙ ap (put by_name (keyspace_row c.args.name.now c.args.replication.now)) c.in_ok-keyspaces.ensures in
    IfOk-weaker c.unless_overlapping.result _ _ (λ change brings. sets_keyspace c.args.image.now c.args.name.now c.args.replication.now _ change same brings) c.unless_overlapping.ensures.change

pub returns-clause-refusal : goal.returns-clause-refusal
returns-clause-refusal c =
    let same = c.in_ok-put_keyspace.ensures.rows ∙ ap (put by_name (keyspace_row c.args.name.now c.args.replication.now)) c.in_ok-keyspaces.ensures in
    let first = set_refused c.args.image.now c.args.name.now c.args.replication.now _ same c.requires.early in
    subst (λ (r : Option Refusal). MatchResult c.unless_overlapping.result (λ _. r ≡ None) (ShowsRefusal r)) first c.unless_overlapping.ensures.refusal
