use Rattle.std.proofs.Common.{◌<◌, length, arith, subst, sym}
use Rattle.transformations.proofs.histories.HistoryLemmas.{valid_at}
use Rattle.transformations.specs.Log.{commands_of}
use Rattle.transformations.specs.Valid.{IsValid}
use Rattle.snapshot_store.proofs.EntryStates.{entry_not_missing, is_next, next_state}
use Rattle.snapshot_store.proofs.entries_taken.take_all.Goals as goal

pub advance-requires-clause-below_limit : goal.advance-requires-clause-below_limit
advance-requires-clause-below_limit c =
    let within : c.loop-before.before < length c.args.log.now = omega (arith, c.requires.within) in
    (is_next c.args.log.now c.loop-before.before c.in-Some.entry.now within c.in-Some.ensures.entry _ c.requires.history c.loop-before.invariant).below_limit

pub advance-requires-clause-valid : goal.advance-requires-clause-valid
advance-requires-clause-valid c = subst IsValid (sym c.loop-before.invariant) (valid_at (commands_of c.args.log.now) c.loop-before.before c.requires.history)

pub advance-requires-clause-formed : goal.advance-requires-clause-formed
advance-requires-clause-formed c =
    let within : c.loop-before.before < length c.args.log.now = omega (arith, c.requires.within) in
    (is_next c.args.log.now c.loop-before.before c.in-Some.entry.now within c.in-Some.ensures.entry _ c.requires.history c.loop-before.invariant).formed

pub advance-requires-clause-accepted : goal.advance-requires-clause-accepted
advance-requires-clause-accepted c =
    let within : c.loop-before.before < length c.args.log.now = omega (arith, c.requires.within) in
    (is_next c.args.log.now c.loop-before.before c.in-Some.entry.now within c.in-Some.ensures.entry _ c.requires.history c.loop-before.invariant).accepted

pub unreachable-requires : goal.unreachable-requires
unreachable-requires c =
    let within : c.loop-before.before < length c.args.log.now = omega (arith, c.requires.within) in
    entry_not_missing c.args.log.now c.loop-before.before within c.in-None.ensures.entry

pub loop-before-preserved : goal.loop-before-preserved
loop-before-preserved c =
    let within : c.loop-before.before < length c.args.log.now = omega (arith, c.requires.within) in
    next_state c.args.log.now c.loop-before.before c.in-Some.entry.now within c.in-Some.ensures.entry _ _ c.loop-before.invariant c.in_ok-advance-in-Some.ensures
