use Rattle.std.proofs.Common.{◌+◌, ◌≤◌, length-take, refl, arith, ◌∙◌}
use Rattle.std.proofs.KnownBytes.{Keeps-refl}
use Rattle.tcm_edges.proofs.ShownLemmas.{left_after, left_only, left_same}
use Rattle.tcm_session.specs.Outcome.{input_limit}
use Rattle.tcm_session.proofs.runs.RunCauses.{counts_passed}
use Rattle.script_session.proofs.answers.AnswersLemmas.{at_fault}
use Rattle.tcm_session.proofs.inputs.ReadLemmas.{ReadsSoFar-begun, ReadsSoFar-more, ReadsSoFar-none, ReadsSoFar-none_more, ReadsSoFar-stop, ReadsTo-end, StopsAt-none, StopsAt-told}
use Rattle.tcm_session.proofs.scripts.pieces.read_script.Goals as goal

pub loop-taken-init : goal.loop-taken-init
loop-taken-init g c =
    record {
      reads = ReadsSoFar-none _ _ _ c.requires.begun;
      limit = omega arith;
      buffer = c.in_ok-buffer.ensures.len;
      counted = refl;
      unnamed = λ _. refl;
      stays = λ only. only;
      log = refl;
    }

pub read_piece-requires-clause-begun : goal.read_piece-requires-clause-begun
read_piece-requires-clause-begun g c = ReadsSoFar-begun _ _ _ _ _ _ c.loop-taken.invariant.reads

pub returns-in_err-buffer-clause-err : goal.returns-in_err-buffer-clause-err
returns-in_err-buffer-clause-err g c =
    at_fault _ c.from_residual.result _ c.from_residual.ensures.1
    (λ left may.
    StopsAt-told _ _ _ _ _ _ _ _ left (left_same g.D.Store.files g.D.Store.shows c.args.store.now c.args.store.now left refl may)
    (StopsAt-none _ _ _ _ _ _ (Keeps-refl (g.S.Source.left c.args.input.now)) c.requires.begun))

pub returns-in_err-count-clause-err : goal.returns-in_err-count-clause-err
returns-in_err-count-clause-err g c =
    at_fault _ c.from_residual-in_err-count.result _ c.from_residual-in_err-count.ensures.1
    (λ left may.
    let later = left_after g.D.Store.files g.D.Store.shows c.loop-taken.store c.read_piece.new.store left c.args.store.now c.loop-taken.invariant.stays may in
    let stops = rw c.loop-taken.invariant.log at (c.in_err-count.ensures.err left later) in
    ReadsSoFar-stop _ _ _ _ _ _ c.loop-taken.invariant.reads _ _ input_limit _
    (omega (arith, length-take c.min-room.result c.deref_mut.result.now, c.min-room.ensures, c.loop-taken.invariant.limit)) stops)

pub returns-in_err-count-clause-cause : goal.returns-in_err-count-clause-cause
returns-in_err-count-clause-cause g c =
    counts_passed c.in_err-count.field-0.0 c.from_residual-in_err-count.result _ _ _ c.loop-taken.invariant.counted c.in_err-count.ensures.cause
    c.from_residual-in_err-count.ensures.1

pub returns-then-count-eq0-clause-ok : goal.returns-then-count-eq0-clause-ok
returns-then-count-eq0-clause-ok g c =
    let once = rw c.loop-taken.invariant.log at c.in_ok-count.ensures.ok in
    ReadsTo-end _ _ _ _ _ _ c.loop-taken.invariant.reads c.in_ok-count.count _ _ c.loop-taken.invariant.limit c.if-count-eq0.true once

pub loop-taken-preserved : goal.loop-taken-preserved
loop-taken-preserved g c =
    let limit : c.loop-taken.taken + c.in_ok-count.count ≤ 536870912 =
    omega (arith, length-take c.min-room.result c.deref_mut.result.now, c.min-room.ensures, c.loop-taken.invariant.limit, c.in_ok-count.ensures.bound) in
    let log = c.loop-taken.invariant.log in
    let once = rw log at c.in_ok-count.ensures.ok in
    record {
      reads = ReadsSoFar-more _ _ _ _ _ _ c.loop-taken.invariant.reads _ _ _ once;
      limit = limit;
      buffer = c.loop-taken.invariant.buffer;
      counted = c.in_ok-count.ensures.cause ∙ c.loop-taken.invariant.counted;
      unnamed = λ none. (rw log at c.in_ok-count.ensures.unnamed none).0 ∙ c.loop-taken.invariant.unnamed none;
      stays = λ only. c.in_ok-count.ensures.stays (c.loop-taken.invariant.stays only);
      log = c.in_ok-count.ensures.log ∙ log;
    }

pub returns-in_err-ending-clause-err : goal.returns-in_err-ending-clause-err
returns-in_err-ending-clause-err g c =
    at_fault _ c.from_residual-in_err-ending.result _ c.from_residual-in_err-ending.ensures.1
    (λ left may.
    StopsAt-told _ _ _ _ _ _ _ _ left (left_only g.D.Store.files g.D.Store.shows c.args.store.now c.loop-taken.store left c.loop-taken.invariant.stays may)
    (ReadsSoFar-none_more _ _ _ _ _ _ c.loop-taken.invariant.reads _ input_limit _ c.loop-taken.invariant.limit c.in_err-ending.ensures.err))

pub returns-then-count-eq0-clause-stays : goal.returns-then-count-eq0-clause-stays
returns-then-count-eq0-clause-stays g c = λ only. c.in_ok-count.ensures.stays (c.loop-taken.invariant.stays only)

pub returns-clause-stays : goal.returns-clause-stays
returns-clause-stays g c = c.loop-taken.invariant.stays
