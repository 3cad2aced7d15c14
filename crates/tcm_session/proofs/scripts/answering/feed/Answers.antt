use Rattle.std.proofs.Common.{◌∙◌, refl}
use Rattle.tcm_edges.proofs.ShownLemmas.{left_after, left_only}
use Rattle.tcm_session.proofs.inputs.PieceLoop.{Feeds-begin, Feeds-end, Feeds-line, Feeds-part, Feeds-stop}
use Rattle.tcm_session.proofs.runs.StopLemmas.{Stopped-told, on_fault}
use Rattle.tcm_session.proofs.scripts.answering.feed.Goals as goal

pub loop-line-init : goal.loop-line-init
loop-line-init g c = record { feeds = Feeds-begin _ _ _ c.requires.begun; counted = refl; unnamed = λ _. refl; stays = λ only. only; log = refl }

pub returns-in_err-keep_begun-clause-stopped : goal.returns-in_err-keep_begun-clause-stopped
returns-in_err-keep_begun-clause-stopped g c =
    on_fault _ c.from_residual.result
    (λ left may.
    Stopped-told _ _ _ _ _ _ left (left_only g.D.Store.files g.D.Store.shows c.args.store.now c.loop-line.store left c.loop-line.invariant.stays may)
    (Feeds-stop _ _ _ _ _ c.loop-line.invariant.feeds))

pub returns-in_err-answer_begun-clause-stopped : goal.returns-in_err-answer_begun-clause-stopped
returns-in_err-answer_begun-clause-stopped g c =
    let kept = c.in_ok-keep_begun.ensures.ok in
    on_fault _ c.from_residual-in_err-answer_begun.result
    (λ left may.
    let later = left_after g.D.Store.files g.D.Store.shows c.loop-line.store c.answer_begun.new.store left c.args.store.now c.loop-line.invariant.stays may in
    let stopped = rw (kept, c.loop-line.invariant.log) at (c.in_err-answer_begun.ensures.stopped left later) in
    Feeds-part _ _ _ _ _ _ c.in-Some.more.now c.loop-line.invariant.feeds c.in-Some.ensures.some.1 c.in-Some.ensures.some.0 _ left stopped)

pub loop-line-preserved : goal.loop-line-preserved
loop-line-preserved g c =
    let kept = c.in_ok-keep_begun.ensures.ok in
    let log = c.loop-line.invariant.log in
    let wrote = rw kept at c.in_ok-answer_begun.ensures.writes.whole in
    let next = rw kept at c.in_ok-answer_begun.ensures.next in
    let gained = rw (kept, log) at c.in_ok-answer_begun.ensures.file in
    record {
      feeds = Feeds-line _ _ _ _ _ _ c.in-Some.more.now c.loop-line.invariant.feeds c.in-Some.ensures.some.1 c.in-Some.ensures.some.0 _ c.clear.ensures.items wrote next gained;
      counted = c.in_ok-answer_begun.ensures.writes.cause ∙ c.loop-line.invariant.counted;
      unnamed = λ none. (rw log at c.answer_begun.ensures.unnamed none).0 ∙ c.loop-line.invariant.unnamed none;
      stays = λ only. c.in_ok-answer_begun.ensures.stays (c.loop-line.invariant.stays only);
      log = c.in_ok-answer_begun.ensures.log ∙ log;
    }

pub returns-in_err-keep_begun-2-clause-stopped : goal.returns-in_err-keep_begun-2-clause-stopped
returns-in_err-keep_begun-2-clause-stopped g c =
    on_fault _ c.from_residual-in_err-keep_begun-2.result
    (λ left may.
    Stopped-told _ _ _ _ _ _ left (left_only g.D.Store.files g.D.Store.shows c.args.store.now c.loop-line.store left c.loop-line.invariant.stays may)
    (Feeds-stop _ _ _ _ _ c.loop-line.invariant.feeds))

pub returns-clause-ok : goal.returns-clause-ok
returns-clause-ok g c = Feeds-end _ _ _ _ _ _ c.loop-line.invariant.feeds c.in_default.ensures.none c.in_ok-keep_begun-2.ensures.ok

pub returns-clause-stays : goal.returns-clause-stays
returns-clause-stays g c = c.loop-line.invariant.stays
