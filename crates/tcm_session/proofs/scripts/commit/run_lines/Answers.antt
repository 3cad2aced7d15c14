use Rattle.std.proofs.Common.{refl, ◌∙◌}
use Rattle.tcm_edges.specs.Shown.{StaysOnly}
use Rattle.tcm_edges.proofs.ShownLemmas.{left_after, left_only}
use Rattle.tcm_session.proofs.runs.RunLemmas.{runs_err, runs_part, runs_stopped, runs_whole}
use Rattle.tcm_session.proofs.scripts.commit.run_lines.Goals as goal

pub returns-in_err-ending-clause-runs : goal.returns-in_err-ending-clause-runs
returns-in_err-ending-clause-runs g c = λ left may all held.
    let stops = rw (c.requires.begun, c.requires.session) at (c.in_err-ending.ensures.err left may) in
    runs_err _ _ _ _ _ c.from_residual.result _ c.from_residual.ensures.1 (runs_stopped (record { log = _; file = _; files = all }) _ _ _ _ stops)

pub returns-in_err-finish-clause-runs : goal.returns-in_err-finish-clause-runs
returns-in_err-finish-clause-runs g c = λ left may all held.
    let later = left_after g.D.Store.files g.D.Store.shows c.read_script.new.store c.finish.new.store left c.args.store.now c.in_ok-ending.ensures.stays may in
    let reads = rw (c.requires.begun, c.requires.session) at c.in_ok-ending.ensures.ok in
    let stopped = rw c.in_ok-ending.ensures.log at (c.in_err-finish.ensures.stopped left later) in
    runs_err _ _ _ _ _ c.from_residual-in_err-finish.result _ c.from_residual-in_err-finish.ensures.1
    (runs_part (record { log = _; file = _; files = all }) _ _ _ _ c.in_ok-ending.ending reads _ _ refl refl _ c.in_err-finish.ensures.writes.cause stopped)

pub returns-clause-runs : goal.returns-clause-runs
returns-clause-runs g c = λ left may all held.
    let stays : StaysOnly g.D.Store.files g.D.Store.shows c.args.store.now c.finish.new.store = λ only. c.in_ok-finish.ensures.stays (c.in_ok-ending.ensures.stays only) in
    let same = left_only g.D.Store.files g.D.Store.shows c.args.store.now c.finish.new.store left stays may in
    let reads = rw (c.requires.begun, c.requires.session) at c.in_ok-ending.ensures.ok in
    let gained = rw c.in_ok-ending.ensures.log at c.in_ok-finish.ensures.file in
    rw c.end_status.ensures (runs_whole (record { log = _; file = _; files = all }) _ _ _ _ c.in_ok-ending.ending reads _ _ refl refl _ held c.in_ok-finish.ensures.writes (same ∙ gained))
