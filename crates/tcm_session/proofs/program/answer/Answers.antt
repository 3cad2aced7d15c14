use Rattle.std.proofs.Common.{map, string_bytes, refl}
use Rattle.tcm_edges.proofs.ShownLemmas.{left_kept, left_only, left_same}
use Rattle.tcm_session.specs.Commit.{commit_outcome, commit_to_outcome}
use Rattle.tcm_session.specs.Gen.{gen_ending}
use Rattle.tcm_session.specs.Outcomes.{outcome}
use Rattle.tcm_session.specs.declared.run_fault.RunFault.TheVariants as fault
use Rattle.tcm_session.specs.files.MemberRoute.{route_ending}
use Rattle.tcm_session.specs.files.Replay.{replay_ending}
use Rattle.tcm_session.specs.files.StateLine.{snapshot_ending}
use Rattle.tcm_session.specs.files.StreamPlan.{plan_ending}
use Rattle.tcm_session.proofs.log_files.EndedRuns.{ended_at_end, ends_alone, replay_ends, runs_ended, runs_unended}
use Rattle.tcm_session.proofs.log_files.LookedRuns.{snapshot_ends}
use Rattle.tcm_session.proofs.log_files.MendRuns.{mended_at_end, runs_mended, runs_unmended}
use Rattle.tcm_session.proofs.members.RouteTexts.{route_ends}
use Rattle.tcm_session.proofs.printed.PlanTexts.{plan_ends}
use Rattle.tcm_session.proofs.runs.RunCauses.{not_source}
use Rattle.tcm_session.proofs.runs.RunLemmas.{memory_not_source, runs_first, runs_unloaded}
use Rattle.tcm_session.proofs.program.answer.Goals as goal

pub returns-in-Commit-clause-runs : goal.returns-in-Commit-clause-runs
unfolding outcome
returns-in-Commit-clause-runs g c = λ left may.
    rw c.in-Commit.is (runs_first _ _ _ _ _ _ commit_outcome (λ o printed ended it. it.adds) (runs_unloaded _ _ _ _ _ _ (c.commit.ensures.runs left may)))

pub returns-in-CommitTo-clause-runs : goal.returns-in-CommitTo-clause-runs
unfolding outcome
returns-in-CommitTo-clause-runs g c = λ left may.
    rw c.in-CommitTo.is (runs_first _ _ _ _ _ _ (commit_to_outcome _ _) (λ o printed ended it. it) (c.commit_to.ensures.runs left may))

pub returns-in_err-mend-in-Mend-clause-runs : goal.returns-in_err-mend-in-Mend-clause-runs
unfolding outcome
returns-in_err-mend-in-Mend-clause-runs g c = λ left may.
    let failed = c.in_err-mend-in-Mend.ensures in
    let passed = c.from_residual-in_err-mend-in-Mend in
    rw c.in-Mend.is (runs_unmended _ _ _ _ _ _ refl _ _ passed.result _ (not_source _ _ _ refl refl failed.cause) passed.ensures.1 (failed.stopped left may))

pub returns-in_ok-mend-in-Mend-clause-runs : goal.returns-in_ok-mend-in-Mend-clause-runs
unfolding outcome
returns-in_ok-mend-in-Mend-clause-runs g c = λ left may.
    let shown = c.print-in-Mend in
    rw (c.in-Mend.is, left_only g.D.Store.files g.D.Store.shows c.args.store.now c.mend.new.store left c.in_ok-mend-in-Mend.ensures.stays may) (runs_mended _ _ _ _ _ _ c.in_ok-mend-in-Mend.ensures.mends shown.result shown.ensures.status _ refl _ _ _ _ _ refl refl shown.ensures.writes)

pub returns-in_ok-mend-in-Mend-clause-ended : goal.returns-in_ok-mend-in-Mend-clause-ended
returns-in_ok-mend-in-Mend-clause-ended g c = (let shown = c.print-in-Mend in mended_at_end _ _ _ _ _ _ c.in_ok-mend-in-Mend.ensures.mends shown.result shown.ensures.status)

pub returns-in_err-replay_files-in-Replay-clause-runs : goal.returns-in_err-replay_files-in-Replay-clause-runs
unfolding outcome
returns-in_err-replay_files-in-Replay-clause-runs g c = λ left may.
    let failed = c.in_err-replay_files-in-Replay.ensures in
    rw c.in-Replay.is (runs_unended (replay_ending _) _ refl _ _ _ _ c.from_residual.result _ (not_source _ _ _ refl refl failed.cause) c.from_residual.ensures.1 (left_kept g.D.Store.files g.D.Store.shows c.args.store.now c.replay_files.new.store left failed.files failed.crash may))

pub returns-in_err-look-in-Snapshot-clause-runs : goal.returns-in_err-look-in-Snapshot-clause-runs
unfolding outcome
returns-in_err-look-in-Snapshot-clause-runs g c = λ left may.
    let failed = c.in_err-look-in-Snapshot.ensures in
    let passed = c.from_residual-in_err-look-in-Snapshot in
    rw c.in-Snapshot.is (runs_unended (snapshot_ending _ _) _ refl _ _ _ _ passed.result _ (not_source _ _ _ refl refl failed.cause) passed.ensures.1 (left_kept g.D.Store.files g.D.Store.shows c.args.store.now c.look.new.store left failed.files failed.crash may))

pub returns-in_err-count_answers-in-Gen-clause-runs : goal.returns-in_err-count_answers-in-Gen-clause-runs
unfolding outcome
returns-in_err-count_answers-in-Gen-clause-runs g c = λ left may.
    let passed = c.from_residual-in_err-count_answers-in-Gen in
    rw c.in-Gen.is (runs_unended (λ _. gen_ending _ _) _ refl _ _ _ _ passed.result fault.Memory memory_not_source passed.ensures.1 (left_same g.D.Store.files g.D.Store.shows c.args.store.now c.args.store.now left refl may))

pub returns-in_ok-replay_files-in-Replay-clause-runs : goal.returns-in_ok-replay_files-in-Replay-clause-runs
unfolding outcome
returns-in_ok-replay_files-in-Replay-clause-runs g c = λ left may.
    let names = map string_bytes c.in-Replay.files.now in
    let ended = c.in_ok-replay_files-in-Replay.ensures in
    rw c.in-Replay.is (runs_ended (replay_ending names) _ _ c.print.result ended.ends (replay_ends names) c.print.ensures.status _ refl _ _ _ _ _ _ refl refl (left_kept g.D.Store.files g.D.Store.shows c.args.store.now c.replay_files.new.store left ended.files ended.crash may) c.print.ensures.writes)

pub returns-in_ok-replay_files-in-Replay-clause-ended : goal.returns-in_ok-replay_files-in-Replay-clause-ended
returns-in_ok-replay_files-in-Replay-clause-ended g c =
    let names = map string_bytes c.in-Replay.files.now in
    ended_at_end (replay_ending names) _ _ c.print.result c.in_ok-replay_files-in-Replay.ensures.ends (replay_ends names) c.print.ensures.status

pub returns-in_ok-look-in-Snapshot-clause-runs : goal.returns-in_ok-look-in-Snapshot-clause-runs
unfolding outcome
returns-in_ok-look-in-Snapshot-clause-runs g c = λ left may.
    let ended = c.in_ok-look-in-Snapshot.ensures in
    let shown = c.print-in-Snapshot in
    rw c.in-Snapshot.is (runs_ended (snapshot_ending _ _) _ _ shown.result ended.ends (snapshot_ends _ _) shown.ensures.status _ refl _ _ _ _ _ _ refl refl (left_kept g.D.Store.files g.D.Store.shows c.args.store.now c.look.new.store left ended.files ended.crash may) shown.ensures.writes)

pub returns-in_ok-count_answers-in-Gen-clause-runs : goal.returns-in_ok-count_answers-in-Gen-clause-runs
unfolding outcome
returns-in_ok-count_answers-in-Gen-clause-runs g c = λ left may.
    let shown = c.print-in-Gen in
    rw c.in-Gen.is (runs_ended (λ _. gen_ending _ _) _ _ shown.result (ends_alone _ _ _ c.in_ok-count_answers-in-Gen.ensures) (λ seen. refl) shown.ensures.status _ refl _ _ _ _ _ _ refl refl (left_same g.D.Store.files g.D.Store.shows c.args.store.now c.args.store.now left refl may) shown.ensures.writes)

pub returns-in_err-look-in-Cms-clause-runs : goal.returns-in_err-look-in-Cms-clause-runs
unfolding outcome
returns-in_err-look-in-Cms-clause-runs g c = λ left may.
    let failed = c.in_err-look-in-Cms.ensures in
    let passed = c.from_residual-in_err-look-in-Cms in
    rw c.in-Cms.is (runs_unended (route_ending _ c.in-Cms.from c.in-Cms.to) _ refl _ _ _ _ passed.result _ (not_source _ _ _ refl refl failed.cause) passed.ensures.1 (left_kept g.D.Store.files g.D.Store.shows c.args.store.now c.look-in-Cms.new.store left failed.files failed.crash may))

pub returns-in_ok-look-in-Cms-clause-runs : goal.returns-in_ok-look-in-Cms-clause-runs
unfolding outcome
returns-in_ok-look-in-Cms-clause-runs g c = λ left may.
    let ended = c.in_ok-look-in-Cms.ensures in
    let shown = c.print-in-Cms in
    rw c.in-Cms.is (runs_ended (route_ending _ c.in-Cms.from c.in-Cms.to) _ _ shown.result ended.ends (route_ends _ c.in-Cms.from c.in-Cms.to) shown.ensures.status _ refl _ _ _ _ _ _ refl refl (left_kept g.D.Store.files g.D.Store.shows c.args.store.now c.look-in-Cms.new.store left ended.files ended.crash may) shown.ensures.writes)

pub returns-in_err-look-in-Plan-clause-runs : goal.returns-in_err-look-in-Plan-clause-runs
unfolding outcome
returns-in_err-look-in-Plan-clause-runs g c = λ left may.
    let failed = c.in_err-look-in-Plan.ensures in
    let passed = c.from_residual-in_err-look-in-Plan in
    rw c.in-Plan.is (runs_unended (plan_ending _ c.in-Plan.node c.in-Plan.keyspace) _ refl _ _ _ _ passed.result _ (not_source _ _ _ refl refl failed.cause) passed.ensures.1 (left_kept g.D.Store.files g.D.Store.shows c.args.store.now c.look-in-Plan.new.store left failed.files failed.crash may))

pub returns-in_ok-look-in-Plan-clause-runs : goal.returns-in_ok-look-in-Plan-clause-runs
unfolding outcome
returns-in_ok-look-in-Plan-clause-runs g c = λ left may.
    let ended = c.in_ok-look-in-Plan.ensures in
    let shown = c.print-in-Plan in
    rw c.in-Plan.is (runs_ended (plan_ending _ c.in-Plan.node c.in-Plan.keyspace) _ _ shown.result ended.ends (plan_ends _ c.in-Plan.node c.in-Plan.keyspace) shown.ensures.status _ refl _ _ _ _ _ _ refl refl (left_kept g.D.Store.files g.D.Store.shows c.args.store.now c.look-in-Plan.new.store left ended.files ended.crash may) shown.ensures.writes)
