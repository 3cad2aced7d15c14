use Rattle.std.proofs.Common.{refl, sym, subst, true≢false}
use Rattle.std.specs.FinMap as map
use Rattle.tcm_edges.proofs.ShownLemmas.{left_after, left_same}
use Rattle.script_session.specs.LogFiles.{base_of}
use Rattle.tcm_session.specs.code.Loading.{IsUnopened}
use Rattle.tcm_session.proofs.log_files.HeldFiles.{held_written}
use Rattle.tcm_session.proofs.runs.LeftLemmas.{good_reads, left_script, left_settled, log_same}
use Rattle.tcm_session.proofs.runs.RunCauses.{not_source}
use Rattle.tcm_session.proofs.runs.RunLemmas.{final_end, memory_not_source, runs_early, runs_left, runs_refused, runs_resumed, runs_unread}
use Rattle.tcm_session.proofs.scripts.commit.commit_from.Goals as goal

pub returns-in-Err-clause-runs : goal.returns-in-Err-clause-runs
returns-in-Err-clause-runs g c = λ left may all held.
    let name = c.args.log.now.name.now in
    let cluster = c.args.log.now.cluster in
    runs_early _ _ refl _ _ _ _ left _ (not_source _ _ _ refl refl c.in-Err.ensures.cause)
    (λ given ended. left_settled name cluster c.args.file _ left _ ended (good_reads name cluster all c.args.file given _ (rw c.as_slice.ensures at c.in-Ok.ensures.opened.log)) c.requires (c.in-Err.ensures.stopped left may))

pub returns-in-Ok-clause-runs : goal.returns-in-Ok-clause-runs
returns-in-Ok-clause-runs g c = λ left may all held.
    let later = left_after g.D.Store.files g.D.Store.shows c.settle_file.new.store c.run_script.new.store left c.args.store.now c.in_default.ensures.stays may in
    let name = c.args.log.now.name.now in
    let cluster = c.args.log.now.cluster in
    runs_resumed _ _ _ _ _ name cluster all c.args.file _ (rw c.as_slice.ensures at c.in-Ok.ensures.opened.log)
    (runs_left _ _ _ _ _ _ _ _ _ _ (left_script name cluster c.args.file _ _ left c.requires c.in_default.ensures.settled)
    (c.run_script.ensures.runs left later (map.insert all name (base_of cluster c.args.file)) (held_written name _ _ _ all held c.in_default.ensures.settled)))

pub returns-in-Err-Refused-clause-runs : goal.returns-in-Err-Refused-clause-runs
returns-in-Err-Refused-clause-runs g c = λ left may all held.
    rw (left_same g.D.Store.files g.D.Store.shows c.args.store.now c.args.store.now left refl may)
    (runs_refused _ _ _ _ _ c.args.log.now.name.now c.args.log.now.cluster all c.args.file c.in-Err-Refused.refused
    (subst (IsUnopened _) c.in-Err-Refused.field-0-is (rw c.as_slice.ensures at c.in-Err-Refused.ensures.fault))
    (runs_unread 3 _ all _ _ refl _ _ _ _ _ _ _ refl refl c.refuse_log.result (final_end 3 refl).1 held
    c.refuse_log.ensures.writes c.refuse_log.ensures.status (λ printed ended. log_same _ _ _ _ _ printed ended refl (λ reads. absurd (true≢false (sym reads))))))

pub returns-clause-runs : goal.returns-clause-runs
returns-clause-runs g c = λ left may all held.
    runs_early _ _ refl _ _ _ _ left _ memory_not_source
    (λ given ended. log_same _ _ _ left _ _ ended (left_same g.D.Store.files g.D.Store.shows c.args.store.now c.args.store.now left refl may) (λ _. refl))
