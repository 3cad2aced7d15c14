use Rattle.std.proofs.Common.{refl, sym, true≢false}
use Rattle.tcm_edges.proofs.ShownLemmas.{left_after, left_kept, stays_kept}
use Rattle.tcm_session.specs.Limits.{too_large_text}
use Rattle.tcm_session.proofs.log_files.HeldFiles.{held_after, holds_absent, holds_bytes, load_of}
use Rattle.tcm_session.proofs.runs.LeftLemmas.{log_same}
use Rattle.tcm_session.proofs.runs.RunLemmas.{final_end, load_not_source, runs_early, runs_err_on, runs_loaded, runs_unloaded, runs_unread}
use Rattle.tcm_session.proofs.scripts.commit.commit_to.Goals as goal

pub returns-in_err-load-clause-runs : goal.returns-in_err-load-clause-runs
returns-in_err-load-clause-runs g c = λ left may.
    runs_err_on _ _ _ _ _ c.from_residual.result _ c.from_residual.ensures.1
    (runs_unloaded _ _ _ _ _ _
    (λ all held. runs_early _ _ refl _ _ _ _ left _ (load_not_source c.in_err-load.field-0.0)
    (λ given ended. log_same _ _ _ left _ _ ended (left_kept g.D.Store.files g.D.Store.shows c.args.store.now c.load.new.self left c.in_err-load.ensures.kept c.in_err-load.ensures.crash may) (λ _. refl))))

pub commit_from-requires : goal.commit_from-requires
commit_from-requires g c = rw c.empty.ensures (holds_absent _ _ _ _ (load_of _ _ _ _ _ c.in-Absent.is c.in_ok-load.ensures.found) c.in_ok-load.ensures.kept)

pub commit_from-requires-in-Bytes : goal.commit_from-requires-in-Bytes
commit_from-requires-in-Bytes g c = holds_bytes _ _ _ _ _ (load_of _ _ _ _ _ c.in-Bytes.is c.in_ok-load.ensures.found) c.in_ok-load.ensures.kept

pub returns-in-Absent-clause-runs : goal.returns-in-Absent-clause-runs
returns-in-Absent-clause-runs g c = λ left may.
    let stays = stays_kept g.D.Store.files g.D.Store.shows c.args.store.now c.load.new.self c.in_ok-load.ensures.kept c.in_ok-load.ensures.crash in
    let later = left_after g.D.Store.files g.D.Store.shows c.load.new.self c.commit_from.new.store left c.args.store.now stays may in
    let load = load_of _ _ _ _ _ c.in-Absent.is c.in_ok-load.ensures.found in
    let kept = c.in_ok-load.ensures.kept in
    runs_loaded _ _ _ _ _ _ _ _ load (rw (c.empty.ensures, kept) at (c.commit_from.ensures.runs left later _ (held_after _ _ _ load kept)))

pub returns-in-TooLarge-clause-runs : goal.returns-in-TooLarge-clause-runs
returns-in-TooLarge-clause-runs g c = λ left may.
    let same = left_kept g.D.Store.files g.D.Store.shows c.args.store.now c.load.new.self left c.in_ok-load.ensures.kept c.in_ok-load.ensures.crash may in
    let load = load_of _ _ _ _ _ c.in-TooLarge.is c.in_ok-load.ensures.found in
    let writes = rw c.as_bytes.ensures.value at c.end_with.ensures.writes in
    runs_loaded _ _ _ _ _ _ _ _ load
    (runs_unread 8 too_large_text _ _ _ refl _ _ _ _ _ _ _ refl refl c.end_with.result (final_end 8 refl).1 (held_after _ _ _ load same)
    writes c.end_with.ensures.status (λ printed ended. log_same _ _ _ _ _ printed ended same (λ reads. absurd (true≢false (sym reads)))))

pub returns-in-Bytes-clause-runs : goal.returns-in-Bytes-clause-runs
returns-in-Bytes-clause-runs g c = λ left may.
    let stays = stays_kept g.D.Store.files g.D.Store.shows c.args.store.now c.load.new.self c.in_ok-load.ensures.kept c.in_ok-load.ensures.crash in
    let later = left_after g.D.Store.files g.D.Store.shows c.load.new.self c.commit_from-in-Bytes.new.store left c.args.store.now stays may in
    let load = load_of _ _ _ _ _ c.in-Bytes.is c.in_ok-load.ensures.found in
    let kept = c.in_ok-load.ensures.kept in
    runs_loaded _ _ _ _ _ _ _ _ load (rw kept at (c.commit_from-in-Bytes.ensures.runs left later _ (held_after _ _ _ load kept)))
