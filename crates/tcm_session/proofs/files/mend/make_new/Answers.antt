use Rattle.std.proofs.Common.{◌∙◌}
use Rattle.tcm_edges.proofs.ShownLemmas.{left_after, left_kept, stays_kept}
use Rattle.tcm_session.proofs.log_files.HeldFiles.{load_of}
use Rattle.tcm_session.proofs.log_files.MendLemmas.{makes_whole, stops_same, stops_writing}
use Rattle.tcm_session.proofs.runs.StopLemmas.{on_fault}
use Rattle.tcm_session.proofs.files.mend.make_new.Goals as goal

pub returns-in_err-load-clause-stopped : goal.returns-in_err-load-clause-stopped
returns-in_err-load-clause-stopped g c =
    on_fault _ c.from_residual.result (λ left may. stops_same _ _ _ left (left_kept g.D.Store.files g.D.Store.shows c.args.store.now c.load.new.self left c.in_err-load.ensures.kept c.in_err-load.ensures.crash may))

pub returns-clause-makes : goal.returns-clause-makes
returns-clause-makes g c =
    makes_whole _ _ c.args.log.now _ _ _ _ (load_of _ _ _ _ _ c.in-Absent.is c.in_ok-load.ensures.found) c.in_ok-load.ensures.kept c.in_ok-ending.ending c.as_slice.result.now
    (rw c.last_epoch.ensures.last at c.in_ok-ending.ensures) (c.as_slice.ensures ∙ c.in_ok-text.ensures) c.in_ok-write_file.ensures.written

pub returns-clause-stays : goal.returns-clause-stays
returns-clause-stays g c = λ only.
    c.in_ok-write_file.ensures.stays (stays_kept g.D.Store.files g.D.Store.shows c.args.store.now c.load.new.self c.in_ok-load.ensures.kept c.in_ok-load.ensures.crash only)

pub returns-in_err-write_file-clause-stopped : goal.returns-in_err-write_file-clause-stopped
returns-in_err-write_file-clause-stopped g c =
    on_fault _ c.from_residual-in_err-write_file.result
    (λ left may.
    let stays = stays_kept g.D.Store.files g.D.Store.shows c.args.store.now c.load.new.self c.in_ok-load.ensures.kept c.in_ok-load.ensures.crash in
    let later = left_after g.D.Store.files g.D.Store.shows c.load.new.self c.write_file.new.store left c.args.store.now stays may in
    stops_writing _ _ c.args.log.now _ _ left _ (load_of _ _ _ _ _ c.in-Absent.is c.in_ok-load.ensures.found) c.in_ok-load.ensures.kept c.as_slice.result.now
    (c.as_slice.ensures ∙ c.in_ok-text.ensures) (c.in_err-write_file.ensures.stopped left later))
