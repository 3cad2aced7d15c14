use Rattle.std.proofs.Common.{refl}
use Rattle.tcm_edges.proofs.ShownLemmas.{left_after, left_kept, left_only, stays_kept}
use Rattle.tcm_session.specs.files.FileEnds.{absent_end, too_large_end}
use Rattle.tcm_session.proofs.log_files.HeldFiles.{load_of}
use Rattle.tcm_session.proofs.log_files.MendLemmas.{makes_none, mends, mends_by, stops, stops_loading, stops_same}
use Rattle.tcm_session.proofs.runs.StopLemmas.{err_map, ok_map, on_fault}
use Rattle.tcm_session.proofs.files.mend.mend.Goals as goal

pub returns-in_err-load-clause-stopped : goal.returns-in_err-load-clause-stopped
returns-in_err-load-clause-stopped g c =
    on_fault _ c.from_residual.result (λ left may. stops_loading _ _ _ _ left (left_kept g.D.Store.files g.D.Store.shows c.args.store.now c.load.new.self left c.in_err-load.ensures.kept c.in_err-load.ensures.crash may))

pub returns-in_err-absent-in-Absent-clause-stopped : goal.returns-in_err-absent-in-Absent-clause-stopped
returns-in_err-absent-in-Absent-clause-stopped g c =
    on_fault _ c.from_residual-in_err-absent-in-Absent.result (λ left may.
    stops _ _ _ _ _ left _ (load_of _ _ _ _ _ c.in-Absent.is c.in_ok-load.ensures.found) c.in_ok-load.ensures.kept
    (stops_same _ _ _ left (left_only g.D.Store.files g.D.Store.shows c.args.store.now c.load.new.self left (stays_kept g.D.Store.files g.D.Store.shows c.args.store.now c.load.new.self c.in_ok-load.ensures.kept c.in_ok-load.ensures.crash) may)))

pub returns-in_err-too_large-in-TooLarge-clause-stopped : goal.returns-in_err-too_large-in-TooLarge-clause-stopped
returns-in_err-too_large-in-TooLarge-clause-stopped g c =
    on_fault _ c.from_residual-in_err-too_large-in-TooLarge.result (λ left may.
    stops _ _ _ _ _ left _ (load_of _ _ _ _ _ c.in-TooLarge.is c.in_ok-load.ensures.found) c.in_ok-load.ensures.kept
    (stops_same _ _ _ left (left_only g.D.Store.files g.D.Store.shows c.args.store.now c.load.new.self left (stays_kept g.D.Store.files g.D.Store.shows c.args.store.now c.load.new.self c.in_ok-load.ensures.kept c.in_ok-load.ensures.crash) may)))

pub returns-in_ok-absent-in-Absent-clause-mends : goal.returns-in_ok-absent-in-Absent-clause-mends
returns-in_ok-absent-in-Absent-clause-mends g c =
    mends _ _ _ _ _ _ _ (load_of _ _ _ _ _ c.in-Absent.is c.in_ok-load.ensures.found) c.in_ok-load.ensures.kept _ (makes_none _ _ _ (absent_end c.args.old.now) _ _ c.in_ok-absent-in-Absent.ensures (λ found. refl) refl)

pub returns-in_ok-too_large-in-TooLarge-clause-mends : goal.returns-in_ok-too_large-in-TooLarge-clause-mends
returns-in_ok-too_large-in-TooLarge-clause-mends g c =
    mends _ _ _ _ _ _ _ (load_of _ _ _ _ _ c.in-TooLarge.is c.in_ok-load.ensures.found) c.in_ok-load.ensures.kept _ (makes_none _ _ _ too_large_end _ _ c.in_ok-too_large-in-TooLarge.ensures (λ found. refl) refl)

pub returns-in-Bytes-clause-mends : goal.returns-in-Bytes-clause-mends
returns-in-Bytes-clause-mends g c =
    mends_by _ _ _ _ _ _ _ (load_of _ _ _ _ _ c.in-Bytes.is c.in_ok-load.ensures.found) c.in_ok-load.ensures.kept c.mend_from.result (rw c.as_slice.ensures at c.mend_from.ensures.makes)

pub returns-in-Bytes-clause-stopped : goal.returns-in-Bytes-clause-stopped
returns-in-Bytes-clause-stopped g c =
    err_map c.mend_from.result
    (λ each left may.
    stops _ _ _ _ _ left _ (load_of _ _ _ _ _ c.in-Bytes.is c.in_ok-load.ensures.found) c.in_ok-load.ensures.kept
    (each left (left_after g.D.Store.files g.D.Store.shows c.load.new.self c.mend_from.new.store left c.args.store.now (stays_kept g.D.Store.files g.D.Store.shows c.args.store.now c.load.new.self c.in_ok-load.ensures.kept c.in_ok-load.ensures.crash) may)))
    (rw c.as_slice.ensures at c.mend_from.ensures.stopped)

pub returns-in_ok-absent-in-Absent-clause-stays : goal.returns-in_ok-absent-in-Absent-clause-stays
returns-in_ok-absent-in-Absent-clause-stays g c = stays_kept g.D.Store.files g.D.Store.shows c.args.store.now c.load.new.self c.in_ok-load.ensures.kept c.in_ok-load.ensures.crash

pub returns-in_ok-too_large-in-TooLarge-clause-stays : goal.returns-in_ok-too_large-in-TooLarge-clause-stays
returns-in_ok-too_large-in-TooLarge-clause-stays g c = stays_kept g.D.Store.files g.D.Store.shows c.args.store.now c.load.new.self c.in_ok-load.ensures.kept c.in_ok-load.ensures.crash

pub returns-in-Bytes-clause-stays : goal.returns-in-Bytes-clause-stays
returns-in-Bytes-clause-stays g c =
    ok_map c.mend_from.result (λ later only. later (stays_kept g.D.Store.files g.D.Store.shows c.args.store.now c.load.new.self c.in_ok-load.ensures.kept c.in_ok-load.ensures.crash only)) c.mend_from.ensures.stays
