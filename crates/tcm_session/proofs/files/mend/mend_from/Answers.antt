use Rattle.std.proofs.Common.{ap, refl, subst}
use Rattle.tcm_edges.proofs.ShownLemmas.{left_same}
use Rattle.tcm_session.specs.Mend.{mending_from}
use Rattle.tcm_session.specs.code.Loading.{IsUnopened}
use Rattle.tcm_session.proofs.log_files.MendLemmas.{makes_none, stops_same}
use Rattle.tcm_session.proofs.runs.StopLemmas.{on_fault}
use Rattle.tcm_session.proofs.files.mend.mend_from.Goals as goal

pub returns-in_err-refused-in-Err-Refused-clause-stopped : goal.returns-in_err-refused-in-Err-Refused-clause-stopped
returns-in_err-refused-in-Err-Refused-clause-stopped g c =
    on_fault _ c.from_residual.result (λ left may. stops_same _ _ _ left (left_same g.D.Store.files g.D.Store.shows c.args.store.now c.args.store.now left refl may))

pub returns-in_ok-refused-in-Err-Refused-clause-makes : goal.returns-in_ok-refused-in-Err-Refused-clause-makes
returns-in_ok-refused-in-Err-Refused-clause-makes g c =
    makes_none _ _ c.in_ok-refused-in-Err-Refused.field-0 _ _ _ c.in_ok-refused-in-Err-Refused.ensures
    (λ found. ap (λ r. mending_from c.args.new.now.name.now c.args.new.now.cluster r found) (subst (IsUnopened _) c.in-Err-Refused.field-0-is c.in-Err-Refused.ensures.fault)) refl

pub returns-in-Err-Memory-clause-stopped : goal.returns-in-Err-Memory-clause-stopped
returns-in-Err-Memory-clause-stopped g c = λ left may. stops_same _ _ _ left (left_same g.D.Store.files g.D.Store.shows c.args.store.now c.args.store.now left refl may)

pub returns-in-Ok-clause-stopped : goal.returns-in-Ok-clause-stopped
returns-in-Ok-clause-stopped g c = rw c.in-Ok.ensures.opened (rw c.log.ensures at c.make_new-ended.ensures.stopped)
