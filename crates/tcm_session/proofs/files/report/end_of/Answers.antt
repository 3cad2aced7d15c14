use Rattle.tcm_session.proofs.log_files.ReplayLemmas.{ends_at, ends_before}
use Rattle.tcm_session.proofs.files.report.end_of.Goals as goal

pub returns-in-Some-clause-ends : goal.returns-in-Some-clause-ends
returns-in-Some-clause-ends g c = ends_before _ _ _ _ c.in-Some.ending c.in-Some.is c.in_ok-ending.ensures.hands

pub returns-in_ok-reported-in-None-clause-ends : goal.returns-in_ok-reported-in-None-clause-ends
returns-in_ok-reported-in-None-clause-ends g c = ends_at _ _ _ c.hand_files.new.replay c.in_ok-reported-in-None.field-0 c.in-None.is c.in_ok-ending.ensures.hands c.in_ok-reported-in-None.ensures
