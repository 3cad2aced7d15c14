use Rattle.tcm_session.proofs.printed.PlanCovers.{plan_covers}
use Rattle.tcm_session.proofs.outcome_laws.plans_cover_what_is_added.Goals as goal

pub returns : goal.returns
returns c = λ file log node keyspace is. plan_covers file log is node keyspace
