use Rattle.tcm_session.proofs.members.WalkLemmas.{finishes}
use Rattle.tcm_session.proofs.files.member_walk.finish.Goals as goal

pub returns-in-Ok : goal.returns-in-Ok
returns-in-Ok c = finishes c.args.growing c.args.n _ c.requires c.in-Ok.ensures.finish
