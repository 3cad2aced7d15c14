use Rattle.tcm_session.proofs.members.WalkLemmas.{stops}
use Rattle.tcm_session.proofs.files.member_walk.stop.Goals as goal

pub returns : goal.returns
returns c = stops c.args.growing c.args.n _ c.requires c.stop.ensures.stop
