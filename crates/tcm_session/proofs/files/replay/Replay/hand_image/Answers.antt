use Rattle.std.proofs.Common.{refl}
use Rattle.follower_log.specs.Follower.{hand_image}
use Rattle.tcm_session.proofs.log_files.ReplayLemmas.{counted}
use Rattle.tcm_session.proofs.files.replay.Replay.hand_image.Goals as goal

pub returns-clause-leads : goal.returns-clause-leads
returns-clause-leads c =
    counted c.args.self.now _ _ (hand_image c.args.self.now.follower c.args.image) c.snapshot-handed.result c.count.result refl refl refl c.snapshot-handed.ensures.step c.count.ensures.leads c.count.ensures.memory
