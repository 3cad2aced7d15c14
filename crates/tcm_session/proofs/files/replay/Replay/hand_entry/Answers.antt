use Rattle.std.proofs.Common.{refl}
use Rattle.follower_log.specs.Follower.{hand_entry}
use Rattle.tcm_session.proofs.log_files.ReplayLemmas.{counted}
use Rattle.tcm_session.proofs.files.replay.Replay.hand_entry.Goals as goal

pub returns-clause-leads : goal.returns-clause-leads
returns-clause-leads c =
    counted c.args.self.now _ _ (hand_entry c.args.self.now.follower c.args.entry.now) c.deliver-handed.result c.count.result refl refl refl c.deliver-handed.ensures.step c.count.ensures.leads c.count.ensures.memory
