use Rattle.std.proofs.Common.{arith}
use Rattle.catch_up_laws.proofs.GivenLemmas.{reply_again, reply_ready, reply_rises}
use Rattle.catch_up_laws.proofs.PartLemmas.{part_leads, part_of}
use Rattle.catch_up_laws.proofs.validity.replies_catch_up.Goals as goal

pub returns-clause-part : goal.returns-clause-part
returns-clause-part c log reply from = part_of log reply from

pub returns-clause-rises : goal.returns-clause-rises
returns-clause-rises c follower reply = reply_rises follower reply

pub returns-clause-reaches : goal.returns-clause-reaches
returns-clause-reaches c log reply follower is from ready =
    omega (arith, part_leads log reply from, (reply_ready log reply follower is (part_of log reply from) ready).reached)

pub returns-clause-again : goal.returns-clause-again
returns-clause-again c log reply follower is from ready = reply_again log reply follower is (part_of log reply from) ready
