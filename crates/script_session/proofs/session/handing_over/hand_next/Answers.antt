use Rattle.follower_log.specs.Follower.{hand_entry}
use Rattle.script_session.proofs.followers.WayLemmas.{entry_fits, entry_of_log, entry_way, hands_err, hands_ok}
use Rattle.script_session.proofs.session.handing_over.hand_next.Goals as goal

pub hand_over-requires-clause-formed : goal.hand_over-requires-clause-formed
hand_over-requires-clause-formed c = (entry_fits c.args.log.now c.args.entry.now c.requires.log c.requires.among).0

pub hand_over-requires-clause-epoch : goal.hand_over-requires-clause-epoch
hand_over-requires-clause-epoch c = (entry_fits c.args.log.now c.args.entry.now c.requires.log c.requires.among).1

pub taken-requires : goal.taken-requires
taken-requires c = entry_of_log c.args.log.now c.args.follower.now c.hand_over.new.follower c.args.entry.now c.hand_over.result c.requires.follows c.hand_over.ensures.shows

pub returns-in_err-_took : goal.returns-in_err-_took
returns-in_err-_took c =
    hands_err c.args.log.now (hand_entry c.args.follower.now c.args.entry.now).after c.args.follower.now c.hand_over.new.follower c.from_residual.result c.from_residual.ensures.0
    (entry_way c.args.log.now c.args.follower.now c.hand_over.new.follower c.args.entry.now c.hand_over.result c.requires.follows c.hand_over.ensures.step c.hand_over.ensures.shows)

pub returns : goal.returns
returns c =
    hands_ok c.args.log.now c.args.follower.now c.hand_over.new.follower (hand_entry c.args.follower.now c.args.entry.now) c.hand_over.result _ _ c.in_ok-_took.ensures c.hand_over.ensures.step
    (entry_way c.args.log.now c.args.follower.now c.hand_over.new.follower c.args.entry.now c.hand_over.result c.requires.follows c.hand_over.ensures.step c.hand_over.ensures.shows)
