use Rattle.catch_up_laws.specs.Given.{given_entries}
use Rattle.script_session.proofs.followers.WayLemmas.{hands_err, ok_of, one_more, stops_at}
use Rattle.script_session.proofs.session.handing_over.hand_entries.Goals as goal

pub returns-in_err-hand_next : goal.returns-in_err-hand_next
returns-in_err-hand_next c =
    hands_err c.args.log.now (given_entries c.args.follower.now c.args.entries.now) c.args.follower.now c.hand_next.new.follower c.from_residual.result c.from_residual.ensures.0
    (stops_at c.args.log.now c.args.entries.now c.loop-entry.entry-index c.args.follower.now c.loop-entry.follower c.hand_next.new.follower c.entry-item.result c.loop-entry-test.true c.entry-item.is c.loop-entry.invariant c.hand_next.result c.hand_next.ensures)

pub loop-entry-preserved : goal.loop-entry-preserved
loop-entry-preserved c =
    one_more c.args.log.now c.args.entries.now c.loop-entry.entry-index c.args.follower.now c.loop-entry.follower c.hand_next.new.follower c.entry-item.result c.loop-entry-test.true c.entry-item.is c.loop-entry.invariant c.hand_next.result (ok_of c.hand_next.result c.in_ok-hand_next.field-0 c.in_ok-hand_next.was) c.hand_next.ensures
