use Rattle.script_session.proofs.followers.WayLemmas.{Handing}
use Rattle.script_session.proofs.session.handing_over.hand_entries.Given as goal

abbrev pub invariant-loop-entry : goal.invariant-loop-entry
invariant-loop-entry l = Handing l.log l.entries l.entry-index l.fn.follower l.follower
