use Rattle.std.proofs.Common.{length}
use Rattle.script_session.proofs.session.followers.close_followers.Given as goal

abbrev pub decreases-loop-named : goal.decreases-loop-named
decreases-loop-named l = length l.followers.items
