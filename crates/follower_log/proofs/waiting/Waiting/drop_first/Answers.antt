use Rattle.std.proofs.Common.{subst}
use Rattle.std.specs.Map.{values_of}
use Rattle.follower_log.proofs.WaitingLemmas.{above_first}
use Rattle.follower_log.specs.code.WaitingEntries.{AreAbove, first_entry}
use Rattle.follower_log.proofs.waiting.Waiting.drop_first.Goals as goal

pub returns-clause-above : goal.returns-clause-above
returns-clause-above c =
    subst (λ waiting. AreAbove (first_entry waiting) (values_of c.pop_first-first.new.self.entries)) c.self.view_is
    (above_first c.pop_first-first.result c.self.inside.entries.entries c.pop_first-first.new.self.entries c.self.invariant c.pop_first-first.ensures.variant.1 c.pop_first-first.ensures.removal c.pop_first-first.ensures.all_above)
