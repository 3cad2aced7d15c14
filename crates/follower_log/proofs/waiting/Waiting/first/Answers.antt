use Rattle.std.proofs.Common.{ap, ◌∙◌}
use Rattle.follower_log.proofs.WaitingLemmas.{first_of}
use Rattle.follower_log.specs.code.WaitingEntries.{first_entry}
use Rattle.follower_log.proofs.waiting.Waiting.first.Goals as goal

pub returns-in-Some : goal.returns-in-Some
returns-in-Some c = first_of c.self.inside.entries.entries c.in-Some._epoch.now c.in-Some.entry.now c.in-Some.ensures.first ∙ ap first_entry c.self.view_is
