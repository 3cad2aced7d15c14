use Rattle.std.proofs.Common.{ap, ◌∙◌}
use Rattle.follower_log.proofs.WaitingLemmas.{found}
use Rattle.follower_log.specs.Follower.{waiting_at}
use Rattle.follower_log.proofs.waiting.Waiting.at.Goals as goal

pub returns : goal.returns
returns c = c.get.ensures.value ∙ found c.args.epoch c.self.inside.entries.entries c.self.invariant ∙ ap (λ waiting. waiting_at waiting c.args.epoch) c.self.view_is
