use Rattle.follower_log.proofs.StepsCutShort.{cut_low, entry_from}
use Rattle.follower_log.proofs.ShowsLemmas.{entry_shows}
use Rattle.follower_log.proofs.follower.Follower.deliver.Goals as goal

pub returns-clause-least : goal.returns-clause-least
returns-clause-least c =
    cut_low c.args.self.now.image.epoch c.args.self.now c.hand_over.new.self _ c.hand_over.result (entry_from c.args.self.now c.args.entry.now) c.hand_over.ensures.step

pub returns-clause-shows : goal.returns-clause-shows
returns-clause-shows c log taken is of stands =
    entry_shows log taken c.args.self.now c.hand_over.new.self c.args.entry.now c.hand_over.result is of stands c.hand_over.ensures.step
