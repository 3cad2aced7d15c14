use Rattle.follower_log.proofs.StepsCutShort.{cut_low, image_from}
use Rattle.follower_log.proofs.ShowsLemmas.{image_shows}
use Rattle.follower_log.proofs.follower.Follower.snapshot.Goals as goal

pub returns-clause-shows : goal.returns-clause-shows
returns-clause-shows c log taken is of stands =
    image_shows log taken c.args.self.now c.hand_over_image.new.self c.args.image c.hand_over_image.result is of stands c.hand_over_image.ensures

pub returns-clause-least : goal.returns-clause-least
returns-clause-least c =
    cut_low c.args.self.now.image.epoch c.args.self.now c.hand_over_image.new.self _ c.hand_over_image.result (image_from c.args.self.now c.args.image) c.hand_over_image.ensures
