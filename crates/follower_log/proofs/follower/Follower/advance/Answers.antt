use Rattle.follower_log.proofs.ShowsLemmas.{advance_shows}
use Rattle.follower_log.proofs.follower.Follower.advance.Goals as goal

pub returns-clause-shows : goal.returns-clause-shows
returns-clause-shows c log taken is stands = advance_shows log taken c.args.self.now c.apply_waiting.new.self c.apply_waiting.result is stands c.apply_waiting.ensures.0
