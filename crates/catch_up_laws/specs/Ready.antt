-- Followers that a reply can lead on.
use Rattle.std.specs.Prelude.{◌≡◌, ℕ, ◌+◌, ◌≤◌, List, None}
use Rattle.transformations.specs.declared.entry.Entry.{Entry}
use Rattle.follower_log.specs.Follower.{FollowerState, waiting_at}
use Rattle.follower_log.specs.Prefix.{StandsFor, Taken}

-- a follower of a log has reached an epoch, and no entry of its next epoch waits
pub record IsReadyAt (log : List Entry) (epoch : ℕ) (follower : FollowerState) : Type 0 where
  pub taken : Taken
  pub stands : StandsFor log taken follower
  pub reached : epoch ≤ follower.image.epoch
  pub none : waiting_at follower.waiting (follower.image.epoch + 1) ≡ None
