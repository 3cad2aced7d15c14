-- What becomes of a follower that is given nothing, computed.
use Rattle.std.proofs.Common.{◌≡◌, ℕ, [], None, refl}
use Rattle.follower_log.specs.Follower.{FollowerState}
use Rattle.catch_up_laws.specs.Given.{given_reply}

-- an empty reply leaves it where it is
pub nothing_given : (follower : FollowerState) (since : ℕ) → given_reply follower (record { since = since; image = None; entries = [] }) ≡ follower
nothing_given follower since = refl
