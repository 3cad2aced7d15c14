-- Bytes given in pieces, with a plan of the calls that are to fail.
use Rattle.std.specs.Prelude.{ℕ}
use Rattle.tcm_edges.specs.Calls.{Plan}
use Rattle.tcm_edges.specs.Feed.{Feed}

-- the bytes to give, and the plan of the calls
pub record FailingFeed : Type 0 where
  pub feed : Feed
  pub plan : Plan ℕ
