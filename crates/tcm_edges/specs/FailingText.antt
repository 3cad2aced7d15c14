-- Bytes written, with a plan of the calls that are to fail.
use Rattle.std.specs.Prelude.{ℕ, List}
use Rattle.tcm_edges.specs.Calls.{Plan}

-- the bytes written, and the plan of the calls
pub record FailingText : Type 0 where
  pub bytes : List ℕ
  pub plan : Plan ℕ
