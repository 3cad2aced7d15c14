-- The outcome of each request.
use Rattle.std.specs.Prelude.{ℕ, List, Option, Some, None}
use Rattle.tcm_edges.specs.Files.{Files}
use Rattle.tcm_session.specs.Commit.{commit_outcome, commit_to_outcome}
use Rattle.tcm_session.specs.Gen.{gen_ending}
use Rattle.tcm_session.specs.Mend.{mend_outcome}
use Rattle.tcm_session.specs.Outcome.{Outcome, ended_outcome}
use Rattle.tcm_session.specs.Request.{Request, Cms, Commit, CommitTo, Gen, Mend, Plan, Replay, Snapshot}
use Rattle.tcm_session.specs.Usage.{usage_end}
use Rattle.tcm_session.specs.files.MemberRoute.{route_ending}
use Rattle.tcm_session.specs.files.Replay.{replay_ending}
use Rattle.tcm_session.specs.files.StateLine.{snapshot_ending}
use Rattle.tcm_session.specs.files.StreamPlan.{plan_ending}

-- the outcome of a run, by what it is asked for, the files as each of its loads finds them, and its input
unfoldable pub outcome : Option Request → (ℕ → Files) → List ℕ → Outcome
outcome (Some Commit) seen input = commit_outcome (seen 0) input
outcome (Some (CommitTo log cluster)) seen input = commit_to_outcome log cluster (seen 0) input
outcome (Some (Replay files)) seen input = ended_outcome (replay_ending files seen) (seen 0)
outcome (Some (Snapshot log epoch)) seen input = ended_outcome (snapshot_ending log epoch seen) (seen 0)
outcome (Some (Gen start rounds)) seen input = ended_outcome (gen_ending start rounds) (seen 0)
outcome (Some (Mend old new cluster)) seen input = mend_outcome old new cluster seen
outcome (Some (Plan log node keyspace)) seen input = ended_outcome (plan_ending log node keyspace seen) (seen 0)
outcome (Some (Cms log from to)) seen input = ended_outcome (route_ending log from to seen) (seen 0)
outcome None seen input = ended_outcome usage_end (seen 0)
