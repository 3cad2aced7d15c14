-- Requests of the code, which borrow the names of files.
use Rattle.std.specs.Prelude.{ℕ, ◌+◌, ◌≤◌, IsTrue, List, [], length, map, string_bytes, Option, None, Some, ◌==◌}
use Rattle.std.specs.List.{slice_split}
use Rattle.tcm_session.specs.Request.{Request, Cms, Commit, CommitTo, Gen, Mend, Plan, Replay, Snapshot, are_nodes}
use Rattle.tcm_session.specs.declared.files.log_file.LogFile.{LogFile}
use Rattle.tcm_session.specs.declared.request.Request.{Request as Borrowed}
use Rattle.tcm_session.specs.declared.request.Request.TheVariants as borrowed

-- the names of a log file and of its cluster
abbrev pub names_of : LogFile → List ℕ × List ℕ
names_of log = (log.name.now, log.cluster)

-- what is asked for
abbrev pub asked : Borrowed → Request
asked borrowed.Commit = Commit
asked (borrowed.CommitTo log) = CommitTo log.name.now log.cluster
asked (borrowed.Replay files) = Replay (map string_bytes files.now)
asked (borrowed.Snapshot log epoch) = Snapshot log.now epoch
asked (borrowed.Gen start rounds) = Gen start rounds
asked (borrowed.Mend old new) = Mend old.now new.name.now new.cluster
asked (borrowed.Plan log node keyspace) = Plan log.now node keyspace
asked (borrowed.Cms log from to) = Cms log.now from to

-- at most 64 files are replayed, a generated script has at most 3,000 rounds, and lists of nodes have 1 to 16 that
-- ascend
abbrev pub IsWithin : Borrowed → Type 0
IsWithin (borrowed.Replay files) = length files.now ≤ 64
IsWithin (borrowed.Gen start rounds) = rounds ≤ 3000
IsWithin (borrowed.Cms log from to) = IsTrue (are_nodes from) × IsTrue (are_nodes to)
IsWithin _ = Unit {0}

-- the texts between the commas of the rest of a list, if there is a rest
abbrev pub parts_left : Option (List ℕ) → List (List ℕ)
parts_left None = []
parts_left (Some rest) = slice_split (λ byte. byte == 44) rest

-- how long the rest of a list is with its comma, if there is a rest
abbrev pub size_left : Option (List ℕ) → ℕ
size_left None = 0
size_left (Some rest) = length rest + 1
