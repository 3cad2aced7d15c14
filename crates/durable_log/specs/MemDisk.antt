-- A disk in memory.
use Rattle.std.specs.Prelude.{◌≡◌, ℕ, List, [], ◌∷◌, ◌++◌, ◌-◌, ◌/◌, length, take, reverse, Result, Ok, Err}
use Rattle.tcm_edges.specs.Calls.{Plan, call_passed, failed}
use Rattle.durable_log.specs.MemImages.{LeftAt, last_kept, latest}
use Rattle.durable_log.specs.declared.mem_disk.Done.{Done}
use Rattle.durable_log.specs.declared.mem_disk.MemDisk.{MemDisk}

-- its bytes
abbrev pub bytes_on : MemDisk → List ℕ
bytes_on disk = latest disk.first disk.changed

-- the number of steps done to it
abbrev pub steps_of : MemDisk → ℕ
steps_of disk = length disk.done

-- what a crash may have left after the first t steps
abbrev pub CrashLeaves : MemDisk → ℕ → List ℕ → Type 0
CrashLeaves disk t c = LeftAt disk.first disk.done t c

-- the plan of its calls
abbrev pub plan_of : MemDisk → Plan ℕ
plan_of disk = disk.calls

-- its bytes after the last sync that succeeded
abbrev pub kept_on : MemDisk → List ℕ
kept_on disk = last_kept disk.first (reverse disk.done)

-- the plan after a call with this result
abbrev pub counted : {T E : Type 0} → Result T E → Plan ℕ → Plan ℕ
counted (Ok _) plan = call_passed plan
counted (Err _) plan = failed plan

-- the steps done to it are those of before
abbrev pub SameSteps : MemDisk → MemDisk → Type 0
SameSteps old new = new.done ≡ old.done

-- the steps done to it are those of before and this one
abbrev pub OneStep : Done → MemDisk → MemDisk → Type 0
OneStep step old new = new.done ≡ old.done ++ step ∷ []

-- what a listed write writes: the first half of the bytes, rounded up
abbrev pub half_of : List ℕ → List ℕ
half_of bytes = take (length bytes - length bytes / 2) bytes
