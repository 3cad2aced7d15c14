-- The end of the records while one is added.
use Rattle.std.specs.Prelude.{◌≡◌, ◌≢◌, ◌<◌, ℕ, List, length, slice_index, Result, Ok, Err}
use Rattle.tcm_edges.specs.declared.fault.Failed.{Failed}
use Rattle.tcm_edges.specs.declared.fault.WriteFault.{WriteFault}
use Rattle.tcm_edges.specs.declared.fault.WriteFault.TheVariants as write
use Rattle.durable_log.specs.Disk.{Only}
use Rattle.durable_log.specs.Ends.{IsFront}
use Rattle.durable_log.specs.Images.{SameFilesOr}
use Rattle.durable_log.specs.Records.{Change, files, changed}

-- the records end at a closed gate, and all of it is on the disk
pub record IsSettled (end : ℕ) (image : List ℕ → Type 0) (bytes : List ℕ) : Type 0 where
  pub front : IsFront end bytes
  pub room : end < length bytes
  pub closed : slice_index bytes end ≢ 1
  pub only : Only image bytes

-- the change of this kind, of the file with this name, by these bytes
abbrev pub change_by : ℕ → List ℕ → List ℕ → Change
change_by kind name bytes = record { kind = kind; name = name; bytes = bytes }

-- the files are those after a change
abbrev pub FilesChanged : Change → List ℕ → List ℕ → Type 0
FilesChanged change old new = files new ≡ changed (files old) change

-- the files are as before, or those after a change
abbrev pub FilesMayChange : Change → List ℕ → List ℕ → Type 0
FilesMayChange change old new = SameFilesOr (changed (files old) change) old new

-- the result of a write, by that of its calls of the disk
abbrev pub write_result : Result (Unit {0}) Failed → Result (Unit {0}) WriteFault
write_result (Ok _) = Ok tt
write_result (Err _) = Err write.Failed
