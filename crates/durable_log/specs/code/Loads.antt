-- A file that is loaded from records.
use Rattle.std.specs.Prelude.{ℕ, ◌<◌, ◌≤◌, ◌==◌, if◌then◌else◌, List, [], length, take, drop, Option, None, Some, Result, Ok, Err}
use Rattle.tcm_edges.specs.declared.fault.LoadFault.{LoadFault}
use Rattle.tcm_edges.specs.declared.fault.LoadFault.TheVariants as load
use Rattle.tcm_edges.specs.declared.store.Loaded.{Loaded}
use Rattle.tcm_edges.specs.declared.store.Loaded.TheVariants.{Bytes, Absent, TooLarge}

-- so many bytes at a place
abbrev pub bytes_at : ℕ → ℕ → List ℕ → List ℕ
bytes_at at len bytes = take len (drop at bytes)

-- the number of bytes of a file, which is 0 if it is absent
abbrev pub size_of : Loaded → ℕ
size_of (Bytes bytes) = length bytes
size_of Absent = 0
size_of (TooLarge size) = size

-- the bytes of a file, as far as they are loaded
abbrev pub bytes_of : Loaded → List ℕ
bytes_of (Bytes bytes) = bytes
bytes_of Absent = []
bytes_of (TooLarge size) = []

-- the part of a file that a record of this kind keeps
abbrev pub front_of : ℕ → Loaded → Loaded
front_of kind loaded = if kind == 0 then loaded else Absent

-- the bytes are loaded if and only if the limit allows them
abbrev pub FitsLimit : ℕ → Loaded → Type 0
FitsLimit limit (Bytes bytes) = length bytes ≤ limit
FitsLimit limit Absent = Unit {0}
FitsLimit limit (TooLarge size) = limit < size

-- the place of the closed gate, as it is known after a load
abbrev pub gate_after : Result Loaded LoadFault → ℕ → Option ℕ
gate_after (Ok _) gate = Some gate
gate_after (Err load.Memory) gate = Some gate
gate_after (Err load.Failed) gate = None
