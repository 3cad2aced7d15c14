-- Entries by epoch, and how a log stores them: under their ids, in order of epoch.
use Rattle.std.specs.Prelude.{◌≡◌, ℕ, ◌-◌, ◌≤◌, ◌==◌, if◌then◌else◌, List, map, slice_get, Option, None}
use Rattle.std.specs.List.{AllByRecursion}
use Rattle.std.specs.Map.{keys_of, values_of}
use Rattle.transformations.specs.Log.{AreEntries}
use Rattle.transformations.specs.declared.entry.Entry.{Entry}

-- the entry at this epoch: the first entry is at epoch 1
abbrev pub entry_at : List Entry → ℕ → Option Entry
entry_at log epoch = if epoch == 0 then None else slice_get log (epoch - 1)

-- each entry is stored under its id (the invariant of `Log`)
abbrev pub AreById : List (ℕ × Entry) → Type 0
AreById stored = keys_of stored ≡ map (λ entry. entry.id) (values_of stored)

-- no entry has an id above this one (the invariant of `Log`)
abbrev pub AreUpTo : ℕ → List Entry → Type 0
AreUpTo id log = AllByRecursion (λ entry. entry.id ≤ id) log

-- and the entries are those of a log (the invariant of `Log`)
abbrev pub IsStored : List (ℕ × Entry) → Type 0
IsStored stored = AreById stored × AreEntries (values_of stored)
