-- The images of a disk in memory, by what was done to it.
use Rattle.std.specs.Prelude.{◌≡◌, ℕ, List, [], ◌∷◌, take, reverse, Option, unwrap_or}
use Rattle.durable_log.specs.Disk.{Torn}
use Rattle.durable_log.specs.declared.mem_disk.Done.{Done}
use Rattle.durable_log.specs.declared.mem_disk.Done.TheVariants.{Wrote, Synced}

-- what a crash may leave after these steps, the last of them first: a write may be torn, and after a sync the image
-- is the content
abbrev pub LeavesAfter : List ℕ → List Done → List ℕ → Type 0
LeavesAfter first [] c = c ≡ first
LeavesAfter first (Wrote at n ∷ older) c = (d : List ℕ) × LeavesAfter first older d × Torn at n d c
LeavesAfter first (Synced bytes ∷ older) c = (c ≡ bytes) × LeavesAfter first older c

-- what a crash may have left after the first t of these steps
abbrev pub LeftAt : List ℕ → List Done → ℕ → List ℕ → Type 0
LeftAt first done t c = LeavesAfter first (reverse (take t done)) c

-- the bytes on the disk: the first ones, until something is written
abbrev pub latest : List ℕ → Option (List ℕ) → List ℕ
latest first changed = unwrap_or changed first

-- the bytes after the last sync among these steps, the last of them first: the first ones, if there was none
abbrev pub last_kept : List ℕ → List Done → List ℕ
last_kept first [] = first
last_kept first (Wrote at n ∷ older) = last_kept first older
last_kept first (Synced bytes ∷ older) = bytes
