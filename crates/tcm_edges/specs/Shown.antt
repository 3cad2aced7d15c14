-- What a crash may leave of the files of a store.
use Rattle.std.specs.Prelude.{◌≡◌, ◌⊎◌, ℕ, List, Option, Some, Result, OnOk, IfErr}
use Rattle.tcm_edges.specs.declared.fault.WriteFault.{WriteFault}
use Rattle.tcm_edges.specs.Causes.{OnMemory}
use Rattle.tcm_edges.specs.Files.{ChangesFile, Files, OthersKept}

-- a crash leaves no files but those that the store tells
abbrev pub ShowsOnly : (Files → Type 0) → Option Files → Type 0
ShowsOnly shows told = (f : Files) → shows f → told ≡ Some f

-- what a crash may leave after a call, it might have left before it
abbrev pub ShowsNoMore : (Files → Type 0) → (Files → Type 0) → Type 0
ShowsNoMore shows shows' = (f : Files) → shows' f → shows f

-- what a crash may leave after a call, it might have left before it, but that the file with this name changed so
abbrev pub ShowsChanged : (Option (List ℕ) → Option (List ℕ) → Type 0) → (Files → Type 0) → (Files → Type 0) → List ℕ → Type 0
ShowsChanged Change shows shows' name =
    (f : Files) → shows' f → (g : Files) × shows g × ChangesFile Change (Some g) (Some f) name × OthersKept (Some g) (Some f) name

-- what a crash may leave after a change of a file: after `Ok` no files but those that the store tells; always files that
-- it might have left before, changed so; after `Memory` no others than before
pub record CrashLeaves {T : Type 0} (Change : Option (List ℕ) → Option (List ℕ) → Type 0) (shows shows' : Files → Type 0) (told : Option Files) (name : List ℕ) (result : Result T WriteFault) : Type 0 where
  pub ok : OnOk result (ShowsOnly shows' told)
  pub changed : ShowsChanged Change shows shows' name
  pub memory : IfErr result (λ fault. OnMemory fault (ShowsNoMore shows shows'))

-- ---- over some calls

-- `left` is what the store tells after some calls. Or it is files that a crash may leave after them, and before them a
-- crash left no files but those that the store told
abbrev pub MayLeave : {D : Type 0} → (D → Option Files) → (D → Files → Type 0) → D → D → Option Files → Type 0
MayLeave told shows old new left =
    (left ≡ told new) ⊎ (ShowsOnly (shows old) (told old) × ((f : Files) × shows new f × (left ≡ Some f)))

-- P holds of what the store tells after some calls; and, if before them a crash left no files but those that it told, of
-- all that a crash may leave after them
abbrev pub EachLeft : {D : Type 0} → (D → Option Files) → (D → Files → Type 0) → D → D → (Option Files → Type 0) → Type 0
EachLeft told shows old new P = (left : Option Files) → MayLeave told shows old new left → P left

-- if a crash left only what the store told before some calls, it leaves only that after them
abbrev pub StaysOnly : {D : Type 0} → (D → Option Files) → (D → Files → Type 0) → D → D → Type 0
StaysOnly told shows old new = ShowsOnly (shows old) (told old) → ShowsOnly (shows new) (told new)
