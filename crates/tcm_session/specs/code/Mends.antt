-- The parts of `mend2`.
use Rattle.std.specs.Prelude.{◌≡◌, ◌⊎◌, ℕ, List, Option, None, IfSome, option_map}
use Rattle.tcm_edges.specs.Files.{ChangesFile, Files, OthersKept, file_of}
use Rattle.tcm_session.specs.Mend.{Mending, mending, with_made}
use Rattle.tcm_session.specs.Run.{AreSeen}
use Rattle.tcm_session.specs.declared.ending.Ending.{Ending}

-- a file is as before, or it was absent and is made
abbrev pub IsKeptOrMade : Option (List ℕ) → Option (List ℕ) → Option (List ℕ) → Type 0
IsKeptOrMade made old new = (new ≡ old) ⊎ ((old ≡ None) × (new ≡ made))

-- the file NEW is left so, and every other file is as before
abbrev pub LeavesMade : List ℕ → Mending → Option Files → Option Files → Type 0
LeavesMade new mending files files' = ChangesFile (IsKeptOrMade mending.made) files files' new × OthersKept files files' new

-- what a run comes to by the file that it finds as NEW
pub record Makes (new : List ℕ) (by : Option (List ℕ) → Mending) (ending : Ending) (files files' : Option Files) : Type 0 where
  pub found : Option (List ℕ)
  pub told : IfSome files (λ all. found ≡ file_of all new)
  pub is : ending ≡ (by found).ending
  pub made : files' ≡ option_map (with_made new (by found).made) files
  pub left : LeavesMade new (by found) files files'

-- what a fault leaves of a run, by the file that it finds as NEW
pub record StopsMaking (new : List ℕ) (by : Option (List ℕ) → Mending) (files files' : Option Files) : Type 0 where
  pub found : Option (List ℕ)
  pub told : IfSome files (λ all. found ≡ file_of all new)
  pub left : LeavesMade new (by found) files files'

-- what a run comes to by the files that the loads of OLD and of NEW find
pub record Mends (old new cluster : List ℕ) (ending : Ending) (files files' : Option Files) : Type 0 where
  pub seen : ℕ → Files
  pub held : AreSeen files seen
  pub is : ending ≡ (mending old new cluster seen).ending
  pub made : files' ≡ option_map (with_made new (mending old new cluster seen).made) files
  pub left : LeavesMade new (mending old new cluster seen) files files'

-- what a fault leaves of a run, by the files that the loads of OLD and of NEW find
pub record StopsMending (old new cluster : List ℕ) (files files' : Option Files) : Type 0 where
  pub seen : ℕ → Files
  pub held : AreSeen files seen
  pub left : LeavesMade new (mending old new cluster seen) files files'
