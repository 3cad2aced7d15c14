-- The parts of a replay, and of other runs that read no input.
use Rattle.std.specs.Prelude.{◌≡◌, ℕ, ◌+◌, ◌^◌, ◌≤◌, List, length, Option, None, Some, Result, Ok, Err}
use Rattle.tcm_edges.specs.Files.{Files, IsLoad}
use Rattle.tcm_edges.specs.declared.store.Loaded.{Loaded}
use Rattle.tcm_edges.specs.declared.store.Loaded.TheVariants as loaded
use Rattle.follower_log.specs.declared.fault.FollowerFault.{FollowerFault}
use Rattle.follower_log.specs.declared.fault.FollowerFault.TheVariants as follower_fault
use Rattle.follower_log.specs.declared.took.Took.{Took}
use Rattle.tcm_session.specs.Limits.{input_limit}
use Rattle.tcm_session.specs.files.Replay.{files_replayed, loaded_replayed, nothing_replayed}
use Rattle.tcm_session.specs.Run.{AreSeen}
use Rattle.tcm_session.specs.declared.ending.Ending.{Ending}
use Rattle.tcm_session.specs.declared.files.replay.Replay.{Replay}

-- what was handed over leads to a replay, or to the value that ends it
abbrev pub LeadsTo : {E : Type 0} → Option E → Result Replay E → Replay → Type 0
LeadsTo None given after = given ≡ Ok after
LeadsTo (Some e) given after = given ≡ Err e

-- a follower found memory for what it was handed
abbrev pub FoundMemory : Result Took FollowerFault → Type 0
FoundMemory (Err follower_fault.Memory) = ⊥
FoundMemory (Err (follower_fault.MemoryAt epoch)) = ⊥
FoundMemory handed = Unit {0}

-- the counts grow by at most this many lines
pub record GrowsBy (most : ℕ) (before after : Replay) : Type 0 where
  pub lines : after.lines ≤ before.lines + most
  pub full : after.full ≤ before.full + most

-- there is room in the counts for this many lines
pub record CanCount (most : ℕ) (replay : Replay) : Type 0 where
  pub lines : replay.lines + most ≤ 2 ^ 60
  pub full : replay.full + most ≤ 2 ^ 60

-- a file that was loaded is within the limit
abbrev pub IsFew : Loaded → Type 0
IsFew (loaded.Bytes bytes) = length bytes ≤ input_limit
IsFew _ = Unit {0}

-- a file was loaded, and its lines were handed over
pub record HandsFile (ended : Option Ending) (file : ℕ) (name : List ℕ) (files : Option Files) (before after : Replay) : Type 0 where
  pub loaded : Loaded
  pub load : IsLoad files name input_limit loaded
  pub leads : LeadsTo ended (loaded_replayed file name before loaded) after

-- files were loaded, and their lines were handed over
pub record HandsFiles (ended : Option Ending) (names : List (List ℕ)) (files : Option Files) (after : Replay) : Type 0 where
  pub seen : ℕ → Files
  pub held : AreSeen files seen
  pub leads : LeadsTo ended (files_replayed 1 nothing_replayed names seen) after

-- the end of a run that reads no input, by the files that its loads find
pub record EndsSo (end_by : (ℕ → Files) → Ending) (ending : Ending) (files : Option Files) : Type 0 where
  pub seen : ℕ → Files
  pub held : AreSeen files seen
  pub is : ending ≡ end_by seen
