-- Where a fault stops a run.
use Rattle.std.specs.Prelude.{◌≡◌, ◌⊎◌, ℕ, true, List, [], ◌++◌, Option, Some, None}
use Rattle.std.specs.Io.KnownBytes.{Appends}
use Rattle.tcm_edges.specs.Files.{ChangesFile, Files, OthersKept, content}
use Rattle.tcm_session.specs.Left.{StopsIn}
use Rattle.script_session.specs.Machine.{SessionState, session_over}
use Rattle.tcm_session.specs.Outcome.{Outcome}

-- a file gained these bytes; if there are none, an absent file may stay absent
abbrev pub GainsThese : List ℕ → Option (List ℕ) → Option (List ℕ) → Type 0
GainsThese bytes old new = (new ≡ Some (content old ++ bytes)) ⊎ ((new ≡ old) × (bytes ≡ []))

-- bytes are added to the file with this name, if one is named
abbrev pub Adds : Option (List ℕ) → List ℕ → Option Files → Option Files → Type 0
Adds None bytes files files' = files' ≡ files
Adds (Some name) bytes files files' = ChangesFile (GainsThese bytes) files files' name × OthersKept files files' name

-- a fault came once this was printed and this was added
pub record Stopped (Where : List ℕ → List ℕ → Type 0) (name : Option (List ℕ)) (written written' : Option (List ℕ)) (files files' : Option Files) : Type 0 where
  pub printed : List ℕ
  pub added : List ℕ
  pub stops : Where printed added
  pub wrote : Appends written written' printed
  pub adds : Adds name added files files'

-- within some lines; where P holds, all of them are done
pub record StopsThere (P : Type 0) (session : SessionState) (lines : List (List ℕ)) (printed added : List ℕ) : Type 0 where
  pub stops : StopsIn session lines [] printed added
  pub all : P → stops.rest ≡ []

-- a script that stops has added to the file what the lines added before the fault
pub record LeavesScript (name : Option (List ℕ)) (files files' : Option Files) (o : Outcome) (printed : List ℕ) (status : ℕ) : Type 0 where
  pub good : o.reads ≡ true
  pub added : List ℕ
  pub stops : StopsIn (session_over o.log) o.lines o.last printed added
  pub adds : Adds name added files files'
  pub read_fault : status ≡ 4 → (stops.answer_part ≡ []) × (stops.entry_part ≡ [])
