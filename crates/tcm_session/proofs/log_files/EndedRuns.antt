-- From the end of a request that reads no input to a run.
use Rattle.std.proofs.Common.{arith, ◌≡◌, ◌≢◌, ℕ, List, [], ◌∷◌, Option, None, Some, Result, Ok, Err, IfOk, IsErrAnd, suc, ◌+◌, refl, sym, ap, subst}
use Rattle.tcm_edges.proofs.OwedLemmas.{WritesPrefix-refl}
use Rattle.tcm_edges.specs.Files.{Files, file_of, loaded_of}
use Rattle.tcm_edges.specs.declared.store.Loaded.{Loaded}
use Rattle.tcm_edges.specs.declared.store.Loaded.TheVariants as loaded
use Rattle.tcm_session.specs.Counts.{Counts}
use Rattle.tcm_session.specs.code.Endings.{status_by}
use Rattle.tcm_session.specs.code.RunFaults.{counts_after}
use Rattle.tcm_session.specs.Outcome.{ended_outcome}
use Rattle.tcm_session.specs.Left.{LeavesFiles}
use Rattle.tcm_session.specs.Limits.{input_limit}
use Rattle.script_session.specs.Lines.{whole_lines}
use Rattle.tcm_session.specs.files.Replay.{ending_of, files_replayed, lines_replayed, loaded_replayed, nothing_replayed, replay_ending, then_replayed, unless_ended}
use Rattle.tcm_session.specs.code.Replays.{EndsSo}
use Rattle.tcm_session.specs.Run.{AreSeen, IsFinal, told}
use Rattle.tcm_session.specs.code.Runs.{IsEnd, MayHold, RunsFor, RunsSeen, Writes}
use Rattle.tcm_session.specs.declared.ending.Ending.{Ending}
use Rattle.tcm_session.specs.declared.run_fault.RunFault.{RunFault}
use Rattle.tcm_session.specs.declared.run_fault.RunFault.TheVariants as fault
use Rattle.tcm_session.specs.declared.status.Status.{Status}
use Rattle.script_session.specs.declared.refused_line.RefusedLine.{RefusedLine}
use Rattle.tcm_session.specs.declared.files.replay.Replay.{Replay}
use Rattle.tcm_session.proofs.log_files.HeldFiles.{files_behind}
use Rattle.tcm_session.proofs.log_files.ReplayLemmas.{seen_any}
use Rattle.tcm_session.proofs.runs.RunLemmas.{final_end, runs_early, runs_err, runs_unread}

-- ---- a replay

abbrev pub EndsRun : Result Replay Ending → Type 0
EndsRun (Ok replay) = Unit {0}
EndsRun (Err ending) = IsEnd ending.status × (ending.status ≢ 0)

loaded_ends : (file : ℕ) (name : List ℕ) (replay : Replay) (it : Loaded) → EndsRun (loaded_replayed file name replay it)
loaded_ends file name replay loaded.Absent = (refl, λ e. omega (arith, e))
loaded_ends file name replay (loaded.TooLarge size) = (refl, λ e. omega (arith, e))
loaded_ends file name replay (loaded.Bytes bytes) = by (lines_replayed file 1 replay (whole_lines bytes))
  where
    by : (r : Result Replay RefusedLine) → EndsRun (unless_ended r)
    by (Ok next) = tt
    by (Err refused) = (refl, λ e. omega (arith, e))

pub files_ends : (names : List (List ℕ)) (file : ℕ) (replay : Replay) (seen : ℕ → Files) → EndsRun (files_replayed file replay names seen)
files_ends [] file replay seen = tt
files_ends (name ∷ names) file replay seen = by (loaded_replayed file name replay it) (loaded_ends file name replay it) (λ next. files_ends names (file + 1) next (λ i. seen (suc i)))
  where
    it : Loaded
    it = loaded_of (file_of (seen 0) name) input_limit

    by : (r : Result Replay Ending) → EndsRun r → ((next : Replay) → EndsRun (files_replayed (file + 1) next names (λ i. seen (suc i)))) → EndsRun (then_replayed r (λ next. files_replayed (file + 1) next names (λ i. seen (suc i))))
    by (Ok next) ends later = later next
    by (Err ending) ends later = ends

pub replay_ends : (names : List (List ℕ)) (seen : ℕ → Files) → IsEnd (replay_ending names seen).status
replay_ends names seen = by (files_replayed 1 nothing_replayed names seen) (files_ends names 1 nothing_replayed seen)
  where
    by : (r : Result Replay Ending) → EndsRun r → IsEnd (ending_of r).status
    by (Ok replay) ends = refl
    by (Err ending) ends = ends.0

-- ---- a run

-- an end that no file decides
pub ends_alone : (files : Option Files) (ending is : Ending) → ending ≡ is → EndsSo (λ _. is) ending files
ends_alone files ending is same = record { seen = λ _. files_behind files [] None; held = seen_any files; is = same }

-- the files that the first load finds
held_first : (files : Option Files) (seen : ℕ → Files) → AreSeen files seen → MayHold files (seen 0)
held_first None seen held = tt
held_first (Some these) seen held = sym (held 0)

module _ (end_by : (ℕ → Files) → Ending) (files : Option Files) (ending : Ending) (r : Result Status RunFault) (ends : EndsSo end_by ending files) (finals : (seen : ℕ → Files) → IsEnd (end_by seen).status)
    (status : IfOk r (λ s. s.0 ≡ ending.status)) where
  is_end : IsEnd ending.status
  is_end = subst (λ (e : Ending). IsEnd e.status) (sym ends.is) (finals ends.seen)

  -- its status is one of those of runs that no fault ends
  pub ended_at_end : IfOk r (λ s. IsEnd s.0)
  ended_at_end = by r status
    where
      by : (r : Result Status RunFault) → IfOk r (λ s. s.0 ≡ ending.status) → IfOk r (λ s. IsEnd s.0)
      by (Err e) is = tt
      by (Ok s) is = subst IsEnd (sym is) is_end

  -- its text is written, or a prefix of it
  pub runs_ended : (InputKept : Type 0) (kept : InputKept) (left w w' : Option (List ℕ)) (files' : Option Files) (n n' : Counts) → n.source ≡ 0 → n'.source ≡ 0 → files' ≡ files → Writes ending.text w w' n n' r
      → RunsSeen (λ seen _. ended_outcome (end_by seen) (seen 0)) (LeavesFiles None files files') InputKept (told left w files) (told left w' files') (status_by r)
  runs_ended InputKept kept left w w' files' n n' none none' same writes =
      let first = ends.seen 0 in
      let final : IsFinal ending.status = (final_end ending.status is_end).1 in
      let held : MayHold files' first = subst (λ f. MayHold f first) (sym same) (held_first files ends.seen ends.held) in
      record {
        seen = ends.seen;
        held = ends.held;
        runs = subst (λ (e : Ending). RunsFor (λ _. ended_outcome e first) (LeavesFiles None files files') InputKept (told left w files) (told left w' files') (status_by r)) ends.is
            (runs_unread ending.status ending.text first (LeavesFiles None files files') InputKept kept left w w' files files' n n' none none' r final held writes status (λ printed ended. same));
      }

-- a fault comes before anything is written
pub runs_unended : (end_by : (ℕ → Files) → Ending) (InputKept : Type 0) (kept : InputKept) (left w : Option (List ℕ)) (files files' : Option Files) (r : Result Status RunFault) (e : RunFault) → e ≢ fault.Source → IsErrAnd r (λ y. y ≡ e)
    → files' ≡ files → RunsSeen (λ seen _. ended_outcome (end_by seen) (seen 0)) (LeavesFiles None files files') InputKept (told left w files) (told left w files') (status_by r)
runs_unended end_by InputKept kept left w files files' r e other is same =
    let seen : ℕ → Files = λ _. files_behind files [] None in
    record {
      seen = seen;
      held = seen_any files;
      runs = runs_err (λ _. ended_outcome (end_by seen) (seen 0)) (LeavesFiles None files files') InputKept (told left w files) (told left w files') r e is
          (runs_early (LeavesFiles None files files') InputKept kept left w (λ _. ended_outcome (end_by seen) (seen 0)) files files' e other (λ given ended. same));
    }

-- memory ran out before anything was written
pub nothing_written : {T : Type 0} (text : List ℕ) (w : Option (List ℕ)) (before : Counts) (r : Result T RunFault) → IsErrAnd r (λ e. e ≡ fault.Memory) → Writes text w w before before r
nothing_written text w before (Ok x) is = absurd is
nothing_written text w before (Err e) is =
    record { whole = tt; part = WritesPrefix-refl w text; cause = ap (λ f. counts_after f before) (sym is) }
