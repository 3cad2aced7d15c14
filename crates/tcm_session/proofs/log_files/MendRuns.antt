-- From the making of a log file to a run.
use Rattle.std.proofs.Common.{◌≡◌, ◌≢◌, ◌⊎◌, inl, inr, ℕ, List, [], Option, None, Some, option_map, Result, Ok, Err, IfOk, IsErrAnd, refl, sym, ap, ◌∙◌, subst}
use Rattle.tcm_edges.specs.Files.{Files, file_of, loaded_of}
use Rattle.tcm_edges.proofs.FileLemmas.{file_of-put}
use Rattle.tcm_edges.specs.declared.store.Loaded.{Loaded}
use Rattle.tcm_edges.specs.declared.store.Loaded.TheVariants as loaded
use Rattle.transformations.specs.declared.entry.Entry.{Entry}
use Rattle.script_session.specs.LogFiles.{old_log_of}
use Rattle.script_session.specs.declared.refused_line.RefusedLine.{RefusedLine}
use Rattle.tcm_session.specs.Counts.{Counts}
use Rattle.tcm_session.specs.Left.{LeavesFiles}
use Rattle.tcm_session.specs.Limits.{input_limit}
use Rattle.tcm_session.specs.Mend.{Mending, made_outcome, mend_outcome, mending, mending_from, mending_loaded, mending_to, with_made}
use Rattle.tcm_session.specs.Outcome.{Outcome, ended_outcome}
use Rattle.tcm_session.specs.Request.{Mend}
use Rattle.tcm_session.specs.Run.{AreSeen, IsFinal, told}
use Rattle.tcm_session.specs.code.Endings.{status_by}
use Rattle.tcm_session.specs.code.Mends.{IsKeptOrMade, LeavesMade, Mends, StopsMending}
use Rattle.tcm_session.specs.code.Runs.{IsEnd, MayHold, RunsFor, RunsSeen, Writes}
use Rattle.tcm_session.specs.declared.ending.Ending.{Ending}
use Rattle.tcm_session.specs.declared.run_fault.RunFault.{RunFault}
use Rattle.tcm_session.specs.declared.run_fault.RunFault.TheVariants as fault
use Rattle.tcm_session.specs.declared.status.Status.{Status}
use Rattle.tcm_session.proofs.runs.RunLemmas.{final_end, runs_early, runs_err, runs_unread}

-- ---- its end

to_ends : (new cluster : List ℕ) (log : List Entry) (found : Option (List ℕ)) → IsEnd (mending_to new cluster log found).ending.status
to_ends new cluster log None = refl
to_ends new cluster log (Some file) = refl

from_ends : (new cluster : List ℕ) (r : Result (List Entry) RefusedLine) (found : Option (List ℕ)) → IsEnd (mending_from new cluster r found).ending.status
from_ends new cluster (Ok log) found = to_ends new cluster log found
from_ends new cluster (Err refused) found = refl

pub mending_ends : (old new cluster : List ℕ) (seen : ℕ → Files) → IsEnd (mending old new cluster seen).ending.status
mending_ends old new cluster seen = by (loaded_of (file_of (seen 0) old) input_limit)
  where
    by : (it : Loaded) → IsEnd (mending_loaded old new cluster it (file_of (seen 1) new)).ending.status
    by loaded.Absent = refl
    by (loaded.TooLarge size) = refl
    by (loaded.Bytes file) = from_ends new cluster (old_log_of file) (file_of (seen 1) new)

-- ---- what it leaves

left_new : (old new cluster : List ℕ) (m : Mending) (all : Files) (files files' : Option Files) (printed : List ℕ) (ended : ℕ) → LeavesMade new m files files' → (printed ≢ [] → MayHold files' (with_made new m.made all))
    → LeavesFiles (Some (Mend old new cluster)) files files' (made_outcome new m all) printed ended
left_new old new cluster m all None files' printed ended left held = (tt, tt)
left_new old new cluster m all (Some x) None printed ended left held = absurd left.0
left_new old new cluster m all (Some x) (Some y) printed ended left held = (record { whole = by left.0; order = λ some. ap (λ f. file_of f new) (held some) }, left.1)
  where
    made : (o : Option (List ℕ)) → file_of x new ≡ None → file_of y new ≡ o → (file_of y new ≡ file_of x new) ⊎ ((file_of x new ≡ None) × (file_of y new ≡ file_of (with_made new o all) new))
    made None absent is = inl (is ∙ sym absent)
    made (Some bytes) absent is = inr (absent, is ∙ sym (file_of-put all new bytes))

    by : IsKeptOrMade m.made (file_of x new) (file_of y new) → (file_of y new ≡ file_of x new) ⊎ ((file_of x new ≡ None) × (file_of y new ≡ file_of (with_made new m.made all) new))
    by (inl same) = inl same
    by (inr is) = made m.made is.0 is.1

held_made : (new : List ℕ) (made : Option (List ℕ)) (files files' : Option Files) (seen : ℕ → Files) → AreSeen files seen → files' ≡ option_map (with_made new made) files → MayHold files' (with_made new made (seen 0))
held_made new made None files' seen held is = subst (λ f. MayHold f (with_made new made (seen 0))) (sym is) tt
held_made new made (Some all) files' seen held is = subst (λ f. MayHold f (with_made new made (seen 0))) (sym is) (ap (with_made new made) (sym (held 0)))

-- ---- the run

module _ (old new cluster : List ℕ) (files files' : Option Files) where
  -- a fault comes before anything is printed
  pub runs_unmended : (InputKept : Type 0) (kept : InputKept) (left w : Option (List ℕ)) (r : Result Status RunFault) (e : RunFault) → e ≢ fault.Source → IsErrAnd r (λ y. y ≡ e) → StopsMending old new cluster files files'
      → RunsSeen (λ seen _. mend_outcome old new cluster seen) (LeavesFiles (Some (Mend old new cluster)) files files') InputKept (told left w files) (told left w files') (status_by r)
  runs_unmended InputKept kept left w r e other is stops =
      record {
        seen = stops.seen;
        held = stops.held;
        runs = runs_err (λ _. mend_outcome old new cluster stops.seen) (LeavesFiles (Some (Mend old new cluster)) files files') InputKept (told left w files) (told left w files') r e is
            (runs_early (LeavesFiles (Some (Mend old new cluster)) files files') InputKept kept left w (λ _. mend_outcome old new cluster stops.seen) files files' e other
            (λ given ended. left_new old new cluster (mending old new cluster stops.seen) (stops.seen 0) files files' [] ended stops.left (λ some. absurd (some refl))));
      }

  module _ (ending : Ending) (m : Mends old new cluster ending files files') (r : Result Status RunFault) (status : IfOk r (λ s. s.0 ≡ ending.status)) where
    is_end : IsEnd ending.status
    is_end = subst (λ (e : Ending). IsEnd e.status) (sym m.is) (mending_ends old new cluster m.seen)

    pub mended_at_end : IfOk r (λ s. IsEnd s.0)
    mended_at_end = by r status
      where
        by : (r : Result Status RunFault) → IfOk r (λ s. s.0 ≡ ending.status) → IfOk r (λ s. IsEnd s.0)
        by (Err e) is = tt
        by (Ok s) is = subst IsEnd (sym is) is_end

    -- its text is written, or a prefix of it
    pub runs_mended : (InputKept : Type 0) (kept : InputKept) (left w w' : Option (List ℕ)) (n n' : Counts) → n.source ≡ 0 → n'.source ≡ 0 → Writes ending.text w w' n n' r
        → RunsSeen (λ seen _. mend_outcome old new cluster seen) (LeavesFiles (Some (Mend old new cluster)) files files') InputKept (told left w files) (told left w' files') (status_by r)
    runs_mended InputKept kept left w w' n n' none none' writes =
        let made = mending old new cluster m.seen in
        let all = with_made new made.made (m.seen 0) in
        let final : IsFinal ending.status = (final_end ending.status is_end).1 in
        let same : ended_outcome ending all ≡ made_outcome new made (m.seen 0) = ap (λ e. ended_outcome e all) m.is in
        record {
          seen = m.seen;
          held = m.held;
          runs = subst (λ (o : Outcome). RunsFor (λ _. o) (LeavesFiles (Some (Mend old new cluster)) files files') InputKept (told left w files) (told left w' files') (status_by r)) same
              (runs_unread ending.status ending.text all (LeavesFiles (Some (Mend old new cluster)) files files') InputKept kept left w w' files files' n n' none none' r final (held_made new made.made files files' m.seen m.held m.made) writes status
              (λ printed ended. subst (λ (o : Outcome). LeavesFiles (Some (Mend old new cluster)) files files' o printed ended) (sym same) (left_new old new cluster made (m.seen 0) files files' printed ended m.left (λ some. held_made new made.made files files' m.seen m.held m.made))));
        }
