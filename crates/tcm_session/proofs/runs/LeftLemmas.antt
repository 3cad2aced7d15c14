-- Lemmas on what a run leaves in the files.
use Rattle.std.proofs.Common.{◌≡◌, inl, inr, ℕ, true, List, [], ◌++◌, Option, None, Some, Ok, refl, sym, ap, ◌∙◌, subst, append-nil}
use Rattle.std.specs.FinMap as map
use Rattle.tcm_edges.specs.Files.{Files, IsOldOrNew, content, file_of}
use Rattle.tcm_edges.proofs.FileLemmas.{file_of-put, file_of-put_other}
use Rattle.tcm_session.specs.Left.{LeavesFiles, LeavesLog}
use Rattle.tcm_session.specs.code.Loading.{HoldsFile, IsKeptOrWritten, IsWritten}
use Rattle.script_session.specs.LogFiles.{base_of, log_for}
use Rattle.script_session.specs.Machine.{session_over}
use Rattle.tcm_session.specs.Commit.{outcome_from, outcome_in}
use Rattle.tcm_session.specs.Outcome.{Outcome}
use Rattle.tcm_session.specs.Request.{Cms, Commit, CommitTo, Gen, Mend, Plan, Replay, Request, Snapshot}
use Rattle.tcm_session.specs.code.Stops.{Adds, GainsThese, LeavesScript}
use Rattle.transformations.specs.declared.entry.Entry.{Entry}
use Rattle.tcm_session.proofs.runs.RunOutcomes.{script_reads}
use Rattle.tcm_session.proofs.runs.StopLemmas.{StopsIn-none}

-- ---- before the first line

-- the log file is as before, and no line was done
pub log_same : (log cluster : List ℕ) (files files' : Option Files) (o : Outcome) (printed : List ℕ) (ended : ℕ) → files' ≡ files → (o.reads ≡ true → printed ≡ []) → LeavesFiles (Some (CommitTo log cluster)) files files' o printed ended
log_same log cluster files files' o printed ended same none = subst (λ f. LeavesFiles (Some (CommitTo log cluster)) files f o printed ended) (sym same) (by files)
  where
    by : (files : Option Files) → LeavesFiles (Some (CommitTo log cluster)) files files o printed ended
    by None = (tt, tt)
    by (Some all) = (inl (refl, none), λ other apart. refl)

-- no file changed, and nothing was printed
pub files_same : (request : Option Request) (files files' : Option Files) (o : Outcome) (ended : ℕ) → files' ≡ files → LeavesFiles request files files' o [] ended
files_same None files files' o ended same = same
files_same (Some Commit) files files' o ended same = same
files_same (Some (Replay names)) files files' o ended same = same
files_same (Some (Snapshot log epoch)) files files' o ended same = same
files_same (Some (Gen start rounds)) files files' o ended same = same
files_same (Some (Plan log node keyspace)) files files' o ended same = same
files_same (Some (Cms log from to)) files files' o ended same = same
files_same (Some (CommitTo log cluster)) files files' o ended same = log_same log cluster files files' o [] ended same (λ _. refl)
files_same (Some (Mend old new cluster)) files files' o ended same = subst (λ f. LeavesFiles (Some (Mend old new cluster)) files f o [] ended) (sym same) (by files)
  where
    by : (files : Option Files) → LeavesFiles (Some (Mend old new cluster)) files files o [] ended
    by None = (tt, tt)
    by (Some all) = (record { whole = inl refl; order = λ some. absurd (some refl) }, λ other apart. refl)

-- from a log that was found good the input is read
pub good_reads : (name cluster : List ℕ) (all : Files) (file input : List ℕ) (log : List Entry) → log_for (Some cluster) file ≡ Ok log → (outcome_in name cluster all file input).reads ≡ true
good_reads name cluster all file input log good =
    ap (λ r. (outcome_from name cluster all file r input).reads) good ∙ script_reads (record { log = log; file = Some name; files = map.insert all name (base_of cluster file) }) input

-- ---- a log file that was found good

-- the file that is loaded, and what the log file keeps of it
module _ (name cluster file : List ℕ) where
  abbrev base : List ℕ
  base = base_of cluster file

  -- the content of the file before is that of the file that was loaded
  base_is : (all : Files) → HoldsFile name file (Some all) → base_of cluster (content (file_of all name)) ≡ base
  base_is all holds = ap (base_of cluster) holds

  -- it is as before, or ready
  pub left_settled : (files files' : Option Files) (o : Outcome) (ended : ℕ) → o.reads ≡ true → HoldsFile name file files → IsKeptOrWritten name base files files' → LeavesFiles (Some (CommitTo name cluster)) files files' o [] ended
  left_settled None files' o ended good holds left = (tt, tt)
  left_settled (Some x) None o ended good holds left = absurd left.0
  left_settled (Some x) (Some y) o ended good holds left = (by left.0, left.1)
    where
      by : IsOldOrNew base (file_of x name) (file_of y name) → LeavesLog cluster o [] ended (file_of x name) (file_of y name)
      by (inl same) = inl (same, λ _. refl)
      by (inr is) =
          inr (record {
            good = good;
            added = [];
            stops = StopsIn-none (session_over o.log) o.lines o.last;
            holds = is ∙ ap Some (sym (base_is x holds) ∙ sym (append-nil (base_of cluster (content (file_of x name)))));
            read_fault = λ four. (refl, refl);
          })

  -- a script added bytes to it
  grown : (added : List ℕ) (file' : Option (List ℕ)) → GainsThese added (Some base) file' → file' ≡ Some (base ++ added)
  grown added file' (inl is) = is
  grown added file' (inr is) = is.0 ∙ ap Some (sym (append-nil base) ∙ ap (λ t. base ++ t) (sym is.1))

  -- a script ran from there
  pub left_script : (files mid files' : Option Files) → HoldsFile name file files → IsWritten name base files mid → (o : Outcome) (printed : List ℕ) (ended : ℕ) → LeavesScript (Some name) mid files' o printed ended
      → LeavesFiles (Some (CommitTo name cluster)) files files' o printed ended
  left_script None mid files' holds is o printed ended left = (tt, tt)
  left_script (Some all) mid files' holds is o printed ended left = by files' (subst (λ m. Adds (Some name) left.added m files') is left.adds)
    where
      by : (files' : Option Files) → Adds (Some name) left.added (Some (map.insert all name base)) files' → LeavesFiles (Some (CommitTo name cluster)) (Some all) files' o printed ended
      by None adds = absurd adds.0
      by (Some new) adds = (
        inr (record {
          good = left.good;
          added = left.added;
          stops = left.stops;
          holds = grown left.added (file_of new name) (subst (λ f. GainsThese left.added f (file_of new name)) (file_of-put all name base) adds.0) ∙ ap (λ b. Some (b ++ left.added)) (sym (base_is all holds));
          read_fault = left.read_fault;
        }),
        λ other apart. adds.1 other apart ∙ file_of-put_other all name base other apart,
      )
