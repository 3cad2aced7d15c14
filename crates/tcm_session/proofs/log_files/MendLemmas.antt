-- The log file that is made: its lines, and what the store holds once it is made.
use Rattle.std.proofs.Common.{◌≡◌, inl, inr, ℕ, ◌+◌, ◌<◌, List, [], ◌∷◌, ◌++◌, length, take, Option, None, Some, option_map, IfSome, Result, Ok, Err, IfOk, refl, sym, ap, ◌∙◌, subst}
use Rattle.std.proofs.lemmas.List.{flat_map_more, take_more}
use Rattle.std.proofs.lemmas.Option.{get_or_from_slice_get}
use Rattle.tcm_edges.specs.Files.{Files, IsLoad, IsOldOrNew, file_of}
use Rattle.tcm_edges.proofs.FileLemmas.{file_of-put, file_of-put_other}
use Rattle.tcm_edges.specs.declared.store.Loaded.{Loaded}
use Rattle.tcm_edges.specs.declared.store.Loaded.TheVariants as loaded
use Rattle.transformations.specs.declared.entry.Entry.{Entry}
use Rattle.epoch_log.specs.Epochs.{entry_at}
use Rattle.wire_json.specs.EntryTexts.{entry_line}
use Rattle.script_session.specs.LogFiles.{entry_lines}
use Rattle.snapshot_store.proofs.EntryStates.{entry_at-next}
use Rattle.tcm_session.specs.Limits.{input_limit}
use Rattle.tcm_session.specs.Mend.{Mending, log_text, makes_nothing, mended_end, mending, mending_loaded, mending_to, with_made}
use Rattle.tcm_session.specs.Run.{AreSeen}
use Rattle.tcm_session.specs.code.Loading.{IsKeptOrWritten, IsWritten}
use Rattle.tcm_session.specs.code.Mends.{IsKeptOrMade, LeavesMade, Makes, Mends, StopsMaking, StopsMending}
use Rattle.tcm_session.specs.declared.ending.Ending.{Ending}
use Rattle.tcm_session.specs.declared.run_fault.RunFault.{RunFault}
use Rattle.tcm_session.proofs.log_files.HeldFiles.{behind_file, behind_held, behind_loaded, files_behind, found_absent}
use Rattle.tcm_session.proofs.log_files.ReplayLemmas.{and_later, seen_any, seen_held, seen_later}

-- ---- the lines of entries

-- the line of one entry more
pub lines_more : (log : List Entry) (before : ℕ) (entry : Entry) → before < length log → Some entry ≡ entry_at log (before + 1) → (out out' out'' : List ℕ) → out' ≡ out ++ entry_lines (take before log) → out'' ≡ out' ++ entry_line entry
    → out'' ≡ out ++ entry_lines (take (before + 1) log)
lines_more log before entry within there out out' out'' so_far added =
    let here = get_or_from_slice_get log before entry entry (sym (entry_at-next log before) ∙ sym there) in
    added ∙ ap (λ t. t ++ entry_line entry) so_far ∙ flat_map_more entry_line out (take before log) entry
    ∙ ap (λ es. out ++ entry_lines es) (ap (λ (e : Entry). take before log ++ e ∷ []) (sym here) ∙ sym (take_more log before entry within))

-- ---- where nothing is made

-- the file of this name, as far as it is told
abbrev found_in : Option Files → List ℕ → Option (List ℕ)
found_in None new = None
found_in (Some all) new = file_of all new

found_told : (files : Option Files) (new : List ℕ) → IfSome files (λ all. found_in files new ≡ file_of all new)
found_told None new = tt
found_told (Some all) new = refl

made_same : (new : List ℕ) (m : Mending) (files files' : Option Files) → files' ≡ files → LeavesMade new m files files'
made_same new m files files' same = subst (LeavesMade new m files) (sym same) (by files)
  where
    by : (files : Option Files) → LeavesMade new m files files
    by None = (tt, tt)
    by (Some all) = (inl refl, λ other apart. refl)

-- a fault came before a file was written
pub stops_same : (new : List ℕ) (by : Option (List ℕ) → Mending) (files files' : Option Files) → files' ≡ files → StopsMaking new by files files'
stops_same new by files files' same = record { found = found_in files new; told = found_told files new; left = made_same new (by (found_in files new)) files files' same }

kept_files : (new : List ℕ) (files files' : Option Files) → files' ≡ files → files' ≡ option_map (with_made new None) files
kept_files new None files' same = same
kept_files new (Some all) files' same = same

-- the end makes nothing, by the file that is found
pub makes_none_by : (new : List ℕ) (by : Option (List ℕ) → Mending) (ending : Ending) (files files' : Option Files) (found : Option (List ℕ)) → IfSome files (λ all. found ≡ file_of all new) → by found ≡ makes_nothing ending → files' ≡ files
    → Makes new by ending files files'
makes_none_by new by ending files files' found told is same =
    record {
      found = found;
      told = told;
      is = sym (ap (λ (m : Mending). m.ending) is);
      made = kept_files new files files' same ∙ ap (λ (m : Mending). option_map (with_made new m.made) files) (sym is);
      left = made_same new (by found) files files' same;
    }

-- it makes nothing, whatever is found
pub makes_none : (new : List ℕ) (by : Option (List ℕ) → Mending) (ending end : Ending) (files files' : Option Files) → ending ≡ end → ((found : Option (List ℕ)) → by found ≡ makes_nothing end) → files' ≡ files → Makes new by ending files files'
makes_none new by ending end files files' ends is same =
    makes_none_by new by ending files files' (found_in files new) (found_told files new) (is (found_in files new) ∙ ap makes_nothing (sym ends)) same

-- ---- where no file is there

module _ (new cluster : List ℕ) (log : List Entry) (files mid files' : Option Files) (limit : ℕ) (load : IsLoad files new limit loaded.Absent) (kept : mid ≡ files) where
  abbrev text : List ℕ
  text = log_text cluster log

  abbrev whole : Mending
  whole = record { ending = mended_end (length log); made = Some text }

  absent_told : (all : Files) → IfSome files (λ these. load.file ≡ file_of these new) → files ≡ Some all → file_of all new ≡ None
  absent_told all told is = sym (subst (λ f. IfSome f (λ these. load.file ≡ file_of these new)) is told) ∙ found_absent load

  is_whole : mending_to new cluster log load.file ≡ whole
  is_whole = ap (mending_to new cluster log) (found_absent load)

  -- a fault came while it was written
  left_whole : (f f' : Option Files) → files ≡ f → IsKeptOrWritten new text f f' → LeavesMade new whole f f'
  left_whole None f' is left = (tt, tt)
  left_whole (Some x) None is left = absurd left.0
  left_whole (Some x) (Some y) is left = (by left.0, left.1)
    where
      by : IsOldOrNew text (file_of x new) (file_of y new) → IsKeptOrMade (Some text) (file_of x new) (file_of y new)
      by (inl same) = inl same
      by (inr made) = inr (absent_told x load.told is, made)

  pub stops_writing : (bytes : List ℕ) → bytes ≡ text → IsKeptOrWritten new bytes mid files' → StopsMaking new (mending_to new cluster log) files files'
  stops_writing bytes is left =
      let at : IsKeptOrWritten new text files files' = subst (λ t. IsKeptOrWritten new t files files') is (subst (λ f. IsKeptOrWritten new bytes f files') kept left) in
      record { found = load.file; told = load.told; left = subst (λ m. LeavesMade new m files files') (sym is_whole) (left_whole files files' refl at) }

  -- it is written
  written_left : (f f' : Option Files) → files ≡ f → IsWritten new text f f' → LeavesMade new whole f f'
  written_left None f' is written = (tt, tt)
  written_left (Some x) f' is written = subst (LeavesMade new whole (Some x)) (sym written) (
    inr (absent_told x load.told is, file_of-put x new text),
    λ other apart. file_of-put_other x new text other apart,
  )

  pub makes_whole : (ending : Ending) (bytes : List ℕ) → ending ≡ mended_end (length log) → bytes ≡ text → IsWritten new bytes mid files' → Makes new (mending_to new cluster log) ending files files'
  makes_whole ending bytes ends is written =
      let at : IsWritten new text files files' = subst (λ t. IsWritten new t files files') is (subst (λ f. IsWritten new bytes f files') kept written) in
      record {
        found = load.file;
        told = load.told;
        is = ends ∙ sym (ap (λ (m : Mending). m.ending) is_whole);
        made = at ∙ ap (λ (m : Mending). option_map (with_made new m.made) files) (sym is_whole);
        left = subst (λ m. LeavesMade new m files files') (sym is_whole) (written_left files files' refl at);
      }

-- ---- by the load of the file of the older format

module _ (old new cluster : List ℕ) (files mid files' : Option Files) (it : Loaded) (load : IsLoad files old input_limit it) (kept : mid ≡ files) where
  -- the files as both loads find them
  abbrev seen_both : Option (List ℕ) → ℕ → Files
  seen_both found = and_later (files_behind files old load.file) (λ _. files_behind files new found)

  both_held : (found : Option (List ℕ)) → AreSeen files (seen_both found)
  both_held found = seen_later files (files_behind files old load.file) (λ _. files_behind files new found) (behind_held files old load.file) (seen_held files (files_behind files new found) (behind_held files new found))

  both_is : (found : Option (List ℕ)) → IfSome mid (λ all. found ≡ file_of all new) → mending_loaded old new cluster it found ≡ mending old new cluster (seen_both found)
  both_is found told =
      let at : IfSome files (λ all. found ≡ file_of all new) = subst (λ f. IfSome f (λ all. found ≡ file_of all new)) kept told in
      (λ i. mending_loaded old new cluster (behind_loaded files old input_limit it load i) (sym (behind_file files new found at) i))

  pub mends : (ending : Ending) → Makes new (mending_loaded old new cluster it) ending mid files' → Mends old new cluster ending files files'
  mends ending m =
      let is = both_is m.found m.told in
      record {
        seen = seen_both m.found;
        held = both_held m.found;
        is = m.is ∙ ap (λ (x : Mending). x.ending) is;
        made = m.made ∙ (λ i. option_map (with_made new (is i).made) (kept i));
        left = subst (λ x. LeavesMade new x files files') is (subst (λ f. LeavesMade new (mending_loaded old new cluster it m.found) f files') kept m.left);
      }

  pub stops : StopsMaking new (mending_loaded old new cluster it) mid files' → StopsMending old new cluster files files'
  stops m =
      record {
        seen = seen_both m.found;
        held = both_held m.found;
        left = subst (λ x. LeavesMade new x files files') (both_is m.found m.told) (subst (λ f. LeavesMade new (mending_loaded old new cluster it m.found) f files') kept m.left);
      }

  pub mends_by : (r : Result Ending RunFault) → IfOk r (λ ending. Makes new (mending_loaded old new cluster it) ending mid files') → IfOk r (λ ending. Mends old new cluster ending files files')
  mends_by (Ok ending) m = mends ending m
  mends_by (Err e) m = tt

-- a fault came before the file was loaded
pub stops_loading : (old new cluster : List ℕ) (files files' : Option Files) → files' ≡ files → StopsMending old new cluster files files'
stops_loading old new cluster files files' same =
    let seen : ℕ → Files = λ _. files_behind files [] None in
    record { seen = seen; held = seen_any files; left = made_same new (mending old new cluster seen) files files' same }
