-- A replay of files of one log comes to the longest gapless prefix of what it takes, and refuses no line that isn't a
-- header out of place.
use Rattle.std.proofs.Common.{◌≡◌, ◌≢◌, ◌⊎◌, inl, inr, ℕ, suc, ◌+◌, ◌==◌, Bool, true, false, if◌then◌else◌, List, [], ◌∷◌, Option, Some, None, Result, Ok, Err, IfErr, IfOk, IsOk, true≢false, refl, sym, ap, ◌∙◌, subst, arith}
use Rattle.std.proofs.lemmas.Bool.{eq-eqb}
use Rattle.std.proofs.lemmas.Option.{none-some}
use Rattle.std.proofs.lemmas.Slice.Eq.{bytes_eq-Decides}
use Rattle.std.specs.List.{AllByRecursion}
use Rattle.tcm_edges.specs.Files.{Files, file_of, loaded_of}
use Rattle.tcm_edges.specs.declared.store.Loaded.{Loaded}
use Rattle.tcm_edges.specs.declared.store.Loaded.TheVariants as loaded
use Rattle.transformations.specs.Log.{IsLog}
use Rattle.transformations.specs.declared.entry.Entry.{Entry}
use Rattle.follower_log.proofs.ShowsLemmas.{as_valid, empty_stands, prefix_ends}
use Rattle.follower_log.specs.Follower.{FollowerState, Handed, hand_entry, hand_image}
use Rattle.follower_log.specs.Prefix.{Taken, with_image}
use Rattle.follower_log.specs.declared.fault.FollowerFault.{FollowerFault}
use Rattle.follower_log.specs.declared.took.Took.{Took}
use Rattle.wire_json.specs.Reading.{reading}
use Rattle.wire_json.specs.declared.line.Line.{Line}
use Rattle.wire_json.specs.declared.line.Line.TheVariants as line
use Rattle.wire_json.specs.declared.line.ReadLineFault.{ReadLineFault}
use Rattle.tcm_session.specs.Limits.{input_limit}
use Rattle.script_session.specs.Lines.{whole_lines}
use Rattle.script_session.specs.LogFiles.{goes_on, other_cluster}
use Rattle.tcm_session.specs.files.Replay.{answered, files_replayed, headed, header_replayed, line_replayed, lines_replayed, loaded_replayed, nothing_replayed, read_replayed, then_replayed, unless_ended}
use Rattle.tcm_session.specs.files.ReplayPrefix.{AreFilesOf, AreHeaded, AreHeadedFiles, AreLinesOf, IsNoHeader, MayHead, ReadsAsPart, Taking, entry_taken, files_taken, image_taken, lines_taken, loaded_lines, nothing_yet, read_taken, taken_of_files}
use Rattle.script_session.specs.Taken.{ShowsPrefix, unless_full}
use Rattle.tcm_session.specs.declared.ending.Ending.{Ending}
use Rattle.script_session.specs.declared.refused_line.Cause.{Cause}
use Rattle.script_session.specs.declared.refused_line.Cause.TheVariants as cause
use Rattle.script_session.specs.declared.refused_line.RefusedLine.{RefusedLine}
use Rattle.tcm_session.specs.declared.files.replay.Replay.{Replay}
use Rattle.script_session.proofs.followers.TakenLemmas.{entry_ok, entry_shown, image_ok, image_shown}

-- files of a log, of which `Headed` may say that headers stand only on first lines and name one cluster
module _ (log : List Entry) (is : IsLog log) (cluster : List ℕ) (Headed : Type 0) where
  -- a replay shows the prefix of what was taken, by the same follower; the headers, if any, named the cluster
  record Showing (so_far : Taking) (replay : Replay) : Type 0 where
    same : replay.follower ≡ so_far.follower
    shows : ShowsPrefix log so_far.taken so_far.follower
    named : Headed → (replay.cluster ≡ None) ⊎ (replay.cluster ≡ Some cluster)

  -- a replay goes on so; or a line is refused, which isn't the case where headers are in their places
  abbrev ShowsNext : {E : Type 0} → Taking → Result Replay E → Type 0
  ShowsNext so_far (Ok replay) = Showing so_far replay
  ShowsNext so_far (Err e) = Headed → ⊥

  -- ---- a header

  -- it is the first line, and names the cluster
  abbrev InPlace : ℕ → Result Line ReadLineFault → Type 0
  InPlace number r = ((number ≡ 1) × MayHead cluster r) ⊎ IsNoHeader r

  -- no other cluster was named before
  no_other : (came : List ℕ) (before : Option (List ℕ)) → came ≡ cluster → (before ≡ None) ⊎ (before ≡ Some cluster) → other_cluster before came ≡ None
  no_other came before same (inl none) = ap (λ b. other_cluster b came) none
  no_other came before same (inr named) =
      ap (λ b. other_cluster b came) named
      ∙ ap (λ b. if b then None else Some (cause.Cluster cluster came)) ((bytes_eq-Decides cluster came).1 (sym same))

  shows_header : (number : ℕ) (so_far : Taking) (replay : Replay) (came : List ℕ) → (Headed → (number ≡ 1) × (came ≡ cluster)) → Showing so_far replay → ShowsNext so_far (header_replayed number replay came)
  shows_header number so_far replay came first showing =
      by (number == 1) (λ h. eq-eqb number 1 (first h).0) (of (other_cluster replay.cluster came) (λ h. no_other came replay.cluster (first h).1 (showing.named h)))
    where
      of : (o : Option Cause) → (Headed → o ≡ None) → ShowsNext so_far (headed replay came o)
      of None none = record { same = showing.same; shows = showing.shows; named = λ h. inr (ap Some (first h).1) }
      of (Some c) none = λ h. none-some c (sym (none h))

      by : (b : Bool) → (Headed → b ≡ true) → ShowsNext so_far (headed replay came (other_cluster replay.cluster came))
          → ShowsNext so_far (if b then headed replay came (other_cluster replay.cluster came) else Err cause.Header)
      by true one next = next
      by false one next = λ h. true≢false (sym (one h))

  -- ---- lines

  shows_answered : (replay : Replay) (taken : Taken) (answer : Result Took FollowerFault) (g : FollowerState) → IsOk answer → ShowsPrefix log taken g → (Headed → (replay.cluster ≡ None) ⊎ (replay.cluster ≡ Some cluster))
      → ShowsNext (record { follower = g; taken = taken }) (answered replay g answer)
  shows_answered replay taken (Ok t) g ok shows named = record { same = refl; shows = shows; named = named }
  shows_answered replay taken (Err e) g ok shows named = absurd (true≢false (sym ok))

  shows_line : (number : ℕ) (so_far : Taking) (replay : Replay) (bytes : List ℕ) → ReadsAsPart log (reading bytes) → (Headed → InPlace number (reading bytes)) → Showing so_far replay
      → ShowsNext (read_taken so_far (reading bytes)) (line_replayed number replay bytes)
  unfolding line_replayed
  shows_line number so_far replay bytes of placed showing = by (reading bytes) of placed
    where
      first : (came : List ℕ) → InPlace number (Ok (line.Header came)) → (number ≡ 1) × (came ≡ cluster)
      first came (inl is) = is
      first came (inr none) = absurd none

      by : (r : Result Line ReadLineFault) → ReadsAsPart log r → (Headed → InPlace number r) → ShowsNext (read_taken so_far r) (read_replayed number replay r)
      by (Err fault) of placed = absurd of
      by (Ok (line.Header came)) of placed = shows_header number so_far replay came (λ h. first came (placed h)) showing
      by (Ok (line.Snapshot image)) of placed =
          subst (λ (f : FollowerState). ShowsNext (image_taken so_far image) (answered replay (hand_image f image).after (hand_image f image).answer)) (sym showing.same)
          (shows_answered replay (image_taken so_far image).taken (hand_image so_far.follower image).answer (hand_image so_far.follower image).after
          (subst (λ (h : Handed). IsOk h.answer) (sym (as_valid log so_far.follower image is of)) (image_ok log so_far.taken so_far.follower image is of showing.shows.stands))
          (subst (λ (h : Handed). ShowsPrefix log (unless_full h.answer so_far.taken (with_image so_far.taken image.epoch)) h.after) (sym (as_valid log so_far.follower image is of)) (image_shown log so_far.taken so_far.follower image is of showing.shows)) showing.named)
      by (Ok (line.Entry entry)) of placed =
          subst (λ (f : FollowerState). ShowsNext (entry_taken so_far entry) (answered replay (hand_entry f entry).after (hand_entry f entry).answer)) (sym showing.same)
          (shows_answered replay (entry_taken so_far entry).taken (hand_entry so_far.follower entry).answer (hand_entry so_far.follower entry).after
          (entry_ok log so_far.taken so_far.follower entry is of showing.shows.stands) (entry_shown log so_far.taken so_far.follower entry is of showing.shows) showing.named)

  shows_then : (file number : ℕ) (so_far last : Taking) (r : Result Replay Cause) (next : Replay → Result Replay RefusedLine) → ShowsNext so_far r → ((replay : Replay) → Showing so_far replay → ShowsNext last (next replay))
      → ShowsNext last (goes_on file number r next)
  shows_then file number so_far last (Ok replay) next shows later = later replay shows
  shows_then file number so_far last (Err c) next shows later = shows

  -- the lines after the first
  shows_later : (lines : List (List ℕ)) (file number : ℕ) (so_far : Taking) (replay : Replay) → AreLinesOf log lines → (Headed → AllByRecursion (λ later. IsNoHeader (reading later)) lines) → Showing so_far replay
      → ShowsNext (lines_taken so_far lines) (lines_replayed file number replay lines)
  shows_later [] file number so_far replay all none showing = showing
  shows_later (bytes ∷ lines) file number so_far replay all none showing =
      shows_then file number (read_taken so_far (reading bytes)) (lines_taken (read_taken so_far (reading bytes)) lines) (line_replayed number replay bytes) (λ next. lines_replayed file (number + 1) next lines)
      (shows_line number so_far replay bytes all.0 (λ h. inr (none h).0) showing)
      (λ next on. shows_later lines file (number + 1) (read_taken so_far (reading bytes)) next all.1 (λ h. (none h).1) on)

  shows_lines : (lines : List (List ℕ)) (file : ℕ) (so_far : Taking) (replay : Replay) → AreLinesOf log lines → (Headed → AreHeaded cluster lines) → Showing so_far replay → ShowsNext (lines_taken so_far lines) (lines_replayed file 1 replay lines)
  shows_lines [] file so_far replay all heads showing = showing
  shows_lines (bytes ∷ lines) file so_far replay all heads showing =
      shows_then file 1 (read_taken so_far (reading bytes)) (lines_taken (read_taken so_far (reading bytes)) lines) (line_replayed 1 replay bytes) (λ next. lines_replayed file 2 next lines)
      (shows_line 1 so_far replay bytes all.0 (λ h. inl (refl, (heads h).0)) showing)
      (λ next on. shows_later lines file 2 (read_taken so_far (reading bytes)) next all.1 (λ h. (heads h).1) on)

  -- ---- files

  abbrev ShowsOn : Taking → Result Replay Ending → Type 0
  ShowsOn so_far (Ok replay) = Showing so_far replay
  ShowsOn so_far (Err ending) = Headed → ending.status ≢ 3

  shows_loaded : (file : ℕ) (name : List ℕ) (so_far : Taking) (replay : Replay) (it : Loaded) → AreLinesOf log (loaded_lines it) → (Headed → AreHeaded cluster (loaded_lines it)) → Showing so_far replay
      → ShowsOn (lines_taken so_far (loaded_lines it)) (loaded_replayed file name replay it)
  shows_loaded file name so_far replay loaded.Absent all heads showing = λ h e. omega (arith, e)
  shows_loaded file name so_far replay (loaded.TooLarge size) all heads showing = λ h e. omega (arith, e)
  shows_loaded file name so_far replay (loaded.Bytes bytes) all heads showing = by (lines_replayed file 1 replay (whole_lines bytes)) (shows_lines (whole_lines bytes) file so_far replay all heads showing)
    where
      by : (r : Result Replay RefusedLine) → ShowsNext (lines_taken so_far (whole_lines bytes)) r → ShowsOn (lines_taken so_far (whole_lines bytes)) (unless_ended r)
      by (Ok next) on = on
      by (Err refused) on = λ h. absurd (on h)

  shows_files : (names : List (List ℕ)) (file : ℕ) (so_far : Taking) (replay : Replay) (seen : ℕ → Files) → AreFilesOf log names seen → (Headed → AreHeadedFiles cluster names seen) → Showing so_far replay
      → ShowsOn (files_taken so_far names seen) (files_replayed file replay names seen)
  shows_files [] file so_far replay seen all heads showing = showing
  shows_files (name ∷ names) file so_far replay seen all heads showing =
      by (loaded_replayed file name replay it) (shows_loaded file name so_far replay it all.0 (λ h. (heads h).0) showing)
      (λ next on. shows_files names (file + 1) after next (λ i. seen (suc i)) all.1 (λ h. (heads h).1) on)
    where
      it : Loaded
      it = loaded_of (file_of (seen 0) name) input_limit

      after : Taking
      after = lines_taken so_far (loaded_lines (loaded_of (file_of (seen 0) name) input_limit))

      by : (r : Result Replay Ending) → ShowsOn after r → ((next : Replay) → Showing after next → ShowsOn (files_taken after names (λ i. seen (suc i))) (files_replayed (file + 1) next names (λ i. seen (suc i))))
          → ShowsOn (files_taken after names (λ i. seen (suc i))) (then_replayed r (λ next. files_replayed (file + 1) next names (λ i. seen (suc i))))
      by (Ok next) on later = later next on
      by (Err ending) on later = on

  replays_files : (names : List (List ℕ)) (seen : ℕ → Files) → AreFilesOf log names seen → (Headed → AreHeadedFiles cluster names seen) → ShowsOn (files_taken nothing_yet names seen) (files_replayed 1 nothing_replayed names seen)
  replays_files names seen all heads =
      let stands = empty_stands log in
      let longest = (prefix_ends log nothing_yet.taken nothing_yet.follower is stands).1 refl in
      shows_files names 1 nothing_yet nothing_replayed seen all heads (record { same = refl; shows = record { stands = stands; longest = longest }; named = λ h. inl refl })

-- whatever headers stand in the files
pub comes_to_prefix : (log : List Entry) → IsLog log → (names : List (List ℕ)) (seen : ℕ → Files) → AreFilesOf log names seen
    → IfOk (files_replayed 1 nothing_replayed names seen) (λ replay. ShowsPrefix log (taken_of_files names seen) replay.follower)
comes_to_prefix log is names seen all = by (files_replayed 1 nothing_replayed names seen) (replays_files log is [] ⊥ names seen all (λ no. absurd no))
  where
    by : (r : Result Replay Ending) → ShowsOn log is [] ⊥ (files_taken nothing_yet names seen) r → IfOk r (λ replay. ShowsPrefix log (taken_of_files names seen) replay.follower)
    by (Ok replay) on = subst (ShowsPrefix log (taken_of_files names seen)) (sym on.same) on.shows
    by (Err ending) on = tt

-- where headers stand only on first lines, and name one cluster
pub ends_unrefused : (log : List Entry) → IsLog log → (names : List (List ℕ)) (seen : ℕ → Files) (cluster : List ℕ) → AreFilesOf log names seen → AreHeadedFiles cluster names seen
    → IfErr (files_replayed 1 nothing_replayed names seen) (λ ending. ending.status ≢ 3)
ends_unrefused log is names seen cluster all heads = by (files_replayed 1 nothing_replayed names seen) (replays_files log is cluster (Unit {0}) names seen all (λ _. heads))
  where
    by : (r : Result Replay Ending) → ShowsOn log is cluster (Unit {0}) (files_taken nothing_yet names seen) r → IfErr r (λ ending. ending.status ≢ 3)
    by (Ok replay) on = tt
    by (Err ending) on = on tt
