-- Handing over the lines of files: what the rest comes to, the whole comes to.
use Rattle.std.proofs.Common.{◌≡◌, ◌≢◌, ℕ, zero, suc, ◌+◌, List, [], ◌∷◌, ◌++◌, length, Option, None, Some, Result, Ok, Err, IfOk, OnOk, sym, ap, ◌∙◌, subst, arith}
use Rattle.tcm_edges.specs.Files.{Files, file_of, loaded_of}
use Rattle.tcm_session.specs.Limits.{input_limit}
use Rattle.script_session.specs.Lines.{HasNoFeed, whole_lines}
use Rattle.script_session.specs.LogFiles.{goes_on}
use Rattle.tcm_session.specs.files.Replay.{answered, ending_of, full_count, files_replayed, line_replayed, lines_replayed, loaded_replayed, nothing_replayed, read_replayed, replay_ending, then_replayed}
use Rattle.tcm_session.specs.code.Replays.{EndsSo, FoundMemory, HandsFile, HandsFiles, LeadsTo}
use Rattle.cluster_terms.specs.declared.memory.Memory.{Memory}
use Rattle.follower_log.specs.Follower.{Handed, Performs}
use Rattle.follower_log.specs.declared.fault.FollowerFault.{FollowerFault}
use Rattle.follower_log.specs.declared.fault.FollowerFault.TheVariants as follower_fault
use Rattle.follower_log.specs.declared.took.Took.{Took}
use Rattle.tcm_session.specs.Run.{AreSeen}
use Rattle.tcm_session.specs.code.Runs.{MayHold}
use Rattle.tcm_session.specs.declared.ending.Ending.{Ending}
use Rattle.script_session.specs.declared.refused_line.Cause.{Cause}
use Rattle.script_session.specs.declared.refused_line.Cause.TheVariants as cause
use Rattle.tcm_session.specs.declared.files.replay.Replay.{Replay}
use Rattle.tcm_session.proofs.log_files.HeldFiles.{behind_held, behind_loaded, files_behind}
use Rattle.wire_json.specs.Reading.{reading}
use Rattle.wire_json.specs.declared.line.Line.{Line}
use Rattle.wire_json.specs.declared.line.ReadLineFault.{ReadLineFault}
use Rattle.wire_json.specs.declared.line.ReadLineFault.TheVariants as read
use Rattle.session_laws.proofs.LinesLemmas.{whole_lines-line, whole_lines-none}
use Rattle.script_session.proofs.steps.StepEndLemmas.{read_bad, read_there, unread}

-- ---- a line

pub replayed-read : (number : ℕ) (replay : Replay) (bytes : List ℕ) (l : Line) → (Ok l ≢ Err read.Memory → Ok l ≡ reading bytes) → line_replayed number replay bytes ≡ read_replayed number replay (Ok l)
unfolding line_replayed
replayed-read number replay bytes l meaning = ap (read_replayed number replay) (read_there bytes l meaning)

pub replayed-bad : (number : ℕ) (replay : Replay) (bytes : List ℕ) (fault : ReadLineFault) (rule : ℕ) → fault ≡ read.Bad rule → (unread fault ≢ Err read.Memory → unread fault ≡ reading bytes) → line_replayed number replay bytes ≡ Err (cause.Line rule)
unfolding line_replayed
replayed-bad number replay bytes fault rule is meaning = ap (read_replayed number replay) (read_bad bytes fault rule is meaning)

-- a line whose content was handed to the follower, and then counted
pub counted : (old mid new : Replay) (step : Handed) (handed : Result Took FollowerFault) (r : Result (Option Cause) Memory) → mid.lines ≡ old.lines → mid.full ≡ old.full → mid.cluster ≡ old.cluster → Performs old.follower step handed mid.follower
    → IfOk r (λ cause. LeadsTo cause (answered mid mid.follower handed) new) → OnOk r (FoundMemory handed) → IfOk r (λ cause. LeadsTo cause (answered old step.after step.answer) new)
counted old mid new step handed (Err m) lines full cluster comes leads found = tt
counted old mid new step (Ok took) (Ok cause) lines full cluster (same, there) leads found =
    let counts : answered mid mid.follower (Ok took) ≡ answered old step.after (Ok took) = (λ i. Ok (record { follower = there i; lines = lines i + 1; full = full i + full_count took; cluster = cluster i })) in
    subst (λ given. LeadsTo cause given new) (counts ∙ ap (answered old step.after) same) leads
counted old mid new step (Err (follower_fault.Fork epoch held came)) (Ok cause) lines full cluster (same, there) leads found = subst (λ given. LeadsTo cause given new) (ap (answered old step.after) same) leads
counted old mid new step (Err (follower_fault.Refused epoch refusal)) (Ok cause) lines full cluster (same, there) leads found = subst (λ given. LeadsTo cause given new) (ap (answered old step.after) same) leads
counted old mid new step (Err (follower_fault.BadImage bad)) (Ok cause) lines full cluster (same, there) leads found = subst (λ given. LeadsTo cause given new) (ap (answered old step.after) same) leads
counted old mid new step (Err follower_fault.Memory) (Ok cause) lines full cluster comes leads found = absurd found
counted old mid new step (Err (follower_fault.MemoryAt epoch)) (Ok cause) lines full cluster comes leads found = absurd found

-- ---- the lines of a file

-- the whole lines of a file come to what the rest of them comes to
pub record Hands (file : ℕ) (before : Replay) (bytes : List ℕ) (number : ℕ) (replay : Replay) (rest : List ℕ) : Type 0 where
  pub is : lines_replayed file 1 before (whole_lines bytes) ≡ lines_replayed file number replay (whole_lines rest)

module _ (file : ℕ) (before : Replay) (bytes : List ℕ) (number : ℕ) (replay : Replay) (rest l more : List ℕ) (so_far : Hands file before bytes number replay rest) (e : rest ≡ l ++ 10 ∷ more) (plain : HasNoFeed l) where
  next_line : lines_replayed file 1 before (whole_lines bytes) ≡ goes_on file number (line_replayed number replay l) (λ next. lines_replayed file (number + 1) next (whole_lines more))
  next_line = so_far.is ∙ ap (λ x. lines_replayed file number replay (whole_lines x)) e ∙ ap (lines_replayed file number replay) (whole_lines-line l more plain)

  -- the next line is handed over
  pub hands_line : (o : Option Cause) (after : Replay) → o ≡ None → LeadsTo o (line_replayed number replay l) after → Hands file before bytes (number + 1) after more
  hands_line o after none leads =
      let handed : line_replayed number replay l ≡ Ok after = subst (λ x. LeadsTo x (line_replayed number replay l) after) none leads in
      record { is = next_line ∙ ap (λ r. goes_on file number r (λ next. lines_replayed file (number + 1) next (whole_lines more))) handed }

  -- the next line is refused
  pub hands_refused : (o : Option Cause) (after : Replay) (cause : Cause) → o ≡ Some cause → LeadsTo o (line_replayed number replay l) after
      → lines_replayed file 1 before (whole_lines bytes) ≡ Err (record { file = file; line = number; cause = cause })
  hands_refused o after cause some leads =
      let refused : line_replayed number replay l ≡ Err cause = subst (λ x. LeadsTo x (line_replayed number replay l) after) some leads in
      next_line ∙ ap (λ r. goes_on file number r (λ next. lines_replayed file (number + 1) next (whole_lines more))) refused

-- no line is left
pub hands_end : (file : ℕ) (before : Replay) (bytes : List ℕ) (number : ℕ) (replay : Replay) (rest : List ℕ) → Hands file before bytes number replay rest → HasNoFeed rest
    → lines_replayed file 1 before (whole_lines bytes) ≡ Ok replay
hands_end file before bytes number replay rest so_far plain = so_far.is ∙ ap (lines_replayed file number replay) (whole_lines-none rest plain)

-- ---- files

-- files as the first load finds them, and then as the later loads do
abbrev pub and_later : Files → (ℕ → Files) → ℕ → Files
and_later first later zero = first
and_later first later (suc i) = later i

-- the same files at each load
pub seen_held : (files : Option Files) (all : Files) → MayHold files all → AreSeen files (λ _. all)
seen_held None all held = tt
seen_held (Some these) all held = λ i. sym held

-- some files, where nothing is known of them
pub seen_any : (files : Option Files) → AreSeen files (λ _. files_behind files [] None)
seen_any files = seen_held files (files_behind files [] None) (behind_held files [] None)

pub seen_later : (files : Option Files) (first : Files) (later : ℕ → Files) → MayHold files first → AreSeen files later → AreSeen files (and_later first later)
seen_later None first later held seen = tt
seen_later (Some these) first later held seen = each
  where
    each : (i : ℕ) → and_later first later i ≡ these
    each zero = sym held
    each (suc i) = seen i

-- all files come to what the rest of them comes to, as the later loads find it
pub record Comes (names : List (List ℕ)) (files : Option Files) (file : ℕ) (replay : Replay) (rest : List (List ℕ)) (later : ℕ → Files) : Type 0 where
  pub seen : ℕ → Files
  pub held : AreSeen files seen
  pub is : files_replayed 1 nothing_replayed names seen ≡ files_replayed file replay rest later

abbrev pub GoesOn : List (List ℕ) → Option Files → ℕ → Replay → List (List ℕ) → Type 0
GoesOn names files file replay rest = (later : ℕ → Files) → AreSeen files later → Comes names files file replay rest later

pub files_begin : (names : List (List ℕ)) (files : Option Files) (replay : Replay) → replay ≡ nothing_replayed → GoesOn names files 1 replay names
files_begin names files replay is later held = record { seen = later; held = held; is = ap (λ r. files_replayed 1 r names later) (sym is) }

module _ (names : List (List ℕ)) (files : Option Files) (file : ℕ) (replay : Replay) (name : List ℕ) (more : List (List ℕ)) (so_far : GoesOn names files file replay (name ∷ more)) (ended : Option Ending) (after : Replay)
    (hands : HandsFile ended file name files replay after) where
  -- the files behind the load
  abbrev behind : Files
  behind = files_behind files name hands.load.file

  comes : (later : ℕ → Files) → AreSeen files later → Comes names files file replay (name ∷ more) (and_later behind later)
  comes later held = so_far (and_later behind later) (seen_later files behind later (behind_held files name hands.load.file) held)

  loads : loaded_replayed file name replay (loaded_of (file_of behind name) input_limit) ≡ loaded_replayed file name replay hands.loaded
  loads = ap (loaded_replayed file name replay) (sym (behind_loaded files name input_limit hands.loaded hands.load))

  pub files_on : ended ≡ None → GoesOn names files (file + 1) after more
  files_on none later held =
      let so = comes later held in
      let on : loaded_replayed file name replay hands.loaded ≡ Ok after = subst (λ x. LeadsTo x (loaded_replayed file name replay hands.loaded) after) none hands.leads in
      record {
        seen = so.seen;
        held = so.held;
        is = so.is ∙ ap (λ r. then_replayed r (λ next. files_replayed (file + 1) next more later)) (loads ∙ on);
      }

  pub files_off : (ending : Ending) → ended ≡ Some ending → HandsFiles (Some ending) names files after
  files_off ending some =
      let later : ℕ → Files = λ _. files_behind files [] None in
      let so = comes later (seen_any files) in
      let off : loaded_replayed file name replay hands.loaded ≡ Err ending = subst (λ x. LeadsTo x (loaded_replayed file name replay hands.loaded) after) some hands.leads in
      record {
        seen = so.seen;
        held = so.held;
        leads = so.is ∙ ap (λ r. then_replayed r (λ next. files_replayed (file + 1) next more later)) (loads ∙ off);
      }

-- the next file, whose name and files are known by other words
module _ (names : List (List ℕ)) (files files' : Option Files) (file : ℕ) (replay : Replay) (rest more : List (List ℕ)) (name name' : List ℕ) (so_far : GoesOn names files file replay rest) (e : rest ≡ name ∷ more) (kept : files' ≡ files) (same : name' ≡ name)
    (ended : Option Ending) (after : Replay) (hands : HandsFile ended file name' files' replay after) where
  next_file : GoesOn names files file replay (name ∷ more)
  next_file = subst (GoesOn names files file replay) e so_far

  handed : HandsFile ended file name files replay after
  handed = subst (λ n. HandsFile ended file n files replay after) same (subst (λ f. HandsFile ended file name' f replay after) kept hands)

  pub file_on : ended ≡ None → GoesOn names files (file + 1) after more
  file_on none = files_on names files file replay name more next_file ended after handed none

  pub file_off : (ending : Ending) → ended ≡ Some ending → HandsFiles (Some ending) names files after
  file_off ending some = files_off names files file replay name more next_file ended after handed ending some

-- no file is left
pub files_end : (names : List (List ℕ)) (files : Option Files) (file : ℕ) (replay : Replay) (rest : List (List ℕ)) → GoesOn names files file replay rest → length rest ≡ 0 → HandsFiles None names files replay
files_end names files file replay (name ∷ rest) so_far none = absurd (omega (arith, none))
files_end names files file replay [] so_far none =
    let later : ℕ → Files = λ _. files_behind files [] None in
    let so = so_far later (seen_any files) in
    record { seen = so.seen; held = so.held; leads = so.is }

-- ---- the end

pub ends_at : (o : Option Ending) (names : List (List ℕ)) (files : Option Files) (after : Replay) (ending : Ending) → o ≡ None → HandsFiles o names files after → ending ≡ ending_of (Ok after) → EndsSo (replay_ending names) ending files
ends_at o names files after ending none hands is =
    let on : files_replayed 1 nothing_replayed names hands.seen ≡ Ok after = subst (λ x. LeadsTo x (files_replayed 1 nothing_replayed names hands.seen) after) none hands.leads in
    record { seen = hands.seen; held = hands.held; is = is ∙ ap ending_of (sym on) }

pub ends_before : (o : Option Ending) (names : List (List ℕ)) (files : Option Files) (after : Replay) (ending : Ending) → o ≡ Some ending → HandsFiles o names files after → EndsSo (replay_ending names) ending files
ends_before o names files after ending some hands =
    let off : files_replayed 1 nothing_replayed names hands.seen ≡ Err ending = subst (λ x. LeadsTo x (files_replayed 1 nothing_replayed names hands.seen) after) some hands.leads in
    record { seen = hands.seen; held = hands.held; is = sym (ap ending_of off) }
