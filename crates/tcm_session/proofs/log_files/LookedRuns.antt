-- The end of a run that looks into the log in a file: it is final, it is that of the file that is loaded, and none of its
-- lines begins with the word of an answer with quorums, if so it is for each log.
use Rattle.std.proofs.Common.{◌≡◌, ◌≢◌, ℕ, Bool, true, false, if◌then◌else◌, List, length, Option, None, Result, Ok, Err, nat_le, refl, ap, ◌∙◌}
use Rattle.tcm_edges.specs.Files.{Files, IsLoad, file_of, loaded_of}
use Rattle.tcm_edges.specs.declared.store.Loaded.{Loaded}
use Rattle.tcm_edges.specs.declared.store.Loaded.TheVariants as loaded
use Rattle.transformations.specs.History.{state_after}
use Rattle.transformations.specs.Log.{commands_of}
use Rattle.transformations.specs.declared.entry.Entry.{Entry}
use Rattle.wire_json.specs.SnapshotTexts.{snapshot_line}
use Rattle.script_lang.specs.AnswerTexts.{no_text}
use Rattle.script_session.specs.LogFiles.{log_of}
use Rattle.script_session.specs.Machine.{no_epoch}
use Rattle.script_session.specs.declared.refused_line.RefusedLine.{RefusedLine}
use Rattle.session_laws.specs.Shown.{IsOfNoQuorum}
use Rattle.session_laws.proofs.FileLogs.{refused_lines}
use Rattle.session_laws.proofs.texts.WholeLines.{AreLines}
use Rattle.tcm_session.specs.Limits.{input_limit}
use Rattle.tcm_session.specs.code.Replays.{EndsSo}
use Rattle.tcm_session.specs.code.Runs.{IsEnd}
use Rattle.tcm_session.specs.declared.ending.Ending.{Ending}
use Rattle.tcm_session.specs.files.LookedEnds.{file_end, log_end, looked_end}
use Rattle.tcm_session.specs.files.StateLine.{snapshot_ending, state_ending}
use Rattle.tcm_session.proofs.log_files.HeldFiles.{behind_held, behind_loaded, files_behind}
use Rattle.tcm_session.proofs.log_files.ReplayLemmas.{seen_held}
use Rattle.tcm_session.proofs.printed.PlainReplays.{too_large_lines}
use Rattle.session_laws.proofs.texts.PlainSnapshots.{snapshot_is_line}

module _ (said : List Entry → Ending) where
  log_ends : ((log : List Entry) → IsEnd (said log).status) → (r : Result (List Entry) RefusedLine) → IsEnd (log_end said r).status
  log_ends each (Ok log) = each log
  log_ends each (Err refused) = refl

  pub looked_ends : ((log : List Entry) → IsEnd (said log).status) → (name : List ℕ) (seen : ℕ → Files) → IsEnd (looked_end name said seen).status
  looked_ends each name seen = by (loaded_of (file_of (seen 0) name) input_limit)
    where
      by : (it : Loaded) → IsEnd (file_end name said it).status
      by loaded.Absent = refl
      by (loaded.TooLarge size) = refl
      by (loaded.Bytes file) = log_ends each (log_of file)

  abbrev ArePlain : Type 0
  ArePlain = (log : List Entry) → (said log).status ≢ 7 → AreLines IsOfNoQuorum (said log).text

  log_lines : ArePlain → (file : List ℕ) (r : Result (List Entry) RefusedLine) → log_of file ≡ r → (log_end said r).status ≢ 7 → AreLines IsOfNoQuorum (log_end said r).text
  log_lines each file (Ok log) is other = each log other
  log_lines each file (Err refused) is other = refused_lines None file refused tt is

  -- unless the name of an absent file, or what isn't there in the log, is printed
  pub looked_lines : ArePlain → (name : List ℕ) (seen : ℕ → Files) → (looked_end name said seen).status ≢ 7 → AreLines IsOfNoQuorum (looked_end name said seen).text
  looked_lines each name seen = by (loaded_of (file_of (seen 0) name) input_limit)
    where
      by : (it : Loaded) → (file_end name said it).status ≢ 7 → AreLines IsOfNoQuorum (file_end name said it).text
      by loaded.Absent other = absurd (other refl)
      by (loaded.TooLarge size) other = too_large_lines
      by (loaded.Bytes file) other = log_lines each file (log_of file) refl other

-- the file is loaded, and the end is that of its log
pub log_shown : (name : List ℕ) (said : List Entry → Ending) (files : Option Files) (it : Loaded) (ending : Ending) → IsLoad files name input_limit it → ending ≡ file_end name said it → EndsSo (looked_end name said) ending files
log_shown name said files it ending load is =
    let behind = files_behind files name load.file in
    record {
      seen = λ _. behind;
      held = seen_held files behind (behind_held files name load.file);
      is = is ∙ ap (file_end name said) (behind_loaded files name input_limit it load);
    }

-- ---- the state of a log

abbrev state_by : ℕ → List Entry → Bool → Ending
state_by e log b = if b then record { status = 0; text = snapshot_line (state_after (commands_of log) e) } else record { status = 7; text = no_text (no_epoch (commands_of log)) }

state_ends : (e : ℕ) (log : List Entry) → IsEnd (state_ending e log).status
state_ends e log = by (nat_le e (length log))
  where
    by : (b : Bool) → IsEnd (state_by e log b).status
    by true = refl
    by false = refl

pub snapshot_ends : (name : List ℕ) (e : ℕ) (seen : ℕ → Files) → IsEnd (snapshot_ending name e seen).status
snapshot_ends name e seen = looked_ends (state_ending e) (state_ends e) name seen

state_lines : (e : ℕ) (log : List Entry) → (state_ending e log).status ≢ 7 → AreLines IsOfNoQuorum (state_ending e log).text
state_lines e log = by (nat_le e (length log))
  where
    by : (b : Bool) → (state_by e log b).status ≢ 7 → AreLines IsOfNoQuorum (state_by e log b).text
    by true other = snapshot_is_line (state_after (commands_of log) e)
    by false other = absurd (other refl)

pub snapshot_lines : (name : List ℕ) (e : ℕ) (seen : ℕ → Files) → (snapshot_ending name e seen).status ≢ 7 → AreLines IsOfNoQuorum (snapshot_ending name e seen).text
snapshot_lines name e seen = looked_lines (state_ending e) (state_lines e) name seen
