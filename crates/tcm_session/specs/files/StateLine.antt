-- The state of a log in a file at an epoch, which `snapshot LOG E` prints as its one line.
use Rattle.std.specs.Prelude.{ℕ, if◌then◌else◌, List, length, nat_le}
use Rattle.tcm_edges.specs.Files.{Files}
use Rattle.transformations.specs.History.{state_after}
use Rattle.transformations.specs.Log.{commands_of}
use Rattle.transformations.specs.declared.entry.Entry.{Entry}
use Rattle.wire_json.specs.SnapshotTexts.{snapshot_line}
use Rattle.script_lang.specs.AnswerTexts.{no_text}
use Rattle.script_session.specs.Machine.{no_epoch}
use Rattle.tcm_session.specs.declared.ending.Ending.{Ending}
use Rattle.tcm_session.specs.files.LookedEnds.{looked_end}

-- the state of a log at an epoch, if the log has reached it
abbrev pub state_ending : ℕ → List Entry → Ending
state_ending e log =
    if nat_le e (length log) then record { status = 0; text = snapshot_line (state_after (commands_of log) e) }
    else record { status = 7; text = no_text (no_epoch (commands_of log)) }

-- the end of `snapshot`
abbrev pub snapshot_ending : List ℕ → ℕ → (ℕ → Files) → Ending
snapshot_ending name e seen = looked_end name (state_ending e) seen
