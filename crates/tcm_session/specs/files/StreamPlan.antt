-- The stream plan of a movement in the last state of the log in a file, which `plan LOG NODE KS` prints.
use Rattle.std.specs.Prelude.{ℕ, ℤ, List, ◌++◌, flat_map, length, Option, Some, None, IfSome, codes, decimal}
use Rattle.tcm_edges.specs.Files.{Files}
use Rattle.cluster_terms.specs.declared.token.RightEnd.{RightEnd}
use Rattle.transformations.specs.History.{state_after}
use Rattle.transformations.specs.Log.{commands_of}
use Rattle.transformations.specs.Movements.{movement_of}
use Rattle.transformations.specs.declared.entry.Entry.{Entry}
use Rattle.transformations.specs.declared.image.Image.{Image}
use Rattle.transformations.specs.declared.sequence.SeqRow.{SeqRow}
use Rattle.stream_plan.specs.Readable.{KeepReadable}
use Rattle.stream_plan.specs.Streams.{CoverGains, OfMovement, streams}
use Rattle.stream_plan.specs.declared.stream_row.StreamFrom.{StreamFrom}
use Rattle.stream_plan.specs.declared.stream_row.StreamFrom.TheVariants.{AnyOf, Strict}
use Rattle.stream_plan.specs.declared.stream_row.StreamRow.{StreamRow}
use Rattle.script_lang.specs.AnswerTexts.{left_text, line, list_text, no_text, right_text}
use Rattle.tcm_session.specs.declared.ending.Ending.{Ending}
use Rattle.tcm_session.specs.files.LookedEnds.{looked_end}

-- ---- the plan and its text

-- the plan of the movement of a node under a keyspace covers what the movement adds, and keeps quorums readable, if
-- there is a plan
pub record IsCoveringPlan (image : Image) (n : ℕ) (keyspace : List ℕ) : Type 0 where
  pub covers : IfSome (streams image n keyspace) (λ rows. OfMovement image n keyspace (CoverGains image rows))
  pub readable : IfSome (streams image n keyspace) (λ rows. OfMovement image n keyspace (KeepReadable image rows))

-- the nodes from which a node streams: one strictly, or any of a list
abbrev pub from_text : StreamFrom → List ℕ
from_text (Strict source) = codes "from " ++ decimal source
from_text (AnyOf nodes) = codes "any " ++ list_text nodes

-- the range of a row
abbrev pub range_text : Option ℤ → RightEnd → List ℕ
range_text left right = codes "(" ++ left_text left ++ codes "," ++ right_text right ++ codes "]"

-- the line of a row: the range, the node, and the nodes from which it streams
abbrev pub row_text : StreamRow → List ℕ
row_text row = line (range_text row.left row.right ++ codes " to " ++ decimal row.to ++ codes " " ++ from_text row.from)

-- the line with the epoch, the node, the keyspace and the number of rows
abbrev pub plan_head : ℕ → ℕ → List ℕ → ℕ → List ℕ
plan_head epoch n keyspace count =
    line (codes "PLAN " ++ decimal epoch ++ codes " " ++ decimal n ++ codes " " ++ keyspace ++ codes " " ++ decimal count)

-- this line, and those of the rows
abbrev pub plan_text : ℕ → ℕ → List ℕ → List StreamRow → List ℕ
plan_text epoch n keyspace rows = plan_head epoch n keyspace (length rows) ++ flat_map row_text rows

-- ---- the end

-- why there is no plan: the node has no movement, or else no keyspace has the name
abbrev pub missing_text : Option SeqRow → List ℕ
missing_text None = no_text (codes "SEQUENCE")
missing_text (Some movement) = no_text (codes "KEYSPACE")

-- the end by the plan, or if there is none
abbrev pub plan_unless : Image → ℕ → List ℕ → Option (List StreamRow) → Ending
plan_unless image n keyspace None = record { status = 7; text = missing_text (movement_of image n) }
plan_unless image n keyspace (Some rows) = record { status = 0; text = plan_text image.epoch n keyspace rows }

-- the end of `plan` in an image
abbrev pub plan_in : ℕ → List ℕ → Image → Ending
plan_in n keyspace image = plan_unless image n keyspace (streams image n keyspace)

-- the last state of a log
abbrev pub last_state : List Entry → Image
last_state log = state_after (commands_of log) (length log)

-- the end of `plan` in the last state of a log
abbrev pub log_plan : ℕ → List ℕ → List Entry → Ending
log_plan n keyspace log = plan_in n keyspace (last_state log)

-- the end of `plan`
abbrev pub plan_ending : List ℕ → ℕ → List ℕ → (ℕ → Files) → Ending
plan_ending name n keyspace seen = looked_end name (log_plan n keyspace) seen
