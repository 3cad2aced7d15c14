-- The quorums that answers show, and when the quorums of two answers meet.
use Rattle.std.specs.Prelude.{◌≡◌, ℕ, ◌+◌, ℤ, List, [], ◌∷◌, take, Option, Some, None, option_map, option_and_then, Result, Ok, Err, codes, true, ◌⊎◌}
use Rattle.std.specs.List.{Contains, slice_get}
use Rattle.cluster_terms.specs.Quorum.{Meet, Sets, datacenter_of}
use Rattle.transformations.specs.Log.{commands_of}
use Rattle.transformations.specs.Meeting.{datacenters_of, makes_movement_epoch, local_sets_at, sets_at}
use Rattle.transformations.specs.declared.command.Command.{Command}
use Rattle.transformations.specs.declared.entry.Entry.{Entry}
use Rattle.transformations.specs.declared.image.Image.{Image}
use Rattle.transformations.specs.declared.keyspace.KeyspaceRow.{KeyspaceRow}
use Rattle.placement_maps.specs.Served.{keyspace_of}
use Rattle.script_lang.specs.Grammar.{line_of}
use Rattle.script_lang.specs.AnswerTexts.{line, quorum_text}
use Rattle.script_lang.specs.declared.script_line.ScriptLine.{ScriptLine}
use Rattle.script_lang.specs.declared.script_line.ScriptLine.TheVariants.{Quorum, Local}
use Rattle.script_session.specs.Lines.{whole_lines}
use Rattle.script_session.specs.Machine.{SessionState, image_of, session_after, session_next, session_over}

-- the quorums that an answer shows: the datacenter of a local query, the keyspace, the token, the epoch, and the sets
pub record Shown : Type 0 where
  pub datacenter : Option (List ℕ)
  pub keyspace : List ℕ
  pub token : ℤ
  pub epoch : ℕ
  pub sets : Sets

-- the first word of an answer that shows quorums
abbrev pub word_of : Option (List ℕ) → List ℕ
word_of None = codes "QUORUM"
word_of (Some dc) = codes "LOCAL"

-- the text of an answer that shows quorums
abbrev pub shown_text : Shown → List ℕ
shown_text s = quorum_text (word_of s.datacenter) s.epoch s.sets

-- the sets of a keyspace: of all its replicas, or of the replicas in a datacenter that its replication names
abbrev pub sets_in : Image → ℤ → Option (List ℕ) → KeyspaceRow → Option Sets
sets_in image t None k = Some (sets_at image k.replication t)
sets_in image t (Some dc) k =
    option_map (λ f. local_sets_at image k.replication f t) (datacenter_of (datacenters_of k.replication) dc)

-- a text begins with the word of an answer with quorums
abbrev pub BeginsWithWord : List ℕ → Type 0
BeginsWithWord text = (take 6 text ≡ codes "QUORUM") ⊎ (take 5 text ≡ codes "LOCAL")

-- a text doesn't begin with such a word
abbrev pub IsOfNoQuorum : List ℕ → Type 0
IsOfNoQuorum text = BeginsWithWord text → ⊥

-- the quorums that a query is shown, if it isn't refused: those of its target's image, at the epoch of this image
abbrev pub shown_from : Result Image (List ℕ) → List ℕ → Option (List ℕ) → ℤ → Option Shown
shown_from (Err reason) name dc t = None
shown_from (Ok image) name dc t =
    let show : Sets → Shown = λ s. record { datacenter = dc; keyspace = name; token = t; epoch = image.epoch; sets = s } in
    option_map show (option_and_then (sets_in image t dc) (keyspace_of image name))

-- the quorums that the answer to a line shows, if it shows some
abbrev pub shown_by : SessionState → Option ScriptLine → Option Shown
shown_by session (Some (Quorum target name t)) = shown_from (image_of session target) name None t
shown_by session (Some (Local target name dc t)) = shown_from (image_of session target) name (Some dc) t
shown_by session _ = None

-- the quorums that an answer shows, if it shows some, before those of later answers
abbrev pub and_shown : Option Shown → List Shown → List Shown
and_shown None later = later
and_shown (Some s) later = s ∷ later

-- the quorums that the answers to lines show, in their order, from a session on
abbrev pub shown : SessionState → List (List ℕ) → List Shown
shown session [] = []
shown session (bytes ∷ lines) =
    and_shown (shown_by session (line_of bytes)) (shown (session_next session bytes) lines)

-- two answers are to the same question
pub record AskAlike (p q : Shown) : Type 0 where
  pub datacenter : p.datacenter ≡ q.datacenter
  pub keyspace : p.keyspace ≡ q.keyspace
  pub token : p.token ≡ q.token

-- two answers are at the same epoch, or the second is at the next epoch, which is a movement epoch for their keyspace
abbrev pub AreAdjacent : List Command → Shown → Shown → Type 0
AreAdjacent history p q = (p.epoch ≡ q.epoch) ⊎ ((q.epoch ≡ p.epoch + 1) × (option_map (makes_movement_epoch p.keyspace) (slice_get history p.epoch) ≡ Some true))

-- the quorums of two answers to the same question meet, if their epochs are adjacent in this history
abbrev pub ShownMeet : List Command → List Shown → Type 0
ShownMeet history answers = (p q : Shown) → Contains answers p → Contains answers q → AskAlike p q → AreAdjacent history p q → Meet p.sets q.sets

-- a line is the text of one of these shown answers
pub record IsShownLine (answers : List Shown) (l : List ℕ) : Type 0 where
  pub shown : Shown
  pub among : Contains answers shown
  pub text : line l ≡ shown_text shown

-- each whole line of some bytes that begins with `QUORUM` or `LOCAL` is the text of one of these shown answers
abbrev pub LinesAreShown : List ℕ → List Shown → Type 0
LinesAreShown bytes answers = (l : List ℕ) → Contains (whole_lines bytes) l → BeginsWithWord l → IsShownLine answers l

-- the quorums in the printed lines are the quorums that the answers to these lines show, and they meet
pub record PrintsMeeting (log : List Entry) (lines : List (List ℕ)) (printed : List ℕ) : Type 0 where
  pub texts : LinesAreShown printed (shown (session_over log) lines)
  pub meet : ShownMeet (commands_of (session_after (session_over log) lines).log) (shown (session_over log) lines)
