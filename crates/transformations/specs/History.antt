-- The images that commands lead to, one after another (CEP-21's transformations and their log).
use Rattle.std.specs.Prelude.{ℕ, ◌+◌, Bool, true, false, not, ◌&&◌, if◌then◌else◌, ℤ, int_lt, List, [], ◌∷◌, ◌++◌, filter, take, length, Option, Some, is_none, nat_le, ◌==◌, IsTrue}
use Rattle.std.specs.Str.{bytes_eq}
use Rattle.cluster_terms.specs.Ascending.{put_all}
use Rattle.cluster_terms.specs.declared.node.NodeRow.{NodeRow}
use Rattle.transformations.specs.Orders.{by_token}
use Rattle.transformations.specs.Refusals.{keyspace_row, refusal_of, with_keyspace, with_movement}
use Rattle.transformations.specs.Movements.{pairs_of, join_of, move_of, leave_of, replace_of, stepped, cancelled}
use Rattle.transformations.specs.declared.command.Command.{Command}
use Rattle.transformations.specs.declared.command.Command.TheVariants.{Register, Unregister, UnsafeJoin, Keyspace, DropKeyspace, PrepareJoin, PrepareMove, PrepareLeave, PrepareReplace, Step, Cancel}
use Rattle.transformations.specs.declared.image.Image.{Image}
use Rattle.transformations.specs.declared.refusal.Refusal.{Refusal}
use Rattle.transformations.specs.declared.sequence.SeqRow.{SeqRow}
use Rattle.transformations.specs.declared.refusal.Refusal.TheVariants.{EpochsFull}

-- the image before the first command
abbrev pub empty_image : Image
empty_image = record { epoch = 0; next = 1; nodes = []; tokens = []; keyspaces = []; sequences = [] }

-- the image once a movement is prepared
abbrev pub begun : Image → SeqRow → Image
begun image s = let after : Image = with_movement image s in record after { epoch = image.epoch + 1 }

-- the image after a command that isn't refused
unfoldable pub next_image : Image → Command → Image
next_image image (Register name dc rack) =
    let row : NodeRow = record { id = image.next; name = name; dc = dc; rack = rack; left = false } in
    record image { epoch = image.epoch + 1; next = image.next + 1; nodes = image.nodes ++ row ∷ [] }
next_image image (Unregister node) =
    record image { epoch = image.epoch + 1; nodes = filter (λ row. not (row.id == node)) image.nodes }
next_image image (UnsafeJoin node tokens) =
    record image { epoch = image.epoch + 1; tokens = put_all by_token (pairs_of node tokens) image.tokens }
next_image image (Keyspace name replication) =
    (let after : Image = with_keyspace image (keyspace_row name replication) in record after { epoch = image.epoch + 1 })
next_image image (DropKeyspace name) =
    record image { epoch = image.epoch + 1; keyspaces = filter (λ row. not (bytes_eq row.name name)) image.keyspaces }
next_image image (PrepareJoin node tokens) = begun image (join_of node tokens)
next_image image (PrepareMove node token) = begun image (move_of image.tokens node token)
next_image image (PrepareLeave node) = begun image (leave_of image.tokens node)
next_image image (PrepareReplace node gone) = begun image (replace_of image.tokens node gone)
next_image image (Cancel node) = (let after : Image = cancelled image node in record after { epoch = image.epoch + 1 })
next_image image (Step goal kind node) = (let after : Image = stepped image goal node in record after { epoch = image.epoch + 1 })

-- whether a command sets or drops the keyspace of this name
abbrev pub changes_keyspace : List ℕ → Command → Bool
changes_keyspace name (Keyspace other replication) = bytes_eq other name
changes_keyspace name (DropKeyspace other) = bytes_eq other name
changes_keyspace name _ = false

-- the image after a list of commands, from a given image on
abbrev pub image_after : Image → List Command → Image
image_after image [] = image
image_after image (command ∷ commands) = image_after (next_image image command) commands

-- the image after the first e commands of a history
abbrev pub state_after : List Command → ℕ → Image
state_after history e = image_after empty_image (take e history)

-- whether tokens ascend, each below the next
abbrev pub ascend : List ℤ → Bool
ascend [] = true
ascend (t ∷ []) = true
ascend (t ∷ u ∷ ts) = int_lt t u && ascend (u ∷ ts)

-- whether a command may have these tokens: there are 1 to 256, and they ascend
abbrev pub are_tokens : List ℤ → Bool
are_tokens tokens = nat_le 1 (length tokens) && (nat_le (length tokens) 256 && ascend tokens)

-- whether a command may have its list of tokens; true for a command that has no list of tokens
abbrev pub is_command : Command → Bool
is_command (UnsafeJoin node tokens) = are_tokens tokens
is_command (PrepareJoin node tokens) = are_tokens tokens
is_command _ = true

-- whether each command of a list is accepted, one after another, from a given image on
abbrev pub are_accepted : Image → List Command → Bool
are_accepted image [] = true
are_accepted image (command ∷ commands) =
    (is_command command && is_none (refusal_of image command)) && are_accepted (next_image image command) commands

-- the greatest number of epochs
abbrev pub most_epochs : ℕ
most_epochs = 65536

-- a history: at most 65,536 commands, each accepted in the image after the commands before it
abbrev pub IsHistory : List Command → Type 0
IsHistory history = IsTrue (nat_le (length history) most_epochs && are_accepted empty_image history)

-- the first refusal of a commit after a history; EPOCHS-FULL comes before all others
abbrev pub commit_refusal : List Command → Command → Option Refusal
commit_refusal history command =
    if nat_le most_epochs (length history) then Some EpochsFull else refusal_of (image_after empty_image history) command
