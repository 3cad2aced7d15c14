-- The words of commands, movements and phases: scripts, answers and files have the same words.
use Rattle.std.specs.Prelude.{ℕ, List, [], ◌∷◌, codes}
use Rattle.transformations.specs.declared.command.Command.{Command}
use Rattle.transformations.specs.declared.command.Command.TheVariants.{Unregister, PrepareLeave, Step, Cancel}
use Rattle.transformations.specs.declared.sequence.Goal.{Goal}
use Rattle.transformations.specs.declared.sequence.Goal.TheVariants.{Start, Mid, Finish}
use Rattle.transformations.specs.declared.sequence.Kind.{Kind}
use Rattle.transformations.specs.declared.sequence.Kind.TheVariants.{Join, Move, Leave, Replace}
use Rattle.transformations.specs.declared.sequence.Phase.{Phase}
use Rattle.transformations.specs.declared.sequence.Phase.TheVariants as phase

-- the word of `Register`
abbrev pub register_word : List ℕ
register_word = codes "register"

-- the word of `UnsafeJoin`
abbrev pub unsafe_join_word : List ℕ
unsafe_join_word = codes "unsafe-join"

-- the word of `Keyspace`
abbrev pub keyspace_word : List ℕ
keyspace_word = codes "keyspace"

-- the word of `DropKeyspace`
abbrev pub drop_keyspace_word : List ℕ
drop_keyspace_word = codes "drop-keyspace"

-- the word of `PrepareJoin`
abbrev pub prepare_join_word : List ℕ
prepare_join_word = codes "prepare-join"

-- the word of `PrepareMove`
abbrev pub prepare_move_word : List ℕ
prepare_move_word = codes "prepare-move"

-- the word of `PrepareReplace`
abbrev pub prepare_replace_word : List ℕ
prepare_replace_word = codes "prepare-replace"

-- the words of the commands whose only argument is a node, each with the command that it makes of the node
abbrev pub node_commands : List (List ℕ × (ℕ → Command))
node_commands =
    (codes "unregister", Unregister) ∷ (codes "prepare-leave", PrepareLeave) ∷ (codes "cancel", Cancel)
    ∷ (codes "start-join", Step Start Join) ∷ (codes "mid-join", Step Mid Join) ∷ (codes "finish-join", Step Finish Join)
    ∷ (codes "start-move", Step Start Move) ∷ (codes "mid-move", Step Mid Move) ∷ (codes "finish-move", Step Finish Move)
    ∷ (codes "start-leave", Step Start Leave) ∷ (codes "mid-leave", Step Mid Leave) ∷ (codes "finish-leave", Step Finish Leave)
    ∷ (codes "start-replace", Step Start Replace) ∷ (codes "mid-replace", Step Mid Replace) ∷ (codes "finish-replace", Step Finish Replace)
    ∷ []

-- how the word of a step begins
abbrev pub goal_word : Goal → List ℕ
goal_word Start = codes "start-"
goal_word Mid = codes "mid-"
goal_word Finish = codes "finish-"

-- the kind of a movement, with which the word of a step ends
abbrev pub movement_word : Kind → List ℕ
movement_word Join = codes "join"
movement_word Move = codes "move"
movement_word Leave = codes "leave"
movement_word Replace = codes "replace"

-- the phase of a movement
abbrev pub phase_word : Phase → List ℕ
phase_word phase.Prepared = codes "PREPARED"
phase_word phase.Started = codes "STARTED"
phase_word phase.Mid = codes "MID"
