-- The log: accepted commands, each with the id of its commit and the epoch that it made (CEP-21's log of entries).
use Rattle.std.specs.Prelude.{ℕ, ◌+◌, Bool, true, ◌&&◌, if◌then◌else◌, List, [], ◌∷◌, map, find, length, Option, Some, None, is_none, Result, Ok, Err, ◌==◌, IsTrue}
use Rattle.transformations.specs.History.{IsHistory, commit_refusal}
use Rattle.transformations.specs.Same.{same_command}
use Rattle.transformations.specs.declared.command.Command.{Command}
use Rattle.transformations.specs.declared.entry.Entry.{Entry}
use Rattle.transformations.specs.declared.refusal.Refusal.{Refusal}
use Rattle.transformations.specs.declared.refusal.Refusal.TheVariants.{IdReused}

-- the commands of entries, in their order
abbrev pub commands_of : List Entry → List Command
commands_of log = map (λ entry. entry.cmd) log

-- the first entry with this id
abbrev pub entry_with_id : List Entry → ℕ → Option Entry
entry_with_id log id = find (λ entry. id == entry.id) log

-- whether the epochs of entries count up by one, from a given epoch on
abbrev pub are_numbered : ℕ → List Entry → Bool
are_numbered epoch [] = true
are_numbered epoch (entry ∷ entries) = (entry.epoch == epoch) && are_numbered (epoch + 1) entries

-- whether no two entries have the same id
abbrev pub have_own_ids : List Entry → Bool
have_own_ids [] = true
have_own_ids (entry ∷ entries) = is_none (entry_with_id entries entry.id) && have_own_ids entries

-- the entries of a log: their epochs are 1, 2 and so on, and no two have the same id
abbrev pub AreEntries : List Entry → Type 0
AreEntries log = IsTrue (are_numbered 1 log && have_own_ids log)

-- a log: its commands, one after another, are a history
pub record IsLog (log : List Entry) : Type 0 where
  pub entries : AreEntries log
  pub history : IsHistory (commands_of log)

-- what a commit comes to: an epoch or a refusal, and the entries that it adds to the log, one or none
pub record Committed : Type 0 where
  pub answer : Result ℕ Refusal
  pub added : List Entry

-- a commit whose id is in the log adds nothing: the same command is answered with the epoch of its entry, and another
-- command is refused
abbrev pub repeated : Entry → Command → Committed
repeated entry command =
    record { answer = if same_command entry.cmd command then Ok entry.epoch else Err (IdReused entry.epoch); added = [] }

-- a commit with a new id is refused with the first refusal of its command, or adds an entry at the next epoch
abbrev pub decided : List Entry → ℕ → Command → Option Refusal → Committed
decided log id command (Some refusal) = record { answer = Err refusal; added = [] }
decided log id command None =
    let entry : Entry = record { id = id; epoch = length log + 1; cmd = command } in
    record { answer = Ok entry.epoch; added = entry ∷ [] }

-- the commit of a command under an id, by the entry that has this id, if there is one
abbrev pub commit_by : List Entry → ℕ → Command → Option Entry → Committed
commit_by log id command (Some entry) = repeated entry command
commit_by log id command None = decided log id command (commit_refusal (commands_of log) command)

-- the commit of a command under an id: first the id is looked up
abbrev pub commit_of : List Entry → ℕ → Command → Committed
commit_of log id command = commit_by log id command (entry_with_id log id)
