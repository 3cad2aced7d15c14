-- The commands of lines have tokens that they may have.
use Rattle.std.proofs.Common.{◌≡◌, true, Ok, refl}
use Rattle.cluster_terms.specs.ReplicationText.{replication_of}
use Rattle.serde_json.specs.Data.{Data}
use Rattle.transformations.specs.History.{is_command}
use Rattle.transformations.specs.declared.command.Command.{Command}
use Rattle.transformations.specs.declared.command.Command.TheVariants.{Keyspace}
use Rattle.transformations.specs.declared.entry.Entry.{Entry}
use Rattle.wire_json.specs.Reading.{entry_of}
use Rattle.wire_json.proofs.entries.EntryCommands.{HoldsOfKinds, IfSome-each, entry_commands}

-- a command has tokens that it may have, where it has any
abbrev pub IsCommand : Command → Type 0
IsCommand command = is_command command ≡ true

pub tokens_of_kinds : HoldsOfKinds IsCommand
tokens_of_kinds =
    record {
      register = λ name dc rack n d r. refl;
      unsafe_join = λ node tokens are. are;
      keyspace = λ name text n. IfSome-each (λ replication. IsCommand (Keyspace name replication)) (λ replication. refl) (replication_of text);
      drop_keyspace = λ name n. refl;
      prepare_join = λ node tokens are. are;
      prepare_move = λ node token. refl;
      prepare_replace = λ node gone. refl;
      of_node = λ n. (refl, (refl, (refl, (refl, (refl, (refl, (refl, (refl, (refl, (refl, (refl, (refl, (refl, (refl, (refl, tt)))))))))))))));
    }

pub entry_tokens : (value : Data) (entry : Entry) → entry_of value ≡ Ok entry → IsCommand entry.cmd
entry_tokens value entry is = entry_commands IsCommand tokens_of_kinds value entry is
