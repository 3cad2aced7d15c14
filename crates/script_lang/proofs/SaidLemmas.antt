-- What lines say: their commands have tokens, names and replications, and their queries tokens.
use Rattle.std.proofs.Common.{◌≡◌, true, List, ℕ, IsTrue, refl}
use Rattle.std.specs.Option.{IfSome}
use Rattle.std.proofs.lemmas.Option.{IfSome_then}
use Rattle.cluster_terms.specs.Name.{is_name}
use Rattle.cluster_terms.specs.Replication.{IsReplication}
use Rattle.transformations.specs.History.{is_command}
use Rattle.transformations.specs.Meeting.{HasReplication}
use Rattle.transformations.specs.declared.command.Command.{Command}
use Rattle.transformations.specs.declared.command.Command.TheVariants.{Register, Keyspace}
use Rattle.script_lang.specs.Grammar.{IsInRange, line_of, line_of_words}
use Rattle.script_lang.specs.declared.script_line.ScriptLine.{ScriptLine}
use Rattle.script_lang.specs.declared.script_line.ScriptLine.TheVariants.{Commit, Ask}
use Rattle.script_lang.proofs.SaidCommands.{HoldsOfForms, HoldsOfLine, of_line, of_words}

-- the names of a command that a line commits are names, and a keyspace that it makes has a replication
abbrev pub IsFormed : Command → Type 0
IsFormed (Register name dc rack) = (is_name name ≡ true) × (is_name dc ≡ true) × (is_name rack ≡ true)
IsFormed (Keyspace name replication) = (is_name name ≡ true) × IsReplication replication
IsFormed _ = Unit {0}

pub formed_replication : (c : Command) → IsFormed c → HasReplication c
formed_replication (Keyspace name replication) is = is.1
formed_replication _ is = tt

formed_forms : HoldsOfForms IsFormed
formed_forms =
    record {
      register = λ name dc rack n d r. (n, d, r);
      unsafe_join = λ node tokens n are. tt;
      keyspace = λ name replication n is. (n, is);
      drop_keyspace = λ name n. tt;
      prepare_join = λ node tokens n are. tt;
      prepare_move = λ node token n is. tt;
      prepare_replace = λ node gone n m. tt;
      of_node = λ node n. (tt, (tt, (tt, (tt, (tt, (tt, (tt, (tt, (tt, (tt, (tt, (tt, (tt, (tt, (tt, tt)))))))))))))));
    }

-- what a line says: the command is formed, and the token of a query is a token
abbrev pub IsSaid : ScriptLine → Type 0
IsSaid = HoldsOfLine IsFormed

pub said_by : (bytes : List ℕ) → IfSome (line_of bytes) IsSaid
said_by = of_line IsFormed formed_forms

-- ---- ranges

-- a command has tokens that it may have, where it has any
abbrev IsCommand : Command → Type 0
IsCommand c = IsTrue (is_command c)

command_forms : HoldsOfForms IsCommand
command_forms =
    record {
      register = λ name dc rack n d r. refl;
      unsafe_join = λ node tokens n are. are.0;
      keyspace = λ name replication n is. refl;
      drop_keyspace = λ name n. refl;
      prepare_join = λ node tokens n are. are.0;
      prepare_move = λ node token n is. refl;
      prepare_replace = λ node gone n m. refl;
      of_node = λ node n. (refl, (refl, (refl, (refl, (refl, (refl, (refl, (refl, (refl, (refl, (refl, (refl, (refl, (refl, (refl, tt)))))))))))))));
    }

ranges_in : (line : ScriptLine) → HoldsOfLine IsCommand line → IsInRange line
ranges_in (Commit id c) h = h.1
ranges_in (Ask name max) h = h
ranges_in _ h = tt

pub of_words_in_range : (words : List (List ℕ)) → IfSome (line_of_words words) IsInRange
of_words_in_range words = IfSome_then (line_of_words words) {P = HoldsOfLine IsCommand} {Q = IsInRange} (of_words IsCommand command_forms words) ranges_in

pub in_range_by : (bytes : List ℕ) → IfSome (line_of bytes) IsInRange
in_range_by bytes = IfSome_then (line_of bytes) {P = HoldsOfLine IsCommand} {Q = IsInRange} (of_line IsCommand command_forms bytes) ranges_in
