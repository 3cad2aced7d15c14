-- What the commands of lines hold: ids, nodes, tokens and names that the line of an entry may have.
use Rattle.std.proofs.Common.{List, ℕ}
use Rattle.std.specs.Option.{IfSome}
use Rattle.wire_json.specs.Entries.{HasValues}
use Rattle.script_lang.specs.Grammar.{line_of}
use Rattle.script_lang.specs.declared.script_line.ScriptLine.{ScriptLine}
use Rattle.script_lang.proofs.SaidCommands.{HoldsOfForms, HoldsOfLine, of_line}

values_of_forms : HoldsOfForms HasValues
values_of_forms =
    record {
      register = λ name dc rack n d r. (n, d, r);
      unsafe_join = λ node tokens is are. (is, are.1);
      keyspace = λ name replication n is. (n, is);
      drop_keyspace = λ name n. n;
      prepare_join = λ node tokens is are. (is, are.1);
      prepare_move = λ node token is there. (is, there);
      prepare_replace = λ node gone is there. (is, there);
      of_node = λ node is. (is, (is, (is, (is, (is, (is, (is, (is, (is, (is, (is, (is, (is, (is, (is, tt)))))))))))))));
    }

-- a line that commits has an id and a command that the line of an entry may have
abbrev pub FitsEntry : ScriptLine → Type 0
FitsEntry = HoldsOfLine HasValues

pub fits_by : (bytes : List ℕ) → IfSome (line_of bytes) FitsEntry
fits_by = of_line HasValues values_of_forms
