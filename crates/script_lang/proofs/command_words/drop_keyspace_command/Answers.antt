use Rattle.std.proofs.Common.{◌∙◌, arith, sym}
use Rattle.script_lang.proofs.NameWords.{drop_keyspace_named}
use Rattle.script_lang.proofs.command_words.drop_keyspace_command.Goals as goal

pub returns : goal.returns
returns c =
    sym (drop_keyspace_named (λ word. word.now) c.args.words.now _ c.in-Some.name (omega arith) (sym c.in_ok-name.ensures.name ∙ c.in-Some.is))
