use Rattle.std.proofs.Common.{◌∙◌, arith, sym}
use Rattle.script_lang.proofs.NameWords.{register_named}
use Rattle.script_lang.proofs.command_words.register_command.Goals as goal

pub returns : goal.returns
returns c =
    sym (register_named (λ word. word.now) c.args.words.now _ c.in-Some.name c.in-Some-2.dc c.in-Some-3.rack (omega arith)
    (sym c.in_ok-name.ensures.name ∙ c.in-Some.is) (sym c.in_ok-dc.ensures.name ∙ c.in-Some-2.is) (sym c.in_ok-rack.ensures.name ∙ c.in-Some-3.is))
