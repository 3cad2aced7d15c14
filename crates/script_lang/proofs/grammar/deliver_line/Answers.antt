use Rattle.std.proofs.Common.{◌∙◌, arith, sym}
use Rattle.script_lang.proofs.NameWords.{deliver_named}
use Rattle.script_lang.proofs.grammar.deliver_line.Goals as goal

pub returns : goal.returns
returns c =
    sym (deliver_named (λ word. word.now) c.args.words.now _ c.in-Some-2.name c.in-Some.epoch (omega arith) (sym c.in_ok-name.ensures.name ∙ c.in-Some-2.is) (sym c.number_of.ensures ∙ c.in-Some.is))
