use Rattle.std.proofs.Common.{◌∙◌, arith, sym}
use Rattle.script_lang.proofs.NameWords.{follower_named}
use Rattle.script_lang.proofs.grammar.follower_line.Goals as goal

pub returns : goal.returns
returns c =
    sym (follower_named (λ word. word.now) c.args.words.now _ c.in-Some.name (omega arith) (sym c.in_ok-name.ensures.name ∙ c.in-Some.is))
