use Rattle.std.proofs.Common.{sym, subst}
use Rattle.std.specs.Option.{IfSome}
use Rattle.std.proofs.lemmas.Result.{MatchResult-weaker}
use Rattle.script_lang.specs.Grammar.{IsInRange}
use Rattle.script_lang.proofs.SaidLemmas.{of_words_in_range}
use Rattle.script_lang.proofs.grammar.parse_line.Goals as goal

pub returns-then-put_words-clause-ranges : goal.returns-then-put_words-clause-ranges
returns-then-put_words-clause-ranges c =
    MatchResult-weaker c.line_of_words.result c.line_of_words.ensures (λ found is. subst (λ line. IfSome line IsInRange) (sym is) (of_words_in_range _)) (λ y h. tt)

pub returns-clause-ranges : goal.returns-clause-ranges
returns-clause-ranges c =
    MatchResult-weaker c.line_of_words-2.result c.line_of_words-2.ensures (λ found is. subst (λ line. IfSome line IsInRange) (sym is) (of_words_in_range _)) (λ y h. tt)
