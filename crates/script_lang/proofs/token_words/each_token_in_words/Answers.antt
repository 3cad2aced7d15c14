use Rattle.std.proofs.Common.{◌∙◌, sym}
use Rattle.cluster_terms.proofs.texts.ReadWords.{AreRead-more}
use Rattle.script_lang.proofs.TokenLists.{all_tokens, no_tokens}
use Rattle.script_lang.specs.Grammar.{token_of}
use Rattle.script_lang.proofs.token_words.each_token_in_words.Goals as goal

pub returns-in-None : goal.returns-in-None
returns-in-None c = sym (no_tokens (λ word. word.now) c.args.words.now c.loop-word.word-index _ c.loop-word-test.true (sym c.token_of.ensures ∙ c.in-None.is))

pub loop-word-preserved : goal.loop-word-preserved
loop-word-preserved c =
    AreRead-more token_of (λ word. word.now) c.args.words.now c.loop-word.word-index _ c.in-Some.token c.loop-word.tokens c.push.new.self c.loop-word-test.true (sym c.token_of.ensures ∙ c.in-Some.is) c.loop-word.invariant c.in_ok-push-in-Some.ensures

pub returns : goal.returns
returns c = sym (all_tokens (λ word. word.now) c.args.words.now c.loop-word.word-index c.loop-word.tokens c.loop-word-test.false c.loop-word.invariant)
