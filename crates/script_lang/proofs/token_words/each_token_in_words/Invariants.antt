use Rattle.cluster_terms.proofs.texts.ReadWords.{AreRead}
use Rattle.script_lang.specs.Grammar.{token_of}
use Rattle.script_lang.proofs.token_words.each_token_in_words.Given as goal

-- the words so far are tokens, and these are in the list
abbrev pub invariant-loop-word : goal.invariant-loop-word
invariant-loop-word l = AreRead token_of (λ word. word.now) l.words l.word-index l.tokens
