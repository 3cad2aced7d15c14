use Rattle.std.proofs.Common.{◌≡◌}
use Rattle.script_lang.proofs.words.put_words.Given as goal

-- the words so far
abbrev pub invariant-loop-word : goal.invariant-loop-word
invariant-loop-word l = l.words ≡ l.yielded
