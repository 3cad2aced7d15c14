use Rattle.std.proofs.Common.{◌≡◌, ◌++◌, take}
use Rattle.std.specs.List.{flat_map}
use Rattle.script_lang.specs.AnswerTexts.{sequence_text}
use Rattle.script_lang.proofs.node_lines.add_sequence_lines.Given as goal

-- the lines of the movements so far are added
abbrev pub invariant-loop-sequence : goal.invariant-loop-sequence
invariant-loop-sequence l = l.out ≡ l.fn.out ++ flat_map sequence_text (take l.sequence-index l.sequences)
