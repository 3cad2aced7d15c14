use Rattle.std.proofs.Common.{rules, append_assoc}
use Rattle.std.proofs.lemmas.Result.{IfOk-equal}
use Rattle.script_lang.specs.AnswerTexts.{sequence_text}
use Rattle.script_lang.proofs.node_lines.add_sequence_line.Goals as goal

pub returns-clause-added : goal.returns-clause-added
unfolding sequence_text
returns-clause-added c = search (rules, IfOk-equal, append_assoc)
