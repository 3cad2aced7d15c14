-- The end of words that name no command.
use Rattle.std.specs.Prelude.{ℕ, List, codes}
use Rattle.script_lang.specs.AnswerTexts.{line}
use Rattle.tcm_session.specs.declared.ending.Ending.{Ending}

-- the words of the usage line
abbrev pub usage_text : List ℕ
usage_text = codes "usage: tcm commit [LOG CLUSTER] | replay FILE.. | snapshot LOG E | gen START N | mend2 OLD NEW CLUSTER | plan LOG NODE KS | cms LOG FROM TO"

-- the end with the usage line
abbrev pub usage_end : Ending
usage_end = record { status = 2; text = line usage_text }
