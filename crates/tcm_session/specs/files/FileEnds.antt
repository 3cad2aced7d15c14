-- The ends at a file that is absent or too large, and at a line that is refused.
use Rattle.std.specs.Prelude.{ℕ, List, ◌++◌, codes}
use Rattle.script_lang.specs.AnswerTexts.{line}
use Rattle.tcm_session.specs.Limits.{too_large_text}
use Rattle.script_session.specs.LogFiles.{refused_line_text}
use Rattle.tcm_session.specs.declared.ending.Ending.{Ending}
use Rattle.script_session.specs.declared.refused_line.RefusedLine.{RefusedLine}

-- the end at a file that is absent, with its name
abbrev pub absent_end : List ℕ → Ending
absent_end name = record { status = 7; text = line (codes "NO FILE " ++ name) }

-- the end at a file that is too large
abbrev pub too_large_end : Ending
too_large_end = record { status = 8; text = too_large_text }

-- the end at a line that is refused
abbrev pub refused_end : RefusedLine → Ending
refused_end refused = record { status = 3; text = refused_line_text refused }
