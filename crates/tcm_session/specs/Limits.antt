-- The limit of an input, and of a file.
use Rattle.std.specs.Prelude.{ℕ, List, codes}
use Rattle.script_lang.specs.AnswerTexts.{line}

-- the most bytes of an input, and of a file; of an input one more byte is read, to see whether it is larger
abbrev pub input_limit : ℕ
input_limit = 536870912

-- the text that is printed for an input or a file that is too large, with the limit in bytes
abbrev pub too_large_text : List ℕ
too_large_text = line (codes "TOO-LARGE 536870912")
