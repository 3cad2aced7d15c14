-- The lines that a process of `share` and the store of the shared log exchange. The line at place 0 of the log is its
-- header, the line at place e the entry of epoch e.
use Rattle.std.specs.Prelude.{ℕ, ◌+◌, List, ◌++◌, take, drop, if◌then◌else◌, Option, Some, None, codes, decimal}
use Rattle.std.specs.Str.{bytes_eq}
use Rattle.script_lang.specs.AnswerTexts.{line as with_feed}

-- `READ m` asks for the lines of the log from place m on
abbrev pub read_text : ℕ → List ℕ
read_text place = with_feed (codes "READ " ++ decimal place)

-- `PUT m TEXT` offers TEXT for place m, and asks for the lines from place m on
abbrev pub put_text : ℕ → List ℕ → List ℕ
put_text place text = with_feed (codes "PUT " ++ decimal place ++ codes " " ++ text)

-- what a line of a reply says: a line of the log, or that no more lines come
pub data Told : Type 0 where
  LogLine : (text : List ℕ) → Told
  End : Told

-- the line of a reply with a line of the log
abbrev pub log_line : List ℕ → List ℕ
log_line text = codes "LOG " ++ text

-- the last line of a reply
abbrev pub end_line : List ℕ
end_line = codes "END"

-- a line of a reply is `LOG TEXT` or `END`
unfoldable pub told_by : List ℕ → Option Told
told_by bytes =
    if bytes_eq bytes end_line then Some End
    else if bytes_eq (take 4 bytes) (codes "LOG ") then Some (LogLine (drop 4 bytes))
    else None

-- the text for a line that is no line of a reply, where the log's line at this place was due. Lines count from 1, as those
-- of a log file
abbrev pub not_reply_text : ℕ → List ℕ
not_reply_text place = with_feed (codes "REFUSED 1 " ++ decimal (place + 1) ++ codes " NOT-REPLY")

-- the text for an input that ends within a line or a reply
abbrev pub no_end_text : ℕ → List ℕ
no_end_text place = with_feed (codes "REFUSED 1 " ++ decimal (place + 1) ++ codes " NO-END")
