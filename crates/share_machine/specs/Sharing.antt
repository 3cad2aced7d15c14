-- One process of `share`: it answers script lines from the log that it knows, and adds entries by way of the store.
use Rattle.std.specs.Prelude.{ℕ, ◌+◌, Bool, true, false, if◌then◌else◌, List, [], ◌∷◌, ◌++◌, length, Option, Some, None, Result, Ok, Err}
use Rattle.std.specs.Str.{bytes_eq}
use Rattle.transformations.specs.declared.entry.Entry.{Entry}
use Rattle.wire_json.specs.EntryTexts.{entry_text}
use Rattle.wire_json.specs.Header.{header_text}
use Rattle.script_session.specs.LogFiles.{header_cause, next_entry, refused_line_text}
use Rattle.script_session.specs.Machine.{Reply, SessionState, replied, reply, session_over}
use Rattle.script_session.specs.declared.refused_line.Cause.{Cause}
use Rattle.share_machine.specs.Requests.{Told, LogLine, End, not_reply_text, put_text, read_text, told_by}

-- ---- the state of a process

-- the request whose reply is due
pub data Asked : Type 0 where
  -- the lines from the next place on are asked for
  Read : Asked
  -- the header is offered
  PutHeader : Asked
  -- an entry's line is offered; this answer is printed if it stands at its place
  PutEntry : (text answer : List ℕ) → Asked
  -- the reply has begun with the line that was offered; this answer is printed at its end
  Stands : (answer : List ℕ) → Asked

-- what a process waits for: a script line, the reply to a request for the script line in hand, or nothing, once it has
-- refused a line
pub data Waits : Type 0 where
  Script : Waits
  Store : (line : List ℕ) (asked : Asked) → Waits
  Nothing : Waits

-- a process: the session over the entries that it knows, whether it knows the header, and what it waits for
pub record Sharing : Type 0 where
  pub session : SessionState
  pub headed : Bool
  pub waits : Waits

-- a process that has just begun
abbrev pub new_sharing : Sharing
new_sharing = record { session = session_over []; headed = false; waits = Script }

-- the place of the first line of the log that the process doesn't know
abbrev pub next_place : Sharing → ℕ
next_place s = if s.headed then length s.session.log + 1 else 0

-- what a line of the input comes to: the bytes that are printed, and the process afterwards
pub record Turn : Type 0 where
  pub text : List ℕ
  pub after : Sharing

-- ---- requests and answers

-- a request goes out for a script line
abbrev pub asks : Sharing → List ℕ → List ℕ → Asked → Turn
asks s line text asked = record { text = text; after = record s { waits = Store line asked } }

-- the lines that the process doesn't know are asked for
abbrev pub reads : Sharing → List ℕ → Turn
reads s line = asks s line (read_text (next_place s)) Read

-- an entry is offered, which changes nothing in the session
abbrev pub offers : Sharing → List ℕ → Entry → List ℕ → Turn
offers s line entry answer = asks s line (put_text (next_place s) (entry_text entry)) (PutEntry (entry_text entry) answer)

-- the header is offered
abbrev pub offers_header : List ℕ → Sharing → List ℕ → Turn
offers_header cluster s line = asks s line (put_text (next_place s) (header_text cluster)) PutHeader

-- a reply that adds no entry is printed
abbrev pub answers_with : Sharing → Reply → Turn
answers_with s reply = record { text = reply.text; after = record s { session = replied s.session reply; waits = Script } }

-- a reply that adds an entry offers it, and any other comes to something else
abbrev pub offers_or : Turn → Sharing → List ℕ → List ℕ → List Entry → Turn
offers_or other s line answer [] = other
offers_or other s line answer (entry ∷ more) = offers s line entry answer

-- the first request for a script line: an entry is offered at once, and else the log is read to its end
abbrev pub begins : Sharing → List ℕ → Turn
begins s line =
    if s.headed then offers_or (reads s line) s line (reply s.session line).text (reply s.session line).added
    else reads s line

-- the script line in hand is decided on the log, which was read to its end since the line came; a log without a line gets
-- its header first
abbrev pub decides : List ℕ → Sharing → List ℕ → Turn
decides cluster s line =
    if s.headed
    then offers_or (answers_with s (reply s.session line)) s line (reply s.session line).text (reply s.session line).added
    else offers_header cluster s line

-- ---- replies

-- the process ends with this text
abbrev pub ends_with : Sharing → List ℕ → Turn
ends_with s text = record { text = text; after = record s { waits = Nothing } }

-- a line is refused that is no line of a reply
abbrev pub refuses : Sharing → Turn
refuses s = ends_with s (not_reply_text (next_place s))

-- the process knows the header, if nothing refuses it
abbrev pub with_header : Sharing → Option Cause → Result Sharing Cause
with_header s None = Ok (record s { headed = true })
with_header s (Some cause) = Err cause

-- the process knows one more entry, if nothing refuses it
abbrev pub with_entry : Sharing → Result Entry Cause → Result Sharing Cause
with_entry s (Ok entry) = (let session : SessionState = record s.session { log = s.session.log ++ entry ∷ [] } in Ok (record s { session = session }))
with_entry s (Err cause) = Err cause

-- the next line of the log is taken over, as the next line of a cluster's log file is
abbrev pub taken_over : List ℕ → Sharing → List ℕ → Result Sharing Cause
taken_over cluster s text =
    if s.headed then with_entry s (next_entry s.session.log text) else with_header s (header_cause (Some cluster) text)

-- what is due once the reply brought a line: the first line of the reply to an offer tells whether the offer stands
abbrev pub once_told : Asked → List ℕ → Asked
once_told Read text = Read
once_told PutHeader text = Read
once_told (PutEntry offered answer) text = if bytes_eq offered text then Stands answer else Read
once_told (Stands answer) text = Stands answer

-- a line of the log came, and was taken over or refused
abbrev pub told_line : Sharing → List ℕ → Asked → Result Sharing Cause → Turn
told_line s line asked (Ok after) = record { text = []; after = record after { waits = Store line asked } }
told_line s line asked (Err cause) = ends_with s (refused_line_text (record { file = 1; line = next_place s + 1; cause = cause }))

-- the reply has ended: the answer to an offer that stands is printed, and else the script line is decided anew. The reply
-- to an offer has a line
abbrev pub told_end : List ℕ → Sharing → List ℕ → Asked → Turn
told_end cluster s line Read = decides cluster s line
told_end cluster s line PutHeader = refuses s
told_end cluster s line (PutEntry text answer) = refuses s
told_end cluster s line (Stands answer) = record { text = answer; after = record s { waits = Script } }

-- a line of the input comes while a reply is due
abbrev pub is_told : List ℕ → Sharing → List ℕ → Asked → Option Told → Turn
is_told cluster s line asked None = refuses s
is_told cluster s line asked (Some (LogLine text)) = told_line s line (once_told asked text) (taken_over cluster s text)
is_told cluster s line asked (Some End) = told_end cluster s line asked

-- ---- the lines of the input

-- a line of the input comes, by what the process waits for
abbrev pub turn_by : List ℕ → Sharing → List ℕ → Waits → Turn
turn_by cluster s bytes Script = begins s bytes
turn_by cluster s bytes (Store line asked) = is_told cluster s line asked (told_by bytes)
turn_by cluster s bytes Nothing = record { text = []; after = s }

-- a line of the input comes to a process of this cluster
unfoldable pub turn_of : List ℕ → Sharing → List ℕ → Turn
turn_of cluster s bytes = turn_by cluster s bytes s.waits

-- the process after lines of the input, one after another
abbrev pub share_after : List ℕ → Sharing → List (List ℕ) → Sharing
share_after cluster s [] = s
share_after cluster s (bytes ∷ lines) = share_after cluster (turn_of cluster s bytes).after lines

-- the bytes that it prints
abbrev pub share_texts : List ℕ → Sharing → List (List ℕ) → List ℕ
share_texts cluster s [] = []
share_texts cluster s (bytes ∷ lines) = (turn_of cluster s bytes).text ++ share_texts cluster (turn_of cluster s bytes).after lines
