-- Any number of processes of `share` over one store, and all that may happen, one event after another. A request that is
-- lost, or whose reply is lost, is an event that doesn't come; a request that is sent again, and an offer that comes late,
-- are events that come later.
use Rattle.std.specs.Prelude.{ℕ, ◌+◌, Bool, true, false, if◌then◌else◌, ◌==◌, List, [], ◌∷◌, ◌++◌, drop, length, map, take, Option, Some, None}
use Rattle.std.specs.List.{slice_get}
use Rattle.wire_json.specs.Header.{header_text}
use Rattle.script_session.specs.Machine.{SessionState}
use Rattle.share_machine.specs.Requests.{end_line, log_line}
use Rattle.share_machine.specs.Sharing.{Asked, Read, PutHeader, PutEntry, Script, Sharing, Store, Waits, new_sharing, share_after, share_texts}

-- ---- the parts of a system

-- an offer that was sent: the lines of the log that its process knew, and the line that it offered for the next place
pub record Offer : Type 0 where
  pub knew : List (List ℕ)
  pub text : List ℕ

-- a process, and what came to it
pub record Process : Type 0 where
  pub sharing : Sharing
  -- the lines of the log that it was told
  pub told : List (List ℕ)
  -- how many lines the store had when the last script line came
  pub came : ℕ
  -- how many lines the store had when the last request went out
  pub asked : ℕ
  -- the lines of its input, and the bytes that it printed
  pub heard : List (List ℕ)
  pub said : List ℕ

-- an answer: the script line, the bytes that were printed for it, the session that it was answered from, how many lines
-- the store had then, and the process after it
pub record Answer : Type 0 where
  pub line : List ℕ
  pub text : List ℕ
  pub session : SessionState
  pub by : ℕ
  pub process : Process

-- the lines of the store, the processes by their numbers, the offers that were sent, and the answers that were printed
pub record System : Type 0 where
  pub store : List (List ℕ)
  pub processes : ℕ → Process
  pub offers : List Offer
  pub answers : List Answer

-- a process that has just begun
abbrev pub new_process : Process
new_process = record { sharing = new_sharing; told = []; came = 0; asked = 0; heard = []; said = [] }

-- an empty store, and processes that have just begun
abbrev pub new_system : System
new_system = record { store = []; processes = λ name. new_process; offers = []; answers = [] }

-- ---- the turns of a process

-- a process whose input goes on with these lines
abbrev pub hears : List ℕ → Process → List (List ℕ) → Process
hears cluster p lines =
    record p {
      sharing = share_after cluster p.sharing lines;
      heard = p.heard ++ lines;
      said = p.said ++ share_texts cluster p.sharing lines;
    }

-- the offer that a process has sent, if it waits for the reply to an offer
abbrev pub offer_sent : List ℕ → List (List ℕ) → Waits → List Offer
offer_sent cluster told (Store line (PutEntry text answer)) = record { knew = told; text = text } ∷ []
offer_sent cluster told (Store line PutHeader) = record { knew = told; text = header_text cluster } ∷ []
offer_sent cluster told _ = []

-- the answer that was printed, if the process waits for a script line again
abbrev pub if_answered : Waits → Answer → List Answer
if_answered Script answer = answer ∷ []
if_answered _ answer = []

-- the processes, once the one with this number is another
abbrev pub with_process : (ℕ → Process) → ℕ → Process → ℕ → Process
with_process processes number p other = if other == number then p else processes other

-- the system, once the process with this number is another, which has offered or answered what it waits for now
abbrev pub turned : List ℕ → System → ℕ → Answer → System
turned cluster s number answer =
    let p = answer.process in
    record s {
      processes = with_process s.processes number p;
      offers = s.offers ++ offer_sent cluster p.told p.sharing.waits;
      answers = s.answers ++ if_answered p.sharing.waits answer;
    }

-- ---- events

-- a script line comes to a process that waits for one
abbrev pub comes_to : List ℕ → System → ℕ → List ℕ → Process → Waits → System
comes_to cluster s number line p Script =
    let now : ℕ = length s.store in
    turned cluster s number
    (record {
      line = line;
      text = share_texts cluster p.sharing (line ∷ []);
      session = p.sharing.session;
      by = now;
      process = hears cluster (record p { came = now; asked = now }) (line ∷ []);
    })
comes_to cluster s number line p _ = s

-- the store acts on an offer: the line is put if the log ends where the offer's process thought it to end
abbrev pub put_at_end : List (List ℕ) → Option Offer → List (List ℕ)
put_at_end store None = store
put_at_end store (Some offer) = if length offer.knew == length store then store ++ offer.text ∷ [] else store

-- the lines in a reply to a process: all that the store had when the request went out, and maybe more
abbrev pub reply_lines : List (List ℕ) → Process → ℕ → List (List ℕ)
reply_lines store p more = drop (length p.told) (take (p.asked + more) store)

-- whether a reply may have these lines: a reply to an offer has one at least
abbrev pub may_reply : Asked → List (List ℕ) → Bool
may_reply Read lines = true
may_reply asked [] = false
may_reply asked (text ∷ lines) = true

-- the process once it is told lines of the log, up to the end of the reply
abbrev pub told_lines : List ℕ → ℕ → Process → List (List ℕ) → Process
told_lines cluster now p lines = hears cluster (record p { told = p.told ++ lines; asked = now }) (map log_line lines ++ end_line ∷ [])

-- a reply comes to a process that waits for one
abbrev pub replies_to : List ℕ → System → ℕ → Process → List (List ℕ) → Waits → System
replies_to cluster s number p lines (Store line asked) =
    if may_reply asked lines
    then turned cluster s number
    (record {
      line = line;
      text = share_texts cluster p.sharing (map log_line lines ++ end_line ∷ []);
      session = (share_after cluster p.sharing (map log_line lines)).session;
      by = length s.store;
      process = told_lines cluster (length s.store) p lines;
    })
    else s
replies_to cluster s number p lines _ = s

-- what may happen
pub data Event : Type 0 where
  -- a script line comes to a process
  Comes : (process : ℕ) (line : List ℕ) → Event
  -- the store acts on an offer, maybe late or once more
  Acts : (offer : ℕ) → Event
  -- the reply to its request comes to a process, with so many lines more than the store had when the request went out
  Replies : (process more : ℕ) → Event
  -- a process dies, and a new one takes its number; its offers are still under way
  Dies : (process : ℕ) → Event

-- the system after an event; an event that can't come changes nothing
abbrev pub happens : List ℕ → System → Event → System
happens cluster s (Comes number line) = comes_to cluster s number line (s.processes number) (s.processes number).sharing.waits
happens cluster s (Acts number) = record s { store = put_at_end s.store (slice_get s.offers number) }
happens cluster s (Replies number more) =
    replies_to cluster s number (s.processes number) (reply_lines s.store (s.processes number) more) (s.processes number).sharing.waits
happens cluster s (Dies number) = record s { processes = with_process s.processes number new_process }

-- the system after events, one after another
abbrev pub after_events : List ℕ → System → List Event → System
after_events cluster s [] = s
after_events cluster s (event ∷ events) = after_events cluster (happens cluster s event) events

-- the system of a cluster after events from its beginning on
unfoldable pub system_of : List ℕ → List Event → System
system_of cluster events = after_events cluster new_system events
