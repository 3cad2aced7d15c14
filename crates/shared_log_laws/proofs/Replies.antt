-- What a line of the input comes to, for a process that knows a front of the shared log.
use Rattle.std.proofs.Common.{◌≡◌, ℕ, ◌+◌, Bool, true, false, if◌then◌else◌, List, [], ◌∷◌, ◌++◌, length, map, Option, Some, Ok, refl, sym, ap, ◌∙◌, subst, append_assoc, append-nil}
use Rattle.std.proofs.lemmas.List.Elements.{Contains-append_left, Contains-push}
use Rattle.std.proofs.lemmas.Slice.Eq.{bytes_eq-Decides}
use Rattle.std.specs.List.{AllByRecursion, Contains}
use Rattle.std.specs.Str.{bytes_eq}
use Rattle.transformations.proofs.histories.LogLemmas.{id_acts_once, id_answers_again}
use Rattle.transformations.specs.Log.{IsLog}
use Rattle.transformations.specs.declared.entry.Entry.{Entry}
use Rattle.wire_json.specs.EntryTexts.{entry_text}
use Rattle.script_lang.specs.AnswerTexts.{ok_text}
use Rattle.script_lang.specs.Grammar.{line_of}
use Rattle.script_lang.specs.declared.script_line.ScriptLine.{ScriptLine}
use Rattle.script_lang.specs.declared.script_line.ScriptLine.TheVariants.{Commit}
use Rattle.script_session.proofs.steps.SessionLemmas.{after_reply}
use Rattle.script_session.specs.Lines.{HasNoFeed}
use Rattle.script_session.specs.LogFiles.{goes_on, log_from, next_entry}
use Rattle.script_session.specs.Machine.{SessionState, commit_text, reply, reply_to}
use Rattle.share_machine.specs.Requests.{Told, LogLine, End, end_line, log_line, told_by}
use Rattle.share_machine.specs.Sharing.{Asked, Read, PutHeader, PutEntry, Stands, Nothing, Script, Sharing, Store, Turn, Waits, answers_with, begins, decides, is_told, offers, offers_header, offers_or, once_told, reads, share_after, share_texts, told_end, told_line, turn_by, turn_of}
use Rattle.shared_log_laws.specs.SharedLog.{HasLog}
use Rattle.shared_log_laws.specs.System.{may_reply}
use Rattle.shared_log_laws.proofs.AddedEntries.{Adds, AddsOne, adds_at_most, reads_next}
use Rattle.shared_log_laws.proofs.Fronts.{all_first}
use Rattle.shared_log_laws.proofs.KnownLogs.{Knows, front_has, goes_on_from, has_lines, log_from_grows, takes_over, with_log}

-- ---- lines one after another

pub share_after-append : (cluster : List ℕ) (s : Sharing) (a b : List (List ℕ)) → share_after cluster s (a ++ b) ≡ share_after cluster (share_after cluster s a) b
share_after-append cluster s [] b = refl
share_after-append cluster s (bytes ∷ a) b = share_after-append cluster (turn_of cluster s bytes).after a b

pub share_texts-append : (cluster : List ℕ) (s : Sharing) (a b : List (List ℕ)) → share_texts cluster s (a ++ b) ≡ share_texts cluster s a ++ share_texts cluster (share_after cluster s a) b
share_texts-append cluster s [] b = refl
share_texts-append cluster s (bytes ∷ a) b =
    let turn : Turn = turn_of cluster s bytes in
    ap (λ t. turn.text ++ t) (share_texts-append cluster turn.after a b)
    ∙ sym (append_assoc turn.text (share_texts cluster turn.after a) (share_texts cluster (share_after cluster turn.after a) b))

-- ---- the lines of a reply

told_log : (text : List ℕ) → told_by (log_line text) ≡ Some (LogLine text)
unfolding told_by
told_log text = refl

pub told_last : told_by end_line ≡ Some End
unfolding told_by
told_last = refl

pub turn_store : (cluster : List ℕ) (s : Sharing) (bytes line : List ℕ) (asked : Asked) (told : Option Told) → s.waits ≡ Store line asked → told_by bytes ≡ told → turn_of cluster s bytes ≡ is_told cluster s line asked told
unfolding turn_of
turn_store cluster s bytes line asked told waits is = ap (turn_by cluster s bytes) waits ∙ ap (is_told cluster s line asked) is

pub turn_script : (cluster : List ℕ) (s : Sharing) (bytes : List ℕ) → s.waits ≡ Script → turn_of cluster s bytes ≡ begins s bytes
unfolding turn_of
turn_script cluster s bytes waits = ap (turn_by cluster s bytes) waits

-- what is due after several lines of a reply
abbrev pub once_all : Asked → List (List ℕ) → Asked
once_all asked [] = asked
once_all asked (text ∷ lines) = once_all (once_told asked text) lines

-- a process takes over the lines of a reply, and prints nothing
pub record Hears (cluster : List ℕ) (told : List (List ℕ)) (s : Sharing) (line : List ℕ) (asked : Asked) (after : Sharing) (texts : List ℕ) : Type 0 where
  pub quiet : texts ≡ []
  pub knows : Knows cluster told after
  pub waits : after.waits ≡ Store line asked
  pub same : after.session ≡ with_log s.session after.session.log

pub hears_lines : (cluster : List ℕ) (told lines : List (List ℕ)) (s : Sharing) (line : List ℕ) (asked : Asked) (end : List Entry) → s.waits ≡ Store line asked → Knows cluster told s
    → HasLog cluster (told ++ lines) end → AllByRecursion HasNoFeed (told ++ lines)
    → Hears cluster (told ++ lines) s line (once_all asked lines) (share_after cluster s (map log_line lines)) (share_texts cluster s (map log_line lines))
hears_lines cluster told [] s line asked end waits knows has plain = record {
  quiet = refl;
  knows = subst (λ ls. Knows cluster ls s) (sym (append-nil told)) knows;
  waits = waits;
  same = refl;
}
hears_lines cluster told (text ∷ lines) s line asked end waits knows has plain =
    let split : told ++ text ∷ lines ≡ (told ++ text ∷ []) ++ lines = sym (append_assoc told (text ∷ []) lines) in
    let has_all : HasLog cluster ((told ++ text ∷ []) ++ lines) end = subst (λ ls. HasLog cluster ls end) split has in
    let plain_all : AllByRecursion HasNoFeed ((told ++ text ∷ []) ++ lines) = subst (AllByRecursion HasNoFeed) split plain in
    let one = front_has cluster (told ++ text ∷ []) lines end has_all in
    let t = takes_over cluster told text s one.log knows one.has (all_first HasNoFeed (told ++ text ∷ []) lines plain_all) in
    let after : Sharing = record t.after { waits = Store line (once_told asked text) } in
    let turn : turn_of cluster s (log_line text) ≡ record { text = []; after = after } =
    turn_store cluster s (log_line text) line asked (Some (LogLine text)) waits (told_log text) ∙ ap (told_line s line (once_told asked text)) t.takes in
    let rest = hears_lines cluster (told ++ text ∷ []) lines after line (once_told asked text) end refl (record { log = t.knows.log; headed = t.knows.headed; is = t.knows.is }) has_all plain_all in
    subst (λ (u : Turn). Hears cluster (told ++ text ∷ lines) s line (once_all asked (text ∷ lines)) (share_after cluster u.after (map log_line lines)) (u.text ++ share_texts cluster u.after (map log_line lines))) (sym turn)
    (record {
      quiet = rest.quiet;
      knows = subst (λ ls. Knows cluster ls (share_after cluster after (map log_line lines))) (sym split) rest.knows;
      waits = rest.waits;
      same = rest.same ∙ ap (λ session. with_log session (share_after cluster after (map log_line lines)).session.log) t.same;
    })

-- ---- what is due

-- an entry is offered: the line in hand adds it
pub record OffersEntry (s : Sharing) (line text answer : List ℕ) : Type 0 where
  pub entry : Entry
  pub headed : s.headed ≡ true
  pub adds : Adds s.session (line_of line) (reply s.session line) entry
  pub text_is : text ≡ entry_text entry
  pub answer_is : answer ≡ ok_text entry.epoch

-- what a process waits for between two lines of its input or after a whole reply
abbrev pub IsDue : List (List ℕ) → Sharing → Waits → Type 0
IsDue told s Script = Unit {0}
IsDue told s (Store line Read) = Unit {0}
IsDue told s (Store line PutHeader) = told ≡ []
IsDue told s (Store line (PutEntry text answer)) = OffersEntry s line text answer
IsDue told s (Store line (Stands answer)) = ⊥
IsDue told s Nothing = ⊥

-- an answer: that of the session machine, which adds nothing
pub record IsReply (session : SessionState) (line text : List ℕ) : Type 0 where
  pub text_is : text ≡ (reply session line).text
  pub added : (reply session line).added ≡ []

abbrev pub IfScript : Waits → Type 0 → Type 0
IfScript Script P = P
IfScript _ P = Unit {0}

-- a turn of a process that knows these lines; where it answers, Right holds of the text
pub record IsTurn (cluster : List ℕ) (told : List (List ℕ)) (Right : List ℕ → Type 0) (t : Turn) : Type 0 where
  pub knows : Knows cluster told t.after
  pub due : IsDue told t.after t.after.waits
  pub answers : IfScript t.after.waits (Right t.text)

-- ---- decisions

no_lines : (told : List (List ℕ)) → has_lines told ≡ false → told ≡ []
no_lines [] none = refl
no_lines (text ∷ told) none = absurd (cc)

-- a process that waits for something else knows the same
waiting : (cluster : List ℕ) (told : List (List ℕ)) (s : Sharing) (w : Waits) → Knows cluster told s → Knows cluster told (record s { waits = w })
waiting cluster told s w knows = record { log = knows.log; headed = knows.headed; is = knows.is }

offers_well : (cluster : List ℕ) (told : List (List ℕ)) (Right : List ℕ → Type 0) (s : Sharing) (line : List ℕ) (entry : Entry) → Knows cluster told s → s.headed ≡ true → Adds s.session (line_of line) (reply s.session line) entry
    → IsTurn cluster told Right (offers s line entry (reply s.session line).text)
offers_well cluster told Right s line entry knows headed adds = record {
  knows = waiting cluster told s _ knows;
  due = record { entry = entry; headed = headed; adds = adds; text_is = refl; answer_is = adds.text };
  answers = tt;
}

reads_well : (cluster : List ℕ) (told : List (List ℕ)) (Right : List ℕ → Type 0) (s : Sharing) (line : List ℕ) → Knows cluster told s → IsTurn cluster told Right (reads s line)
reads_well cluster told Right s line knows = record { knows = waiting cluster told s _ knows; due = tt; answers = tt }

answers_well : (cluster : List ℕ) (told : List (List ℕ)) (s : Sharing) (line : List ℕ) → Knows cluster told s → (reply s.session line).added ≡ []
    → IsTurn cluster told (IsReply s.session line) (answers_with s (reply s.session line))
answers_well cluster told s line knows none =
    let same : s.session.log ++ (reply s.session line).added ≡ s.session.log = ap (λ l. s.session.log ++ l) none ∙ append-nil s.session.log in
    record {
      knows = record { log = knows.log ∙ ap Ok (sym same); headed = knows.headed; is = (after_reply s.session line knows.is).is };
      due = tt;
      answers = record { text_is = refl; added = none };
    }

-- the first request is no answer
abbrev pub Never : List ℕ → Type 0
Never text = ⊥

pub begins_well : (cluster : List ℕ) (told : List (List ℕ)) (s : Sharing) (line : List ℕ) → Knows cluster told s → IsTurn cluster told Never (begins s line)
begins_well cluster told s line knows = by s.headed refl (reply s.session line).added (adds_at_most s.session line)
  where
    by : (b : Bool) → s.headed ≡ b → (added : List Entry) → AddsOne s.session (line_of line) (reply s.session line) added
        → IsTurn cluster told Never (if b then offers_or (reads s line) s line (reply s.session line).text added else reads s line)
    by true headed [] adds = reads_well cluster told Never s line knows
    by true headed (entry ∷ more) adds = offers_well cluster told Never s line entry knows headed adds
    by false headed added adds = reads_well cluster told Never s line knows

pub decides_well : (cluster : List ℕ) (told : List (List ℕ)) (s : Sharing) (line : List ℕ) → Knows cluster told s → IsTurn cluster told (IsReply s.session line) (decides cluster s line)
decides_well cluster told s line knows = by s.headed refl (reply s.session line).added refl (adds_at_most s.session line)
  where
    by : (b : Bool) → s.headed ≡ b → (added : List Entry) → (reply s.session line).added ≡ added → AddsOne s.session (line_of line) (reply s.session line) added
        → IsTurn cluster told (IsReply s.session line) (if b then offers_or (answers_with s (reply s.session line)) s line (reply s.session line).text added else offers_header cluster s line)
    by true headed [] none adds = answers_well cluster told s line knows none
    by true headed (entry ∷ more) is adds = offers_well cluster told (IsReply s.session line) s line entry knows headed adds
    by false headed added is adds = record { knows = waiting cluster told s _ knows; due = no_lines told (sym knows.headed ∙ headed); answers = tt }

-- ---- the end of a reply

all_read : (lines : List (List ℕ)) → once_all Read lines ≡ Read
all_read [] = refl
all_read (text ∷ lines) = all_read lines

all_stands : (answer : List ℕ) (lines : List (List ℕ)) → once_all (Stands answer) lines ≡ Stands answer
all_stands answer [] = refl
all_stands answer (text ∷ lines) = all_stands answer lines

-- a commit whose entry is in the log is answered with its epoch
stands_again : (session : SessionState) (line : List ℕ) (log : List Entry) (entry : Entry) → line_of line ≡ Some (Commit entry.id entry.cmd) → IsLog log → Contains log entry
    → IsReply (with_log session log) line (ok_text entry.epoch)
unfolding reply
stands_again session line log entry says is there = record {
  text_is = sym (ap (λ (o : Option ScriptLine). (reply_to (with_log session log) o).text) says ∙ ap commit_text (id_answers_again log entry is there));
  added = ap (λ (o : Option ScriptLine). (reply_to (with_log session log) o).added) says ∙ id_acts_once log entry entry.cmd is there;
}

-- the entry of an offer whose line came first is in the log
stands_in : (cluster : List ℕ) (told rest : List (List ℕ)) (first : List ℕ) (log end : List Entry) (entry : Entry) → has_lines told ≡ true → HasLog cluster told log → HasLog cluster (told ++ first ∷ rest) end
    → next_entry log first ≡ Ok entry → Contains end entry
stands_in cluster told rest first log end entry some has has_all next =
    let on : log_from 2 log (first ∷ rest) ≡ Ok end = (goes_on_from cluster told (first ∷ rest) log end some has has_all).is in
    let taken : log_from 2 (log ++ entry ∷ []) rest ≡ Ok end = sym (ap (λ r. goes_on 1 (length log + 2) r (λ e. log_from 2 (log ++ e ∷ []) rest)) next) ∙ on in
    let front = log_from_grows 2 (log ++ entry ∷ []) rest end taken in
    subst (λ (l : List Entry). Contains l entry) (sym front.is) (Contains-append_left (log ++ entry ∷ []) front.more entry (Contains-push log entry))

module _ (cluster : List ℕ) (told : List (List ℕ)) (s : Sharing) (line : List ℕ) (knows : Knows cluster told s) where
  reads_on : (lines : List (List ℕ)) (after : Sharing) → Knows cluster (told ++ lines) after → (more : List (List ℕ)) → IsTurn cluster (told ++ lines) (IsReply after.session line) (told_end cluster after line (once_all Read more))
  reads_on lines after later more =
      subst (λ asked. IsTurn cluster (told ++ lines) (IsReply after.session line) (told_end cluster after line asked)) (sym (all_read more)) (decides_well cluster (told ++ lines) after line later)

  stands_on : (first : List ℕ) (rest : List (List ℕ)) (text answer : List ℕ) (after : Sharing) → Knows cluster (told ++ first ∷ rest) after → after.session ≡ with_log s.session after.session.log → OffersEntry s line text answer → text ≡ first
      → IsTurn cluster (told ++ first ∷ rest) (IsReply after.session line) (record { text = answer; after = record after { waits = Script } })
  stands_on first rest text answer after later same due is =
      let entry : Entry = due.entry in
      let next : next_entry s.session.log first ≡ Ok entry = ap (next_entry s.session.log) (sym is ∙ due.text_is) ∙ reads_next s.session.log entry due.adds.fits in
      let there : Contains after.session.log entry = stands_in cluster told rest first s.session.log after.session.log entry (sym knows.headed ∙ due.headed) knows.log later.log next in
      let again : IsReply (with_log s.session after.session.log) line (ok_text entry.epoch) = stands_again s.session line after.session.log entry due.adds.says later.is.is_log there in
      let with_answer : IsReply (with_log s.session after.session.log) line answer = subst (IsReply (with_log s.session after.session.log) line) (sym due.answer_is) again in
      record {
        knows = waiting cluster (told ++ first ∷ rest) after Script later;
        due = tt;
        answers = subst (λ session. IsReply session line answer) (sym same) with_answer;
      }

  ends_well : (lines : List (List ℕ)) (asked : Asked) → IsDue told s (Store line asked) → may_reply asked lines ≡ true → (after : Sharing) → Knows cluster (told ++ lines) after → after.session ≡ with_log s.session after.session.log
      → IsTurn cluster (told ++ lines) (IsReply after.session line) (told_end cluster after line (once_all asked lines))
  ends_well lines Read due may after later same = reads_on lines after later lines
  ends_well [] PutHeader due may after later same = absurd (cc)
  ends_well (first ∷ rest) PutHeader due may after later same = reads_on (first ∷ rest) after later rest
  ends_well [] (PutEntry text answer) due may after later same = absurd (cc)
  ends_well (first ∷ rest) (PutEntry text answer) due may after later same = by (bytes_eq text first) refl
    where
      by : (b : Bool) → bytes_eq text first ≡ b → IsTurn cluster (told ++ first ∷ rest) (IsReply after.session line) (told_end cluster after line (once_all (if b then Stands answer else Read) rest))
      by true e =
          subst (λ asked. IsTurn cluster (told ++ first ∷ rest) (IsReply after.session line) (told_end cluster after line asked)) (sym (all_stands answer rest))
          (stands_on first rest text answer after later same due ((bytes_eq-Decides text first).0 e))
      by false e = reads_on (first ∷ rest) after later rest
  ends_well lines (Stands answer) due may after later same = absurd due

-- ---- what comes to a process

-- a whole reply comes to a process
pub replies_well : (cluster : List ℕ) (told lines : List (List ℕ)) (s : Sharing) (line : List ℕ) (asked : Asked) (end : List Entry) → s.waits ≡ Store line asked → Knows cluster told s → IsDue told s (Store line asked)
    → HasLog cluster (told ++ lines) end → AllByRecursion HasNoFeed (told ++ lines) → may_reply asked lines ≡ true
    → IsTurn cluster (told ++ lines) (IsReply (share_after cluster s (map log_line lines)).session line)
    (record { text = share_texts cluster s (map log_line lines ++ end_line ∷ []); after = share_after cluster s (map log_line lines ++ end_line ∷ []) })
replies_well cluster told lines s line asked end waits knows due has plain may =
    let after : Sharing = share_after cluster s (map log_line lines) in
    let h = hears_lines cluster told lines s line asked end waits knows has plain in
    let last : turn_of cluster after end_line ≡ told_end cluster after line (once_all asked lines) = turn_store cluster after end_line line (once_all asked lines) (Some End) h.waits told_last in
    let texts : share_texts cluster s (map log_line lines ++ end_line ∷ []) ≡ (told_end cluster after line (once_all asked lines)).text =
    share_texts-append cluster s (map log_line lines) (end_line ∷ []) ∙ (λ i. h.quiet i ++ ((last i).text ++ [])) ∙ append-nil (told_end cluster after line (once_all asked lines)).text in
    let comes : share_after cluster s (map log_line lines ++ end_line ∷ []) ≡ (told_end cluster after line (once_all asked lines)).after =
    share_after-append cluster s (map log_line lines) (end_line ∷ []) ∙ ap (λ (t : Turn). t.after) last in
    let whole : told_end cluster after line (once_all asked lines)
    ≡ record { text = share_texts cluster s (map log_line lines ++ end_line ∷ []); after = share_after cluster s (map log_line lines ++ end_line ∷ []) } =
    (λ i. record { text = sym texts i; after = sym comes i }) in
    subst (λ (t : Turn). IsTurn cluster (told ++ lines) (IsReply after.session line) t) whole (ends_well cluster told s line knows lines asked due may after h.knows h.same)

-- a script line comes to a process
pub comes_well : (cluster : List ℕ) (told : List (List ℕ)) (s : Sharing) (line : List ℕ) → s.waits ≡ Script → Knows cluster told s
    → IsTurn cluster told Never (record { text = share_texts cluster s (line ∷ []); after = share_after cluster s (line ∷ []) })
comes_well cluster told s line waits knows =
    let turn : turn_of cluster s line ≡ begins s line = turn_script cluster s line waits in
    let whole : begins s line ≡ record { text = share_texts cluster s (line ∷ []); after = share_after cluster s (line ∷ []) } =
    (λ i. record { text = sym (append-nil (turn_of cluster s line).text ∙ ap (λ (t : Turn). t.text) turn) i; after = sym (ap (λ (t : Turn). t.after) turn) i }) in
    subst (λ (t : Turn). IsTurn cluster told Never t) whole (begins_well cluster told s line knows)
