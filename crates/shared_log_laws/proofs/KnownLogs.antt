-- The log in the lines that a process knows, and one line more.
use Rattle.std.proofs.Common.{◌≡◌, ℕ, ◌+◌, ◌==◌, Bool, true, false, if◌then◌else◌, List, [], ◌∷◌, ◌++◌, flat_map, length, Option, Some, None, Result, Ok, Err, refl, sym, ap, ◌∙◌, subst, append-nil, arith, length-append}
use Rattle.std.proofs.lemmas.Bool.{and_parts, eqb-true}
use Rattle.std.specs.List.{AllByRecursion}
use Rattle.transformations.specs.Log.{are_numbered, have_own_ids}
use Rattle.transformations.specs.declared.entry.Entry.{Entry}
use Rattle.script_lang.specs.AnswerTexts.{line}
use Rattle.script_session.proofs.followers.FollowerLemmas.{all_follow_on}
use Rattle.script_session.proofs.replies.KeptReplyLemmas.{all_from_on}
use Rattle.script_session.proofs.steps.SessionLemmas.{IsSession}
use Rattle.script_session.specs.Lines.{HasNoFeed, whole_lines}
use Rattle.script_session.specs.LogFiles.{goes_on, header_cause, log_after, log_from, log_in, next_entry}
use Rattle.script_session.specs.Machine.{SessionState, session_over}
use Rattle.script_session.specs.declared.refused_line.Cause.{Cause}
use Rattle.session_laws.proofs.FileLogs.{session_for}
use Rattle.session_laws.proofs.LinesLemmas.{whole_lines-none}
use Rattle.share_machine.specs.Sharing.{Sharing, taken_over, with_entry, with_header}
use Rattle.shared_log_laws.specs.SharedLog.{HasLog}
use Rattle.shared_log_laws.proofs.AddedEntries.{lines_of_lines}
use Rattle.shared_log_laws.proofs.Fronts.{Front, front_same, front_then, front_with}

-- ---- lines of a log, in two parts

-- the first lines make a log, and the others go on from it
pub record Parts (first : ℕ) (log : List Entry) (a b : List (List ℕ)) (end : List Entry) : Type 0 where
  pub mid : List Entry
  pub front : log_from first log a ≡ Ok mid
  pub rest : log_from first mid b ≡ Ok end

pub parts_from : (first : ℕ) (log : List Entry) (a b : List (List ℕ)) (end : List Entry) → log_from first log (a ++ b) ≡ Ok end → Parts first log a b end
parts_from first log [] b end is = record { mid = log; front = refl; rest = is }
parts_from first log (bytes ∷ a) b end is = by (next_entry log bytes) refl (λ entry. parts_from first (log ++ entry ∷ []) a b end) is
  where
    by : (r : Result Entry Cause) → next_entry log bytes ≡ r → ((entry : Entry) → log_from first (log ++ entry ∷ []) (a ++ b) ≡ Ok end → Parts first (log ++ entry ∷ []) a b end)
        → goes_on 1 (length log + first) r (λ entry. log_from first (log ++ entry ∷ []) (a ++ b)) ≡ Ok end → Parts first log (bytes ∷ a) b end
    by (Ok entry) e later is =
        let p = later entry is in
        record {
          mid = p.mid;
          front = ap (λ r. goes_on 1 (length log + first) r (λ entry. log_from first (log ++ entry ∷ []) a)) e ∙ p.front;
          rest = p.rest;
        }
    by (Err cause) e later is = absurd (cc)

pub log_from_on : (first : ℕ) (log : List Entry) (a b : List (List ℕ)) (mid : List Entry) → log_from first log a ≡ Ok mid → log_from first log (a ++ b) ≡ log_from first mid b
log_from_on first log [] b mid is = (let same : log ≡ mid = cc in ap (λ l. log_from first l b) same)
log_from_on first log (bytes ∷ a) b mid is = by (next_entry log bytes) (λ entry. log_from_on first (log ++ entry ∷ []) a b mid) is
  where
    by : (r : Result Entry Cause) → ((entry : Entry) → log_from first (log ++ entry ∷ []) a ≡ Ok mid → log_from first (log ++ entry ∷ []) (a ++ b) ≡ log_from first mid b)
        → goes_on 1 (length log + first) r (λ entry. log_from first (log ++ entry ∷ []) a) ≡ Ok mid → goes_on 1 (length log + first) r (λ entry. log_from first (log ++ entry ∷ []) (a ++ b)) ≡ log_from first mid b
    by (Ok entry) later is = later entry is
    by (Err cause) later is = absurd (cc)

-- the log only grows
pub log_from_grows : (first : ℕ) (log : List Entry) (lines : List (List ℕ)) (end : List Entry) → log_from first log lines ≡ Ok end → Front log end
log_from_grows first log [] end is = (let same : log ≡ end = cc in subst (Front log) same (front_same log))
log_from_grows first log (bytes ∷ lines) end is = by (next_entry log bytes) (λ entry. log_from_grows first (log ++ entry ∷ []) lines end) is
  where
    by : (r : Result Entry Cause) → ((entry : Entry) → log_from first (log ++ entry ∷ []) lines ≡ Ok end → Front (log ++ entry ∷ []) end)
        → goes_on 1 (length log + first) r (λ entry. log_from first (log ++ entry ∷ []) lines) ≡ Ok end → Front log end
    by (Ok entry) later is = front_then log (log ++ entry ∷ []) end (front_with log (entry ∷ [])) (later entry is)
    by (Err cause) later is = absurd (cc)

-- each line but the header is an entry
pub log_from_length : (first : ℕ) (log : List Entry) (lines : List (List ℕ)) (end : List Entry) → log_from first log lines ≡ Ok end → length end ≡ length log + length lines
log_from_length first log [] end is = (let same : log ≡ end = cc in omega (arith, ap length same))
log_from_length first log (bytes ∷ lines) end is = by (next_entry log bytes) (λ entry. log_from_length first (log ++ entry ∷ []) lines end) is
  where
    by : (r : Result Entry Cause) → ((entry : Entry) → log_from first (log ++ entry ∷ []) lines ≡ Ok end → length end ≡ length (log ++ entry ∷ []) + length lines)
        → goes_on 1 (length log + first) r (λ entry. log_from first (log ++ entry ∷ []) lines) ≡ Ok end → length end ≡ length log + length (bytes ∷ lines)
    by (Ok entry) later is = omega (arith, later entry is, length-append log (entry ∷ []))
    by (Err cause) later is = absurd (cc)

-- ---- the log of a cluster in lines

-- a front of the lines has a log
pub record HasSome (cluster : List ℕ) (lines : List (List ℕ)) : Type 0 where
  pub log : List Entry
  pub has : HasLog cluster lines log

pub front_has : (cluster : List ℕ) (a b : List (List ℕ)) (end : List Entry) → HasLog cluster (a ++ b) end → HasSome cluster a
front_has cluster [] b end is = record { log = []; has = refl }
front_has cluster (h ∷ a) b end is = by (header_cause (Some cluster) h) refl is
  where
    by : (o : Option Cause) → header_cause (Some cluster) h ≡ o → log_after o (a ++ b) ≡ Ok end → HasSome cluster (h ∷ a)
    by None e is = (let p = parts_from 2 [] a b end is in record { log = p.mid; has = ap (λ o. log_after o a) e ∙ p.front })
    by (Some cause) e is = absurd (cc)

pub front_of : (cluster : List ℕ) (lines store : List (List ℕ)) (end : List Entry) → Front lines store → HasLog cluster store end → HasSome cluster lines
front_of cluster lines store end front is = front_has cluster lines front.more end (ap (log_in (Some cluster)) (sym front.is) ∙ is)

-- whether there is a line
abbrev pub has_lines : List (List ℕ) → Bool
has_lines [] = false
has_lines (text ∷ lines) = true

-- the log of a longer list of lines that begin with a header
pub record GoesOn (cluster : List ℕ) (log : List Entry) (more : List (List ℕ)) (end : List Entry) : Type 0 where
  pub is : log_from 2 log more ≡ Ok end

pub goes_on_from : (cluster : List ℕ) (lines more : List (List ℕ)) (log end : List Entry) → has_lines lines ≡ true → HasLog cluster lines log → HasLog cluster (lines ++ more) end → GoesOn cluster log more end
goes_on_from cluster [] more log end some one two = absurd (cc)
goes_on_from cluster (h ∷ lines) more log end some one two = by (header_cause (Some cluster) h) one two
  where
    by : (o : Option Cause) → log_after o lines ≡ Ok log → log_after o (lines ++ more) ≡ Ok end → GoesOn cluster log more end
    by None one two = record { is = sym (log_from_on 2 [] lines more log one) ∙ two }
    by (Some cause) one two = absurd (cc)

-- an entry more
pub has_pushed : (cluster : List ℕ) (lines : List (List ℕ)) (text : List ℕ) (log : List Entry) (entry : Entry) → has_lines lines ≡ true → HasLog cluster lines log → next_entry log text ≡ Ok entry
    → HasLog cluster (lines ++ text ∷ []) (log ++ entry ∷ [])
has_pushed cluster [] text log entry some is next = absurd (cc)
has_pushed cluster (h ∷ lines) text log entry some is next = by (header_cause (Some cluster) h) is
  where
    by : (o : Option Cause) → log_after o lines ≡ Ok log → log_after o (lines ++ text ∷ []) ≡ Ok (log ++ entry ∷ [])
    by None is = log_from_on 2 [] lines (text ∷ []) log is ∙ ap (λ r. goes_on 1 (length log + 2) r (λ entry. log_from 2 (log ++ entry ∷ []) [])) next
    by (Some cause) is = absurd (cc)

-- a log has a line for its header and one for each entry
pub has_length : (cluster : List ℕ) (lines : List (List ℕ)) (log : List Entry) → HasLog cluster lines log → length lines ≡ (if has_lines lines then length log + 1 else 0)
has_length cluster [] log is = refl
has_length cluster (h ∷ lines) log is = by (header_cause (Some cluster) h) is
  where
    by : (o : Option Cause) → log_after o lines ≡ Ok log → length (h ∷ lines) ≡ length log + 1
    by None is = omega (arith, log_from_length 2 [] lines log is)
    by (Some cause) is = absurd (cc)

-- lines without line feeds that have a log are one that a session may begin with
pub session_lines : (cluster : List ℕ) (lines : List (List ℕ)) (log : List Entry) → AllByRecursion HasNoFeed lines → HasLog cluster lines log → IsSession (session_over log)
session_lines cluster lines log plain is =
    let cut : whole_lines (flat_map line lines) ≡ lines =
    ap whole_lines (sym (append-nil (flat_map line lines))) ∙ lines_of_lines lines [] plain ∙ ap (λ ls. lines ++ ls) (whole_lines-none [] tt) ∙ append-nil lines in
    session_for (Some cluster) (flat_map line lines) log (ap (log_in (Some cluster)) cut ∙ is)

-- ---- a session whose log goes on

-- the session with another log
abbrev pub with_log : SessionState → List Entry → SessionState
with_log session log = record session { log = log }

last_epoch : (n : ℕ) (log : List Entry) (entry : Entry) → are_numbered n (log ++ entry ∷ []) ≡ true → entry.epoch ≡ n + length log
last_epoch n [] entry all = (let same = eqb-true entry.epoch n (and_parts (entry.epoch == n) true all).0 in omega arith)
last_epoch n (first ∷ log) entry all =
    let rest = last_epoch (n + 1) log entry (and_parts (first.epoch == n) (are_numbered (n + 1) (log ++ entry ∷ [])) all).1 in
    omega (arith, rest)

pub session_on : (session : SessionState) (entry : Entry) → IsSession session → IsSession (session_over (session.log ++ entry ∷ [])) → IsSession (with_log session (session.log ++ entry ∷ []))
session_on session entry is over =
    let log : List Entry = session.log ++ entry ∷ [] in
    let epoch : entry.epoch ≡ 1 + length session.log = last_epoch 1 session.log entry (and_parts (are_numbered 1 log) (have_own_ids log) over.is_log.entries).0 in
    record {
      is_log = over.is_log;
      history = over.history;
      follow = all_follow_on session.log entry session.followers (omega (arith, epoch)) is.follow;
      replies = all_from_on session.log entry session.replies is.replies;
    }

-- ---- what a process knows

-- a process knows the log of the lines that it was told
pub record Knows (cluster : List ℕ) (told : List (List ℕ)) (s : Sharing) : Type 0 where
  pub log : HasLog cluster told s.session.log
  pub headed : s.headed ≡ has_lines told
  pub is : IsSession s.session

-- it takes over the next line of a log
pub record TakesOver (cluster : List ℕ) (told : List (List ℕ)) (text : List ℕ) (s : Sharing) : Type 0 where
  pub after : Sharing
  pub takes : taken_over cluster s text ≡ Ok after
  pub knows : Knows cluster (told ++ text ∷ []) after
  pub same : after.session ≡ with_log s.session after.session.log

has_lines-push : (lines : List (List ℕ)) (text : List ℕ) → has_lines (lines ++ text ∷ []) ≡ true
has_lines-push [] text = refl
has_lines-push (h ∷ lines) text = refl

pub takes_over : (cluster : List ℕ) (told : List (List ℕ)) (text : List ℕ) (s : Sharing) (end : List Entry) → Knows cluster told s → HasLog cluster (told ++ text ∷ []) end → AllByRecursion HasNoFeed (told ++ text ∷ [])
    → TakesOver cluster told text s
takes_over cluster [] text s end knows has plain = by (header_cause (Some cluster) text) refl has
  where
    by : (o : Option Cause) → header_cause (Some cluster) text ≡ o → log_after o [] ≡ Ok end → TakesOver cluster [] text s
    by None e is =
        let same : [] ≡ s.session.log = cc in
        record {
          after = record s { headed = true };
          takes = ap (λ b. if b then with_entry s (next_entry s.session.log text) else with_header s (header_cause (Some cluster) text)) knows.headed ∙ ap (with_header s) e;
          knows = record { log = ap (λ o. log_after o []) e ∙ ap Ok same; headed = refl; is = knows.is };
          same = refl;
        }
    by (Some cause) e is = absurd (cc)
takes_over cluster (h ∷ told) text s end knows has plain = by (next_entry s.session.log text) refl (goes_on_from cluster (h ∷ told) (text ∷ []) s.session.log end refl knows.log has).is
  where
    by : (r : Result Entry Cause) → next_entry s.session.log text ≡ r → goes_on 1 (length s.session.log + 2) r (λ entry. log_from 2 (s.session.log ++ entry ∷ []) []) ≡ Ok end → TakesOver cluster (h ∷ told) text s
    by (Ok entry) e is =
        let pushed = has_pushed cluster (h ∷ told) text s.session.log entry refl knows.log e in
        record {
          after = record s { session = with_log s.session (s.session.log ++ entry ∷ []) };
          takes = ap (λ b. if b then with_entry s (next_entry s.session.log text) else with_header s (header_cause (Some cluster) text)) knows.headed ∙ ap (with_entry s) e;
          knows = record {
            log = pushed;
            headed = knows.headed;
            is = session_on s.session entry knows.is (session_lines cluster (h ∷ told ++ text ∷ []) (s.session.log ++ entry ∷ []) plain pushed);
          };
          same = refl;
        }
    by (Err cause) e is = absurd (cc)
