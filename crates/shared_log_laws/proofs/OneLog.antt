-- The store's lines are one log, and what stands stays.
use Rattle.std.proofs.Common.{◌≡◌, ◌≢◌, ℕ, ◌+◌, ◌==◌, Bool, true, false, if◌then◌else◌, List, [], ◌∷◌, ◌++◌, flat_map, length, Option, Some, None, IsTrue, refl, sym, ap, ◌∙◌, subst, append-nil}
use Rattle.std.specs.List.{slice_get}
use Rattle.cluster_terms.specs.Name.{is_name}
use Rattle.transformations.proofs.histories.HistoryLemmas.{valid_at}
use Rattle.transformations.specs.Log.{commands_of}
use Rattle.script_lang.specs.AnswerTexts.{line}
use Rattle.script_session.specs.Lines.{whole_lines}
use Rattle.script_session.specs.LogFiles.{log_in}
use Rattle.session_laws.proofs.LinesLemmas.{whole_lines-none}
use Rattle.share_machine.specs.Sharing.{Nothing, Script, Sharing, Store, Waits}
use Rattle.shared_log_laws.specs.SharedLog.{IsSharedLog, IsUpTo, StaysIn}
use Rattle.shared_log_laws.specs.System.{Acts, Comes, Dies, Event, Offer, Process, Replies, System, after_events, comes_to, happens, may_reply, new_system, put_at_end, replies_to, reply_lines, system_of}
use Rattle.shared_log_laws.proofs.AddedEntries.{lines_of_lines}
use Rattle.shared_log_laws.proofs.Fronts.{Front, front_same, front_then, front_with, take_front}
use Rattle.shared_log_laws.proofs.KnownLogs.{has_length, session_lines}
use Rattle.shared_log_laws.proofs.Replies.{IsDue}
use Rattle.shared_log_laws.proofs.Systems.{IsProcess, IsStore, system_well}

-- ---- the log

shared : (cluster : List ℕ) (store : List (List ℕ)) → IsStore cluster store → IsSharedLog cluster store
shared cluster store is =
    let session = session_lines cluster store is.log is.plain is.has in
    let cut : whole_lines (flat_map line store) ≡ store =
    ap whole_lines (sym (append-nil (flat_map line store))) ∙ lines_of_lines store [] is.plain ∙ ap (λ ls. store ++ ls) (whole_lines-none [] tt) ∙ append-nil store in
    record {
      log = is.log;
      has = is.has;
      file = ap (log_in (Some cluster)) cut ∙ is.has;
      is = session.is_log;
      valid = λ epoch. valid_at (commands_of is.log) epoch session.is_log.history;
    }

pub one_log : (cluster : List ℕ) (events : List Event) → IsTrue (is_name cluster) → IsSharedLog cluster (system_of cluster events).store
one_log cluster events named = shared cluster (system_of cluster events).store (system_well cluster named events).store

-- ---- a process

goes_on : (told : List (List ℕ)) (s : Sharing) (w : Waits) → IsDue told s w → w ≢ Nothing
goes_on told s Script due e = absurd (cc)
goes_on told s (Store line asked) due e = absurd (cc)
goes_on told s Nothing due e = absurd due

known_up_to : (cluster : List ℕ) (store : List (List ℕ)) (p : Process) → IsProcess cluster store p → IsUpTo cluster store p
known_up_to cluster store p is = record {
  front = take_front p.told store is.front;
  log = is.knows.log;
  place = ap (λ b. if b then length p.sharing.session.log + 1 else 0) is.knows.headed ∙ sym (has_length cluster p.told p.sharing.session.log is.knows.log);
  goes_on = goes_on p.told p.sharing p.sharing.waits is.due;
}

pub up_to : (cluster : List ℕ) (events : List Event) (number : ℕ) → IsTrue (is_name cluster) → IsUpTo cluster (system_of cluster events).store ((system_of cluster events).processes number)
up_to cluster events number named = known_up_to cluster (system_of cluster events).store ((system_of cluster events).processes number) ((system_well cluster named events).processes number)

-- ---- what stands stays

put_grows : (store : List (List ℕ)) (o : Option Offer) → Front store (put_at_end store o)
put_grows store None = front_same store
put_grows store (Some offer) = by (length offer.knew == length store)
  where
    by : (b : Bool) → Front store (if b then store ++ offer.text ∷ [] else store)
    by true = front_with store (offer.text ∷ [])
    by false = front_same store

-- of two systems with the same store either has it
either : (b : Bool) (s turned : System) → turned.store ≡ s.store → Front s.store (if b then turned else s).store
either true s turned same = subst (λ store. Front s.store store) (sym same) (front_same s.store)
either false s turned same = front_same s.store

comes_grows : (cluster : List ℕ) (s : System) (number : ℕ) (line : List ℕ) (p : Process) (w : Waits) → Front s.store (comes_to cluster s number line p w).store
comes_grows cluster s number line p Script = front_same s.store
comes_grows cluster s number line p (Store hand asked) = front_same s.store
comes_grows cluster s number line p Nothing = front_same s.store

replies_grow : (cluster : List ℕ) (s : System) (number : ℕ) (p : Process) (lines : List (List ℕ)) (w : Waits) → Front s.store (replies_to cluster s number p lines w).store
replies_grow cluster s number p lines Script = front_same s.store
replies_grow cluster s number p lines Nothing = front_same s.store
replies_grow cluster s number p lines (Store hand asked) = either (may_reply asked lines) s _ refl

pub happens_grows : (cluster : List ℕ) (s : System) (event : Event) → Front s.store (happens cluster s event).store
happens_grows cluster s (Comes number line) = comes_grows cluster s number line (s.processes number) (s.processes number).sharing.waits
happens_grows cluster s (Acts number) = put_grows s.store (slice_get s.offers number)
happens_grows cluster s (Replies number more) = replies_grow cluster s number (s.processes number) (reply_lines s.store (s.processes number) more) (s.processes number).sharing.waits
happens_grows cluster s (Dies number) = front_same s.store

pub events_grow : (cluster : List ℕ) (s : System) (events : List Event) → Front s.store (after_events cluster s events).store
events_grow cluster s [] = front_same s.store
events_grow cluster s (event ∷ events) = front_then s.store (happens cluster s event).store (after_events cluster (happens cluster s event) events).store (happens_grows cluster s event) (events_grow cluster (happens cluster s event) events)

pub after-append : (cluster : List ℕ) (s : System) (events more : List Event) → after_events cluster s (events ++ more) ≡ after_events cluster (after_events cluster s events) more
after-append cluster s [] more = refl
after-append cluster s (event ∷ events) more = after-append cluster (happens cluster s event) events more

pub store_front : (cluster : List ℕ) (events more : List Event) → Front (system_of cluster events).store (system_of cluster (events ++ more)).store
unfolding system_of
store_front cluster events more =
    let one : System = after_events cluster new_system events in
    subst (λ (s : System). Front one.store s.store) (sym (after-append cluster new_system events more)) (events_grow cluster one more)

pub stays_in : (cluster : List ℕ) (events more : List Event) → StaysIn (system_of cluster events).store (system_of cluster (events ++ more)).store
stays_in cluster events more = take_front (system_of cluster events).store (system_of cluster (events ++ more)).store (store_front cluster events more)
