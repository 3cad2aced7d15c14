-- What holds of a system, kept by each event.
use Rattle.std.proofs.Common.{◌≡◌, ℕ, ◌+◌, ◌≤◌, ◌==◌, Bool, true, false, if◌then◌else◌, List, [], ◌∷◌, ◌++◌, length, map, take, Option, Some, None, refl, sym, ap, ◌∙◌, subst, arith, IsTrue, length-append}
use Rattle.std.proofs.lemmas.Bool.{eqb-true}
use Rattle.std.proofs.lemmas.List.{length-take}
use Rattle.std.proofs.lemmas.Slice.Eq.{bytes_eq-Decides}
use Rattle.std.specs.List.{AllByRecursion, slice_get}
use Rattle.cluster_terms.specs.Name.{is_name}
use Rattle.transformations.proofs.lists.ContainsLemmas.{holds_of}
use Rattle.transformations.proofs.lists.ListLemmas.{all_append, all_weaker}
use Rattle.transformations.specs.declared.entry.Entry.{Entry}
use Rattle.wire_json.proofs.headers.HeadersReadBack.{header_reads_back}
use Rattle.wire_json.specs.Header.{header_text}
use Rattle.script_session.proofs.steps.SessionLemmas.{IsSession, session_empty}
use Rattle.script_session.specs.Lines.{HasNoFeed}
use Rattle.script_session.specs.LogFiles.{header_cause, header_read, log_after, next_entry}
use Rattle.script_session.specs.declared.refused_line.Cause.TheVariants as cause
use Rattle.share_machine.specs.Requests.{end_line, log_line}
use Rattle.share_machine.specs.Sharing.{Read, PutHeader, PutEntry, Stands, Nothing, Script, Sharing, Store, Waits, new_sharing, share_after, share_texts}
use Rattle.shared_log_laws.specs.SharedLog.{HasLog}
use Rattle.shared_log_laws.specs.System.{Acts, Answer, Comes, Dies, Event, Offer, Process, Replies, System, after_events, comes_to, happens, hears, if_answered, may_reply, new_process, new_system, offer_sent, put_at_end, replies_to, reply_lines, system_of, told_lines, turned, with_process}
use Rattle.shared_log_laws.proofs.AddedEntries.{entry_plain, header_plain, reads_next}
use Rattle.shared_log_laws.proofs.Fronts.{Front, all_front, all_last, contained_at, front_on, front_short, front_taken, front_then_rest, front_whole}
use Rattle.shared_log_laws.proofs.KnownLogs.{Knows, front_of, has_pushed}
use Rattle.shared_log_laws.proofs.Replies.{IfScript, IsDue, IsReply, comes_well, hears_lines, replies_well}

-- ---- the parts of a system

-- a process knows the log of a front of the store, and no less than its counts say
pub record IsProcess (cluster : List ℕ) (store : List (List ℕ)) (p : Process) : Type 0 where
  pub knows : Knows cluster p.told p.sharing
  pub front : Front p.told store
  pub came : p.came ≤ p.asked
  pub known : length p.told ≤ p.asked
  pub asked : p.asked ≤ length store
  pub due : IsDue p.told p.sharing p.sharing.waits

-- an offer's process knew a front of the store, and the offered line goes on with its log
pub record IsOffer (cluster : List ℕ) (store : List (List ℕ)) (o : Offer) : Type 0 where
  pub front : Front o.knew store
  pub log : List Entry
  pub has : HasLog cluster (o.knew ++ o.text ∷ []) log
  pub plain : HasNoFeed o.text

-- an answer is that of the session machine on a front of the store that is no shorter than the store was when the line came
pub record IsAnswer (cluster : List ℕ) (store : List (List ℕ)) (a : Answer) : Type 0 where
  pub front : Front a.process.told store
  pub log : HasLog cluster a.process.told a.session.log
  pub is : IsSession a.session
  pub came : a.process.came ≤ length a.process.told
  pub told : length a.process.told ≤ a.by
  pub within : a.by ≤ length store
  pub reply : IsReply a.session a.line a.text

-- the store is a log, and its lines have no line feed
pub record IsStore (cluster : List ℕ) (store : List (List ℕ)) : Type 0 where
  pub log : List Entry
  pub has : HasLog cluster store log
  pub plain : AllByRecursion HasNoFeed store

pub record IsSystem (cluster : List ℕ) (s : System) : Type 0 where
  pub store : IsStore cluster s.store
  pub processes : (number : ℕ) → IsProcess cluster s.store (s.processes number)
  pub offers : AllByRecursion (IsOffer cluster s.store) s.offers
  pub answers : AllByRecursion (IsAnswer cluster s.store) s.answers

-- ---- the store grows

module _ (cluster : List ℕ) (store more : List (List ℕ)) where
  longer : length store ≤ length (store ++ more)
  longer = omega (arith, length-append store more)

  process_on : (p : Process) → IsProcess cluster store p → IsProcess cluster (store ++ more) p
  process_on p is = record {
    knows = is.knows;
    front = front_on p.told store more is.front;
    came = is.came;
    known = is.known;
    asked = omega (arith, is.asked, longer);
    due = is.due;
  }

  offer_on : (o : Offer) → IsOffer cluster store o → IsOffer cluster (store ++ more) o
  offer_on o is = record { front = front_on o.knew store more is.front; log = is.log; has = is.has; plain = is.plain }

  answer_on : (a : Answer) → IsAnswer cluster store a → IsAnswer cluster (store ++ more) a
  answer_on a is = record {
    front = front_on a.process.told store more is.front;
    log = is.log;
    is = is.is;
    came = is.came;
    told = is.told;
    within = omega (arith, is.within, longer);
    reply = is.reply;
  }

pub system_on : (cluster : List ℕ) (s : System) (more : List (List ℕ)) → IsStore cluster (s.store ++ more) → IsSystem cluster s → IsSystem cluster (record s { store = s.store ++ more })
system_on cluster s more store is = record {
  store = store;
  processes = λ number. process_on cluster s.store more (s.processes number) (is.processes number);
  offers = all_weaker (IsOffer cluster s.store) (IsOffer cluster (s.store ++ more)) (offer_on cluster s.store more) s.offers is.offers;
  answers = all_weaker (IsAnswer cluster s.store) (IsAnswer cluster (s.store ++ more)) (answer_on cluster s.store more) s.answers is.answers;
}

-- an offer is put at the end of the store
put_well : (cluster : List ℕ) (s : System) (o : Option Offer) → IsSystem cluster s → ((offer : Offer) → o ≡ Some offer → IsOffer cluster s.store offer) → IsSystem cluster (record s { store = put_at_end s.store o })
put_well cluster s None is each = is
put_well cluster s (Some offer) is each = by (length offer.knew == length s.store) refl
  where
    by : (b : Bool) → (length offer.knew == length s.store) ≡ b → IsSystem cluster (record s { store = if b then s.store ++ offer.text ∷ [] else s.store })
    by true e =
        let good = each offer refl in
        let same : offer.knew ≡ s.store = front_whole offer.knew s.store good.front (eqb-true (length offer.knew) (length s.store) e) in
        system_on cluster s (offer.text ∷ [])
        (record {
          log = good.log;
          has = subst (λ ls. HasLog cluster (ls ++ offer.text ∷ []) good.log) same good.has;
          plain = all_append HasNoFeed s.store (offer.text ∷ []) is.store.plain (good.plain, tt);
        }) is
    by false e = is

-- ---- a process takes a turn

header_taken : (cluster : List ℕ) → IsTrue (is_name cluster) → header_cause (Some cluster) (header_text cluster) ≡ None
unfolding header_cause
header_taken cluster named =
    ap (header_read (Some cluster)) (header_reads_back cluster named)
    ∙ ap (λ b. if b then None else Some (cause.Cluster cluster cluster)) ((bytes_eq-Decides cluster cluster).1 refl)

offers_good : (cluster : List ℕ) → IsTrue (is_name cluster) → (store told : List (List ℕ)) (s : Sharing) (w : Waits) → Knows cluster told s → Front told store → IsDue told s w → AllByRecursion (IsOffer cluster store) (offer_sent cluster told w)
offers_good cluster named store told s Script knows front due = tt
offers_good cluster named store told s (Store line Read) knows front due = tt
offers_good cluster named store told s (Store line PutHeader) knows front due = (
  record {
    front = front;
    log = [];
    has = subst (λ ls. HasLog cluster (ls ++ header_text cluster ∷ []) []) (sym due) (ap (λ o. log_after o []) (header_taken cluster named));
    plain = header_plain cluster;
  },
  tt,
)
offers_good cluster named store told s (Store line (PutEntry text answer)) knows front due =
    let entry : Entry = due.entry in (
      record {
        front = front;
        log = s.session.log ++ entry ∷ [];
        has = has_pushed cluster told text s.session.log entry (sym knows.headed ∙ due.headed) knows.log (ap (next_entry s.session.log) due.text_is ∙ reads_next s.session.log entry due.adds.fits);
        plain = subst HasNoFeed (sym due.text_is) (entry_plain entry);
      },
      tt,
    )
offers_good cluster named store told s (Store line (Stands answer)) knows front due = absurd due
offers_good cluster named store told s Nothing knows front due = absurd due

answers_good : (cluster : List ℕ) (store : List (List ℕ)) (a : Answer) (w : Waits) → IfScript w (IsAnswer cluster store a) → AllByRecursion (IsAnswer cluster store) (if_answered w a)
answers_good cluster store a Script is = (is, tt)
answers_good cluster store a (Store line asked) is = tt
answers_good cluster store a Nothing is = tt

if_script : (w : Waits) (P Q : Type 0) → (P → Q) → IfScript w P → IfScript w Q
if_script Script P Q step is = step is
if_script (Store line asked) P Q step is = tt
if_script Nothing P Q step is = tt

with_one : (cluster : List ℕ) (store : List (List ℕ)) (processes : ℕ → Process) (number : ℕ) (p : Process) → ((other : ℕ) → IsProcess cluster store (processes other)) → IsProcess cluster store p
    → (other : ℕ) → IsProcess cluster store (with_process processes number p other)
with_one cluster store processes number p all one other = by (other == number)
  where
    by : (b : Bool) → IsProcess cluster store (if b then p else processes other)
    by true = one
    by false = all other

turned_well : (cluster : List ℕ) → IsTrue (is_name cluster) → (s : System) (number : ℕ) (a : Answer) → IsSystem cluster s → IsProcess cluster s.store a.process → IfScript a.process.sharing.waits (IsAnswer cluster s.store a)
    → IsSystem cluster (turned cluster s number a)
turned_well cluster named s number a is one answer =
    let p : Process = a.process in
    record {
      store = is.store;
      processes = with_one cluster s.store s.processes number p is.processes one;
      offers = all_append (IsOffer cluster s.store) s.offers (offer_sent cluster p.told p.sharing.waits) is.offers (offers_good cluster named s.store p.told p.sharing p.sharing.waits one.knows one.front one.due);
      answers = all_append (IsAnswer cluster s.store) s.answers (if_answered p.sharing.waits a) is.answers (answers_good cluster s.store a p.sharing.waits answer);
    }

-- ---- each event

new_knows : (cluster : List ℕ) → Knows cluster [] new_sharing
new_knows cluster = record { log = refl; headed = refl; is = session_empty }

new_good : (cluster : List ℕ) (store : List (List ℕ)) → IsProcess cluster store new_process
new_good cluster store = record {
  knows = new_knows cluster;
  front = record { more = store; is = refl };
  came = omega arith;
  known = omega arith;
  asked = omega arith;
  due = tt;
}

comes_on : (cluster : List ℕ) → IsTrue (is_name cluster) → (s : System) (number : ℕ) (line : List ℕ) (p : Process) (w : Waits) → IsSystem cluster s → IsProcess cluster s.store p → p.sharing.waits ≡ w → IsSystem cluster (comes_to cluster s number line p w)
comes_on cluster named s number line p Script is one waits =
    let now : ℕ = length s.store in
    let t = comes_well cluster p.told p.sharing line waits one.knows in
    let a : Answer = record {
      line = line;
      text = share_texts cluster p.sharing (line ∷ []);
      session = p.sharing.session;
      by = now;
      process = hears cluster (record p { came = now; asked = now }) (line ∷ []);
    } in
    turned_well cluster named s number a is
    (record {
      knows = t.knows;
      front = one.front;
      came = omega arith;
      known = front_short p.told s.store one.front;
      asked = omega arith;
      due = t.due;
    })
    (if_script (share_after cluster p.sharing (line ∷ [])).waits ⊥ (IsAnswer cluster s.store a) (λ never. absurd never) t.answers)
comes_on cluster named s number line p (Store hand asked) is one waits = is
comes_on cluster named s number line p Nothing is one waits = is

-- the lines of a reply go on with what the process knew
record IsRest (cluster : List ℕ) (store : List (List ℕ)) (p : Process) (lines : List (List ℕ)) : Type 0 where
  front : Front (p.told ++ lines) store
  log : List Entry
  has : HasLog cluster (p.told ++ lines) log
  plain : AllByRecursion HasNoFeed (p.told ++ lines)
  came : p.asked ≤ length (p.told ++ lines)

rest_of : (cluster : List ℕ) (store : List (List ℕ)) (p : Process) (more : ℕ) → IsStore cluster store → IsProcess cluster store p → IsRest cluster store p (reply_lines store p more)
rest_of cluster store p more is one =
    let n : ℕ = p.asked + more in
    let lines : List (List ℕ) = p.told ++ reply_lines store p more in
    let same : lines ≡ take n store = front_then_rest p.told store n one.front (omega (arith, one.known)) in
    let front : Front lines store = subst (λ ls. Front ls store) (sym same) (front_taken n store) in
    let some = front_of cluster lines store is.log front is.has in
    record {
      front = front;
      log = some.log;
      has = some.has;
      plain = all_front HasNoFeed lines store front is.plain;
      came = omega (arith, ap length same, length-take n store, one.asked);
    }

replies_on : (cluster : List ℕ) → IsTrue (is_name cluster) → (s : System) (number : ℕ) (p : Process) (lines : List (List ℕ)) (w : Waits) → IsSystem cluster s → IsProcess cluster s.store p → IsRest cluster s.store p lines → p.sharing.waits ≡ w
    → IsSystem cluster (replies_to cluster s number p lines w)
replies_on cluster named s number p lines Script is one rest waits = is
replies_on cluster named s number p lines Nothing is one rest waits = is
replies_on cluster named s number p lines (Store line asked) is one rest waits = by (may_reply asked lines) refl
  where
    now : ℕ
    now = length s.store

    a : Answer
    a = record {
      line = line;
      text = share_texts cluster p.sharing (map log_line lines ++ end_line ∷ []);
      session = (share_after cluster p.sharing (map log_line lines)).session;
      by = now;
      process = told_lines cluster now p lines;
    }

    by : (b : Bool) → may_reply asked lines ≡ b → IsSystem cluster (if b then turned cluster s number a else s)
    by true may =
        let h = hears_lines cluster p.told lines p.sharing line asked rest.log waits one.knows rest.has rest.plain in
        let t = replies_well cluster p.told lines p.sharing line asked rest.log waits one.knows (subst (IsDue p.told p.sharing) waits one.due) rest.has rest.plain may in
        turned_well cluster named s number a is
        (record {
          knows = t.knows;
          front = rest.front;
          came = omega (arith, one.came, one.asked);
          known = front_short (p.told ++ lines) s.store rest.front;
          asked = omega arith;
          due = t.due;
        })
        (if_script (share_after cluster p.sharing (map log_line lines ++ end_line ∷ [])).waits (IsReply a.session line a.text) (IsAnswer cluster s.store a)
        (λ right. record {
          front = rest.front;
          log = h.knows.log;
          is = h.knows.is;
          came = omega (arith, one.came, rest.came);
          told = front_short (p.told ++ lines) s.store rest.front;
          within = omega arith;
          reply = right;
        }) t.answers)
    by false may = is

acts_on : (cluster : List ℕ) (s : System) (number : ℕ) → IsSystem cluster s → IsSystem cluster (record s { store = put_at_end s.store (slice_get s.offers number) })
acts_on cluster s number is = put_well cluster s (slice_get s.offers number) is (λ offer at. holds_of (IsOffer cluster s.store) s.offers offer is.offers (contained_at s.offers number offer at))

pub happens_well : (cluster : List ℕ) → IsTrue (is_name cluster) → (s : System) (event : Event) → IsSystem cluster s → IsSystem cluster (happens cluster s event)
happens_well cluster named s (Comes number line) is = comes_on cluster named s number line (s.processes number) (s.processes number).sharing.waits is (is.processes number) refl
happens_well cluster named s (Acts number) is = acts_on cluster s number is
happens_well cluster named s (Replies number more) is =
    let p : Process = s.processes number in
    replies_on cluster named s number p (reply_lines s.store p more) p.sharing.waits is (is.processes number) (rest_of cluster s.store p more is.store (is.processes number)) refl
happens_well cluster named s (Dies number) is = record {
  store = is.store;
  processes = with_one cluster s.store s.processes number new_process is.processes (new_good cluster s.store);
  offers = is.offers;
  answers = is.answers;
}

pub after_well : (cluster : List ℕ) → IsTrue (is_name cluster) → (s : System) (events : List Event) → IsSystem cluster s → IsSystem cluster (after_events cluster s events)
after_well cluster named s [] is = is
after_well cluster named s (event ∷ events) is = after_well cluster named (happens cluster s event) events (happens_well cluster named s event is)

pub new_well : (cluster : List ℕ) → IsSystem cluster new_system
new_well cluster = record {
  store = record { log = []; has = refl; plain = tt };
  processes = λ number. new_good cluster [];
  offers = tt;
  answers = tt;
}

pub system_well : (cluster : List ℕ) → IsTrue (is_name cluster) → (events : List Event) → IsSystem cluster (system_of cluster events)
unfolding system_of
system_well cluster named events = after_well cluster named new_system events (new_well cluster)

-- the lines of a reply have no line feed
pub reply_plain : (cluster : List ℕ) (s : System) (number more : ℕ) → IsSystem cluster s → AllByRecursion HasNoFeed (reply_lines s.store (s.processes number) more)
reply_plain cluster s number more is =
    let p : Process = s.processes number in
    all_last HasNoFeed p.told (reply_lines s.store p more) (rest_of cluster s.store p more is.store (is.processes number)).plain
