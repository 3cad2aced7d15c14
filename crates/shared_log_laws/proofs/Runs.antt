-- What a process has printed is what `share` prints over its input.
use Rattle.std.proofs.Common.{◌≡◌, ℕ, ◌==◌, Bool, true, false, if◌then◌else◌, List, [], ◌∷◌, ◌++◌, length, map, IsTrue, refl, sym, ap, ◌∙◌, append-nil}
use Rattle.std.specs.List.{AllByRecursion, Contains}
use Rattle.cluster_terms.specs.Name.{is_name}
use Rattle.transformations.proofs.lists.ContainsLemmas.{holds_of}
use Rattle.transformations.proofs.lists.ListLemmas.{all_append}
use Rattle.script_session.specs.Lines.{HasNoFeed, open_line, whole_lines}
use Rattle.session_laws.proofs.LinesLemmas.{open_line-none, whole_lines-none}
use Rattle.share_machine.specs.Outcome.{ended, share_outcome}
use Rattle.share_machine.specs.Requests.{end_line, log_line}
use Rattle.share_machine.specs.Sharing.{Nothing, Script, Store, Waits, new_sharing, share_after, share_texts}
use Rattle.shared_log_laws.specs.SharedLog.{HasLine, PrintsAnswer, RunsShare, input_of}
use Rattle.shared_log_laws.specs.System.{Acts, Answer, Comes, Dies, Event, Process, Replies, System, after_events, comes_to, happens, hears, if_answered, may_reply, new_process, new_system, replies_to, reply_lines, system_of, told_lines, turned, with_process}
use Rattle.shared_log_laws.proofs.AddedEntries.{lines_of_lines, open_of_lines}
use Rattle.shared_log_laws.proofs.Replies.{share_after-append, share_texts-append}
use Rattle.shared_log_laws.proofs.Systems.{IsSystem, happens_well, new_well, reply_plain}

-- a process is where its input leads
pub record IsRun (cluster : List ℕ) (p : Process) : Type 0 where
  pub after : share_after cluster new_sharing p.heard ≡ p.sharing
  pub said : share_texts cluster new_sharing p.heard ≡ p.said
  pub plain : AllByRecursion HasNoFeed p.heard

-- an answer was printed last
pub record IsPrinted (cluster : List ℕ) (a : Answer) : Type 0 where
  pub run : IsRun cluster a.process
  pub waits : a.process.sharing.waits ≡ Script
  pub before : List ℕ
  pub said : a.process.said ≡ before ++ a.text

pub record AreRuns (cluster : List ℕ) (s : System) : Type 0 where
  pub processes : (number : ℕ) → IsRun cluster (s.processes number)
  pub answers : AllByRecursion (IsPrinted cluster) s.answers

hears_run : (cluster : List ℕ) (p : Process) (lines : List (List ℕ)) → IsRun cluster p → AllByRecursion HasNoFeed lines → IsRun cluster (hears cluster p lines)
hears_run cluster p lines run plain = record {
  after = share_after-append cluster new_sharing p.heard lines ∙ ap (λ s. share_after cluster s lines) run.after;
  said = share_texts-append cluster new_sharing p.heard lines ∙ (λ i. run.said i ++ share_texts cluster (run.after i) lines);
  plain = all_append HasNoFeed p.heard lines run.plain plain;
}

with_run : (cluster : List ℕ) (processes : ℕ → Process) (number : ℕ) (p : Process) → ((other : ℕ) → IsRun cluster (processes other)) → IsRun cluster p → (other : ℕ) → IsRun cluster (with_process processes number p other)
with_run cluster processes number p all one other = by (other == number)
  where
    by : (b : Bool) → IsRun cluster (if b then p else processes other)
    by true = one
    by false = all other

turned_runs : (cluster : List ℕ) (s : System) (number : ℕ) (a : Answer) (before : List ℕ) → AreRuns cluster s → IsRun cluster a.process → a.process.said ≡ before ++ a.text → AreRuns cluster (turned cluster s number a)
turned_runs cluster s number a before are run said = record {
  processes = with_run cluster s.processes number a.process are.processes run;
  answers = all_append (IsPrinted cluster) s.answers (if_answered a.process.sharing.waits a) are.answers (by a.process.sharing.waits refl);
}
  where
    by : (w : Waits) → a.process.sharing.waits ≡ w → AllByRecursion (IsPrinted cluster) (if_answered w a)
    by Script waits = (record { run = run; waits = waits; before = before; said = said }, tt)
    by (Store line asked) waits = tt
    by Nothing waits = tt

log_plain : (lines : List (List ℕ)) → AllByRecursion HasNoFeed lines → AllByRecursion HasNoFeed (map log_line lines ++ end_line ∷ [])
log_plain [] all = ((refl, (refl, (refl, tt))), tt)
log_plain (text ∷ lines) all = ((refl, (refl, (refl, (refl, all.0)))), log_plain lines all.1)

comes_runs : (cluster : List ℕ) (s : System) (number : ℕ) (line : List ℕ) (p : Process) (w : Waits) → HasNoFeed line → AreRuns cluster s → IsRun cluster p → AreRuns cluster (comes_to cluster s number line p w)
comes_runs cluster s number line p Script plain are run =
    let begun : Process = record p { came = length s.store; asked = length s.store } in
    turned_runs cluster s number _ p.said are (hears_run cluster begun (line ∷ []) (record { after = run.after; said = run.said; plain = run.plain }) (plain, tt)) refl
comes_runs cluster s number line p (Store hand asked) plain are run = are
comes_runs cluster s number line p Nothing plain are run = are

replies_run : (cluster : List ℕ) (s : System) (number : ℕ) (p : Process) (lines : List (List ℕ)) (w : Waits) → AllByRecursion HasNoFeed lines → AreRuns cluster s → IsRun cluster p → AreRuns cluster (replies_to cluster s number p lines w)
replies_run cluster s number p lines Script plain are run = are
replies_run cluster s number p lines Nothing plain are run = are
replies_run cluster s number p lines (Store hand asked) plain are run = by (may_reply asked lines)
  where
    a : Answer
    a = record {
      line = hand;
      text = share_texts cluster p.sharing (map log_line lines ++ end_line ∷ []);
      session = (share_after cluster p.sharing (map log_line lines)).session;
      by = length s.store;
      process = told_lines cluster (length s.store) p lines;
    }

    told : Process
    told = record p { told = p.told ++ lines; asked = length s.store }

    by : (b : Bool) → AreRuns cluster (if b then turned cluster s number a else s)
    by true = turned_runs cluster s number a p.said are (hears_run cluster told (map log_line lines ++ end_line ∷ []) (record { after = run.after; said = run.said; plain = run.plain }) (log_plain lines plain)) refl
    by false = are

new_run : (cluster : List ℕ) → IsRun cluster new_process
new_run cluster = record { after = refl; said = refl; plain = tt }

happens_runs : (cluster : List ℕ) (s : System) (event : Event) → IsSystem cluster s → HasLine event → AreRuns cluster s → AreRuns cluster (happens cluster s event)
happens_runs cluster s (Comes number line) is plain are = comes_runs cluster s number line (s.processes number) (s.processes number).sharing.waits plain are (are.processes number)
happens_runs cluster s (Acts number) is plain are = record { processes = are.processes; answers = are.answers }
happens_runs cluster s (Replies number more) is plain are =
    replies_run cluster s number (s.processes number) (reply_lines s.store (s.processes number) more) (s.processes number).sharing.waits (reply_plain cluster s number more is) are (are.processes number)
happens_runs cluster s (Dies number) is plain are = record { processes = with_run cluster s.processes number new_process are.processes (new_run cluster); answers = are.answers }

after_runs : (cluster : List ℕ) → IsTrue (is_name cluster) → (s : System) (events : List Event) → IsSystem cluster s → AllByRecursion HasLine events → AreRuns cluster s → AreRuns cluster (after_events cluster s events)
after_runs cluster named s [] is plain are = are
after_runs cluster named s (event ∷ events) is plain are =
    after_runs cluster named (happens cluster s event) events (happens_well cluster named s event is) plain.1 (happens_runs cluster s event is plain.0 are)

system_runs : (cluster : List ℕ) → IsTrue (is_name cluster) → (events : List Event) → AllByRecursion HasLine events → AreRuns cluster (system_of cluster events)
unfolding system_of
system_runs cluster named events plain = after_runs cluster named new_system events (new_well cluster) plain (record { processes = λ number. new_run cluster; answers = tt })

-- ---- the outcome

run_outcome : (cluster : List ℕ) (p : Process) → IsRun cluster p → RunsShare cluster p
unfolding share_outcome
run_outcome cluster p run =
    let whole : whole_lines (input_of p) ≡ p.heard =
    ap whole_lines (sym (append-nil (input_of p))) ∙ lines_of_lines p.heard [] run.plain ∙ ap (λ ls. p.heard ++ ls) (whole_lines-none [] tt) ∙ append-nil p.heard in
    let none : open_line (input_of p) ≡ [] = ap open_line (sym (append-nil (input_of p))) ∙ open_of_lines p.heard [] run.plain ∙ open_line-none [] tt in
    let after : share_after cluster new_sharing (whole_lines (input_of p)) ≡ p.sharing = ap (share_after cluster new_sharing) whole ∙ run.after in
    let texts : share_texts cluster new_sharing (whole_lines (input_of p)) ≡ p.said = ap (share_texts cluster new_sharing) whole ∙ run.said in
    (λ i. ended (after i) (texts i) (none i) (after i).waits)

pub runs_share : (cluster : List ℕ) (events : List Event) (number : ℕ) → IsTrue (is_name cluster) → AllByRecursion HasLine events → RunsShare cluster ((system_of cluster events).processes number)
runs_share cluster events number named plain = run_outcome cluster ((system_of cluster events).processes number) ((system_runs cluster named events plain).processes number)

pub prints_answer : (cluster : List ℕ) (events : List Event) (a : Answer) → IsTrue (is_name cluster) → AllByRecursion HasLine events → Contains (system_of cluster events).answers a → PrintsAnswer cluster a
prints_answer cluster events a named plain among =
    let is = holds_of (IsPrinted cluster) (system_of cluster events).answers a (system_runs cluster named events plain).answers among in
    record {
      before = is.before;
      said = is.said;
      outcome = run_outcome cluster a.process is.run ∙ ap (ended a.process.sharing a.process.said []) is.waits;
    }
