-- A process that knows the whole log, and that no other comes before, needs one read for a line that adds nothing.
use Rattle.std.proofs.Common.{◌≡◌, ℕ, ◌+◌, true, if◌then◌else◌, List, [], ◌∷◌, ◌++◌, drop, length, Some, IsTrue, refl, sym, ap, ◌∙◌, subst, append-nil, add-zero, eq-eqb, arith}
use Rattle.std.proofs.Math.Seq.{drop-append_seam}
use Rattle.std.proofs.lemmas.List.{take_all}
use Rattle.cluster_terms.specs.Name.{is_name}
use Rattle.script_session.specs.Machine.{reply}
use Rattle.share_machine.specs.Requests.{End, end_line}
use Rattle.share_machine.specs.Sharing.{Read, Script, Store, Turn, answers_with, decides, offers_header, offers_or, reads, share_texts, turn_of}
use Rattle.shared_log_laws.specs.SharedLog.{AnswersOnce, IsAhead, one_read}
use Rattle.shared_log_laws.specs.System.{Answer, Comes, Event, Process, Replies, System, after_events, comes_to, happens, hears, if_answered, offer_sent, replies_to, reply_lines, system_of, told_lines, turned, with_process}
use Rattle.shared_log_laws.proofs.Replies.{told_last, turn_script, turn_store}
use Rattle.shared_log_laws.proofs.Systems.{IsSystem, system_well}
use Rattle.shared_log_laws.proofs.LoneProcess.{some_lines}

module _ (cluster : List ℕ) (s : System) (is : IsSystem cluster s) (number : ℕ) (line : List ℕ) (ahead : IsAhead s number) (none : (reply (s.processes number).sharing.session line).added ≡ []) where
  abbrev p : Process
  p = s.processes number

  abbrev answer : List ℕ
  answer = (reply p.sharing.session line).text

  headed : p.sharing.headed ≡ true
  headed = (is.processes number).knows.headed ∙ some_lines p.told (omega (arith, ahead.headed, ahead.whole))

  turn : turn_of cluster p.sharing line ≡ reads p.sharing line
  turn =
      turn_script cluster p.sharing line ahead.waits
      ∙ ap (λ b. if b then offers_or (reads p.sharing line) p.sharing line answer (reply p.sharing.session line).added else reads p.sharing line) headed
      ∙ ap (offers_or (reads p.sharing line) p.sharing line answer) none

  abbrev begun : Process
  begun = hears cluster (record p { came = length s.store; asked = length s.store }) (line ∷ [])

  abbrev no_answer : Answer
  no_answer = record {
    line = line;
    text = share_texts cluster p.sharing (line ∷ []);
    session = p.sharing.session;
    by = length s.store;
    process = begun;
  }

  waits_begun : begun.sharing.waits ≡ Store line Read
  waits_begun = ap (λ (t : Turn). t.after.waits) turn

  abbrev asking : System
  asking = record { store = s.store; processes = with_process s.processes number begun; offers = s.offers; answers = s.answers }

  has_come : happens cluster s (Comes number line) ≡ asking
  has_come =
      ap (comes_to cluster s number line p) ahead.waits
      ∙ (λ i. record {
        store = s.store;
        processes = with_process s.processes number begun;
        offers = s.offers ++ offer_sent cluster p.told (waits_begun i);
        answers = s.answers ++ if_answered (waits_begun i) no_answer;
      })
      ∙ (λ i. record {
        store = s.store;
        processes = with_process s.processes number begun;
        offers = append-nil s.offers i;
        answers = append-nil s.answers i;
      })

  mine : asking.processes number ≡ begun
  mine = ap (λ b. if b then begun else s.processes number) (eq-eqb number number refl)

  rest : reply_lines s.store begun 0 ≡ []
  rest =
      ap (drop (length p.told)) (take_all (length s.store + 0) s.store (omega arith))
      ∙ ap (λ n. drop n s.store) ahead.whole ∙ ap (drop (length s.store)) (sym (append-nil s.store)) ∙ drop-append_seam s.store []

  abbrev given : Answer
  given = record {
    line = line;
    text = share_texts cluster begun.sharing (end_line ∷ []);
    session = begun.sharing.session;
    by = length s.store;
    process = told_lines cluster (length s.store) begun [];
  }

  has_replied : happens cluster asking (Replies number 0) ≡ turned cluster asking number given
  has_replied =
      ap (λ (q : Process). replies_to cluster asking number q (reply_lines s.store q 0) q.sharing.waits) mine
      ∙ (λ i. replies_to cluster asking number begun (rest i) (waits_begun i))

  last : turn_of cluster begun.sharing end_line ≡ answers_with (reads p.sharing line).after (reply p.sharing.session line)
  last =
      turn_store cluster begun.sharing end_line line Read (Some End) waits_begun told_last
      ∙ ap (λ (t : Turn). decides cluster t.after line) turn
      ∙ ap (λ b. if b then offers_or (answers_with (reads p.sharing line).after (reply p.sharing.session line)) (reads p.sharing line).after line answer (reply p.sharing.session line).added
      else offers_header cluster (reads p.sharing line).after line) headed
      ∙ ap (offers_or (answers_with (reads p.sharing line).after (reply p.sharing.session line)) (reads p.sharing line).after line answer) none

  waits_given : given.process.sharing.waits ≡ Script
  waits_given = ap (λ (t : Turn). t.after.waits) last

  whole : after_events cluster s (one_read number line) ≡ turned cluster asking number given
  whole = ap (λ (x : System). happens cluster x (Replies number 0)) has_come ∙ has_replied

  mine_given : (turned cluster asking number given).processes number ≡ given.process
  mine_given = ap (λ b. if b then given.process else asking.processes number) (eq-eqb number number refl)

  pub answers_read : AnswersOnce s (after_events cluster s (one_read number line)) number answer []
  answers_read =
      subst (λ (later : System). AnswersOnce s later number answer []) (sym whole)
      (record {
        answer = given;
        answers = ap (λ w. s.answers ++ if_answered w given) waits_given;
        says = append-nil (turn_of cluster begun.sharing end_line).text ∙ ap (λ (t : Turn). t.text) last;
        store = sym (append-nil s.store);
        offers = ap (λ w. length (s.offers ++ offer_sent cluster given.process.told w)) waits_given ∙ ap length (append-nil s.offers) ∙ sym (add-zero (length s.offers));
        ahead = record {
          waits = ap (λ (q : Process). q.sharing.waits) mine_given ∙ waits_given;
          whole = ap (λ (q : Process). length q.told) mine_given ∙ ap length (append-nil p.told) ∙ ahead.whole;
          headed = ahead.headed;
        };
      })

-- after any events
pub lone_read : (cluster : List ℕ) (events : List Event) (number : ℕ) (line : List ℕ) → IsTrue (is_name cluster) → IsAhead (system_of cluster events) number
    → (reply ((system_of cluster events).processes number).sharing.session line).added ≡ []
    → AnswersOnce (system_of cluster events) (after_events cluster (system_of cluster events) (one_read number line)) number
    (reply ((system_of cluster events).processes number).sharing.session line).text []
lone_read cluster events number line named ahead none = answers_read cluster (system_of cluster events) (system_well cluster named events) number line ahead none
