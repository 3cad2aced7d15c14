-- A process that knows the whole log, and that no other comes before, needs one offer for a line.
use Rattle.std.proofs.Common.{◌≡◌, ℕ, ◌+◌, ◌<◌, true, if◌then◌else◌, List, [], ◌∷◌, ◌++◌, drop, length, map, Some, IsTrue, refl, sym, ap, ◌∙◌, subst, append-nil, eq-eqb, arith, length-append}
use Rattle.std.proofs.Math.Seq.{drop-append_seam}
use Rattle.std.proofs.lemmas.List.{take_all}
use Rattle.std.proofs.lemmas.Slice.Eq.{bytes_eq-Decides}
use Rattle.std.specs.List.{slice_get}
use Rattle.cluster_terms.specs.Name.{is_name}
use Rattle.transformations.proofs.lists.ListLemmas.{all_append}
use Rattle.transformations.specs.declared.entry.Entry.{Entry}
use Rattle.wire_json.specs.EntryTexts.{entry_text}
use Rattle.script_lang.specs.Grammar.{line_of}
use Rattle.script_session.specs.Lines.{HasNoFeed}
use Rattle.script_session.specs.Machine.{reply}
use Rattle.share_machine.specs.Requests.{End, end_line, log_line}
use Rattle.share_machine.specs.Sharing.{Read, PutEntry, Stands, Script, Sharing, Store, Turn, Waits, offers, offers_or, reads, share_after, share_texts, told_end, turn_of}
use Rattle.shared_log_laws.specs.SharedLog.{AnswersOnce, IsAhead, one_offer}
use Rattle.shared_log_laws.specs.System.{Acts, Answer, Comes, Event, Offer, Process, Replies, System, after_events, comes_to, happens, hears, if_answered, offer_sent, put_at_end, replies_to, reply_lines, system_of, told_lines, turned, with_process}
use Rattle.shared_log_laws.proofs.AddedEntries.{Adds, AddsOne, adds_at_most, entry_plain, reads_next}
use Rattle.shared_log_laws.proofs.Fronts.{all_front}
use Rattle.shared_log_laws.proofs.KnownLogs.{has_lines, has_pushed}
use Rattle.shared_log_laws.proofs.Replies.{comes_well, hears_lines, told_last, turn_script, turn_store}
use Rattle.shared_log_laws.proofs.Systems.{IsSystem, system_well}

slice_get_end : {X : Type 0} (xs : List X) (x : X) → slice_get (xs ++ x ∷ []) (length xs) ≡ Some x
slice_get_end [] x = refl
slice_get_end (y ∷ xs) x = slice_get_end xs x

pub some_lines : (told : List (List ℕ)) → 0 < length told → has_lines told ≡ true
some_lines [] some = absurd (omega arith)
some_lines (text ∷ told) some = refl

module _ (cluster : List ℕ) (s : System) (is : IsSystem cluster s) (number : ℕ) (line : List ℕ) (entry : Entry) (ahead : IsAhead s number) (adding : (reply (s.processes number).sharing.session line).added ≡ entry ∷ []) where
  abbrev p : Process
  p = s.processes number

  abbrev text : List ℕ
  text = entry_text entry

  abbrev answer : List ℕ
  answer = (reply p.sharing.session line).text

  abbrev due : Waits
  due = Store line (PutEntry text answer)

  abbrev offer : Offer
  offer = record { knew = p.told; text = text }

  headed : p.sharing.headed ≡ true
  headed = (is.processes number).knows.headed ∙ some_lines p.told (omega (arith, ahead.headed, ahead.whole))

  turn : turn_of cluster p.sharing line ≡ offers p.sharing line entry answer
  turn =
      turn_script cluster p.sharing line ahead.waits
      ∙ ap (λ b. if b then offers_or (reads p.sharing line) p.sharing line answer (reply p.sharing.session line).added else reads p.sharing line) headed
      ∙ ap (offers_or (reads p.sharing line) p.sharing line answer) adding

  -- ---- the line comes

  abbrev begun : Process
  begun = hears cluster (record p { came = length s.store; asked = length s.store }) (line ∷ [])

  abbrev no_answer : Answer
  no_answer = record {
    line = line;
    text = share_texts cluster p.sharing (line ∷ []);
    session = p.sharing.session;
    by = length s.store;
    process = begun;
  }

  waits_begun : begun.sharing.waits ≡ due
  waits_begun = ap (λ (t : Turn). t.after.waits) turn

  abbrev asking : System
  asking = record { store = s.store; processes = with_process s.processes number begun; offers = s.offers ++ offer ∷ []; answers = s.answers }

  has_come : happens cluster s (Comes number line) ≡ asking
  has_come =
      ap (comes_to cluster s number line p) ahead.waits
      ∙ (λ i. record {
        store = s.store;
        processes = with_process s.processes number begun;
        offers = s.offers ++ offer_sent cluster p.told (waits_begun i);
        answers = s.answers ++ if_answered (waits_begun i) no_answer;
      })
      ∙ (λ i. record {
        store = s.store;
        processes = with_process s.processes number begun;
        offers = s.offers ++ offer ∷ [];
        answers = append-nil s.answers i;
      })

  -- ---- the store acts

  abbrev put : System
  put = record { store = s.store ++ text ∷ []; processes = with_process s.processes number begun; offers = s.offers ++ offer ∷ []; answers = s.answers }

  is_put : put_at_end s.store (slice_get (s.offers ++ offer ∷ []) (length s.offers)) ≡ s.store ++ text ∷ []
  is_put =
      ap (put_at_end s.store) (slice_get_end s.offers offer)
      ∙ ap (λ b. if b then s.store ++ text ∷ [] else s.store) (eq-eqb (length p.told) (length s.store) ahead.whole)

  has_acted : happens cluster asking (Acts (length s.offers)) ≡ put
  has_acted = (λ i. record { store = is_put i; processes = with_process s.processes number begun; offers = s.offers ++ offer ∷ []; answers = s.answers })

  -- ---- the reply comes

  mine : put.processes number ≡ begun
  mine = ap (λ b. if b then begun else s.processes number) (eq-eqb number number refl)

  rest : reply_lines put.store begun 1 ≡ text ∷ []
  rest =
      ap (drop (length p.told)) (take_all (length s.store + 1) (s.store ++ text ∷ []) (omega (arith, length-append s.store (text ∷ []))))
      ∙ ap (λ n. drop n (s.store ++ text ∷ [])) ahead.whole ∙ drop-append_seam s.store (text ∷ [])

  abbrev given : Answer
  given = record {
    line = line;
    text = share_texts cluster begun.sharing (map log_line (text ∷ []) ++ end_line ∷ []);
    session = (share_after cluster begun.sharing (map log_line (text ∷ []))).session;
    by = length (s.store ++ text ∷ []);
    process = told_lines cluster (length (s.store ++ text ∷ [])) begun (text ∷ []);
  }

  has_replied : happens cluster put (Replies number 1) ≡ turned cluster put number given
  has_replied =
      ap (λ (q : Process). replies_to cluster put number q (reply_lines put.store q 1) q.sharing.waits) mine
      ∙ (λ i. replies_to cluster put number begun (rest i) (waits_begun i))

  adds : Adds p.sharing.session (line_of line) (reply p.sharing.session line) entry
  adds = subst (AddsOne p.sharing.session (line_of line) (reply p.sharing.session line)) adding (adds_at_most p.sharing.session line)

  abbrev heard : Sharing
  heard = share_after cluster begun.sharing (log_line text ∷ [])

  -- the reply begins with the line that was offered
  hears_it : (heard.waits ≡ Store line (Stands answer)) × (share_texts cluster begun.sharing (log_line text ∷ []) ≡ [])
  hears_it =
      let knows = (is.processes number).knows in
      let on = (comes_well cluster p.told p.sharing line ahead.waits knows).knows in
      let has = has_pushed cluster p.told text p.sharing.session.log entry (sym knows.headed ∙ headed) knows.log (reads_next p.sharing.session.log entry adds.fits) in
      let plain = all_append HasNoFeed p.told (text ∷ []) (all_front HasNoFeed p.told s.store (is.processes number).front is.store.plain) (entry_plain entry, tt) in
      let h = hears_lines cluster p.told (text ∷ []) begun.sharing line (PutEntry text answer) (p.sharing.session.log ++ entry ∷ []) waits_begun on has plain in
      (h.waits ∙ ap (λ b. Store line (if b then Stands answer else Read)) ((bytes_eq-Decides text text).1 refl), h.quiet)

  last : turn_of cluster heard end_line ≡ told_end cluster heard line (Stands answer)
  last = turn_store cluster heard end_line line (Stands answer) (Some End) hears_it.0 told_last

  waits_given : given.process.sharing.waits ≡ Script
  waits_given = ap (λ (t : Turn). t.after.waits) last

  says_given : given.text ≡ answer
  says_given =
      let quiet : (turn_of cluster begun.sharing (log_line text)).text ≡ [] = sym (append-nil (turn_of cluster begun.sharing (log_line text)).text) ∙ hears_it.1 in
      (λ i. quiet i ++ ((last i).text ++ [])) ∙ append-nil answer

  -- ---- what it comes to

  whole : after_events cluster s (one_offer s number line) ≡ turned cluster put number given
  whole =
      ap (λ (x : System). happens cluster (happens cluster x (Acts (length s.offers))) (Replies number 1)) has_come
      ∙ ap (λ (x : System). happens cluster x (Replies number 1)) has_acted ∙ has_replied

  mine_given : (turned cluster put number given).processes number ≡ given.process
  mine_given = ap (λ b. if b then given.process else put.processes number) (eq-eqb number number refl)

  pub answers_once : AnswersOnce s (after_events cluster s (one_offer s number line)) number answer (text ∷ [])
  answers_once =
      subst (λ (later : System). AnswersOnce s later number answer (text ∷ [])) (sym whole)
      (record {
        answer = given;
        answers = ap (λ w. s.answers ++ if_answered w given) waits_given;
        says = says_given;
        store = refl;
        offers = ap (λ w. length ((s.offers ++ offer ∷ []) ++ offer_sent cluster given.process.told w)) waits_given ∙ ap length (append-nil (s.offers ++ offer ∷ [])) ∙ length-append s.offers (offer ∷ []);
        ahead = record {
          waits = ap (λ (q : Process). q.sharing.waits) mine_given ∙ waits_given;
          whole = ap (λ (q : Process). length q.told) mine_given ∙ length-append p.told (text ∷ []) ∙ ap (λ n. n + 1) ahead.whole ∙ sym (length-append s.store (text ∷ []));
          headed = omega (arith, length-append s.store (text ∷ []));
        };
      })

-- ---- after any events

pub lone_offer : (cluster : List ℕ) (events : List Event) (number : ℕ) (line : List ℕ) (entry : Entry) → IsTrue (is_name cluster) → IsAhead (system_of cluster events) number
    → (reply ((system_of cluster events).processes number).sharing.session line).added ≡ entry ∷ []
    → AnswersOnce (system_of cluster events) (after_events cluster (system_of cluster events) (one_offer (system_of cluster events) number line)) number
    (reply ((system_of cluster events).processes number).sharing.session line).text (entry_text entry ∷ [])
lone_offer cluster events number line entry named ahead adding = answers_once cluster (system_of cluster events) (system_well cluster named events) number line entry ahead adding
