-- Answers: an epoch has its entry, an id has one, and each answer is the machine's on a front of the store.
use Rattle.std.proofs.Common.{◌≡◌, ℕ, suc, zero, ◌+◌, ◌^◌, ◌<◌, ◌==◌, ◌⊎◌, inl, inr, Bool, true, false, if◌then◌else◌, List, [], ◌∷◌, ◌++◌, get_or, length, Option, Some, None, Result, Ok, Err, decimal, IsTrue, refl, sym, ap, ◌∙◌, subst, arith, length-append}
use Rattle.std.proofs.lemmas.Bool.{and_parts, eqb-true}
use Rattle.std.proofs.lemmas.Fmt.{decimal_injective}
use Rattle.std.proofs.lemmas.List.{append_cancel_right}
use Rattle.std.proofs.lemmas.List.Elements.{Contains-append_left, Contains-push_cases}
use Rattle.std.specs.List.{Contains, slice_get}
use Rattle.cluster_terms.specs.Name.{is_name}
use Rattle.transformations.proofs.commands.SameLemmas.{same_command_tells}
use Rattle.transformations.proofs.histories.HistoryLemmas.{history_short}
use Rattle.transformations.proofs.histories.LogLemmas.{finds_own, length-commands_of}
use Rattle.transformations.proofs.lists.ContainsLemmas.{holds_of}
use Rattle.transformations.proofs.lists.ListLemmas.{found_passes}
use Rattle.transformations.specs.History.{commit_refusal}
use Rattle.transformations.specs.Log.{IsLog, are_numbered, commands_of, commit_by, commit_of, decided, entry_with_id, have_own_ids}
use Rattle.transformations.specs.Same.{same_command}
use Rattle.transformations.specs.declared.command.Command.{Command}
use Rattle.transformations.specs.declared.entry.Entry.{Entry}
use Rattle.transformations.specs.declared.refusal.Refusal.{Refusal}
use Rattle.transformations.specs.declared.refusal.Refusal.TheVariants.{IdReused}
use Rattle.wire_json.specs.Reading.{reading}
use Rattle.wire_json.specs.declared.line.Line.{Line}
use Rattle.wire_json.specs.declared.line.Line.TheVariants as line
use Rattle.wire_json.specs.declared.line.ReadLineFault.{ReadLineFault}
use Rattle.wire_json.specs.declared.line.ReadLineFault.TheVariants as read
use Rattle.script_lang.specs.AnswerTexts.{ok_text}
use Rattle.script_lang.specs.Grammar.{line_of}
use Rattle.script_lang.specs.declared.script_line.ScriptLine.{ScriptLine}
use Rattle.script_lang.specs.declared.script_line.ScriptLine.TheVariants.{Commit}
use Rattle.script_session.specs.LogFiles.{command_refused, entry_read, first_cause, goes_on, header_cause, id_again, log_after, log_from, next_entry, unless_refused}
use Rattle.script_session.specs.Machine.{commit_text, reply, reply_to}
use Rattle.script_session.specs.declared.refused_line.Cause.{Cause}
use Rattle.script_session.specs.declared.refused_line.Cause.TheVariants as cause
use Rattle.session_laws.proofs.quorums.NamedKeyspaces.{contained_found}
use Rattle.shared_log_laws.specs.SharedLog.{HasLog, IsLinear, StandsAt}
use Rattle.shared_log_laws.specs.System.{Answer, Event, System, system_of}
use Rattle.shared_log_laws.proofs.Fronts.{Front, front_then, take_front}
use Rattle.shared_log_laws.proofs.KnownLogs.{goes_on_from, log_from_grows, session_lines}
use Rattle.shared_log_laws.proofs.OneLog.{store_front}
use Rattle.shared_log_laws.proofs.Systems.{IsAnswer, system_well}

-- ---- entries at their places

-- a line reads as the next entry of a log
record ReadsAs (log : List Entry) (bytes : List ℕ) (entry : Entry) : Type 0 where
  says : reading bytes ≡ Ok (line.Entry entry)
  epoch : entry.epoch ≡ length log + 1

unrefused_same : (e entry : Entry) (o : Option Cause) → unless_refused e o ≡ Ok entry → e ≡ entry
unrefused_same e entry None is = cc
unrefused_same e entry (Some c) is = absurd (cc)

reads_as : (log : List Entry) (bytes : List ℕ) (entry : Entry) → next_entry log bytes ≡ Ok entry → ReadsAs log bytes entry
unfolding next_entry
reads_as log bytes entry is = by (reading bytes) refl is
  where
    of_entry : (e : Entry) → reading bytes ≡ Ok (line.Entry e) → (b : Bool) → (e.epoch == length log + 1) ≡ b
        → unless_refused e (first_cause ((if b then None else Some (cause.Epoch (length log + 1) e.epoch)) ∷ id_again log e ∷ command_refused log e ∷ [])) ≡ Ok entry → ReadsAs log bytes entry
    of_entry e there true same is =
        let one : e ≡ entry = unrefused_same e entry (first_cause (id_again log e ∷ command_refused log e ∷ [])) is in
        record {
          says = there ∙ ap (λ (x : Entry). Ok (line.Entry x)) one;
          epoch = ap (λ (x : Entry). x.epoch) (sym one) ∙ eqb-true e.epoch (length log + 1) same;
        }
    of_entry e there false same is = absurd (cc)

    by : (r : Result Line ReadLineFault) → reading bytes ≡ r → entry_read log r ≡ Ok entry → ReadsAs log bytes entry
    by (Ok (line.Header came)) there is = absurd (cc)
    by (Ok (line.Entry e)) there is = of_entry e there (e.epoch == length log + 1) refl is
    by (Ok (line.Snapshot image)) there is = absurd (cc)
    by (Err (read.Bad rule)) there is = absurd (cc)
    by (Err read.Memory) there is = absurd (cc)

-- an entry has its line among these, which go on from a log
record IsPlaced (log : List Entry) (lines : List (List ℕ)) (entry : Entry) : Type 0 where
  place : ℕ
  text : List ℕ
  at : slice_get lines place ≡ Some text
  says : reading text ≡ Ok (line.Entry entry)
  epoch : entry.epoch ≡ length log + 1 + place

placed : (first : ℕ) (log : List Entry) (lines : List (List ℕ)) (end : List Entry) (entry : Entry) → log_from first log lines ≡ Ok end → Contains end entry → Contains log entry ⊎ IsPlaced log lines entry
placed first log [] end entry is there = (let same : log ≡ end = cc in inl (subst (λ (l : List Entry). Contains l entry) (sym same) there))
placed first log (bytes ∷ lines) end entry is there = by (next_entry log bytes) refl (λ e rest. placed first (log ++ e ∷ []) lines end entry rest there) is
  where
    later : (e : Entry) → next_entry log bytes ≡ Ok e → Contains (log ++ e ∷ []) entry ⊎ IsPlaced (log ++ e ∷ []) lines entry → Contains log entry ⊎ IsPlaced log (bytes ∷ lines) entry
    later e next (inl among) =
        elim (Contains-push_cases log e entry among) [
          | inl before ↦ inl before
          | inr same ↦
              (let r = reads_as log bytes e next in
              inr (record {
                place = 0;
                text = bytes;
                at = refl;
                says = r.says ∙ ap (λ (x : Entry). Ok (line.Entry x)) same;
                epoch = omega (arith, r.epoch, ap (λ (x : Entry). x.epoch) same);
              }))
        ]
    later e next (inr p) = inr (record { place = suc p.place; text = p.text; at = p.at; says = p.says; epoch = omega (arith, p.epoch, length-append log (e ∷ [])) })

    by : (r : Result Entry Cause) → next_entry log bytes ≡ r → ((e : Entry) → log_from first (log ++ e ∷ []) lines ≡ Ok end → Contains (log ++ e ∷ []) entry ⊎ IsPlaced (log ++ e ∷ []) lines entry)
        → goes_on 1 (length log + first) r (λ e. log_from first (log ++ e ∷ []) lines) ≡ Ok end → Contains log entry ⊎ IsPlaced log (bytes ∷ lines) entry
    by (Ok e) next rest is = later e next (rest e is)
    by (Err c) next rest is = absurd (cc)

none_in : (entry : Entry) → Contains [] entry → ⊥
none_in entry there = omega (arith, there.1)

-- an entry of a log stands at the place of its epoch
pub stands_at : (cluster : List ℕ) (lines : List (List ℕ)) (log : List Entry) (entry : Entry) → HasLog cluster lines log → Contains log entry → StandsAt lines entry.epoch entry.id entry.cmd
stands_at cluster [] log entry is there = (let same : [] ≡ log = cc in absurd (none_in entry (subst (λ (l : List Entry). Contains l entry) (sym same) there)))
stands_at cluster (h ∷ lines) log entry is there = by (header_cause (Some cluster) h) is
  where
    found : Contains [] entry ⊎ IsPlaced [] lines entry → StandsAt (h ∷ lines) entry.epoch entry.id entry.cmd
    found (inl none) = absurd (none_in entry none)
    found (inr p) =
        let place : entry.epoch ≡ suc p.place = omega (arith, p.epoch) in
        record { text = p.text; at = ap (slice_get (h ∷ lines)) place ∙ p.at; says = p.says }

    by : (o : Option Cause) → log_after o lines ≡ Ok log → StandsAt (h ∷ lines) entry.epoch entry.id entry.cmd
    by None is = found (placed 2 [] lines log entry is there)
    by (Some c) is = absurd (cc)

-- the log of a front of lines is a front of their log
pub log_front : (cluster : List ℕ) (lines store : List (List ℕ)) (log end : List Entry) → Front lines store → HasLog cluster lines log → HasLog cluster store end → Front log end
log_front cluster [] store log end front is has = (let same : [] ≡ log = cc in subst (λ (l : List Entry). Front l end) same (record { more = end; is = refl }))
log_front cluster (h ∷ lines) store log end front is has =
    let on = goes_on_from cluster (h ∷ lines) front.more log end refl is (subst (λ ls. HasLog cluster ls end) front.is has) in
    log_from_grows 2 log front.more end on.is

pub contains_on : (log end : List Entry) (entry : Entry) → Front log end → Contains log entry → Contains end entry
contains_on log end entry front there = subst (λ (l : List Entry). Contains l entry) (sym front.is) (Contains-append_left log front.more entry there)

-- ---- the entry of an answered epoch

numbered_within : (n : ℕ) (log : List Entry) (entry : Entry) → are_numbered n log ≡ true → Contains log entry → entry.epoch < n + length log
numbered_within n [] entry all there = absurd (none_in entry there)
numbered_within n (first ∷ log) entry all (zero, within, is) =
    let same : first.epoch ≡ n = eqb-true first.epoch n (and_parts (first.epoch == n) (are_numbered (n + 1) log) all).0 in
    omega (arith, same, ap (λ (x : Entry). x.epoch) is)
numbered_within n (first ∷ log) entry all (suc k, within, is) =
    omega (arith, numbered_within (n + 1) log entry (and_parts (first.epoch == n) (are_numbered (n + 1) log) all).1 (k, omega (arith, within), is))

short_epoch : (log : List Entry) (entry : Entry) → IsLog log → Contains log entry → entry.epoch < 2 ^ 64
short_epoch log entry is there =
    let within = numbered_within 1 log entry (and_parts (are_numbered 1 log) (have_own_ids log) is.entries).0 there in
    omega (arith, within, history_short (commands_of log) is.history, length-commands_of log)

same_epoch : (m n : ℕ) → m < 2 ^ 64 → n < 2 ^ 64 → ok_text m ≡ ok_text n → m ≡ n
same_epoch m n short other is =
    let tails : decimal m ++ 10 ∷ [] ≡ decimal n ++ 10 ∷ [] = cc in
    decimal_injective m n short other (append_cancel_right (decimal m) (decimal n) (10 ∷ []) tails)

-- a commit that a log answers with an epoch, though it adds nothing, is this entry's
pub record GivesEpoch (log : List Entry) (id : ℕ) (c : Command) (e : ℕ) : Type 0 where
  pub entry : Entry
  pub there : Contains log entry
  pub id_is : entry.id ≡ id
  pub cmd_is : entry.cmd ≡ c
  pub epoch_is : entry.epoch ≡ e

gives_epoch : (log : List Entry) (id : ℕ) (c : Command) (e : ℕ) → IsLog log → (commit_of log id c).added ≡ [] → commit_text (commit_of log id c).answer ≡ ok_text e → e < 2 ^ 64 → GivesEpoch log id c e
gives_epoch log id c e is none says short = by (entry_with_id log id) refl none says
  where
    again : (entry : Entry) → entry_with_id log id ≡ Some entry → (b : Bool) → same_command entry.cmd c ≡ b → commit_text (if b then Ok entry.epoch else Err (IdReused entry.epoch)) ≡ ok_text e → GivesEpoch log id c e
    again entry found true same says =
        let there : Contains log entry = contained_found (λ (x : Entry). id == x.id) log entry found in
        record {
          entry = entry;
          there = there;
          id_is = sym (eqb-true id entry.id (found_passes (λ (x : Entry). id == x.id) log entry found));
          cmd_is = (same_command_tells entry.cmd c).0 same;
          epoch_is = same_epoch entry.epoch e (short_epoch log entry is there) short says;
        }
    again entry found false same says = absurd (omega (arith, ap (λ l. get_or l 0 0) says))

    new : (o : Option Refusal) → (decided log id c o).added ≡ [] → commit_text (decided log id c o).answer ≡ ok_text e → GivesEpoch log id c e
    new (Some r) none says = absurd (omega (arith, ap (λ l. get_or l 0 0) says))
    new None none says = absurd (cc)

    by : (o : Option Entry) → entry_with_id log id ≡ o → (commit_by log id c o).added ≡ [] → commit_text (commit_by log id c o).answer ≡ ok_text e → GivesEpoch log id c e
    by (Some entry) found none says = again entry found (same_command entry.cmd c) refl says
    by None found none says = new (commit_refusal (commands_of log) c) none says

-- an answer with an epoch
pub answer_gives : (cluster : List ℕ) (store : List (List ℕ)) (a : Answer) (id : ℕ) (c : Command) (e : ℕ) → IsAnswer cluster store a → line_of a.line ≡ Some (Commit id c) → a.text ≡ ok_text e → e < 2 ^ 64 → GivesEpoch a.session.log id c e
unfolding reply
answer_gives cluster store a id c e is said says short =
    gives_epoch a.session.log id c e is.is.is_log
    (ap (λ (o : Option ScriptLine). (reply_to a.session o).added) (sym said) ∙ is.reply.added)
    (ap (λ (o : Option ScriptLine). (reply_to a.session o).text) (sym said) ∙ sym is.reply.text_is ∙ says) short

-- ---- the laws

module _ (cluster : List ℕ) (events : List Event) (named : IsTrue (is_name cluster)) where
  here : System
  here = system_of cluster events

  answer_well : (a : Answer) → Contains (system_of cluster events).answers a → IsAnswer cluster (system_of cluster events).store a
  answer_well a among = holds_of (IsAnswer cluster (system_of cluster events).store) (system_of cluster events).answers a (system_well cluster named events).answers among

  -- the entry is in the log of the store, now and after more events
  entry_later : (more : List Event) (a : Answer) (id : ℕ) (c : Command) (e : ℕ) → Contains (system_of cluster events).answers a → line_of a.line ≡ Some (Commit id c) → a.text ≡ ok_text e → e < 2 ^ 64
      → GivesEpoch (system_well cluster named (events ++ more)).store.log id c e
  entry_later more a id c e among said says short =
      let is = answer_well a among in
      let g = answer_gives cluster (system_of cluster events).store a id c e is said says short in
      let later = (system_well cluster named (events ++ more)).store in
      let front = front_then a.process.told (system_of cluster events).store (system_of cluster (events ++ more)).store is.front (store_front cluster events more) in
      record {
        entry = g.entry;
        there = contains_on a.session.log later.log g.entry (log_front cluster a.process.told (system_of cluster (events ++ more)).store a.session.log later.log front is.log later.has) g.there;
        id_is = g.id_is;
        cmd_is = g.cmd_is;
        epoch_is = g.epoch_is;
      }

pub answer_stands : (cluster : List ℕ) (events more : List Event) (a : Answer) (id : ℕ) (c : Command) (e : ℕ) → IsTrue (is_name cluster) → Contains (system_of cluster events).answers a
    → line_of a.line ≡ Some (Commit id c) → e < 2 ^ 64 → a.text ≡ ok_text e → StandsAt (system_of cluster (events ++ more)).store e id c
answer_stands cluster events more a id c e named among said short says =
    let g = entry_later cluster events named more a id c e among said says short in
    let store = (system_well cluster named (events ++ more)).store in
    let at : StandsAt (system_of cluster (events ++ more)).store g.entry.epoch g.entry.id g.entry.cmd = stands_at cluster (system_of cluster (events ++ more)).store store.log g.entry store.has g.there in
    let one = subst (λ n. StandsAt (system_of cluster (events ++ more)).store n g.entry.id g.entry.cmd) g.epoch_is at in
    let two = subst (λ n. StandsAt (system_of cluster (events ++ more)).store e n g.entry.cmd) g.id_is one in
    subst (StandsAt (system_of cluster (events ++ more)).store e id) g.cmd_is two

-- an id has one epoch
pub answers_agree : (cluster : List ℕ) (events : List Event) (a b : Answer) (id : ℕ) (c d : Command) (e f : ℕ) → IsTrue (is_name cluster) → Contains (system_of cluster events).answers a → Contains (system_of cluster events).answers b
    → line_of a.line ≡ Some (Commit id c) → line_of b.line ≡ Some (Commit id d) → e < 2 ^ 64 → f < 2 ^ 64 → a.text ≡ ok_text e → b.text ≡ ok_text f → e ≡ f
answers_agree cluster events a b id c d e f named first second said1 said2 short1 short2 says1 says2 =
    let store = (system_well cluster named (events ++ [])).store in
    let g = entry_later cluster events named [] a id c e first said1 says1 short1 in
    let h = entry_later cluster events named [] b id d f second said2 says2 short2 in
    let is : IsLog store.log = (session_lines cluster (system_of cluster (events ++ [])).store store.log store.plain store.has).is_log in
    let own = (and_parts (are_numbered 1 store.log) (have_own_ids store.log) is.entries).1 in
    let one : entry_with_id store.log id ≡ Some g.entry = ap (entry_with_id store.log) (sym g.id_is) ∙ finds_own store.log g.entry own g.there in
    let two : entry_with_id store.log id ≡ Some h.entry = ap (entry_with_id store.log) (sym h.id_is) ∙ finds_own store.log h.entry own h.there in
    let some : Some g.entry ≡ Some h.entry = sym one ∙ two in
    let same : g.entry ≡ h.entry = cc in
    sym g.epoch_is ∙ ap (λ (x : Entry). x.epoch) same ∙ h.epoch_is

-- each answer is the machine's
pub answer_linear : (cluster : List ℕ) (events : List Event) (a : Answer) → IsTrue (is_name cluster) → Contains (system_of cluster events).answers a → IsLinear cluster (system_of cluster events).store a
answer_linear cluster events a named among =
    let is = answer_well cluster events named a among in
    record {
      since = is.came;
      until = is.told;
      within = is.within;
      front = take_front a.process.told (system_of cluster events).store is.front;
      log = is.log;
      text = is.reply.text_is;
      added = is.reply.added;
    }
