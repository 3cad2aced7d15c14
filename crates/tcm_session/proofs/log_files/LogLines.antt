-- The lines of entries that a session adds are read back as the entries of its log.
use Rattle.std.proofs.Common.{◌≡◌, ℕ, ◌+◌, ◌^◌, ◌<◌, Bool, true, false, if◌then◌else◌, nat_le, List, [], ◌∷◌, ◌++◌, flat_map, length, map, Option, Some, None, option_map, Result, Ok, Err, refl, sym, ap, ◌∙◌, subst, append_assoc, append-nil, arith}
use Rattle.std.proofs.lemmas.Bool.{eq-eqb}
use Rattle.std.proofs.lemmas.Bool.Decides.{nat_tests}
use Rattle.std.specs.List.{AllByRecursion}
use Rattle.std.specs.Option.{IfSome}
use Rattle.transformations.specs.History.{commit_refusal, empty_image, image_after, is_command, most_epochs}
use Rattle.transformations.specs.Log.{commands_of, commit_by, commit_of, decided, entry_with_id}
use Rattle.transformations.specs.Refusals.{refusal_of}
use Rattle.transformations.specs.declared.command.Command.{Command}
use Rattle.transformations.specs.declared.entry.Entry.{Entry}
use Rattle.transformations.specs.declared.refusal.Refusal.{Refusal}
use Rattle.transformations.specs.declared.refusal.Refusal.TheVariants.{EpochsFull}
use Rattle.transformations.proofs.histories.LogLemmas.{length-commands_of}
use Rattle.wire_json.proofs.entries.EntriesReadBack.{entry_reads_back}
use Rattle.wire_json.specs.Entries.{HasValues, IsEntry}
use Rattle.wire_json.specs.EntryTexts.{entry_data, entry_line, entry_text}
use Rattle.serde_json.specs.Written.{compact_text}
use Rattle.script_lang.proofs.SaidLemmas.{in_range_by}
use Rattle.script_lang.specs.Grammar.{IsInRange, line_of}
use Rattle.script_lang.specs.AnswerTexts.{line}
use Rattle.script_lang.specs.declared.script_line.ScriptLine.{ScriptLine}
use Rattle.script_lang.specs.declared.script_line.ScriptLine.TheVariants.{Commit, Follower, Deliver, Snapshot, Ask, Give, Place, Nodes, Quorum, Local}
use Rattle.script_session.specs.Lines.{HasNoFeed, whole_lines}
use Rattle.script_session.specs.LogFiles.{command_refused, entry_cause, entry_lines, entry_read, first_cause, goes_on, id_again, log_from, next_entry, unless_refused, wrong_epoch}
use Rattle.script_session.specs.Machine.{SessionState, entries_added, reply, reply_to, session_after, session_next}
use Rattle.script_session.specs.code.StepParts.{IsNextEntry}
use Rattle.script_session.specs.declared.refused_line.Cause.{Cause}
use Rattle.script_session.specs.declared.refused_line.Cause.TheVariants as cause
use Rattle.script_session.specs.declared.refused_line.RefusedLine.{RefusedLine}
use Rattle.session_laws.proofs.LinesLemmas.{whole_lines-line}
use Rattle.session_laws.proofs.texts.PlainEntries.{plain_data}
use Rattle.session_laws.proofs.texts.PlainTexts.{HasNoFeed-plain}
use Rattle.session_laws.proofs.texts.SaidValues.{FitsEntry, fits_by}
use Rattle.tcm_session.proofs.inputs.SentLemmas.{none_added}
use Rattle.script_session.proofs.steps.SessionLemmas.{IsSession, after_reply}

-- ---- the next entry of a log

-- an entry may follow a log, and its line may hold it
pub record Fits (log : List Entry) (entry : Entry) : Type 0 where
  next : IsNextEntry log entry
  entry_is : IsEntry entry

-- what a line adds: nothing, or an entry that fits
abbrev pub FitAdded : List Entry → List Entry → Type 0
FitAdded log [] = Unit {0}
FitAdded log (entry ∷ more) = Fits log entry × (more ≡ [])

-- a command without a refusal finds the log below its limit
below_limit : (h : List Command) (c : Command) → commit_refusal h c ≡ None → length h < most_epochs
below_limit h c = by (nat_le most_epochs (length h)) refl
  where
    by : (b : Bool) → nat_le most_epochs (length h) ≡ b → (if b then Some EpochsFull else refusal_of (image_after empty_image h) c) ≡ None → length h < most_epochs
    by true e is = absurd (cc)
    by false e is = grind (arith, nat_tests)

fit_committed : (log : List Entry) (id : ℕ) (c : Command) → id < 2 ^ 64 → HasValues c → is_command c ≡ true → FitAdded log (commit_of log id c).added
fit_committed log id c below values right = by (entry_with_id log id) refl
  where
    decide : entry_with_id log id ≡ None → (o : Option Refusal) → commit_refusal (commands_of log) c ≡ o → FitAdded log (decided log id c o).added
    decide fresh (Some refusal) e = tt
    decide fresh None e =
        let few = below_limit (commands_of log) c e in
        let count = length-commands_of log in (
          record {
            next = record { epoch = refl; fresh = fresh; formed = right; accepted = e };
            entry_is = record { id = below; first = omega arith; last = omega (arith, few, count); values = values; tokens = right };
          },
          refl,
        )

    by : (o : Option Entry) → entry_with_id log id ≡ o → FitAdded log (commit_by log id c o).added
    by (Some entry) e = tt
    by None e = decide e (commit_refusal (commands_of log) c) refl

-- what a line that is no commit adds
fit_none : (log : List Entry) (added : List Entry) → added ≡ [] → FitAdded log added
fit_none log added none = subst (FitAdded log) (sym none) tt

fit_said : (s : SessionState) (said : Option ScriptLine) → IfSome said IsInRange → IfSome said FitsEntry → FitAdded s.log (reply_to s said).added
fit_said s None right fits = tt
fit_said s (Some (Commit id c)) right fits = fit_committed s.log id c fits.0 fits.1 right
fit_said s (Some (Follower name)) right fits = fit_none s.log _ (none_added s (Some (Follower name)) refl)
fit_said s (Some (Deliver name epoch)) right fits = fit_none s.log _ (none_added s (Some (Deliver name epoch)) refl)
fit_said s (Some (Snapshot name epoch)) right fits = fit_none s.log _ (none_added s (Some (Snapshot name epoch)) refl)
fit_said s (Some (Ask name max)) right fits = fit_none s.log _ (none_added s (Some (Ask name max)) refl)
fit_said s (Some (Give name number)) right fits = fit_none s.log _ (none_added s (Some (Give name number)) refl)
fit_said s (Some (Place target name)) right fits = tt
fit_said s (Some (Nodes target)) right fits = tt
fit_said s (Some (Quorum target name t)) right fits = tt
fit_said s (Some (Local target name dc t)) right fits = tt

pub fit_reply : (s : SessionState) (bytes : List ℕ) → FitAdded s.log (reply s bytes).added
unfolding reply
fit_reply s bytes = fit_said s (line_of bytes) (in_range_by bytes) (fits_by bytes)

-- ---- the entries of a log stay such

all_with_one : (log : List Entry) (entry : Entry) → AllByRecursion IsEntry log → IsEntry entry → AllByRecursion IsEntry (log ++ entry ∷ [])
all_with_one [] entry all is = (is, tt)
all_with_one (first ∷ log) entry all is = (all.0, all_with_one log entry all.1 is)

all_with_added : (log added : List Entry) → FitAdded log added → AllByRecursion IsEntry log → AllByRecursion IsEntry (log ++ added)
all_with_added log [] fit all = subst (AllByRecursion IsEntry) (sym (append-nil log)) all
all_with_added log (entry ∷ more) fit all = subst (λ m. AllByRecursion IsEntry (log ++ entry ∷ m)) (sym fit.1) (all_with_one log entry all fit.0.entry_is)

pub entries_stay : (s : SessionState) (lines : List (List ℕ)) → AllByRecursion IsEntry s.log → AllByRecursion IsEntry (session_after s lines).log
entries_stay s [] all = all
entries_stay s (bytes ∷ lines) all = entries_stay (session_next s bytes) lines (all_with_added s.log (reply s bytes).added (fit_reply s bytes) all)

-- ---- its line

no_cause : (log : List Entry) (entry : Entry) → IsNextEntry log entry → entry_cause log entry ≡ None
no_cause log entry next = (λ i. first_cause (epoch i ∷ id i ∷ command i ∷ []))
  where
    epoch : wrong_epoch log entry ≡ None
    epoch = ap (λ b. if b then None else Some (cause.Epoch (length log + 1) entry.epoch)) (eq-eqb entry.epoch (length log + 1) next.epoch)

    id : id_again log entry ≡ None
    id = ap (option_map (λ (earlier : Entry). cause.Id entry.id earlier.epoch)) next.fresh

    command : command_refused log entry ≡ None
    command = ap (option_map (cause.Command entry.epoch)) next.accepted

reads_next : (log : List Entry) (entry : Entry) → Fits log entry → next_entry log (entry_text entry) ≡ Ok entry
unfolding next_entry
reads_next log entry fits = ap (entry_read log) (entry_reads_back entry fits.entry_is) ∙ ap (unless_refused entry) (no_cause log entry fits.next)

-- ---- lines, one after another

pub log_from-append : (first : ℕ) (log : List Entry) (a b : List (List ℕ)) (log' : List Entry) → log_from first log a ≡ Ok log' → log_from first log (a ++ b) ≡ log_from first log' b
log_from-append first log [] b log' is = ap (λ l. log_from first l b) (same log log' is)
  where
    made : List Entry → Result (List Entry) RefusedLine
    made l = Ok l

    same : (x y : List Entry) → made x ≡ made y → x ≡ y
    same x y e = cc
log_from-append first log (bytes ∷ a) b log' is = by (next_entry log bytes) (λ entry. log_from-append first (log ++ entry ∷ []) a b log') is
  where
    by : (r : Result Entry Cause) → ((entry : Entry) → log_from first (log ++ entry ∷ []) a ≡ Ok log' → log_from first (log ++ entry ∷ []) (a ++ b) ≡ log_from first log' b)
        → goes_on 1 (length log + first) r (λ entry. log_from first (log ++ entry ∷ []) a) ≡ Ok log' → goes_on 1 (length log + first) r (λ entry. log_from first (log ++ entry ∷ []) (a ++ b)) ≡ log_from first log' b
    by (Ok entry) rest e = rest entry e
    by (Err cause) rest e = absurd (cc)

-- the entries that a session adds are read from their texts
pub log_reads : (first : ℕ) (s : SessionState) → IsSession s → (lines : List (List ℕ)) → log_from first s.log (map entry_text (entries_added s lines)) ≡ Ok (session_after s lines).log
log_reads first s is [] = refl
log_reads first s is (bytes ∷ lines) = by (reply s bytes).added (fit_reply s bytes) (log_reads first (session_next s bytes) (after_reply s bytes is).is lines)
  where
    later : List Entry
    later = entries_added (session_next s bytes) lines

    end : List Entry
    end = (session_after (session_next s bytes) lines).log

    by : (added : List Entry) → FitAdded s.log added → log_from first (s.log ++ added) (map entry_text later) ≡ Ok end → log_from first s.log (map entry_text (added ++ later)) ≡ Ok end
    by [] fit rest = ap (λ l. log_from first l (map entry_text later)) (sym (append-nil s.log)) ∙ rest
    by (entry ∷ more) fit rest =
        let one : log_from first s.log (entry_text entry ∷ map entry_text later) ≡ log_from first (s.log ++ entry ∷ []) (map entry_text later) =
        ap (λ r. goes_on 1 (length s.log + first) r (λ e. log_from first (s.log ++ e ∷ []) (map entry_text later))) (reads_next s.log entry fit.0) in
        ap (λ m. log_from first s.log (entry_text entry ∷ map entry_text (m ++ later))) fit.1 ∙ one
        ∙ ap (λ m. log_from first (s.log ++ entry ∷ m) (map entry_text later)) (sym fit.1) ∙ rest

-- ---- the bytes of lines

-- lines that have no feed are the lines of their bytes, each with a feed
pub lines_of_lines : (lines : List (List ℕ)) (rest : List ℕ) → AllByRecursion HasNoFeed lines → whole_lines (flat_map line lines ++ rest) ≡ lines ++ whole_lines rest
lines_of_lines [] rest all = refl
lines_of_lines (bytes ∷ lines) rest all =
    ap whole_lines (append_assoc (line bytes) (flat_map line lines) rest ∙ append_assoc bytes (10 ∷ []) (flat_map line lines ++ rest))
    ∙ whole_lines-line bytes (flat_map line lines ++ rest) all.0 ∙ ap (λ ls. bytes ∷ ls) (lines_of_lines lines rest all.1)

pub entry_plain : (entry : Entry) → HasNoFeed (entry_text entry)
unfolding entry_text
entry_plain entry = HasNoFeed-plain (compact_text (entry_data entry)) (plain_data (entry_data entry))

pub entries_plain : (entries : List Entry) → AllByRecursion HasNoFeed (map entry_text entries)
entries_plain [] = tt
entries_plain (entry ∷ entries) = (entry_plain entry, entries_plain entries)

-- the lines of entries are their texts, each with a feed
pub entry_lines-texts : (entries : List Entry) → entry_lines entries ≡ flat_map line (map entry_text entries)
entry_lines-texts [] = refl
entry_lines-texts (entry ∷ entries) = ap (λ t. entry_line entry ++ t) (entry_lines-texts entries)
