-- What a line adds to a log is read back from its line as the next entry.
use Rattle.std.proofs.Common.{◌≡◌, ℕ, ◌+◌, ◌^◌, ◌<◌, Bool, true, false, if◌then◌else◌, nat_le, codes, List, [], ◌∷◌, ◌++◌, flat_map, length, Option, Some, None, option_map, Result, Ok, Err, refl, sym, ap, ◌∙◌, subst, append_assoc, arith}
use Rattle.std.proofs.lemmas.Bool.{eq-eqb}
use Rattle.std.specs.List.{AllByRecursion}
use Rattle.std.specs.Option.{IfSome}
use Rattle.transformations.proofs.histories.HistoryLemmas.{committed}
use Rattle.transformations.proofs.histories.LogLemmas.{length-commands_of}
use Rattle.transformations.specs.History.{commit_refusal, is_command}
use Rattle.transformations.specs.Log.{Committed, commands_of, commit_by, commit_of, decided, entry_with_id}
use Rattle.transformations.specs.declared.command.Command.{Command}
use Rattle.transformations.specs.declared.entry.Entry.{Entry}
use Rattle.transformations.specs.declared.image.Image.{Image}
use Rattle.transformations.specs.declared.refusal.Refusal.{Refusal}
use Rattle.wire_json.proofs.entries.EntriesReadBack.{entry_reads_back}
use Rattle.wire_json.specs.Entries.{HasValues, IsEntry}
use Rattle.wire_json.specs.EntryTexts.{entry_data, entry_text}
use Rattle.wire_json.specs.Header.{header_data, header_text}
use Rattle.serde_json.specs.Written.{compact_text}
use Rattle.catch_up.specs.Replies.{catch_up_reply}
use Rattle.catch_up.specs.declared.message.Reply.{Reply as CatchUpReply}
use Rattle.epoch_log.specs.Epochs.{entry_at}
use Rattle.script_lang.proofs.SaidLemmas.{in_range_by}
use Rattle.script_lang.specs.AnswerTexts.{line, no_text, ok_text}
use Rattle.script_lang.specs.Grammar.{IsInRange, line_of}
use Rattle.script_lang.specs.declared.script_line.ScriptLine.{ScriptLine}
use Rattle.script_lang.specs.declared.script_line.ScriptLine.TheVariants.{Commit, Follower, Deliver, Snapshot, Ask, Give, Place, Nodes, Quorum, Local}
use Rattle.script_session.proofs.followers.TakenLemmas.{follower_cases}
use Rattle.script_session.specs.Lines.{HasNoFeed, open_line, whole_lines}
use Rattle.script_session.specs.LogFiles.{command_refused, entry_cause, entry_read, first_cause, id_again, next_entry, unless_refused, wrong_epoch}
use Rattle.script_session.specs.Machine.{Reply, SessionState, ask_of, asked_reply, commit_text, deliver_to, follower_named, give_to, image_at, most_replies, only_answers, reply, reply_numbered, reply_of, reply_to, snapshot_to}
use Rattle.script_session.specs.code.StepParts.{IsNextEntry}
use Rattle.script_session.specs.declared.refused_line.Cause.TheVariants as cause
use Rattle.script_session.specs.declared.session.followers.NamedFollower.{NamedFollower}
use Rattle.session_laws.proofs.LinesLemmas.{open_line-line, whole_lines-line}
use Rattle.session_laws.proofs.texts.PlainEntries.{plain_data}
use Rattle.session_laws.proofs.texts.PlainTexts.{HasNoFeed-plain}
use Rattle.session_laws.proofs.texts.SaidValues.{FitsEntry, fits_by}

-- ---- which lines add an entry

-- an entry may follow a log, and its line may hold it
pub record Fits (log : List Entry) (entry : Entry) : Type 0 where
  pub next : IsNextEntry log entry
  pub entry_is : IsEntry entry

-- a line of a session adds an entry: it commits the entry's command, and is answered with its epoch
pub record Adds (s : SessionState) (said : Option ScriptLine) (r : Reply) (entry : Entry) : Type 0 where
  pub says : said ≡ Some (Commit entry.id entry.cmd)
  pub fits : Fits s.log entry
  pub text : r.text ≡ ok_text entry.epoch
  pub alone : r.added ≡ entry ∷ []

-- what a line adds: nothing, or such an entry
abbrev pub AddsOne : SessionState → Option ScriptLine → Reply → List Entry → Type 0
AddsOne s said r [] = Unit {0}
AddsOne s said r (entry ∷ more) = Adds s said r entry

abbrev pub AddsAtMost : SessionState → Option ScriptLine → Reply → Type 0
AddsAtMost s said r = AddsOne s said r r.added

adds_none : (s : SessionState) (said : Option ScriptLine) (r : Reply) → r.added ≡ [] → AddsAtMost s said r
adds_none s said r none = subst (AddsOne s said r) (sym none) tt

-- the reply to a commit, by what it comes to
abbrev reply_from : SessionState → Committed → Reply
reply_from s committed = record { text = commit_text committed.answer; added = committed.added; followers = s.followers; replies = s.replies }

abbrev AddsBy : SessionState → ℕ → Command → Committed → Type 0
AddsBy s id c committed = AddsAtMost s (Some (Commit id c)) (reply_from s committed)

adds_committed : (s : SessionState) (id : ℕ) (c : Command) → id < 2 ^ 64 → HasValues c → is_command c ≡ true → AddsBy s id c (commit_of s.log id c)
adds_committed s id c below values right = by (entry_with_id s.log id) refl
  where
    decide : entry_with_id s.log id ≡ None → (o : Option Refusal) → commit_refusal (commands_of s.log) c ≡ o → AddsBy s id c (decided s.log id c o)
    decide fresh (Some refusal) e = tt
    decide fresh None e =
        let few = committed (commands_of s.log) c e in
        let count = length-commands_of s.log in
        record {
          says = refl;
          fits = record {
            next = record { epoch = refl; fresh = fresh; formed = right; accepted = e };
            entry_is = record { id = below; first = omega arith; last = omega (arith, few.below_limit, count); values = values; tokens = right };
          };
          text = refl;
          alone = refl;
        }

    by : (o : Option Entry) → entry_with_id s.log id ≡ o → AddsBy s id c (commit_by s.log id c o)
    by (Some earlier) e = tt
    by None e = decide e (commit_refusal (commands_of s.log) c) refl

added_deliver : (s : SessionState) (name : List ℕ) (epoch : ℕ) (o : Option NamedFollower) → (reply_of s o (λ f. deliver_to s name f (entry_at s.log epoch))).added ≡ []
added_deliver s name epoch None = refl
added_deliver s name epoch (Some f) = each (entry_at s.log epoch)
  where
    each : (o : Option Entry) → (deliver_to s name f.follower o).added ≡ []
    each None = refl
    each (Some entry) = refl

added_snapshot : (s : SessionState) (name : List ℕ) (epoch : ℕ) (o : Option NamedFollower) → (reply_of s o (λ f. snapshot_to s name f (image_at (commands_of s.log) epoch))).added ≡ []
added_snapshot s name epoch None = refl
added_snapshot s name epoch (Some f) = each (image_at (commands_of s.log) epoch)
  where
    each : (r : Result Image (List ℕ)) → (snapshot_to s name f.follower r).added ≡ []
    each (Err reason) = refl
    each (Ok image) = refl

added_ask : (s : SessionState) (max : ℕ) (o : Option NamedFollower) → (reply_of s o (ask_of s max)).added ≡ []
added_ask s max None = refl
added_ask s max (Some f) = by (nat_le most_replies (length s.replies))
  where
    by : (b : Bool) → (if b then only_answers s (no_text (codes "REPLIES-FULL")) else asked_reply s (catch_up_reply s.log f.follower.image.epoch max)).added ≡ []
    by true = refl
    by false = refl

added_give : (s : SessionState) (name : List ℕ) (number : ℕ) (o : Option NamedFollower) → (reply_of s o (λ f. give_to s name f (reply_numbered s.replies number))).added ≡ []
added_give s name number None = refl
added_give s name number (Some f) = each (reply_numbered s.replies number)
  where
    each : (o : Option CatchUpReply) → (give_to s name f.follower o).added ≡ []
    each None = refl
    each (Some given) = refl

adds_said : (s : SessionState) (said : Option ScriptLine) → IfSome said IsInRange → IfSome said FitsEntry → AddsAtMost s said (reply_to s said)
adds_said s None right fits = tt
adds_said s (Some (Commit id c)) right fits = adds_committed s id c fits.0 fits.1 right
adds_said s (Some (Follower name)) right fits = follower_cases s name (λ r. AddsAtMost s (Some (Follower name)) r) tt tt tt
adds_said s (Some (Deliver name epoch)) right fits = adds_none s _ _ (added_deliver s name epoch (follower_named s.followers name))
adds_said s (Some (Snapshot name epoch)) right fits = adds_none s _ _ (added_snapshot s name epoch (follower_named s.followers name))
adds_said s (Some (Ask name max)) right fits = adds_none s _ _ (added_ask s max (follower_named s.followers name))
adds_said s (Some (Give name number)) right fits = adds_none s _ _ (added_give s name number (follower_named s.followers name))
adds_said s (Some (Place target name)) right fits = tt
adds_said s (Some (Nodes target)) right fits = tt
adds_said s (Some (Quorum target name t)) right fits = tt
adds_said s (Some (Local target name dc t)) right fits = tt

pub adds_at_most : (s : SessionState) (bytes : List ℕ) → AddsAtMost s (line_of bytes) (reply s bytes)
unfolding reply
adds_at_most s bytes = adds_said s (line_of bytes) (in_range_by bytes) (fits_by bytes)

-- ---- its line

no_cause : (log : List Entry) (entry : Entry) → IsNextEntry log entry → entry_cause log entry ≡ None
no_cause log entry next = (λ i. first_cause (epoch i ∷ id i ∷ command i ∷ []))
  where
    epoch : wrong_epoch log entry ≡ None
    epoch = ap (λ b. if b then None else Some (cause.Epoch (length log + 1) entry.epoch)) (eq-eqb entry.epoch (length log + 1) next.epoch)

    id : id_again log entry ≡ None
    id = ap (option_map (λ (earlier : Entry). cause.Id entry.id earlier.epoch)) next.fresh

    command : command_refused log entry ≡ None
    command = ap (option_map (cause.Command entry.epoch)) next.accepted

pub reads_next : (log : List Entry) (entry : Entry) → Fits log entry → next_entry log (entry_text entry) ≡ Ok entry
unfolding next_entry
reads_next log entry fits = ap (entry_read log) (entry_reads_back entry fits.entry_is) ∙ ap (unless_refused entry) (no_cause log entry fits.next)

-- ---- the bytes of lines

pub entry_plain : (entry : Entry) → HasNoFeed (entry_text entry)
unfolding entry_text
entry_plain entry = HasNoFeed-plain (compact_text (entry_data entry)) (plain_data (entry_data entry))

pub header_plain : (cluster : List ℕ) → HasNoFeed (header_text cluster)
unfolding header_text
header_plain cluster = HasNoFeed-plain (compact_text (header_data cluster)) (plain_data (header_data cluster))

-- lines that have no feed are the lines of their bytes, each with a feed
pub lines_of_lines : (lines : List (List ℕ)) (rest : List ℕ) → AllByRecursion HasNoFeed lines → whole_lines (flat_map line lines ++ rest) ≡ lines ++ whole_lines rest
lines_of_lines [] rest all = refl
lines_of_lines (bytes ∷ lines) rest all =
    ap whole_lines (append_assoc (line bytes) (flat_map line lines) rest ∙ append_assoc bytes (10 ∷ []) (flat_map line lines ++ rest))
    ∙ whole_lines-line bytes (flat_map line lines ++ rest) all.0 ∙ ap (λ ls. bytes ∷ ls) (lines_of_lines lines rest all.1)

-- and nothing is open after them
pub open_of_lines : (lines : List (List ℕ)) (rest : List ℕ) → AllByRecursion HasNoFeed lines → open_line (flat_map line lines ++ rest) ≡ open_line rest
open_of_lines [] rest all = refl
open_of_lines (bytes ∷ lines) rest all =
    ap open_line (append_assoc (line bytes) (flat_map line lines) rest ∙ append_assoc bytes (10 ∷ []) (flat_map line lines ++ rest))
    ∙ open_line-line bytes (flat_map line lines ++ rest) all.0 ∙ open_of_lines lines rest all.1
