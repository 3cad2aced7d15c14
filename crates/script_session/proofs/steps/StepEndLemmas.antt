-- The ends of a step.
use Rattle.std.proofs.Common.{◌≡◌, ◌≢◌, ℕ, ◌+◌, Bool, true, false, if◌then◌else◌, List, [], ◌∷◌, ◌++◌, length, take, Option, Result, Ok, Err, Some, refl, sym, ap, ◌∙◌, subst, append-nil, length-append, arith}
use Rattle.std.proofs.Math.Seq.{take-append_seam}
use Rattle.tcm_edges.specs.Files.{ChangesFile, Files, GainsAll, OthersKept}
use Rattle.tcm_edges.specs.Writes.{TellsAlike}
use Rattle.catch_up.specs.declared.message.Reply.{Reply as CatchUpReply}
use Rattle.cluster_metadata.specs.Permission.{Permission}
use Rattle.transformations.proofs.histories.HistoryLemmas.{image_after-push}
use Rattle.transformations.proofs.histories.LogLemmas.{commands_of-push, log_push}
use Rattle.transformations.specs.History.{empty_image, image_after, next_image}
use Rattle.transformations.specs.Log.{IsLog, commands_of, repeated}
use Rattle.transformations.specs.Same.{same_command}
use Rattle.transformations.specs.declared.command.Command.{Command}
use Rattle.transformations.specs.declared.refusal.Refusal.TheVariants.{IdReused}
use Rattle.transformations.proofs.commands.SameLemmas.{same_command_tells}
use Rattle.transformations.specs.declared.entry.Entry.{Entry}
use Rattle.transformations.specs.declared.image.Image.{Image}
use Rattle.wire_json.specs.EntryTexts.{entry_line, entry_text}
use Rattle.wire_json.specs.Reading.{reading}
use Rattle.wire_json.specs.declared.line.Line.{Line}
use Rattle.wire_json.specs.declared.line.ReadLineFault.{ReadLineFault}
use Rattle.wire_json.specs.declared.line.ReadLineFault.TheVariants as read
use Rattle.script_lang.specs.AnswerTexts.{no_text, ok_text, refusal_text}
use Rattle.script_session.specs.code.KeptImages.{AreKept}
use Rattle.script_session.specs.LogFiles.{Gains, entry_read, header_cause, header_read, next_entry}
use Rattle.script_session.specs.Machine.{Reply, SessionState, commit_text, replied}
use Rattle.script_session.specs.code.StepParts.{AllFollow, AllFrom, IsNextEntry, OnlyAnswers}
use Rattle.script_session.specs.declared.fault.StepFault.{StepFault}
use Rattle.script_session.specs.declared.session.followers.NamedFollower.{NamedFollower}
use Rattle.script_session.specs.declared.refused_line.Cause.TheVariants as cause
use Rattle.script_session.proofs.followers.FollowerLemmas.{all_follow_on}
use Rattle.script_session.proofs.steps.GainLemmas.{Gains-of_append}
use Rattle.script_session.proofs.steps.KeptImageLemmas.{kept_on}
use Rattle.script_session.proofs.replies.KeptReplyLemmas.{all_from_on}

-- ---- steps that add nothing

-- nothing is added, and the followers and the replies stay
pub replied_nothing : (session : SessionState) (reply : Reply) → reply.added ≡ [] → reply.followers ≡ session.followers → reply.replies ≡ session.replies → session ≡ replied session reply
replied_nothing session reply none stay kept =
    let log : session.log ≡ session.log ++ reply.added = sym (ap (λ es. session.log ++ es) none ∙ append-nil session.log) in
    (λ i. record { log = log i; followers = sym stay i; replies = sym kept i })

-- ---- an entry that is noted

-- a text that was added leaves what was there
pub kept_before : (out text out' : List ℕ) → out' ≡ out ++ text → take (length out) out' ≡ out
kept_before out text out' is = ap (take (length out)) is ∙ take-append_seam out text

-- the line of an entry has its line feed
pub entry_line_some : (entry : Entry) → entry_line entry ≢ []
entry_line_some entry is = omega (arith, ap length is, length-append (entry_text entry) (10 ∷ []))

-- the line of one entry was appended
pub gained_line : (name : List ℕ) (entry : Entry) (line : List ℕ) (files files' : Option Files) → line ≡ entry_line entry → ChangesFile (GainsAll line) files files' name → OthersKept files files' name → TellsAlike files files'
    → Gains (Some name) (entry_line entry) files files'
gained_line name entry line files files' is changes others told =
    subst (λ t. Gains (Some name) t files files') is
    (Gains-of_append name line files files' (λ none. entry_line_some entry (sym is ∙ none)) changes others told)

-- ---- a step in a log

-- an entry whose command is the permit's
pub session_kept : (before after : List Entry) (fs : List NamedFollower) (replies : List CatchUpReply) (images : List Image) (entry : Entry) (image image' : Image) (permit : Permission) → image ≡ image_after empty_image (commands_of before)
    → IsLog before × AllFollow before fs × AreKept before (length before + 1) images × AllFrom before replies → IsNextEntry before entry → permit.command ≡ entry.cmd → image' ≡ next_image image permit.command → after ≡ before ++ entry ∷ []
    → (image' ≡ image_after empty_image (commands_of after)) × IsLog after × AllFollow after fs × AreKept after (length after) images × AllFrom after replies
session_kept before after fs replies images entry image image' permit is (log, follow, are, made) next permitted enacted pushed = (
  enacted ∙ (λ i. next_image (is i) (permitted i)) ∙ sym (image_after-push empty_image (commands_of before) entry.cmd)
      ∙ ap (image_after empty_image) (sym (ap commands_of pushed ∙ commands_of-push before entry)),
  subst IsLog (sym pushed) (log_push before entry log next.epoch next.fresh next.formed next.accepted),
  subst (λ l. AllFollow l fs) (sym pushed) (all_follow_on before entry fs next.epoch follow),
  subst (λ l. AreKept l (length l) images) (sym pushed) (kept_on before entry images are),
  subst (λ l. AllFrom l replies) (sym pushed) (all_from_on before entry replies made),
)

-- ---- a line of a log file

-- what was read: a line, or a fault
abbrev read_line : Line → Result Line ReadLineFault
read_line l = Ok l

abbrev pub unread : ReadLineFault → Result Line ReadLineFault
unread fault = Err fault

-- the reading of a line, as far as it isn't without memory
pub read_there : (bytes : List ℕ) (l : Line) → (read_line l ≢ Err read.Memory → read_line l ≡ reading bytes) → reading bytes ≡ Ok l
read_there bytes l meaning = sym (meaning (λ e. not_memory e))
  where
    not_memory : read_line l ≡ Err read.Memory → ⊥
    not_memory e = cc

pub read_bad : (bytes : List ℕ) (fault : ReadLineFault) (rule : ℕ) → fault ≡ read.Bad rule → (unread fault ≢ Err read.Memory → unread fault ≡ reading bytes) → reading bytes ≡ unread (read.Bad rule)
read_bad bytes fault rule is meaning = sym (meaning (λ e. not_memory e)) ∙ ap unread is
  where
    not_memory : unread fault ≡ Err read.Memory → ⊥
    not_memory e = cc

pub next_entry-read : (log : List Entry) (bytes : List ℕ) (l : Line) → (read_line l ≢ Err read.Memory → read_line l ≡ reading bytes) → next_entry log bytes ≡ entry_read log (Ok l)
unfolding next_entry
next_entry-read log bytes l meaning = ap (entry_read log) (read_there bytes l meaning)

pub next_entry-bad : (log : List Entry) (bytes : List ℕ) (fault : ReadLineFault) (rule : ℕ) → fault ≡ read.Bad rule → (unread fault ≢ Err read.Memory → unread fault ≡ reading bytes) → next_entry log bytes ≡ Err (cause.Line rule)
unfolding next_entry
next_entry-bad log bytes fault rule is meaning = ap (entry_read log) (read_bad bytes fault rule is meaning)

-- the first line of a log file
pub header_cause-read : (want : Option (List ℕ)) (bytes : List ℕ) (l : Line) → (read_line l ≢ Err read.Memory → read_line l ≡ reading bytes) → header_cause want bytes ≡ header_read want (Ok l)
unfolding header_cause
header_cause-read want bytes l meaning = ap (header_read want) (read_there bytes l meaning)

pub header_cause-bad : (want : Option (List ℕ)) (bytes : List ℕ) (fault : ReadLineFault) (rule : ℕ) → fault ≡ read.Bad rule → (unread fault ≢ Err read.Memory → unread fault ≡ reading bytes) → header_cause want bytes ≡ Some (cause.Line rule)
unfolding header_cause
header_cause-bad want bytes fault rule is meaning = ap (header_read want) (read_bad bytes fault rule is meaning)

-- ---- a commit whose id is in the log

pub repeated_same : {T : Type 0} (entry : Entry) (command : Command) (out out' : List ℕ) (r : Result T StepFault) → entry.cmd ≡ command → OnlyAnswers (ok_text entry.epoch) out out' r
    → OnlyAnswers (commit_text (repeated entry command).answer) out out' r
repeated_same entry command out out' r same only =
    subst (λ b. OnlyAnswers (commit_text (if b then Ok entry.epoch else Err (IdReused entry.epoch))) out out' r) (sym ((same_command_tells entry.cmd command).1 same)) only

pub repeated_other : {T : Type 0} (entry : Entry) (command : Command) (out out' : List ℕ) (r : Result T StepFault) → (entry.cmd ≡ command → ⊥) → OnlyAnswers (no_text (refusal_text (IdReused entry.epoch))) out out' r
    → OnlyAnswers (commit_text (repeated entry command).answer) out out' r
repeated_other entry command out out' r apart only = by (same_command entry.cmd command) refl
  where
    by : (b : Bool) → same_command entry.cmd command ≡ b → OnlyAnswers (commit_text (if b then Ok entry.epoch else Err (IdReused entry.epoch))) out out' r
    by true e = absurd (apart ((same_command_tells entry.cmd command).0 e))
    by false e = only
