-- A script that is sent again: its commits find their entries in the log.
use Rattle.std.proofs.Common.{◌≡◌, ℕ, suc, zero, ◌+◌, ◌==◌, length, Bool, true, false, if◌then◌else◌, List, [], ◌∷◌, ◌++◌, take, Option, Some, None, Result, Ok, Err, IsOk, nat_le, codes, true≢false, refl, sym, ap, ◌∙◌, subst, append-nil}
use Rattle.std.proofs.lemmas.Bool.{eq-eqb}
use Rattle.std.proofs.lemmas.List.Folds.{find-append}
use Rattle.std.specs.Option.{option_or}
use Rattle.transformations.proofs.commands.SameLemmas.{same_command_tells}
use Rattle.transformations.specs.History.{commit_refusal}
use Rattle.transformations.specs.Log.{Committed, commands_of, commit_by, commit_of, decided, entry_with_id}
use Rattle.transformations.specs.Same.{same_command}
use Rattle.transformations.specs.declared.command.Command.{Command}
use Rattle.transformations.specs.declared.entry.Entry.{Entry}
use Rattle.transformations.specs.declared.image.Image.{Image}
use Rattle.transformations.specs.declared.refusal.Refusal.{Refusal}
use Rattle.transformations.specs.declared.refusal.Refusal.TheVariants.{IdReused}
use Rattle.catch_up.specs.Replies.{catch_up_reply}
use Rattle.catch_up.specs.declared.message.Reply.{Reply as CatchUpReply}
use Rattle.epoch_log.specs.Epochs.{entry_at}
use Rattle.follower_log.specs.Follower.{FollowerState}
use Rattle.script_lang.specs.AnswerTexts.{no_text}
use Rattle.script_lang.specs.Grammar.{line_of}
use Rattle.script_lang.specs.declared.script_line.ScriptLine.{ScriptLine}
use Rattle.script_lang.specs.declared.script_line.ScriptLine.TheVariants.{Commit, Follower, Deliver, Snapshot, Ask, Give, Place, Nodes, Quorum, Local}
use Rattle.script_session.specs.Machine.{Reply, SessionState, asked_reply, commit_text, deliver_to, entries_added, follower_named, give_to, image_at, most_replies, only_answers, reply, reply_numbered, reply_of, reply_to, session_after, session_next, session_over, snapshot_to}
use Rattle.tcm_session.specs.SentAgain.{AreAccepted, ComesToSame, IsAccepted, answer_of_commit, commit_answers, log_at}
use Rattle.script_session.specs.declared.session.followers.NamedFollower.{NamedFollower}
use Rattle.session_laws.proofs.AskedReplies.{log_grows}
use Rattle.script_session.proofs.followers.TakenLemmas.{follower_cases}

-- ---- an entry that is in the log

-- it stays in a longer log
found_longer : (log more : List Entry) (id : ℕ) (entry : Entry) → entry_with_id log id ≡ Some entry → entry_with_id (log ++ more) id ≡ Some entry
found_longer log more id entry found = find-append (λ e. id == e.id) log more ∙ ap (λ o. option_or o (entry_with_id more id)) found

-- a commit that a log answers with this epoch, whatever comes after, and adds nothing
record IsInLog (log : List Entry) (id : ℕ) (c : Command) (epoch : ℕ) : Type 0 where
  is : (more : List Entry) → commit_of (log ++ more) id c ≡ record { answer = Ok epoch; added = [] }

held_entry : (log : List Entry) (id : ℕ) (c : Command) (entry : Entry) → entry_with_id log id ≡ Some entry → same_command entry.cmd c ≡ true → IsInLog log id c entry.epoch
held_entry log id c entry found same =
    record {
      is = λ more. ap (commit_by (log ++ more) id c) (found_longer log more id entry found)
          ∙ ap (λ b. record { answer = if b then Ok entry.epoch else Err (IdReused entry.epoch); added = [] }) same;
    }

-- a commit that is answered with an epoch is held from then on
record IsAnswered (log : List Entry) (id : ℕ) (c : Command) (committed : Committed) : Type 0 where
  epoch : ℕ
  answer : committed.answer ≡ Ok epoch
  held : IsInLog (log ++ committed.added) id c epoch

answered : (log : List Entry) (id : ℕ) (c : Command) → IsOk (commit_of log id c).answer → IsAnswered log id c (commit_of log id c)
answered log id c = by (entry_with_id log id) refl
  where
    result : Bool → Entry → Result ℕ Refusal
    result b entry = if b then Ok entry.epoch else Err (IdReused entry.epoch)

    again : (entry : Entry) → entry_with_id log id ≡ Some entry → (b : Bool) → same_command entry.cmd c ≡ b
        → IsOk (result b entry) → IsAnswered log id c (record { answer = result b entry; added = [] })
    again entry found true same ok =
        record { epoch = entry.epoch; answer = refl; held = subst (λ l. IsInLog l id c entry.epoch) (sym (append-nil log)) (held_entry log id c entry found same) }
    again entry found false same ok = absurd (true≢false (sym ok))

    decide : entry_with_id log id ≡ None → (o : Option Refusal) → IsOk (decided log id c o).answer → IsAnswered log id c (decided log id c o)
    decide none (Some refusal) ok = absurd (true≢false (sym ok))
    decide none None ok =
        let entry : Entry = record { id = id; epoch = length log + 1; cmd = c } in
        let last : entry_with_id (entry ∷ []) id ≡ Some entry = ap (λ b. if b then Some entry else None) (eq-eqb id id refl) in
        let found : entry_with_id (log ++ entry ∷ []) id ≡ Some entry =
        find-append (λ (e : Entry). id == e.id) log (entry ∷ []) ∙ ap (λ o. option_or o (entry_with_id (entry ∷ []) id)) none ∙ last in
        record { epoch = length log + 1; answer = refl; held = held_entry (log ++ entry ∷ []) id c entry found ((same_command_tells c c).1 refl) }

    by : (o : Option Entry) → entry_with_id log id ≡ o → IsOk (commit_by log id c o).answer → IsAnswered log id c (commit_by log id c o)
    by (Some entry) found ok = again entry found (same_command entry.cmd c) refl ok
    by None none ok = decide none (commit_refusal (commands_of log) c) ok

-- ---- a line

-- whether a line is a commit
abbrev pub is_commit : Option ScriptLine → Bool
is_commit (Some (Commit id c)) = true
is_commit said = false

-- a line that is no commit adds nothing
pub none_added : (s : SessionState) (said : Option ScriptLine) → is_commit said ≡ false → (reply_to s said).added ≡ []
none_added s None e = refl
none_added s (Some (Commit id c)) e = absurd (cc)
none_added s (Some (Follower name)) e = follower_cases s name (λ r. r.added ≡ []) refl refl refl
none_added s (Some (Deliver name epoch)) e = by (follower_named s.followers name)
  where
    each : (f : FollowerState) (o : Option Entry) → (deliver_to s name f o).added ≡ []
    each f None = refl
    each f (Some entry) = refl

    by : (o : Option NamedFollower) → (reply_of s o (λ f. deliver_to s name f (entry_at s.log epoch))).added ≡ []
    by None = refl
    by (Some f) = each f.follower (entry_at s.log epoch)
none_added s (Some (Snapshot name epoch)) e = by (follower_named s.followers name)
  where
    each : (f : FollowerState) (r : Result Image (List ℕ)) → (snapshot_to s name f r).added ≡ []
    each f (Err reason) = refl
    each f (Ok image) = refl

    by : (o : Option NamedFollower) → (reply_of s o (λ f. snapshot_to s name f (image_at (commands_of s.log) epoch))).added ≡ []
    by None = refl
    by (Some f) = each f.follower (image_at (commands_of s.log) epoch)
none_added s (Some (Ask name max)) e = by (follower_named s.followers name) (nat_le most_replies (length s.replies))
  where
    by : (o : Option NamedFollower) (b : Bool) → (reply_of s o (λ f. if b then only_answers s (no_text (codes "REPLIES-FULL")) else asked_reply s (catch_up_reply s.log f.image.epoch max))).added ≡ []
    by None b = refl
    by (Some f) true = refl
    by (Some f) false = refl
none_added s (Some (Give name number)) e = by (follower_named s.followers name)
  where
    each : (f : FollowerState) (o : Option CatchUpReply) → (give_to s name f o).added ≡ []
    each f None = refl
    each f (Some given) = refl

    by : (o : Option NamedFollower) → (reply_of s o (λ f. give_to s name f (reply_numbered s.replies number))).added ≡ []
    by None = refl
    by (Some f) = each f.follower (reply_numbered s.replies number)
none_added s (Some (Place target name)) e = refl
none_added s (Some (Nodes target)) e = refl
none_added s (Some (Quorum target name t)) e = refl
none_added s (Some (Local target name dc t)) e = refl

-- two replies answer a line alike, if it is a commit
record AnswerAlike (said : Option ScriptLine) (r q : Reply) : Type 0 where
  answer : answer_of_commit said q.text ≡ answer_of_commit said r.text

-- from the same log, the same is added
same_reply : (s t : SessionState) (said : Option ScriptLine) → t.log ≡ s.log → AnswerAlike said (reply_to s said) (reply_to t said) × ((reply_to t said).added ≡ (reply_to s said).added)
same_reply s t (Some (Commit id c)) same = (record { answer = ap (λ l. commit_text (commit_of l id c).answer ∷ []) same }, ap (λ l. (commit_of l id c).added) same)
same_reply s t None same = (record { answer = refl }, refl)
same_reply s t (Some (Follower name)) same = (record { answer = refl }, none_added t (Some (Follower name)) refl ∙ sym (none_added s (Some (Follower name)) refl))
same_reply s t (Some (Deliver name epoch)) same = (record { answer = refl }, none_added t (Some (Deliver name epoch)) refl ∙ sym (none_added s (Some (Deliver name epoch)) refl))
same_reply s t (Some (Snapshot name epoch)) same = (record { answer = refl }, none_added t (Some (Snapshot name epoch)) refl ∙ sym (none_added s (Some (Snapshot name epoch)) refl))
same_reply s t (Some (Ask name max)) same = (record { answer = refl }, none_added t (Some (Ask name max)) refl ∙ sym (none_added s (Some (Ask name max)) refl))
same_reply s t (Some (Give name number)) same = (record { answer = refl }, none_added t (Some (Give name number)) refl ∙ sym (none_added s (Some (Give name number)) refl))
same_reply s t (Some (Place target name)) same = (record { answer = refl }, refl)
same_reply s t (Some (Nodes target)) same = (record { answer = refl }, refl)
same_reply s t (Some (Quorum target name k)) same = (record { answer = refl }, refl)
same_reply s t (Some (Local target name dc k)) same = (record { answer = refl }, refl)

-- from a log with the entry in it, nothing is added
again_reply : (s t : SessionState) (said : Option ScriptLine) (more : List Entry) → IsAccepted s said → t.log ≡ (s.log ++ (reply_to s said).added) ++ more
    → AnswerAlike said (reply_to s said) (reply_to t said) × ((reply_to t said).added ≡ [])
again_reply s t (Some (Commit id c)) more ok is =
    let it = answered s.log id c ok in
    let there : commit_of t.log id c ≡ record { answer = Ok it.epoch; added = [] } = ap (λ l. commit_of l id c) is ∙ it.held.is more in
    (record { answer = ap (λ (x : Committed). commit_text x.answer ∷ []) there ∙ ap (λ a. commit_text a ∷ []) (sym it.answer) }, ap (λ (x : Committed). x.added) there)
again_reply s t None more ok is = (record { answer = refl }, refl)
again_reply s t (Some (Follower name)) more ok is = (record { answer = refl }, none_added t (Some (Follower name)) refl)
again_reply s t (Some (Deliver name epoch)) more ok is = (record { answer = refl }, none_added t (Some (Deliver name epoch)) refl)
again_reply s t (Some (Snapshot name epoch)) more ok is = (record { answer = refl }, none_added t (Some (Snapshot name epoch)) refl)
again_reply s t (Some (Ask name max)) more ok is = (record { answer = refl }, none_added t (Some (Ask name max)) refl)
again_reply s t (Some (Give name number)) more ok is = (record { answer = refl }, none_added t (Some (Give name number)) refl)
again_reply s t (Some (Place target name)) more ok is = (record { answer = refl }, refl)
again_reply s t (Some (Nodes target)) more ok is = (record { answer = refl }, refl)
again_reply s t (Some (Quorum target name k)) more ok is = (record { answer = refl }, refl)
again_reply s t (Some (Local target name dc k)) more ok is = (record { answer = refl }, refl)

-- ---- lines

-- sessions of which one is as far as the other is after the first n lines
record AreAlike (s t : SessionState) (lines : List (List ℕ)) : Type 0 where
  answers : commit_answers t lines ≡ commit_answers s lines
  logs : (session_after t lines).log ≡ (session_after s lines).log

same_lines : (lines : List (List ℕ)) (s t : SessionState) → t.log ≡ s.log → AreAlike s t lines
unfolding reply
same_lines [] s t same = record { answers = refl; logs = same }
same_lines (bytes ∷ lines) s t same =
    let one = same_reply s t (line_of bytes) same in
    let rest = same_lines lines (session_next s bytes) (session_next t bytes) (λ i. same i ++ one.1 i) in
    record { answers = (λ i. one.0.answer i ++ rest.answers i); logs = rest.logs }

again_lines : (n : ℕ) (lines : List (List ℕ)) (s t : SessionState) → AreAccepted s lines → t.log ≡ (session_after s (take n lines)).log → AreAlike s t lines
unfolding reply
again_lines zero lines s t ok is = same_lines lines s t is
again_lines (suc n) [] s t ok is = same_lines [] s t is
again_lines (suc n) (bytes ∷ lines) s t ok is =
    let next = session_next s bytes in
    let one = again_reply s t (line_of bytes) (entries_added next (take n lines)) ok.0 (is ∙ log_grows next (take n lines)) in
    let rest = again_lines n lines next (session_next t bytes) ok.1 (ap (λ es. t.log ++ es) one.1 ∙ append-nil t.log ∙ is) in
    record { answers = (λ i. one.0.answer i ++ rest.answers i); logs = rest.logs }

pub comes_to_same : (log : List Entry) (lines : List (List ℕ)) (n : ℕ) → AreAccepted (session_over log) lines → ComesToSame log (log_at log lines n) lines
comes_to_same log lines n ok =
    let alike = again_lines n lines (session_over log) (session_over (log_at log lines n)) ok refl in
    record { answers = alike.answers; logs = alike.logs }
