-- A session goes on: its log is a log that lines may commit, and its followers follow it.
use Rattle.std.proofs.Common.{◌≡◌, ℕ, ◌+◌, Bool, true, false, if◌then◌else◌, nat_le, codes, List, [], ◌∷◌, ◌++◌, length, Option, Some, None, Result, Ok, Err, IsTrue, refl, sym, ap, ◌∙◌, subst, append_assoc, append-nil}
use Rattle.std.specs.List.{AllByRecursion}
use Rattle.std.specs.Option.{IfSome}
use Rattle.transformations.proofs.histories.HistoryLemmas.{history_empty, history_push}
use Rattle.transformations.proofs.histories.LogLemmas.{commands_of-push, entries_empty, log_push}
use Rattle.transformations.proofs.lists.ListLemmas.{all_append}
use Rattle.transformations.specs.History.{IsHistory, commit_refusal, is_command}
use Rattle.transformations.specs.Log.{IsLog, commands_of, commit_by, commit_of, decided, entry_with_id}
use Rattle.transformations.specs.declared.command.Command.{Command}
use Rattle.transformations.specs.declared.entry.Entry.{Entry}
use Rattle.transformations.specs.declared.image.Image.{Image}
use Rattle.transformations.specs.declared.refusal.Refusal.{Refusal}
use Rattle.catch_up.specs.Replies.{catch_up_reply}
use Rattle.catch_up.specs.declared.message.Reply.{Reply as CatchUpReply}
use Rattle.epoch_log.specs.Epochs.{entry_at}
use Rattle.follower_log.proofs.ShowsLemmas.{empty_stands}
use Rattle.follower_log.specs.Follower.{FollowerState, empty_follower}
use Rattle.follower_log.specs.Prefix.{IsImageOf, nothing_taken}
use Rattle.script_lang.proofs.SaidLemmas.{IsFormed, IsSaid, said_by, in_range_by}
use Rattle.script_lang.specs.AnswerTexts.{no_text}
use Rattle.script_lang.specs.Grammar.{IsInRange, line_of}
use Rattle.script_lang.specs.declared.script_line.ScriptLine.{ScriptLine}
use Rattle.script_lang.specs.declared.script_line.ScriptLine.TheVariants.{Commit, Follower, Deliver, Snapshot, Ask, Give, Place, Nodes, Quorum, Local}
use Rattle.script_lang.specs.declared.script_line.Target.{Target}
use Rattle.script_lang.specs.declared.script_line.Target.TheVariants.{Epoch, Named}
use Rattle.script_session.specs.Machine.{Reply, SessionState, ask_of, asked_reply, deliver_to, give_to, follower_named, follower_reply, image_at, image_named, image_of, made_reply, most_replies, new_follower, only_answers, replied, reply, reply_numbered, reply_of, reply_to, session_after, session_next, session_over, snapshot_to, with_follower}
use Rattle.script_session.specs.StepEnds.{FollowsLog}
use Rattle.script_session.specs.code.StepParts.{AllFollow, AllFrom, IsNextEntry, with_next}
use Rattle.script_session.specs.declared.session.followers.NamedFollower.{NamedFollower}
use Rattle.script_session.proofs.followers.FollowerLemmas.{all_follow_on, all_follow_with, named_follows}
use Rattle.script_session.proofs.replies.KeptReplyLemmas.{all_from_asked, all_from_on, numbered_from}
use Rattle.script_session.proofs.replies.GivenReplies.{reply_followed}
use Rattle.script_session.proofs.followers.TakenLemmas.{entry_followed, entry_there, follower_cases, image_followed, image_there, shows_log}

-- ---- sessions of lines

-- a history of commands that lines commit
pub record IsFormedHistory (h : List Command) : Type 0 where
  pub history : IsHistory h
  pub formed : AllByRecursion IsFormed h

pub formed_empty : IsFormedHistory []
formed_empty = record { history = history_empty; formed = tt }

-- a session of lines
pub record IsSession (s : SessionState) : Type 0 where
  pub is_log : IsLog s.log
  pub history : IsFormedHistory (commands_of s.log)
  pub follow : AllFollow s.log s.followers
  pub replies : AllFrom s.log s.replies

pub session_empty : IsSession (session_over [])
session_empty = record { is_log = record { entries = entries_empty; history = history_empty }; history = formed_empty; follow = tt; replies = tt }

-- a history goes on as another
pub record GoesOnAs (h later : List Command) : Type 0 where
  pub more : List Command
  pub is : later ≡ h ++ more

-- what a line makes of a session
pub record IsAfter (session later : SessionState) : Type 0 where
  pub is : IsSession later
  pub goes_on : GoesOnAs (commands_of session.log) (commands_of later.log)

-- its followers and its replies are others
moved_with : (session : SessionState) (fs : List NamedFollower) (replies : List CatchUpReply) → IsSession session → AllFollow session.log fs → AllFrom session.log replies
    → IsAfter session (record { log = session.log ++ []; followers = fs; replies = replies })
moved_with session fs replies is follow from =
    subst (λ (l : List Entry). IsAfter session (record { log = l; followers = fs; replies = replies })) (sym (append-nil session.log))
    (record {
      is = record { is_log = is.is_log; history = is.history; follow = follow; replies = from };
      goes_on = record { more = []; is = sym (append-nil (commands_of session.log)) };
    })

moved : (session : SessionState) (fs : List NamedFollower) → IsSession session → AllFollow session.log fs → IsAfter session (record { log = session.log ++ []; followers = fs; replies = session.replies })
moved session fs is follow = moved_with session fs session.replies is follow is.replies

-- nothing changes
same_session : (session : SessionState) → IsSession session → IsAfter session (record { log = session.log ++ []; followers = session.followers; replies = session.replies })
same_session session is = moved session session.followers is is.follow

-- an entry is added
pub added_entry : (session : SessionState) (entry : Entry) → IsSession session → IsNextEntry session.log entry → IsFormed entry.cmd → IsAfter session (with_next session entry)
added_entry session entry is next has =
    let h = commands_of session.log in
    let pushed : commands_of (session.log ++ entry ∷ []) ≡ h ++ entry.cmd ∷ [] = commands_of-push session.log entry in
    record {
      is = record {
        is_log = log_push session.log entry is.is_log next.epoch next.fresh next.formed next.accepted;
        history = subst IsFormedHistory (sym pushed)
            (record { history = history_push h entry.cmd is.history.history next.formed next.accepted; formed = all_append IsFormed h (entry.cmd ∷ []) is.history.formed (has, tt) });
        follow = all_follow_on session.log entry session.followers next.epoch is.follow;
        replies = all_from_on session.log entry session.replies is.replies;
      };
      goes_on = record { more = entry.cmd ∷ []; is = pushed };
    }

abbrev with_added : SessionState → List Entry → SessionState
with_added session added = record { log = session.log ++ added; followers = session.followers; replies = session.replies }

after_commit : (session : SessionState) (id : ℕ) (c : Command) → IsSession session → IsTrue (is_command c) → IsFormed c → IsAfter session (with_added session (commit_of session.log id c).added)
after_commit session id c is right has = by (entry_with_id session.log id) refl
  where
    decide : entry_with_id session.log id ≡ None → (o : Option Refusal) → commit_refusal (commands_of session.log) c ≡ o → IsAfter session (with_added session (decided session.log id c o).added)
    decide none (Some r) e = same_session session is
    decide none None e = added_entry session (record { id = id; epoch = length session.log + 1; cmd = c }) is (record { epoch = refl; fresh = none; formed = right; accepted = e }) has

    by : (o : Option Entry) → entry_with_id session.log id ≡ o → IsAfter session (with_added session (commit_by session.log id c o).added)
    by (Some entry) e = same_session session is
    by None e = decide e (commit_refusal (commands_of session.log) c) refl

-- a follower is made
empty_follows : (log : List Entry) → FollowsLog log empty_follower
empty_follows log = record { taken = nothing_taken; stands = empty_stands log }

after_follower : (session : SessionState) (name : List ℕ) → IsSession session → IsAfter session (replied session (follower_reply session name))
after_follower session name is = follower_cases session name (λ r. IsAfter session (replied session r)) (same_session session is) (same_session session is) made
  where
    made : IsAfter session (replied session (made_reply session name))
    made =
        moved session (session.followers ++ new_follower name ∷ []) is
        (all_append (λ (f : NamedFollower). FollowsLog session.log f.follower) session.followers (new_follower name ∷ []) is.follow (empty_follows session.log, tt))

-- a follower is handed something of the log
module _ (session : SessionState) (is : IsSession session) (name : List ℕ) where
  handed : (after : FollowerState) → FollowsLog session.log after → IsAfter session (record { log = session.log ++ []; followers = with_follower session.followers name after; replies = session.replies })
  handed after follows = moved session (with_follower session.followers name after) is (all_follow_with session.log session.followers name after is.follow follows)

  after_named : (hand : FollowerState → Reply) → ((f : FollowerState) → FollowsLog session.log f → IsAfter session (replied session (hand f))) → IsAfter session (replied session (reply_of session (follower_named session.followers name) hand))
  after_named hand each = by (follower_named session.followers name) refl
    where
      by : (o : Option NamedFollower) → follower_named session.followers name ≡ o → IsAfter session (replied session (reply_of session o hand))
      by None found = same_session session is
      by (Some f) found = each f.follower (named_follows session.log session.followers name f is.follow found)

  after_deliver : (epoch : ℕ) (f : FollowerState) → FollowsLog session.log f → IsAfter session (replied session (deliver_to session name f (entry_at session.log epoch)))
  after_deliver epoch f follows = by (entry_at session.log epoch) refl
    where
      by : (o : Option Entry) → entry_at session.log epoch ≡ o → IsAfter session (replied session (deliver_to session name f o))
      by None e = same_session session is
      by (Some entry) e = handed _ (entry_followed session.log f entry is.is_log (entry_there session.log epoch entry e) follows)

  after_snapshot : (epoch : ℕ) (f : FollowerState) → FollowsLog session.log f → IsAfter session (replied session (snapshot_to session name f (image_at (commands_of session.log) epoch)))
  after_snapshot epoch f follows = by (image_at (commands_of session.log) epoch) refl
    where
      by : (r : Result Image (List ℕ)) → image_at (commands_of session.log) epoch ≡ r → IsAfter session (replied session (snapshot_to session name f r))
      by (Err reason) e = same_session session is
      by (Ok image) e = handed _ (image_followed session.log f image is.is_log (image_there session.log epoch image e) follows)

  after_ask : (max : ℕ) (f : FollowerState) → FollowsLog session.log f → IsAfter session (replied session (ask_of session max f))
  after_ask max f follows = by (nat_le most_replies (length session.replies))
    where
      by : (b : Bool) → IsAfter session (replied session (if b then only_answers session (no_text (codes "REPLIES-FULL")) else asked_reply session (catch_up_reply session.log f.image.epoch max)))
      by true = same_session session is
      by false = moved_with session session.followers (session.replies ++ catch_up_reply session.log f.image.epoch max ∷ []) is is.follow
          (all_from_asked session.log f.image.epoch max session.replies follows.stands.within is.replies)

  after_give : (number : ℕ) (f : FollowerState) → FollowsLog session.log f → IsAfter session (replied session (give_to session name f (reply_numbered session.replies number)))
  after_give number f follows = by (reply_numbered session.replies number) refl
    where
      by : (o : Option CatchUpReply) → reply_numbered session.replies number ≡ o → IsAfter session (replied session (give_to session name f o))
      by None e = same_session session is
      by (Some given) e = handed _ (reply_followed session.log f given is.is_log (numbered_from session.log session.replies number given is.replies e) follows)

after_said : (session : SessionState) (said : Option ScriptLine) → IsSession session → IfSome said IsInRange → IfSome said IsSaid → IsAfter session (replied session (reply_to session said))
after_said session None is right has = same_session session is
after_said session (Some (Commit id c)) is right has = after_commit session id c is right has.1
after_said session (Some (Follower name)) is right has = after_follower session name is
after_said session (Some (Deliver name epoch)) is right has = after_named session is name (λ f. deliver_to session name f (entry_at session.log epoch)) (after_deliver session is name epoch)
after_said session (Some (Snapshot name epoch)) is right has = after_named session is name (λ f. snapshot_to session name f (image_at (commands_of session.log) epoch)) (after_snapshot session is name epoch)
after_said session (Some (Ask name max)) is right has = after_named session is name (ask_of session max) (after_ask session is name max)
after_said session (Some (Give name number)) is right has = after_named session is name (λ f. give_to session name f (reply_numbered session.replies number)) (after_give session is name number)
after_said session (Some (Place target name)) is right has = same_session session is
after_said session (Some (Nodes target)) is right has = same_session session is
after_said session (Some (Quorum target name t)) is right has = same_session session is
after_said session (Some (Local target name dc t)) is right has = same_session session is

pub after_reply : (session : SessionState) (bytes : List ℕ) → IsSession session → IsAfter session (session_next session bytes)
unfolding reply
after_reply session bytes is = after_said session (line_of bytes) is (in_range_by bytes) (said_by bytes)

pub after_lines : (session : SessionState) (lines : List (List ℕ)) → IsSession session → IsAfter session (session_after session lines)
after_lines session [] is = record { is = is; goes_on = record { more = []; is = sym (append-nil (commands_of session.log)) } }
after_lines session (bytes ∷ lines) is =
    let one = after_reply session bytes is in
    let rest = after_lines (session_next session bytes) lines one.is in
    record {
      is = rest.is;
      goes_on = record {
        more = one.goes_on.more ++ rest.goes_on.more;
        is = rest.goes_on.is ∙ ap (λ l. l ++ rest.goes_on.more) one.goes_on.is ∙ append_assoc (commands_of session.log) one.goes_on.more rest.goes_on.more;
      };
    }

-- ---- the image of a target is the log's of its epoch

pub image_of_target : (session : SessionState) (target : Target) (image : Image) → IsSession session → image_of session target ≡ Ok image → IsImageOf session.log image
image_of_target session (Epoch e) image is found = image_there session.log e image found
image_of_target session (Named name) image is found = by (follower_named session.followers name) refl found
  where
    by : (o : Option NamedFollower) → follower_named session.followers name ≡ o → image_named o ≡ Ok image → IsImageOf session.log image
    by None there e = absurd (cc)
    by (Some f) there e =
        let same : f.follower.image ≡ image = cc in
        subst (IsImageOf session.log) same (shows_log session.log f.follower (named_follows session.log session.followers name f is.follow there))
