-- A follower of a session shows the longest gapless prefix of what it took in the lines.
use Rattle.std.proofs.Common.{◌≡◌, ℕ, ◌+◌, Bool, true, false, if◌then◌else◌, List, [], ◌∷◌, ◌++◌, length, nat_le, codes, Option, Some, None, Result, Ok, Err, refl, sym, ap, ◌∙◌, subst, append-nil}
use Rattle.std.specs.Option.{option_or}
use Rattle.std.specs.Str.{bytes_eq}
use Rattle.std.proofs.lemmas.List.Folds.{find-append}
use Rattle.transformations.specs.History.{commit_refusal}
use Rattle.transformations.specs.Log.{IsLog, commands_of, commit_by, commit_of, decided, entry_with_id}
use Rattle.transformations.specs.declared.command.Command.{Command}
use Rattle.transformations.specs.declared.entry.Entry.{Entry}
use Rattle.transformations.specs.declared.image.Image.{Image}
use Rattle.transformations.specs.declared.refusal.Refusal.{Refusal}
use Rattle.catch_up.specs.Replies.{catch_up_reply}
use Rattle.catch_up.specs.declared.message.Reply.{Reply as CatchUpReply}
use Rattle.catch_up_laws.specs.Given.{given_reply}
use Rattle.epoch_log.specs.Epochs.{entry_at}
use Rattle.follower_log.proofs.GrowthLemmas.{stands_on}
use Rattle.follower_log.proofs.ShowsLemmas.{empty_stands, prefix_ends}
use Rattle.follower_log.specs.Follower.{FollowerState, empty_follower, hand_entry, hand_valid}
use Rattle.follower_log.specs.Prefix.{Taken, nothing_taken}
use Rattle.script_lang.specs.AnswerTexts.{no_text}
use Rattle.script_lang.specs.Grammar.{line_of}
use Rattle.script_lang.specs.declared.script_line.ScriptLine.{ScriptLine}
use Rattle.script_lang.specs.declared.script_line.ScriptLine.TheVariants.{Commit, Follower, Deliver, Snapshot, Ask, Give, Place, Nodes, Quorum, Local}
use Rattle.script_session.specs.Machine.{Reply, SessionState, answer_from, ask_of, asked_reply, deliver_to, give_to, most_replies, only_answers, reply_numbered, follower_named, follower_reply, image_at, image_named, new_follower, query_text, replied, reply, reply_of, reply_to, session_after, session_next, session_over, snapshot_to, with_follower}
use Rattle.script_session.specs.Taken.{AllShowPrefixes, AnswerAsLog, FollowersShow, ShowsPrefix, and_entry, and_image, and_reply, by_follower, taken_by, taken_in}
use Rattle.script_session.specs.declared.session.followers.NamedFollower.{NamedFollower}
use Rattle.script_session.proofs.steps.SessionLemmas.{IsSession, after_reply}
use Rattle.script_session.specs.code.StepParts.{AllFrom}
use Rattle.script_session.proofs.replies.GivenReplies.{reply_shown}
use Rattle.script_session.proofs.replies.KeptReplyLemmas.{numbered_from}
use Rattle.script_session.proofs.followers.FollowerLemmas.{named_follows, other_with, same_bytes, with_named}
use Rattle.script_session.proofs.followers.TakenLemmas.{entry_shown, entry_there, follower_cases, image_shown, image_there, shows_log}

-- what was taken by the follower with a name, if there is one: it shows the prefix of it
abbrev pub ShowsNamed : List Entry → Taken → Option NamedFollower → Type 0
ShowsNamed log taken None = taken ≡ nothing_taken
ShowsNamed log taken (Some f) = ShowsPrefix log taken f.follower

abbrev ShowsIn : SessionState → List ℕ → Taken → Type 0
ShowsIn session name taken = ShowsNamed session.log taken (follower_named session.followers name)

-- the follower before it is handed anything
empty_shows : (log : List Entry) → IsLog log → ShowsPrefix log nothing_taken empty_follower
empty_shows log is = record { stands = empty_stands log; longest = (prefix_ends log nothing_taken empty_follower is (empty_stands log)).1 refl }

-- ---- the log goes on

named_on : (log : List Entry) (entry : Entry) (taken : Taken) (o : Option NamedFollower) → entry.epoch ≡ length log + 1 → ShowsNamed log taken o → ShowsNamed (log ++ entry ∷ []) taken o
named_on log entry taken None next shows = shows
named_on log entry taken (Some f) next shows = record { stands = stands_on log entry taken f.follower next shows.stands; longest = shows.longest }

named_still : (log : List Entry) (taken : Taken) (o : Option NamedFollower) → ShowsNamed log taken o → ShowsNamed (log ++ []) taken o
named_still log taken o shows = subst (λ l. ShowsNamed l taken o) (sym (append-nil log)) shows

on_commit : (log : List Entry) (id : ℕ) (c : Command) (taken : Taken) (o : Option NamedFollower) → ShowsNamed log taken o → ShowsNamed (log ++ (commit_of log id c).added) taken o
on_commit log id c taken o shows = by (entry_with_id log id)
  where
    decide : (r : Option Refusal) → ShowsNamed (log ++ (decided log id c r).added) taken o
    decide (Some r) = named_still log taken o shows
    decide None = named_on log (record { id = id; epoch = length log + 1; cmd = c }) taken o refl shows

    by : (e : Option Entry) → ShowsNamed (log ++ (commit_by log id c e).added) taken o
    by (Some entry) = named_still log taken o shows
    by None = decide (commit_refusal (commands_of log) c)

-- ---- a follower is made

module _ (session : SessionState) (is : IsLog session.log) (name : List ℕ) (taken : Taken) (shows : ShowsIn session name taken) where
  on_made : (to : List ℕ) → ShowsNamed session.log taken (follower_named (session.followers ++ new_follower to ∷ []) name)
  on_made to = subst (ShowsNamed session.log taken) (sym (find-append (λ (f : NamedFollower). bytes_eq f.name name) session.followers (new_follower to ∷ []))) (by (follower_named session.followers name) shows)
    where
      new : (b : Bool) → taken ≡ nothing_taken → ShowsNamed session.log taken (if b then Some (new_follower to) else None)
      new true none = subst (λ t. ShowsPrefix session.log t empty_follower) (sym none) (empty_shows session.log is)
      new false none = none

      by : (o : Option NamedFollower) → ShowsNamed session.log taken o → ShowsNamed session.log taken (option_or o (follower_named (new_follower to ∷ []) name))
      by None none = new (bytes_eq to name) none
      by (Some f) shown = shown

  on_follower_line : (to : List ℕ) → ShowsIn (replied session (follower_reply session to)) name taken
  on_follower_line to =
      follower_cases session to (λ r. ShowsIn (replied session r) name taken)
      (named_still session.log taken _ shows) (named_still session.log taken _ shows) (named_still session.log taken _ (on_made to))

  -- ---- a follower is handed something

  -- nothing was taken
  not_taken : (b : Bool) (o : Option NamedFollower) → ShowsNamed session.log taken o → (take : FollowerState → Taken) → ((f : FollowerState) → take f ≡ taken) → ShowsNamed session.log (if b then by_follower o take taken else taken) o
  not_taken true None shown take none = shown
  not_taken true (Some f) shown take none = subst (λ t. ShowsPrefix session.log t f.follower) (sym (none f.follower)) shown
  not_taken false o shown take none = shown

  -- there is no follower
  none_there : (to : List ℕ) → follower_named session.followers to ≡ None → (take : FollowerState → Taken)
      → ShowsNamed session.log (if bytes_eq to name then by_follower (follower_named session.followers name) take taken else taken) (follower_named session.followers name)
  none_there to none take = by (bytes_eq to name) refl
    where
      by : (b : Bool) → bytes_eq to name ≡ b → ShowsNamed session.log (if b then by_follower (follower_named session.followers name) take taken else taken) (follower_named session.followers name)
      by false other = shows
      by true same =
          let here : follower_named session.followers name ≡ None = subst (λ n. follower_named session.followers n ≡ None) (same_bytes to name same) none in
          let still : taken ≡ nothing_taken = subst (ShowsNamed session.log taken) here shows in
          subst (λ o. ShowsNamed session.log (by_follower o take taken) o) (sym here) still

  -- the follower took something
  took : (to : List ℕ) (f : NamedFollower) (after : FollowerState) → follower_named session.followers to ≡ Some f → (take : FollowerState → Taken)
      → (ShowsPrefix session.log taken f.follower → ShowsPrefix session.log (take f.follower) after)
      → ShowsNamed session.log (if bytes_eq to name then by_follower (follower_named session.followers name) take taken else taken) (follower_named (with_follower session.followers to after) name)
  took to f after there take keeps = by (bytes_eq to name) refl
    where
      by : (b : Bool) → bytes_eq to name ≡ b → ShowsNamed session.log (if b then by_follower (follower_named session.followers name) take taken else taken) (follower_named (with_follower session.followers to after) name)
      by false other = subst (ShowsNamed session.log taken) (sym (other_with session.followers to name after other)) shows
      by true same =
          let at : to ≡ name = same_bytes to name same in
          let here : follower_named session.followers name ≡ Some f = subst (λ n. follower_named session.followers n ≡ Some f) at there in
          let moved : follower_named (with_follower session.followers to after) name ≡ Some (record f { follower = after }) =
          subst (λ n. follower_named (with_follower session.followers n after) name ≡ Some (record f { follower = after })) (sym at) (with_named session.followers name f after here) in
          let shown : ShowsPrefix session.log taken f.follower = subst (ShowsNamed session.log taken) here shows in
          subst (λ o. ShowsNamed session.log (by_follower o take taken) (follower_named (with_follower session.followers to after) name)) (sym here)
          (subst (ShowsNamed session.log (take f.follower)) (sym moved) (keeps shown))

  -- what the follower with the name took, once it takes something
  abbrev then_taken : List ℕ → (FollowerState → Taken) → Taken
  then_taken to take = if bytes_eq to name then by_follower (follower_named session.followers name) take taken else taken

  on_named : (to : List ℕ) (hand : FollowerState → Reply) (take : FollowerState → Taken)
      → ((f : NamedFollower) → follower_named session.followers to ≡ Some f → ShowsIn (replied session (hand f.follower)) name (then_taken to take))
      → ShowsIn (replied session (reply_of session (follower_named session.followers to) hand)) name (then_taken to take)
  on_named to hand take each = by (follower_named session.followers to) refl
    where
      by : (o : Option NamedFollower) → follower_named session.followers to ≡ o → ShowsIn (replied session (reply_of session o hand)) name (then_taken to take)
      by None none = named_still session.log _ _ (none_there to none take)
      by (Some f) there = each f there

  on_deliver : (to : List ℕ) (f : NamedFollower) → follower_named session.followers to ≡ Some f → (o : Option Entry) (epoch : ℕ) → entry_at session.log epoch ≡ o
      → ShowsIn (replied session (deliver_to session to f.follower o)) name (then_taken to (λ g. and_entry g o taken))
  on_deliver to f there None epoch is_at = named_still session.log _ _ (not_taken (bytes_eq to name) (follower_named session.followers name) shows (λ g. taken) (λ g. refl))
  on_deliver to f there (Some entry) epoch is_at =
      named_still session.log _ _
      (took to f (hand_entry f.follower entry).after there (λ g. and_entry g (Some entry) taken)
      (λ shown. entry_shown session.log taken f.follower entry is (entry_there session.log epoch entry is_at) shown))

  on_snapshot : (to : List ℕ) (f : NamedFollower) → follower_named session.followers to ≡ Some f → (r : Result Image (List ℕ)) (epoch : ℕ) → image_at (commands_of session.log) epoch ≡ r
      → ShowsIn (replied session (snapshot_to session to f.follower r)) name (then_taken to (λ g. and_image g r taken))
  on_snapshot to f there (Err reason) epoch is_at = named_still session.log _ _ (not_taken (bytes_eq to name) (follower_named session.followers name) shows (λ g. taken) (λ g. refl))
  on_snapshot to f there (Ok image) epoch is_at =
      named_still session.log _ _
      (took to f (hand_valid f.follower image).after there (λ g. and_image g (Ok image) taken)
      (λ shown. image_shown session.log taken f.follower image is (image_there session.log epoch image is_at) shown))

  on_ask : (max : ℕ) (f : FollowerState) → ShowsIn (replied session (ask_of session max f)) name taken
  on_ask max f = by (nat_le most_replies (length session.replies))
    where
      by : (b : Bool) → ShowsIn (replied session (if b then only_answers session (no_text (codes "REPLIES-FULL")) else asked_reply session (catch_up_reply session.log f.image.epoch max))) name taken
      by true = named_still session.log taken _ shows
      by false = named_still session.log taken _ shows

  on_ask_line : (max : ℕ) (o : Option NamedFollower) → ShowsIn (replied session (reply_of session o (ask_of session max))) name taken
  on_ask_line max None = named_still session.log taken _ shows
  on_ask_line max (Some f) = on_ask max f.follower

  on_give : AllFrom session.log session.replies → (to : List ℕ) (f : NamedFollower) → follower_named session.followers to ≡ Some f → (o : Option CatchUpReply) (number : ℕ) → reply_numbered session.replies number ≡ o
      → ShowsIn (replied session (give_to session to f.follower o)) name (then_taken to (λ g. and_reply g o taken))
  on_give from to f there None number is_at = named_still session.log _ _ (not_taken (bytes_eq to name) (follower_named session.followers name) shows (λ g. taken) (λ g. refl))
  on_give from to f there (Some given) number is_at =
      named_still session.log _ _
      (took to f (given_reply f.follower given) there (λ g. and_reply g (Some given) taken)
      (λ shown. reply_shown session.log taken f.follower given is (numbered_from session.log session.replies number given from is_at) shown))

  on_said : AllFrom session.log session.replies → (said : Option ScriptLine) → ShowsIn (replied session (reply_to session said)) name (taken_by session name said taken)
  on_said from None = named_still session.log taken _ shows
  on_said from (Some (Commit id c)) = on_commit session.log id c taken _ shows
  on_said from (Some (Follower to)) = on_follower_line to
  on_said from (Some (Deliver to epoch)) =
      on_named to (λ f. deliver_to session to f (entry_at session.log epoch)) (λ g. and_entry g (entry_at session.log epoch) taken)
      (λ f there. on_deliver to f there (entry_at session.log epoch) epoch refl)
  on_said from (Some (Snapshot to epoch)) =
      on_named to (λ f. snapshot_to session to f (image_at (commands_of session.log) epoch)) (λ g. and_image g (image_at (commands_of session.log) epoch) taken)
      (λ f there. on_snapshot to f there (image_at (commands_of session.log) epoch) epoch refl)
  on_said from (Some (Ask to max)) = on_ask_line max (follower_named session.followers to)
  on_said from (Some (Give to number)) =
      on_named to (λ f. give_to session to f (reply_numbered session.replies number)) (λ g. and_reply g (reply_numbered session.replies number) taken)
      (λ f there. on_give from to f there (reply_numbered session.replies number) number refl)
  on_said from (Some (Place target keyspace)) = named_still session.log taken _ shows
  on_said from (Some (Nodes target)) = named_still session.log taken _ shows
  on_said from (Some (Quorum target keyspace t)) = named_still session.log taken _ shows
  on_said from (Some (Local target keyspace dc t)) = named_still session.log taken _ shows

-- ---- lines

on_line : (session : SessionState) (bytes name : List ℕ) (taken : Taken) → IsSession session → ShowsIn session name taken → ShowsIn (session_next session bytes) name (taken_by session name (line_of bytes) taken)
unfolding reply
on_line session bytes name taken is shows = on_said session is.is_log name taken shows is.replies (line_of bytes)

on_lines : (session : SessionState) (name : List ℕ) (lines : List (List ℕ)) (taken : Taken) → IsSession session → ShowsIn session name taken → ShowsIn (session_after session lines) name (taken_in session name lines taken)
on_lines session name [] taken is shows = shows
on_lines session name (bytes ∷ lines) taken is shows =
    on_lines (session_next session bytes) name lines (taken_by session name (line_of bytes) taken) (after_reply session bytes is).is (on_line session bytes name taken is shows)

all_show : (log : List Entry) (lines : List (List ℕ)) → IsSession (session_over log) → AllShowPrefixes log lines
all_show log lines is = λ name f there. subst (ShowsNamed (session_after (session_over log) lines).log (taken_in (session_over log) name lines nothing_taken)) there (on_lines (session_over log) name lines nothing_taken is refl)

pub followers_show : (log : List Entry) (lines : List (List ℕ)) → IsSession (session_over log) → FollowersShow log lines
followers_show log lines is = λ front rest same. all_show log front is

-- ---- queries

pub answer_as_log : (session : SessionState) → IsSession session → AnswerAsLog session
answer_as_log session is = λ name f asked there. (
    let of = shows_log session.log f.follower (named_follows session.log session.followers name f is.follow there) in
    ap (λ o. query_text (image_named o) asked) there ∙ ap (answer_from asked) of.state)
