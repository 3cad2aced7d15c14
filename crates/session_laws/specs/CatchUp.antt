-- What replies do for the followers of a session, and that no follower goes back.
use Rattle.std.specs.Prelude.{◌≡◌, ℕ, ◌+◌, ◌≤◌, ◌<◌, min, List, ◌∷◌, ◌++◌, length, Some}
use Rattle.catch_up.specs.Replies.{IsReplyFrom}
use Rattle.catch_up.specs.declared.message.Reply.{Reply as CatchUpReply}
use Rattle.catch_up_laws.specs.Given.{given_reply}
use Rattle.transformations.specs.declared.entry.Entry.{Entry}
use Rattle.follower_log.specs.Follower.{FollowerState}
use Rattle.script_lang.specs.Grammar.{line_of}
use Rattle.script_lang.specs.declared.script_line.ScriptLine.TheVariants.{Ask, Give}
use Rattle.script_session.specs.Machine.{SessionState, follower_named, most_replies, reply_numbered, session_after, session_next, session_over}
use Rattle.script_session.specs.declared.session.followers.NamedFollower.{NamedFollower}

-- given a reply, a follower comes at least to the lesser of two epochs: the last one of the log when the reply was
-- made, and the one that is `max` after the one asked from; given it again, it doesn't change
pub record IsLedBy (log : List Entry) (reply : CatchUpReply) (follower : FollowerState) : Type 0 where
  pub reaches : (from : IsReplyFrom log reply) → min from.last (reply.since + from.max) ≤ (given_reply follower reply).image.epoch
  pub again : given_reply (given_reply follower reply) reply ≡ given_reply follower reply

-- each reply of a session is one from its log
abbrev pub RepliesAreFromLog : SessionState → Type 0
RepliesAreFromLog session =
    (number : ℕ) (reply : CatchUpReply) → reply_numbered session.replies number ≡ Some reply → IsReplyFrom session.log reply

-- each reply of a session leads each follower on that has reached the epoch from which the reply was asked
abbrev pub RepliesLead : SessionState → Type 0
RepliesLead session =
    (number : ℕ) (reply : CatchUpReply) (name : List ℕ) (f : NamedFollower)
    → reply_numbered session.replies number ≡ Some reply → follower_named session.followers name ≡ Some f
    → reply.since ≤ f.follower.image.epoch → IsLedBy session.log reply f.follower

-- a follower with a name is at an epoch or a later one
pub record IsNotBefore (session : SessionState) (name : List ℕ) (epoch : ℕ) : Type 0 where
  pub named : NamedFollower
  pub found : follower_named session.followers name ≡ Some named
  pub reached : epoch ≤ named.follower.image.epoch

-- no follower of a session is at an earlier epoch later
abbrev pub NoneFalls : SessionState → SessionState → Type 0
NoneFalls session later =
    (name : List ℕ) (f : NamedFollower) → follower_named session.followers name ≡ Some f
    → IsNotBefore later name f.follower.image.epoch

-- a line asks for a reply to a follower, and there is room for it
pub record IsAsked (session : SessionState) (line : List ℕ) (asking : NamedFollower) (max : ℕ) : Type 0 where
  pub said : line_of line ≡ Some (Ask asking.name max)
  pub named : follower_named session.followers asking.name ≡ Some asking
  pub room : length session.replies < most_replies

-- a line gives the reply with a number to a follower that has reached an epoch
pub record IsGiven (session : SessionState) (line : List ℕ) (given : NamedFollower) (number epoch : ℕ) : Type 0 where
  pub said : line_of line ≡ Some (Give given.name number)
  pub named : follower_named session.followers given.name ≡ Some given
  pub reached : epoch ≤ given.follower.image.epoch

-- a line brings a follower to an epoch at least; the same line again changes nothing
pub record BringsTo (session : SessionState) (line name : List ℕ) (epoch : ℕ) : Type 0 where
  pub comes : IsNotBefore (session_next session line) name epoch
  pub again : session_next (session_next session line) line ≡ session_next session line

-- a reply that a line asks for, and that a later line gives to a follower which has reached the epoch asked from, brings
-- it to the lesser of two epochs at least: the last one of the log when it was asked for, and the one that is `max` after
-- the one asked from
abbrev pub AskedRepliesLead : SessionState → Type 0
AskedRepliesLead session =
    (ask give : List ℕ) (lines : List (List ℕ)) (asking given : NamedFollower) (max : ℕ)
    → IsAsked session ask asking max
    → IsGiven (session_after session (ask ∷ lines)) give given (length session.replies + 1) asking.follower.image.epoch
    → BringsTo (session_after session (ask ∷ lines)) give given.name (min (length session.log) (asking.follower.image.epoch + max))

-- replies skip nothing from a session to a later one. Those of the session are from its log and lead, and so do those
-- that are asked for from there on. No follower is at an earlier epoch later
pub record SkipsNothing (session later : SessionState) : Type 0 where
  pub made : RepliesAreFromLog session
  pub leads : RepliesLead session
  pub asked : AskedRepliesLead session
  pub rises : NoneFalls session later

-- replies skip nothing, wherever the lines of a script are cut
abbrev pub RepliesSkipNothing : List Entry → List (List ℕ) → Type 0
RepliesSkipNothing log lines = (front rest : List (List ℕ)) → lines ≡ front ++ rest
    → SkipsNothing (session_after (session_over log) front) (session_after (session_over log) lines)
