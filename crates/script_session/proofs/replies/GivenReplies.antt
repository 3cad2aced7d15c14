-- What a follower takes of a reply that it is given.
use Rattle.std.proofs.Common.{suc, List, [], ◌∷◌, Option, Some, None, refl, arith}
use Rattle.std.specs.List.{Contains}
use Rattle.std.specs.Option.{IfSome}
use Rattle.transformations.specs.Log.{IsLog}
use Rattle.transformations.specs.declared.entry.Entry.{Entry}
use Rattle.transformations.specs.declared.image.Image.{Image}
use Rattle.catch_up.specs.Replies.{IsReplyFrom}
use Rattle.catch_up.specs.declared.message.Reply.{Reply as CatchUpReply}
use Rattle.catch_up_laws.proofs.PartLemmas.{part_of}
use Rattle.catch_up_laws.specs.Given.{given_entries, given_image, given_reply}
use Rattle.catch_up_laws.specs.Parts.{IsPartOf}
use Rattle.follower_log.specs.Follower.{FollowerState, hand_entry}
use Rattle.follower_log.specs.Prefix.{IsImageOf, Taken}
use Rattle.script_session.specs.StepEnds.{FollowsLog}
use Rattle.script_session.specs.Taken.{ShowsPrefix, and_entries, and_reply, and_start}
use Rattle.script_session.proofs.followers.TakenLemmas.{entry_followed, entry_shown, image_followed, image_shown}

-- each entry but the first
rest_among : (log : List Entry) (entry : Entry) (entries : List Entry) → ((e : Entry) → Contains (entry ∷ entries) e → Contains log e) → (e : Entry) → Contains entries e → Contains log e
rest_among log entry entries among e there = among e (suc there.0, omega (arith, there.1), there.2)

-- ---- it still follows the log

entries_followed : (log : List Entry) (entries : List Entry) (f : FollowerState) → IsLog log → ((e : Entry) → Contains entries e → Contains log e) → FollowsLog log f → FollowsLog log (given_entries f entries)
entries_followed log [] f is among follows = follows
entries_followed log (entry ∷ entries) f is among follows =
    entries_followed log entries (hand_entry f entry).after is (rest_among log entry entries among) (entry_followed log f entry is (among entry (0, omega arith, refl)) follows)

start_followed : (log : List Entry) (f : FollowerState) (o : Option Image) → IsLog log → IfSome o (IsImageOf log) → FollowsLog log f → FollowsLog log (given_image f o)
start_followed log f None is of follows = follows
start_followed log f (Some image) is of follows = image_followed log f image is of follows

pub reply_followed : (log : List Entry) (f : FollowerState) (reply : CatchUpReply) → IsLog log → IsReplyFrom log reply → FollowsLog log f → FollowsLog log (given_reply f reply)
reply_followed log f reply is from follows =
    let part : IsPartOf log reply = part_of log reply from in
    entries_followed log reply.entries (given_image f reply.image) is part.among (start_followed log f reply.image is part.image follows)

-- ---- it still shows the longest prefix of what it took

entries_shown : (log : List Entry) (entries : List Entry) (taken : Taken) (f : FollowerState) → IsLog log → ((e : Entry) → Contains entries e → Contains log e) → ShowsPrefix log taken f
    → ShowsPrefix log (and_entries f entries taken) (given_entries f entries)
entries_shown log [] taken f is among shows = shows
entries_shown log (entry ∷ entries) taken f is among shows =
    entries_shown log entries _ (hand_entry f entry).after is (rest_among log entry entries among) (entry_shown log taken f entry is (among entry (0, omega arith, refl)) shows)

start_shown : (log : List Entry) (taken : Taken) (f : FollowerState) (o : Option Image) → IsLog log → IfSome o (IsImageOf log) → ShowsPrefix log taken f
    → ShowsPrefix log (and_start f o taken) (given_image f o)
start_shown log taken f None is of shows = shows
start_shown log taken f (Some image) is of shows = image_shown log taken f image is of shows

pub reply_shown : (log : List Entry) (taken : Taken) (f : FollowerState) (reply : CatchUpReply) → IsLog log → IsReplyFrom log reply → ShowsPrefix log taken f
    → ShowsPrefix log (and_reply f (Some reply) taken) (given_reply f reply)
reply_shown log taken f reply is from shows =
    let part : IsPartOf log reply = part_of log reply from in
    entries_shown log reply.entries (and_start f reply.image taken) (given_image f reply.image) is part.among (start_shown log taken f reply.image is part.image shows)
