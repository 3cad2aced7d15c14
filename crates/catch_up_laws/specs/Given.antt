-- A follower that is given a reply.
use Rattle.std.specs.Prelude.{List, [], ◌∷◌, Option, Some, None}
use Rattle.transformations.specs.declared.entry.Entry.{Entry}
use Rattle.transformations.specs.declared.image.Image.{Image}
use Rattle.catch_up.specs.declared.message.Reply.{Reply}
use Rattle.follower_log.specs.Follower.{FollowerState, hand_entry, hand_valid}

-- the follower once it was handed entries, one after another
abbrev pub given_entries : FollowerState → List Entry → FollowerState
given_entries follower [] = follower
given_entries follower (entry ∷ entries) = given_entries (hand_entry follower entry).after entries

-- the follower once it was handed a valid image, if there is one
abbrev pub given_image : FollowerState → Option Image → FollowerState
given_image follower None = follower
given_image follower (Some image) = (hand_valid follower image).after

-- the follower once it was given a reply: its image first, and then its entries
abbrev pub given_reply : FollowerState → Reply → FollowerState
given_reply follower reply = given_entries (given_image follower reply.image) reply.entries
