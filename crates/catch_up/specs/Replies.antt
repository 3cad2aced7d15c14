-- Catch-up replies: what a follower of a log is told that asks for the entries after an epoch.
use Rattle.std.specs.Prelude.{◌≡◌, ℕ, ◌+◌, ◌-◌, ◌%◌, ◌≤◌, ◌&&◌, nat_lt, if◌then◌else◌, List, drop, length, take, Option, Some, None, unwrap_or}
use Rattle.std.specs.Option.{option_map, option_map_or}
use Rattle.transformations.specs.History.{state_after}
use Rattle.transformations.specs.Log.{commands_of}
use Rattle.transformations.specs.declared.entry.Entry.{Entry}
use Rattle.catch_up.specs.declared.message.Reply.{Reply}

-- the greatest multiple of 256 up to an epoch
abbrev pub image_epoch : ℕ → ℕ
image_epoch last = last - last % 256

-- the epoch of a reply's image: the last multiple of 256, if it is above the epoch asked from, and more than `max` entries
-- come after the epoch asked from
abbrev pub base_epoch : ℕ → ℕ → ℕ → Option ℕ
base_epoch last since max =
    if nat_lt max (last - since) && nat_lt since (image_epoch last) then Some (image_epoch last) else None

-- the entries of a log after an epoch, at most `max` of them
abbrev pub entries_after : List Entry → ℕ → ℕ → List Entry
entries_after log epoch max = take max (drop epoch log)

-- the reply from a log to a follower that asks for the entries after an epoch, at most `max` of them: the image, if it
-- has one, is the state of the log at its epoch, and the entries are those after it, or else after the epoch asked from
abbrev pub catch_up_reply : List Entry → ℕ → ℕ → Reply
catch_up_reply log since max =
    let base = base_epoch (length log) since max in
    record {
      since = since;
      image = option_map (state_after (commands_of log)) base;
      entries = entries_after log (unwrap_or base since) max;
    }

-- the epoch after which the entries of a reply come, and the epoch to which they lead
abbrev pub start_epoch : Reply → ℕ
start_epoch reply = option_map_or (λ image. image.epoch) reply.image reply.since

abbrev pub end_epoch : Reply → ℕ
end_epoch reply = start_epoch reply + length reply.entries

-- a reply was made from a log, which had its first `last` entries then; it was asked for at most `max` entries
pub record IsReplyFrom (log : List Entry) (reply : Reply) : Type 0 where
  pub last : ℕ
  pub max : ℕ
  pub asked : reply.since ≤ last
  pub within : last ≤ length log
  pub made : reply ≡ catch_up_reply (take last log) reply.since max
