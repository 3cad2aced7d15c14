-- What a reply has of a log.
use Rattle.std.specs.Prelude.{◌≡◌, ◌≤◌, List, length}
use Rattle.std.specs.List.{Contains}
use Rattle.std.specs.Option.{IfSome}
use Rattle.transformations.specs.declared.entry.Entry.{Entry}
use Rattle.catch_up.specs.Replies.{entries_after, start_epoch}
use Rattle.catch_up.specs.declared.message.Reply.{Reply}
use Rattle.follower_log.specs.Prefix.{IsEntryOf, IsImageOf}

-- a reply is a part of a log: its image, if it has one, is an image of the log, and its entries are those of the log
-- that come next, with none left out
pub record IsPartOf (log : List Entry) (reply : Reply) : Type 0 where
  pub image : IfSome reply.image (IsImageOf log)
  pub among : (entry : Entry) → Contains reply.entries entry → IsEntryOf log entry
  pub within : start_epoch reply ≤ length log
  pub entries : reply.entries ≡ entries_after log (start_epoch reply) (length reply.entries)
