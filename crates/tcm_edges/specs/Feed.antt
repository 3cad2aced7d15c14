-- Bytes given in pieces.
use Rattle.std.specs.Prelude.{ℕ, List, length, drop, min}

-- the bytes still to come, and the most bytes that a read gives
pub record Feed : Type 0 where
  pub bytes : List ℕ
  pub piece : ℕ

-- how many bytes a read gives to a buffer with this room
abbrev pub given_len : Feed → ℕ → ℕ
given_len feed room = min (min feed.piece room) (length feed.bytes)

-- the feed after a read that gave n bytes
abbrev pub after_read : Feed → ℕ → Feed
after_read feed n = record feed { bytes = drop n feed.bytes }
