-- Memory for a directory that gains a node.
use Rattle.std.specs.Prelude.{◌≡◌, ℕ, ◌+◌, ◌-◌, ◌<◌, ◌%◌, max, List}

-- room for `count` nodes, the new node among them, whose name is `name`
pub record NodeRoom : Type 0 where
  pub name : List ℕ
  pub count : ℕ

-- how many more nodes a directory always has memory for, where `next` is the id of its next node: up to the next
-- multiple of 64
abbrev pub reserve_at : ℕ → ℕ
reserve_at next = 64 - next % 64

-- with this room, a directory of `count` nodes, where `next` is the id of the next node, can register a node of this
-- name and keep its reserve: with its own memory, or with that of the room
pub record IsRoomFor (count next : ℕ) (name : List ℕ) (room : NodeRoom) : Type 0 where
  pub named : room.name ≡ name
  pub reserve : reserve_at (next + 1) < max (reserve_at next) (room.count - count)
