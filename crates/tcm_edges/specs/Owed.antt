-- A text written in several writes: the part that is written, and the part that is still owed.
use Rattle.std.specs.Prelude.{◌≡◌, ℕ, List, ◌++◌, Option}
use Rattle.std.specs.Io.KnownBytes.{Appends}

-- a prefix of a text, `front`, is written, and the rest, `owed`, is still to be written.
-- `front` is named, since `new ++ owed = old ++ text` also holds of a sink that loses bytes and owes them again.
pub record Owes (old new : Option (List ℕ)) (text owed : List ℕ) : Type 0 where
  pub front : List ℕ
  pub split : text ≡ front ++ owed
  pub appends : Appends old new front

-- a prefix of a text is written
pub record WritesPrefix (old new : Option (List ℕ)) (text : List ℕ) : Type 0 where
  pub owed : List ℕ
  pub owes : Owes old new text owed
