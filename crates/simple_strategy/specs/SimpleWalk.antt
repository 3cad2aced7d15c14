-- The nodes that a walk takes (SimpleStrategy).
use Rattle.std.specs.Prelude.{ℕ, not, ◌&&◌, if◌then◌else◌, List, [], ◌∷◌, ◌++◌, length, nat_eq, nat_lt}
use Rattle.std.specs.Set.{is_member}

-- the taken nodes after a node n is met: n is taken if it isn't taken yet and fewer than rf nodes are
abbrev pub taken_with : ℕ → List ℕ → ℕ → List ℕ
taken_with rf taken n = if nat_lt (length taken) rf && not (is_member nat_eq taken n) then taken ++ n ∷ [] else taken

-- the taken nodes after several nodes are met, one after another
abbrev pub taken_after : ℕ → List ℕ → List ℕ → List ℕ
taken_after rf taken [] = taken
taken_after rf taken (n ∷ ns) = taken_after rf (taken_with rf taken n) ns
