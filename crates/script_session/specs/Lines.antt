-- The lines of an input.
use Rattle.std.specs.Prelude.{◌≡◌, ℕ, false, List, [], ◌∷◌, ◌++◌, ◌==◌}
use Rattle.std.specs.List.{slice_split, AllByRecursion}

-- the pieces of an input, separated by line feeds
abbrev pub pieces_of : List ℕ → List (List ℕ)
pieces_of input = slice_split (λ byte. byte == 10) input

-- all pieces but the last
abbrev pub all_but_last : List (List ℕ) → List (List ℕ)
all_but_last [] = []
all_but_last (piece ∷ []) = []
all_but_last (piece ∷ next ∷ pieces) = piece ∷ all_but_last (next ∷ pieces)

-- the last piece; no bytes, if there is none
abbrev pub last_of : List (List ℕ) → List ℕ
last_of [] = []
last_of (piece ∷ []) = piece
last_of (piece ∷ next ∷ pieces) = last_of (next ∷ pieces)

-- the lines of an input that a line feed ends
unfoldable pub whole_lines : List ℕ → List (List ℕ)
whole_lines input = all_but_last (pieces_of input)

-- the open line of an input: the bytes after the last line feed
unfoldable pub open_line : List ℕ → List ℕ
open_line input = last_of (pieces_of input)

-- the list of this line alone, or no line if it is empty
abbrev pub if_any : List ℕ → List (List ℕ)
if_any [] = []
if_any (byte ∷ bytes) = (byte ∷ bytes) ∷ []

-- the lines of a script: the last one may lack its line feed
abbrev pub script_lines : List ℕ → List (List ℕ)
script_lines input = whole_lines input ++ if_any (open_line input)

-- no byte is a line feed
abbrev pub HasNoFeed : List ℕ → Type 0
HasNoFeed bytes = AllByRecursion (λ byte. (byte == 10) ≡ false) bytes
