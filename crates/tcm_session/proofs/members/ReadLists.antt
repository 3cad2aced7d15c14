-- Lists of nodes that are read part by part.
use Rattle.std.proofs.Common.{◌≡◌, ℕ, ◌+◌, ◌-◌, ◌<◌, Bool, true, false, ◌==◌, if◌then◌else◌, List, [], ◌∷◌, ◌++◌, drop, get_or, length, take, Option, Some, None, option_and_then, refl, sym, ap, ◌∙◌, arith}
use Rattle.std.proofs.lemmas.List.{drop_more, get_or-take, get_or_default, length-take, take-append-drop, take_rest}
use Rattle.std.proofs.lemmas.List.Splits.{slice_split_at, slice_split_none}
use Rattle.std.specs.List.{All, slice_split}
use Rattle.memchr.specs.Find.{Nowhere, Passes, is_byte}
use Rattle.tcm_session.specs.Request.{are_nodes, each_node}

-- ---- the first part

-- a byte before the first comma is no comma
no_comma : (text : List ℕ) (k i : ℕ) (d : ℕ) → Nowhere (Passes (is_byte 44) text) 0 k → i < k → i < length text → (get_or text i d == 44) ≡ false
no_comma text k i d none before within = by (get_or text i d == 44) refl
  where
    by : (b : Bool) → (get_or text i d == 44) ≡ b → (get_or text i d == 44) ≡ false
    by true is = absurd (none i (omega arith) before (ap (λ byte. byte == 44) (get_or_default text i 0 d within) ∙ is))
    by false is = is

-- a text without a comma is one part
pub one_part : (text : List ℕ) → Nowhere (Passes (is_byte 44) text) 0 (length text) → slice_split (λ byte. byte == 44) text ≡ text ∷ []
one_part text none = slice_split_none (λ byte. byte == 44) text (λ i d within. no_comma text (length text) i d none within within)

-- the first part ends at the first comma
pub part_and_rest : (text : List ℕ) (k : ℕ) → k < length text → Nowhere (Passes (is_byte 44) text) 0 k → Passes (is_byte 44) text k → slice_split (λ byte. byte == 44) text ≡ take k text ∷ slice_split (λ byte. byte == 44) (take (length text - (k + 1)) (drop (k + 1) text))
part_and_rest text k within none comma =
    ap (slice_split (λ byte. byte == 44)) (sym (take-append-drop k text) ∙ ap (λ rest. take k text ++ rest) (drop_more text k 0 within))
    ∙ slice_split_at (λ byte. byte == 44) (take k text) (get_or text k 0) (drop (k + 1) text) front comma
    ∙ ap (λ rest. take k text ∷ slice_split (λ byte. byte == 44) rest) (sym (take_rest text (k + 1)))
  where
    front : All (λ byte. (byte == 44) ≡ false) (take k text)
    front i d short =
        let size = length-take k text in
        let before : i < k = omega arith in
        ap (λ byte. byte == 44) (get_or-take k text i d before) ∙ no_comma text k i d none before (omega arith)

-- ---- the nodes

-- these nodes, if a list may have them
abbrev pub kept_nodes : List ℕ → Option (List ℕ)
kept_nodes ns = if are_nodes ns then Some ns else None

-- the list of these nodes and of those in further texts
abbrev pub kept_with : List ℕ → List (List ℕ) → Option (List ℕ)
kept_with ns texts = option_and_then (λ more. kept_nodes (ns ++ more)) (each_node texts)
