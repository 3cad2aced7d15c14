-- The texts of replications: `simple RF`, and `topology DC:RF ..`.
use Rattle.std.specs.Prelude.{ℕ, Bool, if◌then◌else◌, List, [], ◌∷◌, ◌++◌, filter_map, flat_map, Option, Some, None, is_some, option_map, option_and_then, ◌==◌, codes, decimal}
use Rattle.std.specs.List.{slice_split, before_first, after_first, list_all}
use Rattle.std.specs.Str.{bytes_eq}
use Rattle.cluster_terms.specs.Ascending.{ascending}
use Rattle.cluster_terms.specs.Factors.{are_factors, by_datacenter}
use Rattle.cluster_terms.specs.Name.{is_name}
use Rattle.cluster_terms.specs.Rf.{factor_of}
use Rattle.cluster_terms.specs.declared.replication.Replication.{Replication}
use Rattle.cluster_terms.specs.declared.replication.Replication.TheVariants.{Simple, Topology}

-- the words of a text, separated by single spaces
abbrev pub words_of : List ℕ → List (List ℕ)
words_of text = slice_split (λ byte. byte == 32) text

-- whether a byte is a colon
abbrev pub is_colon : ℕ → Bool
is_colon byte = byte == 58

-- DC:RF: a name up to the first colon, and a factor after it
unfoldable pub factor_row_of : List ℕ → Option (List ℕ × ℕ)
factor_row_of word =
    let dc = before_first is_colon word in
    if is_name dc then option_map (λ n. (dc, n)) (factor_of (after_first is_colon word)) else None

-- the rows of the words, if each word has the form DC:RF
unfoldable pub rows_of : List (List ℕ) → Option (List (List ℕ × ℕ))
rows_of words = if list_all (λ word. is_some (factor_row_of word)) words then Some (filter_map factor_row_of words) else None

-- the factors with these rows, if the rows make up factors
abbrev pub factors_of : List (List ℕ × ℕ) → Option (List (List ℕ × ℕ))
factors_of rows = if are_factors rows then Some (ascending by_datacenter rows) else None

-- RF
abbrev pub simple_of : List (List ℕ) → Option Replication
simple_of (rf ∷ []) = option_map Simple (factor_of rf)
simple_of _ = None

-- `simple` and RF, or `topology` and 1 to 16 words DC:RF of different datacenters
unfoldable pub replication_of_words : List (List ℕ) → Option Replication
replication_of_words [] = None
replication_of_words (word ∷ words) =
    if bytes_eq word (codes "simple") then simple_of words
    else if bytes_eq word (codes "topology") then option_map Topology (option_and_then factors_of (rows_of words))
    else None

-- the replication that a text stands for, if any
abbrev pub replication_of : List ℕ → Option Replication
replication_of text = replication_of_words (words_of text)

-- the text of a row, after a space
abbrev pub row_text : List ℕ × ℕ → List ℕ
row_text row = codes " " ++ row.0 ++ codes ":" ++ decimal row.1

-- the text of a replication
unfoldable pub text_of : Replication → List ℕ
text_of (Simple rf) = codes "simple " ++ decimal rf
text_of (Topology factors) = codes "topology" ++ flat_map row_text factors
