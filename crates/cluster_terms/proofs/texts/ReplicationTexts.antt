-- The texts of replications.
use Rattle.std.proofs.Common.{◌≡◌, ℕ, ◌+◌, ◌<◌, ◌≤◌, List, [], length, map, Some, None, arith, ap, get_or}
use Rattle.std.specs.List.{position, position_or_len, after_first}
use Rattle.std.proofs.lemmas.Bool.Decides.{nat_tests}
use Rattle.std.proofs.lemmas.List.{drop_all}
use Rattle.cluster_terms.specs.Rf.{factor_of}
use Rattle.cluster_terms.specs.ReplicationText.{is_colon, factor_row_of, rows_of}
use Rattle.cluster_terms.proofs.texts.FactorTexts.{no_factor}
use Rattle.cluster_terms.proofs.texts.ReadWords.{AreRead, all_found, all_read, not_read}

-- a word with no colon is no row
pub no_colon : (word : List ℕ) → position is_colon word ≡ None → factor_row_of word ≡ None
unfolding factor_row_of
no_colon word none =
    let past : length word ≤ position_or_len is_colon word + 1 = grind (arith, nat_tests) in
    let empty : after_first is_colon word ≡ [] = drop_all (position_or_len is_colon word + 1) word past in
    let no : factor_of [] ≡ None = no_factor [] (λ c low high e. (let l = ap length e in omega arith)) (λ c low high e. (let l = ap length e in omega arith)) in
    grind arith

-- where a word is no row
pub no_rows : {B : Type 0} (word : B → List ℕ) (words : List B) (i : ℕ) (d : B) → i < length words → factor_row_of (word (get_or words i d)) ≡ None → rows_of (map word words) ≡ None
unfolding rows_of
no_rows word words i d within none = let no = not_read factor_row_of word words i d within none in grind arith

-- where all words are rows
pub all_rows : {B : Type 0} (word : B → List ℕ) (words : List B) (i : ℕ) (rows : List (List ℕ × ℕ)) → length words ≤ i → AreRead factor_row_of word words i rows → rows_of (map word words) ≡ Some rows
unfolding rows_of
all_rows word words i rows past are =
    let all = all_read factor_row_of word words i rows past are in let found = all_found factor_row_of word words i rows past are in grind arith
