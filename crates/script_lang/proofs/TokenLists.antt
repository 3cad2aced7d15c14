-- The tokens of a command: words that each write a token, and tokens in ascending order.
use Rattle.std.proofs.Common.{◌≡◌, ℕ, ◌<◌, ◌≤◌, ℤ, true, false, List, length, map, Some, None, arith, get_or}
use Rattle.std.specs.Ordering.{int_cmp, int_eq}
use Rattle.std.specs.Set.{distinct_count}
use Rattle.std.proofs.lemmas.Bool.Decides.{nat_tests}
use Rattle.std.proofs.lemmas.Cmp.{int_cmp_total}
use Rattle.std.proofs.lemmas.Map.Made.{distinct_count-le}
use Rattle.cluster_terms.specs.Ascending.{ascending}
use Rattle.cluster_terms.proofs.lists.AscendingLemmas.{length-ascending}
use Rattle.cluster_terms.proofs.texts.ReadWords.{AreRead, all_found, all_read, not_read}
use Rattle.script_lang.specs.Grammar.{token_of, each_token_in_words, are_unordered_tokens}

-- where a word is no token
pub no_tokens : {B : Type 0} (word : B → List ℕ) (words : List B) (i : ℕ) (d : B) → i < length words → token_of (word (get_or words i d)) ≡ None → each_token_in_words (map word words) ≡ None
unfolding each_token_in_words
no_tokens word words i d within none = let no = not_read token_of word words i d within none in grind arith

-- where all words are tokens
pub all_tokens : {B : Type 0} (word : B → List ℕ) (words : List B) (i : ℕ) (tokens : List ℤ) → length words ≤ i → AreRead token_of word words i tokens → each_token_in_words (map word words) ≡ Some tokens
unfolding each_token_in_words
all_tokens word words i tokens past are =
    let all = all_read token_of word words i tokens past are in let found = all_found token_of word words i tokens past are in grind arith

-- in ascending order stand as many tokens as differ
pub length-in_order : (tokens : List ℤ) → length (ascending int_cmp tokens) ≡ distinct_count int_eq tokens
length-in_order tokens = length-ascending int_cmp int_cmp_total tokens

-- tokens are a command's where there are 1 to 256 and all of them stand in ascending order
pub are_unordered_tokens-all : (tokens : List ℤ) → 1 ≤ length tokens → length tokens ≤ 256 → length tokens ≤ length (ascending int_cmp tokens) → are_unordered_tokens tokens ≡ true
are_unordered_tokens-all tokens some few all =
    let count = length-in_order tokens in
    let most = distinct_count-le int_eq tokens in
    grind (arith, nat_tests)

-- and they are none where fewer of them do
pub are_unordered_tokens-fewer : (tokens : List ℤ) → length (ascending int_cmp tokens) < length tokens → are_unordered_tokens tokens ≡ false
are_unordered_tokens-fewer tokens fewer = (let count = length-in_order tokens in grind (arith, nat_tests))
