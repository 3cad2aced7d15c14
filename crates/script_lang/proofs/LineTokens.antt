-- The numbers and the tokens that words write: nodes, and tokens that may be a command's.
use Rattle.std.proofs.Common.{◌≡◌, ◌<ℤ◌, ◌<◌, ◌≤◌, ◌^◌, if◌then◌else◌, ℕ, ℤ, Bool, ◌&&◌, true, false, List, [], ◌∷◌, filter_map, is_some, Option, Some, None, option_and_then, option_map, IsTrue, decimal, nat_le, nat_lt, refl, sym, arith}
use Rattle.std.specs.List.{AllByRecursion, cons_option, list_all}
use Rattle.std.specs.List.Sorted.{IsStrictlySortedBy}
use Rattle.std.specs.Option.{IfSome}
use Rattle.std.specs.Ordering.{int_cmp}
use Rattle.std.specs.Str.{bytes_eq}
use Rattle.std.specs.Str.Parse.{digits_value}
use Rattle.std.specs.declared.cmp.Ordering.TheVariants.{Less}
use Rattle.std.proofs.lemmas.Bool.{and_parts}
use Rattle.std.proofs.lemmas.Bool.Decides.{nat_tests}
use Rattle.std.proofs.lemmas.Cmp.{int_cmp_total, int_ranked}
use Rattle.std.proofs.lemmas.Int.{ints}
use Rattle.std.proofs.lemmas.Map.Keys.{sorted_head, sorted_tail}
use Rattle.std.proofs.lemmas.Option.{IfSome_then}
use Rattle.cluster_terms.specs.Arc.{IsToken}
use Rattle.cluster_terms.specs.Ascending.{ascending}
use Rattle.cluster_terms.proofs.lists.AscendingLemmas.{All-put_all, ascending_sorted}
use Rattle.transformations.specs.History as history
use Rattle.script_lang.specs.Grammar as spec
use Rattle.script_lang.proofs.OptionValues.{chained, mapped, where_true}
use Rattle.script_lang.proofs.TokenLists.{length-in_order}
use Rattle.script_lang.proofs.TokenTexts.{token_law}

-- tokens that are sorted ascend
ascend-from_sorted : (ts : List ℤ) → IsStrictlySortedBy int_cmp ts → history.ascend ts ≡ true
ascend-from_sorted [] up = refl
ascend-from_sorted (t ∷ []) up = refl
ascend-from_sorted (t ∷ u ∷ ts) up =
    let below : t <ℤ u = int_ranked t u Less (sym (sorted_head int_cmp t (u ∷ ts) up).0) in
    let rest = ascend-from_sorted (u ∷ ts) (sorted_tail int_cmp t (u ∷ ts) up) in
    grind (arith, ints)

-- a number below a limit, and a node
pub of_number : (limit : ℕ) (text : List ℕ) → IfSome (spec.number_below limit text) (λ n. n < limit)
unfolding spec.number_below
of_number limit text =
    let n = digits_value 10 text in
    where_true (λ m. m < limit) (bytes_eq text (decimal n) && nat_lt n limit) n
    (λ e. let below : nat_lt n limit ≡ true = (and_parts (bytes_eq text (decimal n)) (nat_lt n limit) e).1 in grind (arith, nat_tests))

abbrev pub IsNode : ℕ → Type 0
IsNode n = n < 2 ^ 32

pub of_node : (text : List ℕ) → IfSome (spec.node_of text) IsNode
of_node text = of_number (2 ^ 32) text

-- how many entries a reply may have
pub of_max : (text : List ℕ) → IfSome (spec.max_of text) (λ n. (1 ≤ n) × (n ≤ 1024))
of_max text = by (spec.number_below 1025 text) (of_number 1025 text)
  where
    ranged : (n : ℕ) (b : Bool) → nat_le 1 n ≡ b → n < 1025 → IfSome (if b then Some n else None) (λ n. (1 ≤ n) × (n ≤ 1024))
    ranged n true low below = (grind (arith, nat_tests), omega (arith, below))
    ranged n false low below = tt

    by : (o : Option ℕ) → IfSome o (λ n. n < 1025) → IfSome (option_and_then (λ n. if nat_le 1 n then Some n else None) o) (λ n. (1 ≤ n) × (n ≤ 1024))
    by None below = tt
    by (Some n) below = ranged n (nat_le 1 n) refl below

-- a token, and the tokens of words
pub of_token : (text : List ℕ) → IfSome (spec.token_of text) IsToken
of_token text = by (spec.token_of text) refl
  where
    by : (o : Option ℤ) → spec.token_of text ≡ o → IfSome o IsToken
    by None e = tt
    by (Some t) e = ((token_law t text).0 e).1

all_tokens : (words : List (List ℕ)) → AllByRecursion IsToken (filter_map spec.token_of words)
all_tokens [] = tt
all_tokens (word ∷ words) = by (spec.token_of word) (of_token word) (all_tokens words)
  where
    by : (o : Option ℤ) → IfSome o IsToken → AllByRecursion IsToken (filter_map spec.token_of words) → AllByRecursion IsToken (cons_option o (filter_map spec.token_of words))
    by None is rest = rest
    by (Some t) is rest = (is, rest)

each_token : (words : List (List ℕ)) → IfSome (spec.each_token_in_words words) (λ ts. AllByRecursion IsToken ts)
unfolding spec.each_token_in_words
each_token words = where_true (λ us. AllByRecursion IsToken us) (list_all (λ word. is_some (spec.token_of word)) words) (filter_map spec.token_of words) (λ e. all_tokens words)

-- tokens that may be a command's
abbrev pub AreTokens : List ℤ → Type 0
AreTokens ts = IsTrue (history.are_tokens ts) × AllByRecursion IsToken ts

-- those that are kept of some tokens are
of_kept : (tokens : List ℤ) → AllByRecursion IsToken tokens → IfSome (spec.kept_tokens tokens) AreTokens
of_kept tokens all = where_true AreTokens (spec.are_unordered_tokens tokens) (ascending int_cmp tokens) (λ e. (kept e, All-put_all int_cmp IsToken tokens [] all tt))
  where
    kept : spec.are_unordered_tokens tokens ≡ true → IsTrue (history.are_tokens (ascending int_cmp tokens))
    kept e =
        let up = ascend-from_sorted (ascending int_cmp tokens) (ascending_sorted int_cmp int_cmp_total tokens) in
        let count = length-in_order tokens in
        grind (arith, nat_tests)

-- those after a node are, too
abbrev pub AreNodeAndTokens : ℕ × List ℤ → Type 0
AreNodeAndTokens p = IsNode p.0 × AreTokens p.1

pub of_node_and_tokens : (words : List (List ℕ)) → IfSome (spec.node_and_tokens words) AreNodeAndTokens
unfolding spec.node_and_tokens
of_node_and_tokens [] = tt
of_node_and_tokens (node ∷ words) = chained _ IsNode AreNodeAndTokens after (spec.node_of node) (of_node node)
  where
    tokens : IfSome (spec.tokens_in_words words) AreTokens
    tokens = chained spec.kept_tokens (λ ts. AllByRecursion IsToken ts) AreTokens of_kept (spec.each_token_in_words words) (each_token words)

    after : (n : ℕ) → IsNode n → IfSome (option_map (λ ts. (n, ts)) (spec.tokens_in_words words)) AreNodeAndTokens
    after n is = mapped (λ ts. (n, ts)) AreNodeAndTokens (spec.tokens_in_words words) (IfSome_then (spec.tokens_in_words words) {P = AreTokens} {Q = λ ts. AreNodeAndTokens (n, ts)} tokens (λ ts are. (is, are)))
