-- The words of a replication say one: a factor, or factors.
use Rattle.std.proofs.Common.{◌≡◌, ℕ, ◌≤◌, Bool, true, false, ◌&&◌, if◌then◌else◌, nat_le, List, [], ◌∷◌, length, filter_map, Option, Some, None, is_some, option_map, option_and_then, codes, decimal, refl, arith}
use Rattle.std.specs.List.{AllByRecursion, cons_option, before_first, after_first, list_all}
use Rattle.std.specs.Option.{IfSome}
use Rattle.std.specs.Set.{distinct_count}
use Rattle.std.specs.Str.{bytes_eq}
use Rattle.std.specs.Str.Parse.{digits_value}
use Rattle.std.proofs.lemmas.Bool.Decides.{nat_tests}
use Rattle.std.proofs.lemmas.List.Elements.{All-from_recursion}
use Rattle.cluster_terms.proofs.texts.FactorsLemmas.{factors_in_order, length-by_name}
use Rattle.cluster_terms.specs.Ascending.{ascending}
use Rattle.cluster_terms.specs.Factors.{IsFactorRow, IsFactors, are_factors, by_datacenter, names_of}
use Rattle.cluster_terms.specs.Name.{is_name}
use Rattle.cluster_terms.specs.Replication.{IsReplication}
use Rattle.cluster_terms.specs.ReplicationText.{factors_of, is_colon, replication_of_words, factor_row_of, rows_of, simple_of}
use Rattle.cluster_terms.specs.Rf.{IsFactor, factor_of}
use Rattle.cluster_terms.specs.declared.replication.Replication.TheVariants.{Simple, Topology}
use Rattle.script_lang.proofs.OptionValues.{chained, either, mapped, where_true}

-- ---- factors

of_factor : (text : List ℕ) → IfSome (factor_of text) IsFactor
unfolding factor_of
of_factor text =
    let n = digits_value 10 text in
    where_true IsFactor (bytes_eq text (decimal n) && (nat_le 1 n && nat_le n 16)) n (λ e. (grind (arith, nat_tests, e), grind (arith, nat_tests, e)))

of_row : (word : List ℕ) → IfSome (factor_row_of word) IsFactorRow
unfolding factor_row_of
of_row word = by (is_name (before_first is_colon word)) refl
  where
    by : (b : Bool) → is_name (before_first is_colon word) ≡ b
        → IfSome (if b then option_map (λ n. (before_first is_colon word, n)) (factor_of (after_first is_colon word)) else None) IsFactorRow
    by false e = tt
    by true e = within (factor_of (after_first is_colon word)) (of_factor (after_first is_colon word))
      where
        within : (o : Option ℕ) → IfSome o IsFactor → IfSome (option_map (λ n. (before_first is_colon word, n)) o) IsFactorRow
        within None h = tt
        within (Some n) h = record { name = e; factor = h }

of_each_row : (words : List (List ℕ)) → AllByRecursion IsFactorRow (filter_map factor_row_of words)
of_each_row [] = tt
of_each_row (word ∷ words) = by (factor_row_of word) (of_row word) (of_each_row words)
  where
    by : (o : Option (List ℕ × ℕ)) → IfSome o IsFactorRow → AllByRecursion IsFactorRow (filter_map factor_row_of words) → AllByRecursion IsFactorRow (cons_option o (filter_map factor_row_of words))
    by None h rest = rest
    by (Some row) h rest = (h, rest)

of_rows : (words : List (List ℕ)) → IfSome (rows_of words) (AllByRecursion IsFactorRow)
unfolding rows_of
of_rows words = where_true (AllByRecursion IsFactorRow) (list_all (λ word. is_some (factor_row_of word)) words) (filter_map factor_row_of words) (λ e. of_each_row words)

of_factors : (rows : List (List ℕ × ℕ)) → AllByRecursion IsFactorRow rows → IfSome (factors_of rows) IsFactors
of_factors rows all = where_true IsFactors (are_factors rows) (ascending by_datacenter rows) (λ e.
    let some : 1 ≤ length rows = grind (arith, nat_tests, e) in
    let few : length rows ≤ 16 = grind (arith, nat_tests, e) in
    let count : distinct_count bytes_eq (names_of rows) ≡ length rows = grind (arith, nat_tests, e) in
    factors_in_order rows some few (omega (arith, length-by_name rows, count)) (All-from_recursion IsFactorRow rows all))

-- ---- replications

of_simple : (words : List (List ℕ)) → IfSome (simple_of words) IsReplication
of_simple [] = tt
of_simple (rf ∷ []) = mapped Simple IsReplication (factor_of rf) (of_factor rf)
of_simple (rf ∷ word ∷ words) = tt

pub of_replication : (words : List (List ℕ)) → IfSome (replication_of_words words) IsReplication
unfolding replication_of_words
of_replication [] = tt
of_replication (word ∷ words) =
    either IsReplication (bytes_eq word (codes "simple")) (simple_of words) _ (of_simple words)
    (either IsReplication (bytes_eq word (codes "topology")) (option_map Topology (option_and_then factors_of (rows_of words))) None
    (mapped Topology IsReplication (option_and_then factors_of (rows_of words)) (chained factors_of (AllByRecursion IsFactorRow) IsFactors of_factors (rows_of words) (of_rows words))) tt)
