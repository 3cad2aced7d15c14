-- A replication's text reads as the replication.
use Rattle.std.proofs.Common.{◌≡◌, ℕ, ◌+◌, ◌<◌, ◌≤◌, ◌&&◌, ◌==◌, true, false, not, List, [], ◌∷◌, ◌++◌, length, take, drop, map, filter_map, flat_map, Option, Some, is_some, option_map, option_and_then, nat_le, decimal, codes, refl, arith, sym, ◌∙◌, ap, subst, ◌⊎◌, inl, inr, append_assoc}
use Rattle.std.proofs.Math.Seq.{take-append_seam, drop-append-add}
use Rattle.std.specs.List.{All, list_all, position_or_len, before_first, after_first}
use Rattle.std.proofs.lemmas.Bool.{and_parts, cases_lt}
use Rattle.std.proofs.lemmas.Bool.Decides.{nat_tests, eqb_tells}
use Rattle.std.proofs.lemmas.Fmt.{decimal_digit}
use Rattle.std.proofs.lemmas.List.{append-nil}
use Rattle.std.proofs.lemmas.List.Elements.{All-nil, All-cons, All-head, All-tail, All-append}
use Rattle.std.proofs.lemmas.List.Splits.{slice_split_none, slice_split_at}
use Rattle.cluster_terms.specs.Factors.{IsFactorRow, IsFactors, by_datacenter}
use Rattle.cluster_terms.specs.Name.{is_name, is_name_byte}
use Rattle.cluster_terms.specs.Replication.{IsReplication}
use Rattle.cluster_terms.specs.ReplicationText.{words_of, is_colon, factor_row_of, rows_of, factors_of, replication_of, replication_of_words, row_text, text_of}
use Rattle.cluster_terms.specs.Rf.{IsFactor, factor_of}
use Rattle.cluster_terms.specs.declared.replication.Replication.{Replication}
use Rattle.cluster_terms.specs.declared.replication.Replication.TheVariants.{Simple, Topology}
use Rattle.cluster_terms.proofs.lists.AscendingLemmas.{ascending_same}
use Rattle.cluster_terms.proofs.texts.FactorTexts.{two_digits, written}
use Rattle.cluster_terms.proofs.texts.FactorsLemmas.{by_name_total, are_factors-all}

-- a text has not this byte
abbrev Lacks : ℕ → List ℕ → Type 0
Lacks c text = All (λ (b : ℕ). (b == c) ≡ false) text

-- a byte that names have not is in no name
name_lacks : (c : ℕ) → is_name_byte c ≡ false → (text : List ℕ) → list_all is_name_byte text ≡ true → Lacks c text
name_lacks c none [] all = All-nil (λ (b : ℕ). (b == c) ≡ false)
name_lacks c none (b ∷ bs) all =
    let parts = and_parts (is_name_byte b) (list_all is_name_byte bs) all in
    let head : (b == c) ≡ false = elim (eqb_tells b c) [ inl p ↦ absurd (let same = ap is_name_byte p.1 in let yes = parts.0 in cc) | inr p ↦ p.0 ] in
    All-cons (λ (b : ℕ). (b == c) ≡ false) b bs head (name_lacks c none bs parts.1)

name_bytes : (text : List ℕ) → is_name text ≡ true → list_all is_name_byte text ≡ true
name_bytes text name = (and_parts (nat_le 1 (length text) && nat_le (length text) 32) (list_all is_name_byte text) name).1

-- a factor's text has no space
factor_lacks : (n : ℕ) → IsFactor n → Lacks 32 (decimal n)
factor_lacks n is = by_size (cases_lt n 10)
  where
    by_size : (n < 10) ⊎ (10 ≤ n) → Lacks 32 (decimal n)
    by_size (inl small) =
        subst (Lacks 32) (sym (decimal_digit n small)) (All-cons (λ (b : ℕ). (b == 32) ≡ false) (48 + n) [] (grind (arith, nat_tests)) (All-nil (λ (b : ℕ). (b == 32) ≡ false)))
    by_size (inr large) =
        subst (Lacks 32) (sym (two_digits n large is.1)) (All-cons (λ (b : ℕ). (b == 32) ≡ false) 49 ((38 + n) ∷ []) refl (All-cons (λ (b : ℕ). (b == 32) ≡ false) (38 + n) [] (grind (arith, nat_tests)) (All-nil (λ (b : ℕ). (b == 32) ≡ false))))

-- the word of a row
abbrev row_word : List ℕ × ℕ → List ℕ
row_word row = row.0 ++ (58 ∷ decimal row.1)

word_lacks : (row : List ℕ × ℕ) → IsFactorRow row → Lacks 32 (row_word row)
word_lacks row is =
    All-append (λ (b : ℕ). (b == 32) ≡ false) row.0 (58 ∷ decimal row.1) (name_lacks 32 refl row.0 (name_bytes row.0 is.name)) (All-cons (λ (b : ℕ). (b == 32) ≡ false) 58 (decimal row.1) refl (factor_lacks row.1 is.factor))

row_text-word : (row : List ℕ × ℕ) → row_text row ≡ 32 ∷ row_word row
row_text-word row = simp append_assoc

-- the words of a text that has rows after a word
words_of_rows : (word : List ℕ) (rows : List (List ℕ × ℕ)) → Lacks 32 word → All IsFactorRow rows → words_of (word ++ flat_map row_text rows) ≡ word ∷ map row_word rows
words_of_rows word [] lacks all = ap words_of (append-nil word) ∙ slice_split_none (λ byte. byte == 32) word lacks
words_of_rows word (row ∷ rows) lacks all =
    ap (λ (text : List ℕ). words_of (word ++ (text ++ flat_map row_text rows))) (row_text-word row)
    ∙ slice_split_at (λ byte. byte == 32) word 32 (row_word row ++ flat_map row_text rows) lacks refl
    ∙ ap (λ (words : List (List ℕ)). word ∷ words) (words_of_rows (row_word row) rows (word_lacks row (All-head IsFactorRow row rows all)) (All-tail IsFactorRow row rows all))

-- the first colon of a row's word stands after its name
at_colon : (name text : List ℕ) → Lacks 58 name → position_or_len is_colon (name ++ (58 ∷ text)) ≡ length name
at_colon [] text lacks = refl
at_colon (b ∷ bs) text lacks =
    let head = All-head (λ (b : ℕ). (b == 58) ≡ false) b bs lacks in
    let rest = at_colon bs text (All-tail (λ (b : ℕ). (b == 58) ≡ false) b bs lacks) in
    grind arith

-- the word of a row reads as the row
factor_row_of-word : (row : List ℕ × ℕ) → IsFactorRow row → factor_row_of (row_word row) ≡ Some row
unfolding factor_row_of
factor_row_of-word row is =
    let name : is_name row.0 ≡ true = is.name in
    let place = at_colon row.0 (decimal row.1) (name_lacks 58 refl row.0 (name_bytes row.0 is.name)) in
    let dc : before_first is_colon (row_word row) ≡ row.0 = ap (λ (k : ℕ). take k (row_word row)) place ∙ take-append_seam row.0 (58 ∷ decimal row.1) in
    let rf : after_first is_colon (row_word row) ≡ decimal row.1 = ap (λ (k : ℕ). drop (k + 1) (row_word row)) place ∙ drop-append-add row.0 (58 ∷ decimal row.1) 1 in
    let factor : factor_of (after_first is_colon (row_word row)) ≡ Some row.1 = ap factor_of rf ∙ written row.1 (decimal row.1) is.factor refl in
    grind arith

-- the words of rows read as the rows
all_rows : (rows : List (List ℕ × ℕ)) → All IsFactorRow rows → (list_all (λ (word : List ℕ). is_some (factor_row_of word)) (map row_word rows) ≡ true) × (filter_map factor_row_of (map row_word rows) ≡ rows)
all_rows [] all = (refl, refl)
all_rows (row ∷ rows) all =
    let here = factor_row_of-word row (All-head IsFactorRow row rows all) in
    let rest = all_rows rows (All-tail IsFactorRow row rows all) in
    (grind (arith, rest.0), grind (arith, rest.1))

rows_of-words : (rows : List (List ℕ × ℕ)) → All IsFactorRow rows → rows_of (map row_word rows) ≡ Some rows
unfolding rows_of
rows_of-words rows all = (let both = all_rows rows all in grind (arith, both.0, both.1))

-- rows of factors make these factors
pub factors_of-rows : (rows : List (List ℕ × ℕ)) → IsFactors rows → factors_of rows ≡ Some rows
factors_of-rows rows is =
    let same = ascending_same by_datacenter by_name_total rows is.ascending in
    let yes = are_factors-all rows is.some is.few (omega (arith, ap length same)) in
    grind arith

-- a test finds a byte that a text has
tells : (text : List ℕ) → list_all (λ (b : ℕ). not (b == 32)) text ≡ true → Lacks 32 text
tells [] all = All-nil (λ (b : ℕ). (b == 32) ≡ false)
tells (b ∷ bs) all =
    let parts = and_parts (not (b == 32)) (list_all (λ (b : ℕ). not (b == 32)) bs) all in
    All-cons (λ (b : ℕ). (b == 32) ≡ false) b bs (grind (arith, nat_tests, parts.0)) (tells bs parts.1)

-- a replication's text reads as the replication
pub round_trip : (r : Replication) → IsReplication r → replication_of (text_of r) ≡ Some r
unfolding text_of replication_of_words
round_trip (Simple rf) is =
    let words : words_of (codes "simple" ++ (32 ∷ decimal rf)) ≡ codes "simple" ∷ (decimal rf ∷ []) = ap (λ (rest : List (List ℕ)). codes "simple" ∷ rest) (slice_split_none (λ byte. byte == 32) (decimal rf) (factor_lacks rf is)) in
    ap replication_of_words words ∙ ap (option_map Simple) (written rf (decimal rf) is refl)
round_trip (Topology factors) is =
    ap replication_of_words (words_of_rows (codes "topology") factors (tells (codes "topology") refl) is.valid)
    ∙ ap (λ (rows : Option (List (List ℕ × ℕ))). option_map Topology (option_and_then factors_of rows)) (rows_of-words factors is.valid)
    ∙ ap (option_map Topology) (factors_of-rows factors is)
