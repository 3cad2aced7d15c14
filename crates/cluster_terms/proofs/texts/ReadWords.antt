-- Words that are read one by one, as rows or tokens: what a loop over them has found.
use Rattle.std.proofs.Common.{◌≡◌, ℕ, ◌+◌, ◌<◌, ◌≤◌, true, false, List, [], ◌∷◌, ◌++◌, length, take, drop, map, filter_map, Option, Some, None, is_some, arith, sym, ◌∙◌, ap, get_or}
use Rattle.std.specs.List.{list_all}
use Rattle.std.proofs.lemmas.List.{drop_more, take_more, take_all, take-append-drop, map-append}
use Rattle.std.proofs.lemmas.List.Folds.{list_all-append}
use Rattle.std.proofs.lemmas.List.Elements.{filter_map-append}

-- what the first words are read as: each of these has a reading
pub record AreRead {X B : Type 0} (read : List ℕ → Option X) (word : B → List ℕ) (words : List B) (i : ℕ) (found : List X) : Type 0 where
  pub all : list_all (λ (text : List ℕ). is_some (read text)) (map word (take i words)) ≡ true
  pub readings : found ≡ filter_map read (map word (take i words))

module _ {X B : Type 0} (read : List ℕ → Option X) (word : B → List ℕ) (words : List B) where
  -- where a word has no reading
  pub not_read : (i : ℕ) (d : B) → i < length words → read (word (get_or words i d)) ≡ None → list_all (λ (text : List ℕ). is_some (read text)) (map word words) ≡ false
  not_read i d within none =
      let split : words ≡ take i words ++ (get_or words i d ∷ drop (i + 1) words) = sym (take-append-drop i words) ∙ ap (λ rest. take i words ++ rest) (drop_more words i d within) in
      let texts : map word words ≡ map word (take i words) ++ (word (get_or words i d) ∷ map word (drop (i + 1) words)) = ap (map word) split ∙ map-append word (take i words) (get_or words i d ∷ drop (i + 1) words) in
      let all = list_all-append (λ (text : List ℕ). is_some (read text)) (map word (take i words)) (word (get_or words i d) ∷ map word (drop (i + 1) words)) in
      ap (list_all (λ (text : List ℕ). is_some (read text))) texts ∙ all ∙ grind (arith, none)

  -- where one more word has one
  pub AreRead-more : (i : ℕ) (d : B) (x : X) (found new : List X) → i < length words → read (word (get_or words i d)) ≡ Some x → AreRead read word words i found → new ≡ found ++ x ∷ [] → AreRead read word words (i + 1) new
  AreRead-more i d x found new within some so_far added =
      let texts : map word (take (i + 1) words) ≡ map word (take i words) ++ (word (get_or words i d) ∷ []) = ap (map word) (take_more words i d within) ∙ map-append word (take i words) (get_or words i d ∷ []) in
      let both = list_all-append (λ (text : List ℕ). is_some (read text)) (map word (take i words)) (word (get_or words i d) ∷ []) in
      let mapped = filter_map-append read (map word (take i words)) (word (get_or words i d) ∷ []) in
      record {
        all = ap (list_all (λ (text : List ℕ). is_some (read text))) texts ∙ both ∙ grind (arith, so_far.all, some);
        readings = added ∙ (let last : filter_map read (word (get_or words i d) ∷ []) ≡ x ∷ [] = grind (arith, some) in let before = so_far.readings in cc) ∙ sym (ap (filter_map read) texts);
      }

  -- where all words have one
  module _ (i : ℕ) (found : List X) (past : length words ≤ i) (are : AreRead read word words i found) where
    pub all_read : list_all (λ (text : List ℕ). is_some (read text)) (map word words) ≡ true
    all_read = ap (λ ws. list_all (λ (text : List ℕ). is_some (read text)) (map word ws)) (sym (take_all i words past)) ∙ are.all

    pub all_found : found ≡ filter_map read (map word words)
    all_found = are.readings ∙ ap (λ ws. filter_map read (map word ws)) (take_all i words past)
