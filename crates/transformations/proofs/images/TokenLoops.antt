-- The loop that looks for a token that movements bring twice.
use Rattle.std.proofs.Common.{◌≡◌, ℕ, ◌+◌, ◌<◌, Bool, ◌||◌, ℤ, List, [], ◌∷◌, find, get_or, length, take, cond, Option, Some, None, option_map, refl, sym, subst, ap, ◌∙◌}
use Rattle.std.proofs.lemmas.List.Folds.{list_any-append, list_any_more}
use Rattle.std.specs.BTreeSet.{BTreeSet, contains}
use Rattle.std.specs.List.{list_any}
use Rattle.std.specs.Ordering.{int_cmp, int_eq}
use Rattle.cluster_terms.specs.declared.token.Pair.{Pair}
use Rattle.transformations.proofs.images.FirstBadLemmas.{any_behind, bad_here, bad_more, behind}
use Rattle.transformations.proofs.images.LoopLemmas.{or_false}
use Rattle.transformations.specs.ImageRules.{first_bad, is_known, token_repeats}
use Rattle.transformations.specs.Rings.{incoming}
use Rattle.transformations.specs.Valid.{brought_by}
use Rattle.transformations.specs.declared.sequence.SeqRow.{SeqRow}

-- whether a pair has a token, and whether one of the pairs that a movement puts in has it
abbrev pub has_token : List Pair → ℤ → Bool
has_token ps t = list_any (λ q. int_eq q.token t) ps

abbrev pub puts : ℤ → SeqRow → Bool
puts t s = has_token s.in_pairs t

any_incoming : (t : ℤ) (rows : List SeqRow) → has_token (incoming rows) t ≡ list_any (puts t) rows
any_incoming t [] = refl
any_incoming t (s ∷ rows) = list_any-append (λ (q : Pair). int_eq q.token t) s.in_pairs (incoming rows) ∙ ap (λ b. has_token s.in_pairs t || b) (any_incoming t rows)

-- a pair's token is known, by a set of the tokens that earlier movements put in
abbrev pub is_seen : List Pair → BTreeSet ℤ → Pair → Bool
is_seen ring seen p = has_token ring p.token || contains int_cmp seen p.token

known-seen : (ring : List Pair) (seen : BTreeSet ℤ) (rows : List SeqRow) (i : ℕ) → ((t : ℤ) → contains int_cmp seen t ≡ list_any (puts t) (take i rows))
    → (p : Pair) → is_seen ring seen p ≡ is_known ring (behind [] i rows) p
known-seen ring seen rows i known p =
    ap (λ b. has_token ring p.token || b) (known p.token ∙ sym (or_false (list_any (puts p.token) (take i rows))) ∙ sym (any_behind (puts p.token) [] rows i) ∙ sym (any_incoming p.token (behind [] i rows)))
    ∙ sym (list_any-append (λ (q : Pair). int_eq q.token p.token) ring (incoming (behind [] i rows)))

pub find_alike : {X : Type 0} (f g : X → Bool) → ((x : X) → f x ≡ g x) → (xs : List X) → find f xs ≡ find g xs
find_alike f g same [] = refl
find_alike f g same (x ∷ xs) = λ i. cond (same x i) (Some x) (find_alike f g same xs i)

abbrev pub seen_token : List Pair → BTreeSet ℤ → SeqRow → Option ℤ
seen_token ring seen s = option_map (λ p. p.token) (find (is_seen ring seen) (brought_by s.kind s.in_pairs))

token_test : (ring : List Pair) (seen : BTreeSet ℤ) (rows : List SeqRow) (i : ℕ) (row : SeqRow) → ((t : ℤ) → contains int_cmp seen t ≡ list_any (puts t) (take i rows))
    → token_repeats ring (behind [] i rows) row ≡ seen_token ring seen row
token_test ring seen rows i row known =
    ap (option_map (λ (p : Pair). p.token)) (sym (find_alike (is_seen ring seen) (is_known ring (behind [] i rows)) (known-seen ring seen rows i known) (brought_by row.kind row.in_pairs)))

pub token_bad : (ring : List Pair) (seen : BTreeSet ℤ) (rows : List SeqRow) (i : ℕ) (row : SeqRow) (t : ℤ) → i < length rows → first_bad (token_repeats ring) [] (take i rows) ≡ None
    → row ≡ get_or rows i row → ((t : ℤ) → contains int_cmp seen t ≡ list_any (puts t) (take i rows)) → Some t ≡ seen_token ring seen row → Some t ≡ first_bad (token_repeats ring) [] rows
token_bad ring seen rows i row t in_i none here known e =
    sym (bad_here (token_repeats ring) [] rows i row t in_i none (subst (λ r. token_repeats ring (behind [] i rows) r ≡ Some t) here (token_test ring seen rows i row known ∙ sym e)))

pub token_good : (ring : List Pair) (seen : BTreeSet ℤ) (rows : List SeqRow) (i : ℕ) (row : SeqRow) → i < length rows → first_bad (token_repeats ring) [] (take i rows) ≡ None
    → row ≡ get_or rows i row → ((t : ℤ) → contains int_cmp seen t ≡ list_any (puts t) (take i rows)) → None ≡ seen_token ring seen row → first_bad (token_repeats ring) [] (take (i + 1) rows) ≡ None
token_good ring seen rows i row in_i none here known e =
    bad_more (token_repeats ring) [] rows i row in_i none (subst (λ r. token_repeats ring (behind [] i rows) r ≡ None) here (token_test ring seen rows i row known ∙ sym e))

pub seen_more : (seen after : BTreeSet ℤ) (rows : List SeqRow) (i : ℕ) (row : SeqRow) → i < length rows → row ≡ get_or rows i row
    → ((t : ℤ) → contains int_cmp seen t ≡ list_any (puts t) (take i rows)) → ((t : ℤ) → contains int_cmp after t ≡ (contains int_cmp seen t || has_token row.in_pairs t))
    → (t : ℤ) → contains int_cmp after t ≡ list_any (puts t) (take (i + 1) rows)
seen_more seen after rows i row in_i here known more t =
    more t ∙ ap (λ b. b || puts t row) (known t) ∙ ap (λ r. list_any (puts t) (take i rows) || puts t r) here ∙ sym (list_any_more (puts t) rows i row in_i)
