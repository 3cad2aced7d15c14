-- The pairs of a movement fit its kind exactly where the test says so.
use Rattle.std.proofs.Common.{◌≡◌, ℕ, ◌≤◌, Bool, true, false, not, ◌&&◌, ◌==◌, List, [], ◌∷◌, find, is_none, length, nat_le, Option, Some, None, pos, refl, sym, subst, ap, ◌∙◌, arith}
use Rattle.std.proofs.lemmas.Bool.Decides.{nat_tests}
use Rattle.std.specs.Cmp.Lexicographic.{pointwise}
use Rattle.std.specs.List.{AllByRecursion, list_all}
use Rattle.std.specs.List.Sorted.{IsStrictlySortedBy}
use Rattle.cluster_terms.proofs.rows.PairLemmas.{same_pair-refl, same_pair-tells}
use Rattle.cluster_terms.specs.Pair.{same_pair, tokens_of}
use Rattle.cluster_terms.specs.declared.token.Pair.{Pair}
use Rattle.transformations.proofs.commands.AcceptedLemmas.{same_id}
use Rattle.transformations.proofs.images.OverLemmas.{map_none}
use Rattle.transformations.proofs.images.OrderLaws.{falls_sorted, sorted_falls}
use Rattle.transformations.proofs.lists.ListLemmas.{all_weaker, none_found}
use Rattle.transformations.proofs.movements.ExchangeLemmas.{all_owned}
use Rattle.transformations.proofs.pairs.RingPairs.{by_token_total}
use Rattle.transformations.specs.ImageRules.{first_fall, fits, fits_join, fits_kind, fits_leave, fits_move, fits_replace, rule_14}
use Rattle.transformations.specs.code.OneNode.{IsOfOneNode}
use Rattle.transformations.specs.Orders.{by_token}
use Rattle.transformations.specs.Refusals.{other_rack}
use Rattle.transformations.specs.States.{owns_tokens}
use Rattle.transformations.specs.Movements.{first_node, owned, pairs_of}
use Rattle.transformations.specs.Valid.{Fits, IsJoin, IsLeave, IsMove, IsReplace}
use Rattle.transformations.specs.declared.image.Image.{Image}
use Rattle.transformations.specs.declared.sequence.Kind.{Kind}
use Rattle.transformations.specs.declared.sequence.Kind.TheVariants.{Join, Move, Leave, Replace}
use Rattle.transformations.specs.declared.sequence.SeqRow.{SeqRow}

-- ---- tests

pub both_true : (a b : Bool) → (a && b) ≡ true → (a ≡ true) × (b ≡ true)
both_true true true h = (refl, refl)
both_true true false h = absurd (let e : false ≡ true = h in cc)
both_true false b h = absurd (let e : false ≡ true = h in cc)

true_both : (a b : Bool) → a ≡ true → b ≡ true → (a && b) ≡ true
true_both a b e f = rw (e, f) refl

not_true : (a : Bool) → not a ≡ true → a ≡ false
not_true false h = refl
not_true true h = absurd (let e : false ≡ true = h in cc)

pub no_falls : {A : Type 0} (o : Option A) → is_none o ≡ true → o ≡ None
no_falls None h = refl
no_falls (Some x) h = absurd (let e : false ≡ true = h in cc)

no_length : {A : Type 0} (xs : List A) → length xs ≡ 0 → xs ≡ []
no_length [] h = refl
no_length (x ∷ xs) h = absurd (omega (arith, h))

same_pairs : (ps qs : List Pair) → pointwise same_pair ps qs ≡ true → ps ≡ qs
same_pairs [] [] h = refl
same_pairs [] (q ∷ qs) h = absurd (let e : false ≡ true = h in cc)
same_pairs (p ∷ ps) [] h = absurd (let e : false ≡ true = h in cc)
same_pairs (p ∷ ps) (q ∷ qs) h =
    let parts = both_true (same_pair p q) (pointwise same_pair ps qs) h in
    λ i. same_pair-tells p q parts.0 i ∷ same_pairs ps qs parts.1 i

pairs_same : (ps : List Pair) → pointwise same_pair ps ps ≡ true
pairs_same [] = refl
pairs_same (p ∷ ps) = true_both (same_pair p p) (pointwise same_pair ps ps) (same_pair-refl p) (pairs_same ps)

pairs_alike : (ps qs : List Pair) → ps ≡ qs → pointwise same_pair ps qs ≡ true
pairs_alike ps qs e = subst (λ l. pointwise same_pair ps l ≡ true) e (pairs_same ps)

all_own : (n : ℕ) (ps : List Pair) → list_all (λ (p : Pair). p.node == n) ps ≡ true → AllByRecursion (λ p. p.node ≡ n) ps
all_own n [] h = tt
all_own n (p ∷ ps) h =
    let parts = both_true (p.node == n) (list_all (λ (q : Pair). q.node == n) ps) h in
    (same_id p.node n parts.0, all_own n ps parts.1)

own_all : (n : ℕ) (ps : List Pair) → AllByRecursion (λ p. p.node ≡ n) ps → list_all (λ (p : Pair). p.node == n) ps ≡ true
own_all n [] all = refl
own_all n (p ∷ ps) all =
    let here : (p.node == n) ≡ true = grind (arith, nat_tests, all.0) in
    true_both (p.node == n) (list_all (λ (q : Pair). q.node == n) ps) here (own_all n ps all.1)

is_count : (a b : ℕ) → (a == b) ≡ true → a ≡ b
is_count a b h = same_id a b h

count_is : (a b : ℕ) → a ≡ b → (a == b) ≡ true
count_is a b h = grind (arith, nat_tests)

at_most : (a b : ℕ) → nat_le a b ≡ true → a ≤ b
at_most a b h = grind (arith, nat_tests)

most_at : (a b : ℕ) → a ≤ b → nat_le a b ≡ true
most_at a b h = grind (arith, nat_tests)

-- ---- from the test

join_from : (image : Image) (s : SeqRow) → fits_join image s ≡ true → IsJoin image s
join_from image s h =
    let a = both_true (length s.out_pairs == 0) (nat_le 1 (length s.in_pairs) && (nat_le (length s.in_pairs) 256 && (list_all (λ p. p.node == s.node) s.in_pairs && not (owns_tokens image s.node)))) h in
    let b = both_true (nat_le 1 (length s.in_pairs)) (nat_le (length s.in_pairs) 256 && (list_all (λ p. p.node == s.node) s.in_pairs && not (owns_tokens image s.node))) a.1 in
    let d = both_true (nat_le (length s.in_pairs) 256) (list_all (λ p. p.node == s.node) s.in_pairs && not (owns_tokens image s.node)) b.1 in
    let e = both_true (list_all (λ p. p.node == s.node) s.in_pairs) (not (owns_tokens image s.node)) d.1 in
    record {
      out = no_length s.out_pairs (is_count (length s.out_pairs) 0 a.0);
      some = at_most 1 (length s.in_pairs) b.0;
      few = at_most (length s.in_pairs) 256 d.0;
      own = all_own s.node s.in_pairs e.0;
      bare = not_true (owns_tokens image s.node) e.1;
    }

move_from : (image : Image) (s : SeqRow) → fits_move image s ≡ true → IsMove image s
move_from image s h =
    let a = both_true (pointwise same_pair s.out_pairs (owned image.tokens s.node)) ((length s.out_pairs == 1) && ((length s.in_pairs == 1) && list_all (λ p. p.node == s.node) s.in_pairs)) h in
    let b = both_true (length s.out_pairs == 1) ((length s.in_pairs == 1) && list_all (λ p. p.node == s.node) s.in_pairs) a.1 in
    let d = both_true (length s.in_pairs == 1) (list_all (λ p. p.node == s.node) s.in_pairs) b.1 in
    record {
      out = same_pairs s.out_pairs (owned image.tokens s.node) a.0;
      one = is_count (length s.out_pairs) 1 b.0;
      new = is_count (length s.in_pairs) 1 d.0;
      own = all_own s.node s.in_pairs d.1;
    }

leave_from : (image : Image) (s : SeqRow) → fits_leave image s ≡ true → IsLeave image s
leave_from image s h =
    let a = both_true (pointwise same_pair s.out_pairs (owned image.tokens s.node)) (nat_le 1 (length s.out_pairs) && (length s.in_pairs == 0)) h in
    let b = both_true (nat_le 1 (length s.out_pairs)) (length s.in_pairs == 0) a.1 in
    record {
      out = same_pairs s.out_pairs (owned image.tokens s.node) a.0;
      some = at_most 1 (length s.out_pairs) b.0;
      in_none = no_length s.in_pairs (is_count (length s.in_pairs) 0 b.1);
    }

has_first : (ps : List Pair) (n : ℕ) → first_node ps ≡ Some n → 1 ≤ length ps
has_first [] n h = absurd (let e : None ≡ Some n = h in cc)
has_first (p ∷ ps) n h = omega arith

replace_from : (image : Image) (s : SeqRow) (o : Option ℕ) → first_node s.out_pairs ≡ o → fits_replace image s o ≡ true → IsReplace image s
replace_from image s None is h = absurd (let e : false ≡ true = h in cc)
replace_from image s (Some gone) is h =
    let a = both_true (pointwise same_pair s.out_pairs (owned image.tokens gone)) (pointwise same_pair s.in_pairs (pairs_of s.node (tokens_of s.out_pairs)) && (not (owns_tokens image s.node) && is_none (other_rack image s.node gone))) h in
    let b = both_true (pointwise same_pair s.in_pairs (pairs_of s.node (tokens_of s.out_pairs))) (not (owns_tokens image s.node) && is_none (other_rack image s.node gone)) a.1 in
    let d = both_true (not (owns_tokens image s.node)) (is_none (other_rack image s.node gone)) b.1 in
    record {
      gone = gone;
      out = same_pairs s.out_pairs (owned image.tokens gone) a.0;
      some = has_first s.out_pairs gone is;
      same = same_pairs s.in_pairs (pairs_of s.node (tokens_of s.out_pairs)) b.0;
      bare = not_true (owns_tokens image s.node) d.0;
      near = no_falls (other_rack image s.node gone) d.1;
    }

pub kind_from : (image : Image) (s : SeqRow) (k : Kind) → fits_kind k image s ≡ true → Fits k image s
kind_from image s Join h = join_from image s h
kind_from image s Move h = move_from image s h
kind_from image s Leave h = leave_from image s h
kind_from image s Replace h = replace_from image s (first_node s.out_pairs) refl h

-- ---- to the test

first_owned : (ps : List Pair) (n : ℕ) → 1 ≤ length ps → AllByRecursion (λ p. p.node ≡ n) ps → first_node ps ≡ Some n
first_owned [] n some all = absurd (omega arith)
first_owned (p ∷ ps) n some all = ap Some all.0

replace_to : (image : Image) (s : SeqRow) (r : IsReplace image s) → fits_replace image s (Some r.gone) ≡ true
replace_to image s r =
    true_both (pointwise same_pair s.out_pairs (owned image.tokens r.gone)) (pointwise same_pair s.in_pairs (pairs_of s.node (tokens_of s.out_pairs)) && (not (owns_tokens image s.node) && is_none (other_rack image s.node r.gone)))
    (pairs_alike s.out_pairs (owned image.tokens r.gone) r.out)
    (true_both (pointwise same_pair s.in_pairs (pairs_of s.node (tokens_of s.out_pairs))) (not (owns_tokens image s.node) && is_none (other_rack image s.node r.gone))
    (pairs_alike s.in_pairs (pairs_of s.node (tokens_of s.out_pairs)) r.same)
    (true_both (not (owns_tokens image s.node)) (is_none (other_rack image s.node r.gone)) (ap not r.bare) (ap is_none r.near)))

replaced_first : (image : Image) (s : SeqRow) (r : IsReplace image s) → first_node s.out_pairs ≡ Some r.gone
replaced_first image s r = first_owned s.out_pairs r.gone r.some (subst (λ ps. AllByRecursion (λ p. p.node ≡ r.gone) ps) (sym r.out) (all_owned image.tokens r.gone))

pub kind_to : (image : Image) (s : SeqRow) (k : Kind) → Fits k image s → fits_kind k image s ≡ true
kind_to image s Join f =
    true_both (length s.out_pairs == 0) (nat_le 1 (length s.in_pairs) && (nat_le (length s.in_pairs) 256 && (list_all (λ p. p.node == s.node) s.in_pairs && not (owns_tokens image s.node))))
    (ap (λ ps. length ps == 0) f.out)
    (true_both (nat_le 1 (length s.in_pairs)) (nat_le (length s.in_pairs) 256 && (list_all (λ p. p.node == s.node) s.in_pairs && not (owns_tokens image s.node))) (most_at 1 (length s.in_pairs) f.some)
    (true_both (nat_le (length s.in_pairs) 256) (list_all (λ p. p.node == s.node) s.in_pairs && not (owns_tokens image s.node)) (most_at (length s.in_pairs) 256 f.few)
    (true_both (list_all (λ p. p.node == s.node) s.in_pairs) (not (owns_tokens image s.node)) (own_all s.node s.in_pairs f.own) (ap not f.bare))))
kind_to image s Move f =
    true_both (pointwise same_pair s.out_pairs (owned image.tokens s.node)) ((length s.out_pairs == 1) && ((length s.in_pairs == 1) && list_all (λ p. p.node == s.node) s.in_pairs))
    (pairs_alike s.out_pairs (owned image.tokens s.node) f.out)
    (true_both (length s.out_pairs == 1) ((length s.in_pairs == 1) && list_all (λ p. p.node == s.node) s.in_pairs) (count_is (length s.out_pairs) 1 f.one)
    (true_both (length s.in_pairs == 1) (list_all (λ p. p.node == s.node) s.in_pairs) (count_is (length s.in_pairs) 1 f.new) (own_all s.node s.in_pairs f.own)))
kind_to image s Leave f =
    true_both (pointwise same_pair s.out_pairs (owned image.tokens s.node)) (nat_le 1 (length s.out_pairs) && (length s.in_pairs == 0))
    (pairs_alike s.out_pairs (owned image.tokens s.node) f.out)
    (true_both (nat_le 1 (length s.out_pairs)) (length s.in_pairs == 0) (most_at 1 (length s.out_pairs) f.some) (ap (λ ps. length ps == 0) f.in_none))
kind_to image s Replace f = ap (fits_replace image s) (replaced_first image s f) ∙ replace_to image s f

-- ---- the whole test

pub fits_from : (image : Image) (s : SeqRow) → fits image s ≡ true → IsStrictlySortedBy by_token s.in_pairs × Fits s.kind image s
fits_from image s h =
    let parts = both_true (is_none (first_fall by_token 0 s.in_pairs)) (fits_kind s.kind image s) h in
    (falls_sorted by_token by_token_total 0 s.in_pairs (no_falls (first_fall by_token 0 s.in_pairs) parts.0), kind_from image s s.kind parts.1)

pub fits_to : (image : Image) (s : SeqRow) → IsStrictlySortedBy by_token s.in_pairs → Fits s.kind image s → fits image s ≡ true
fits_to image s up f = true_both (is_none (first_fall by_token 0 s.in_pairs)) (fits_kind s.kind image s) (ap is_none (sorted_falls by_token 0 s.in_pairs up)) (kind_to image s s.kind f)

-- ---- of one node

of_one : (ps : List Pair) (n : ℕ) → AllByRecursion (λ p. p.node ≡ n) ps → AllByRecursion (λ p. first_node ps ≡ Some p.node) ps
of_one [] n all = tt
of_one (q ∷ qs) n all = all_weaker (λ (p : Pair). p.node ≡ n) (λ p. Some q.node ≡ Some p.node) (λ p is. ap Some (all.0 ∙ sym is)) (q ∷ qs) all

owned_one : (image : Image) (s : SeqRow) (n : ℕ) → s.out_pairs ≡ owned image.tokens n → IsOfOneNode s
owned_one image s n out = of_one s.out_pairs n (subst (λ ps. AllByRecursion (λ p. p.node ≡ n) ps) (sym out) (all_owned image.tokens n))

pub fits_one : (image : Image) (s : SeqRow) (k : Kind) → Fits k image s → IsOfOneNode s
fits_one image s Join f = subst (λ ps. AllByRecursion (λ p. first_node ps ≡ Some p.node) ps) (sym f.out) tt
fits_one image s Move f = owned_one image s s.node f.out
fits_one image s Leave f = owned_one image s s.node f.out
fits_one image s Replace f = owned_one image s f.gone f.out

pub fitting : (image : Image) → rule_14 image ≡ None → AllByRecursion (λ s. fits image s ≡ true) image.sequences
fitting image none =
    all_weaker (λ s. not (fits image s) ≡ false) (λ s. fits image s ≡ true) (λ s h. twice (fits image s) h) image.sequences
    (none_found (λ s. not (fits image s)) image.sequences (map_none (λ (s : SeqRow). pos s.node) (find (λ s. not (fits image s)) image.sequences) none))
  where
    twice : (a : Bool) → not a ≡ false → a ≡ true
    twice true h = refl
    twice false h = absurd (let e : true ≡ false = h in cc)

pub of_one_node : (image : Image) → rule_14 image ≡ None → AllByRecursion IsOfOneNode image.sequences
of_one_node image none = all_weaker (λ s. fits image s ≡ true) IsOfOneNode (λ s h. fits_one image s s.kind (fits_from image s h).1) image.sequences (fitting image none)
