-- The rules on tokens that movements bring, and what they stand for.
use Rattle.std.proofs.Common.{◌≡◌, ℕ, ◌≤◌, Bool, true, false, ◌||◌, ◌==◌, ℤ, pos, List, [], ◌∷◌, ◌++◌, cond, find, length, nat_lt, None, option_map, refl, sym, ap, ◌∙◌, arith}
use Rattle.std.proofs.lemmas.Bool.Decides.{nat_tests}
use Rattle.std.proofs.lemmas.Cmp.{int_eq_equiv}
use Rattle.std.proofs.lemmas.Int.{ints}
use Rattle.std.proofs.lemmas.List.{length-map}
use Rattle.std.proofs.lemmas.List.Folds.{list_any-append}
use Rattle.std.proofs.lemmas.Map.Made.{length-from_keys}
use Rattle.std.specs.List.{AllByRecursion, IsDistinct}
use Rattle.std.specs.List.Sorted.{IsStrictlySortedBy}
use Rattle.std.specs.Ordering.{int_cmp, int_eq}
use Rattle.std.specs.Set.{distinct_count, is_member}
use Rattle.std.specs.declared.cmp.Ordering.TheVariants.{Less}
use Rattle.cluster_terms.specs.Pair.{tokens_of}
use Rattle.cluster_terms.specs.declared.token.Pair.{Pair}
use Rattle.transformations.proofs.images.OverLemmas.{map_none}
use Rattle.transformations.proofs.images.FirstBadLemmas.{none_or, or_none}
use Rattle.transformations.proofs.images.OrderLaws.{not_shown}
use Rattle.transformations.proofs.images.TokenLoops.{has_token}
use Rattle.transformations.proofs.lists.ListLemmas.{all_append, all_both, all_weaker, find_none, none_found}
use Rattle.transformations.specs.ImageRules.{first_bad, is_known, rule_16, rule_17, shown_if, token_repeats}
use Rattle.transformations.specs.Orders.{by_token}
use Rattle.transformations.specs.Refusals.{most_tokens}
use Rattle.transformations.specs.Rings.{incoming, widest}
use Rattle.transformations.specs.Movements.{owned, pairs_of}
use Rattle.transformations.specs.Valid.{Fits, brought, brought_by}
use Rattle.transformations.specs.declared.image.Image.{Image}
use Rattle.transformations.specs.declared.sequence.Kind.{Kind}
use Rattle.transformations.specs.declared.sequence.Kind.TheVariants.{Join, Move, Leave, Replace}
use Rattle.transformations.specs.declared.sequence.SeqRow.{SeqRow}

abbrev pub AreFresh : List Pair → Type 0
AreFresh ps = IsDistinct int_eq (tokens_of ps)

-- no pair in the list has the token of this pair
abbrev pub IsNewIn : List Pair → Pair → Type 0
IsNewIn ps p = has_token ps p.token ≡ false

-- ---- tests

left_false : (a b : Bool) → (a || b) ≡ false → a ≡ false
left_false a b h = grind arith

right_false : (a b : Bool) → (a || b) ≡ false → b ≡ false
right_false a b h = grind arith

or_both : (a b : Bool) → a ≡ false → b ≡ false → (a || b) ≡ false
or_both a b e f = rw (e, f) refl

int_flip : (a b : ℤ) → int_eq a b ≡ int_eq b a
int_flip a b = grind (arith, ints)

has_append : (ps qs : List Pair) (t : ℤ) → has_token (ps ++ qs) t ≡ (has_token ps t || has_token qs t)
has_append ps qs t = list_any-append (λ (q : Pair). int_eq q.token t) ps qs

new_left : (ps qs : List Pair) (p : Pair) → IsNewIn (ps ++ qs) p → IsNewIn ps p
new_left ps qs p new = left_false (has_token ps p.token) (has_token qs p.token) (sym (has_append ps qs p.token) ∙ new)

new_right : (ps qs : List Pair) (p : Pair) → IsNewIn (ps ++ qs) p → IsNewIn qs p
new_right ps qs p new = right_false (has_token ps p.token) (has_token qs p.token) (sym (has_append ps qs p.token) ∙ new)

new_both : (ps qs : List Pair) (p : Pair) → IsNewIn ps p → IsNewIn qs p → IsNewIn (ps ++ qs) p
new_both ps qs p one two = has_append ps qs p.token ∙ or_both (has_token ps p.token) (has_token qs p.token) one two

-- ---- lists without a token twice

apart_from : (p : Pair) (ps : List Pair) → IsNewIn ps p → AllByRecursion (λ t. int_eq p.token t ≡ false) (tokens_of ps)
apart_from p [] new = tt
apart_from p (q ∷ qs) new = (
  int_flip p.token q.token ∙ left_false (int_eq q.token p.token) (has_token qs p.token) new,
  apart_from p qs (right_false (int_eq q.token p.token) (has_token qs p.token) new),
)

new_from : (p : Pair) (ps : List Pair) → AllByRecursion (λ t. int_eq p.token t ≡ false) (tokens_of ps) → IsNewIn ps p
new_from p [] all = refl
new_from p (q ∷ qs) all = or_both (int_eq q.token p.token) (has_token qs p.token) (int_flip q.token p.token ∙ all.0) (new_from p qs all.1)

new_turned : (p : Pair) (ps qs : List Pair) → AllByRecursion (IsNewIn (p ∷ ps)) qs → IsNewIn qs p
new_turned p ps [] all = refl
new_turned p ps (q ∷ qs) all =
    or_both (int_eq q.token p.token) (has_token qs p.token) (int_flip q.token p.token ∙ left_false (int_eq p.token q.token) (has_token ps q.token) all.0) (new_turned p ps qs all.1)

pub fresh_append : (ps qs : List Pair) → AreFresh ps → AreFresh qs → AllByRecursion (IsNewIn ps) qs → AreFresh (ps ++ qs)
unfolding IsDistinct
fresh_append [] qs one two new = two
fresh_append (p ∷ ps) qs one two new = (
  apart_from p (ps ++ qs) (new_both ps qs p (new_from p ps one.0) (new_turned p ps qs new)),
  fresh_append ps qs one.1 two (all_weaker (IsNewIn (p ∷ ps)) (IsNewIn ps) (λ q h. right_false (int_eq p.token q.token) (has_token ps q.token) h) qs new),
)

new_each : (p : Pair) (ps qs : List Pair) → IsNewIn qs p → AllByRecursion (IsNewIn ps) qs → AllByRecursion (IsNewIn (p ∷ ps)) qs
new_each p ps [] new all = tt
new_each p ps (q ∷ qs) new all = (
  or_both (int_eq p.token q.token) (has_token ps q.token) (int_flip p.token q.token ∙ left_false (int_eq q.token p.token) (has_token qs p.token) new) all.0,
  new_each p ps qs (right_false (int_eq q.token p.token) (has_token qs p.token) new) all.1,
)

all_new : (qs : List Pair) → AllByRecursion (IsNewIn []) qs
all_new [] = tt
all_new (q ∷ qs) = (refl, all_new qs)

pub fresh_split : (ps qs : List Pair) → AreFresh (ps ++ qs) → AreFresh ps × AreFresh qs × AllByRecursion (IsNewIn ps) qs
unfolding IsDistinct
fresh_split [] qs d = (tt, d, all_new qs)
fresh_split (p ∷ ps) qs d =
    let new : IsNewIn (ps ++ qs) p = new_from p (ps ++ qs) d.0 in
    let rest : AreFresh ps × AreFresh qs × AllByRecursion (IsNewIn ps) qs = fresh_split ps qs d.1 in
    ((apart_from p ps (new_left ps qs p new), rest.0), rest.1, new_each p ps qs (new_right ps qs p new) rest.2)

less_differs : (a b : ℤ) → int_cmp a b ≡ Less → int_eq a b ≡ false
less_differs a b h = grind (arith, ints, h)

pub fresh_sorted : (ps : List Pair) → IsStrictlySortedBy by_token ps → AreFresh ps
unfolding IsDistinct IsStrictlySortedBy
fresh_sorted [] up = tt
fresh_sorted (p ∷ ps) up = (all_tokens ps up.0, fresh_sorted ps up.1)
  where
    all_tokens : (qs : List Pair) → AllByRecursion (λ q. by_token p q ≡ Less) qs → AllByRecursion (λ t. int_eq p.token t ≡ false) (tokens_of qs)
    all_tokens [] all = tt
    all_tokens (q ∷ qs) all = (less_differs p.token q.token all.0, all_tokens qs all.1)

-- ---- tokens that a movement brings

fresh_brought : (k : Kind) (ps : List Pair) → AreFresh ps → AreFresh (brought_by k ps)
unfolding IsDistinct
fresh_brought Join ps d = d
fresh_brought Move ps d = d
fresh_brought Leave ps d = d
fresh_brought Replace ps d = tt

new_brought : (k : Kind) (ps : List Pair) (p : Pair) → IsNewIn ps p → IsNewIn (brought_by k ps) p
new_brought Join ps p new = new
new_brought Move ps p new = new
new_brought Leave ps p new = new
new_brought Replace ps p new = refl

-- the tokens that a movement puts in are those that it brings, and tokens of the ring
abbrev pub PutsKnown : List Pair → SeqRow → Type 0
PutsKnown ring s = (t : ℤ) → has_token ring t ≡ false → has_token s.in_pairs t ≡ has_token (brought_by s.kind s.in_pairs) t

has_handed : (n : ℕ) (ps : List Pair) (t : ℤ) → has_token (pairs_of n (tokens_of ps)) t ≡ has_token ps t
has_handed n [] t = refl
has_handed n (p ∷ ps) t = ap (λ b. int_eq p.token t || b) (has_handed n ps t)

has_owned : (ring : List Pair) (n : ℕ) (t : ℤ) → has_token ring t ≡ false → has_token (owned ring n) t ≡ false
has_owned [] n t none = refl
has_owned (p ∷ ps) n t none = by (p.node == n) (has_owned ps n t (right_false (int_eq p.token t) (has_token ps t) none))
  where
    by : (b : Bool) → has_token (owned ps n) t ≡ false → has_token (cond b (p ∷ owned ps n) (owned ps n)) t ≡ false
    by true rest = or_both (int_eq p.token t) (has_token (owned ps n) t) (left_false (int_eq p.token t) (has_token ps t) none) rest
    by false rest = rest

puts_by : (image : Image) (s : SeqRow) (k : Kind) → Fits k image s → (t : ℤ) → has_token image.tokens t ≡ false → has_token s.in_pairs t ≡ has_token (brought_by k s.in_pairs) t
puts_by image s Join f t none = refl
puts_by image s Move f t none = refl
puts_by image s Leave f t none = refl
puts_by image s Replace f t none =
    ap (λ ps. has_token ps t) f.same ∙ has_handed s.node s.out_pairs t ∙ ap (λ ps. has_token ps t) f.out ∙ has_owned image.tokens f.gone t none

pub puts_known : (image : Image) (s : SeqRow) → Fits s.kind image s → PutsKnown image.tokens s
puts_known image s f = puts_by image s s.kind f

-- so the widest ring has the tokens of the ring and of those that movements bring
same_tokens : (ring : List Pair) (rows : List SeqRow) → AllByRecursion (PutsKnown ring) rows → (t : ℤ) → (has_token ring t || has_token (brought rows) t) ≡ (has_token ring t || has_token (incoming rows) t)
same_tokens ring [] all t = refl
same_tokens ring (s ∷ rows) all t =
    ap (λ b. has_token ring t || b) (has_append (brought_by s.kind s.in_pairs) (brought rows) t)
    ∙ by (has_token ring t) refl (same_tokens ring rows all.1 t)
    ∙ ap (λ b. has_token ring t || b) (sym (has_append s.in_pairs (incoming rows) t))
  where
    by : (b : Bool) → has_token ring t ≡ b → (b || has_token (brought rows) t) ≡ (b || has_token (incoming rows) t)
        → (b || (has_token (brought_by s.kind s.in_pairs) t || has_token (brought rows) t)) ≡ (b || (has_token s.in_pairs t || has_token (incoming rows) t))
    by true e rest = refl
    by false e rest = λ i. sym (all.0 t e) i || rest i

pub same_widest : (ring : List Pair) (rows : List SeqRow) → AllByRecursion (PutsKnown ring) rows → (t : ℤ) → has_token (ring ++ brought rows) t ≡ has_token (ring ++ incoming rows) t
same_widest ring rows all t = has_append ring (brought rows) t ∙ same_tokens ring rows all t ∙ sym (has_append ring (incoming rows) t)

-- ---- no token that movements bring is known

tokens_from : (ring : List Pair) (before xs : List SeqRow) → first_bad (token_repeats ring) before xs ≡ None → AllByRecursion (λ s. IsStrictlySortedBy by_token s.in_pairs) xs
    → AreFresh (brought xs) × AllByRecursion (IsNewIn (ring ++ incoming before)) (brought xs)
unfolding IsDistinct
tokens_from ring before [] none up = (tt, tt)
tokens_from ring before (s ∷ xs) none up =
    let own : List Pair = brought_by s.kind s.in_pairs in
    let parts : (token_repeats ring before s ≡ None) × (first_bad (token_repeats ring) (s ∷ before) xs ≡ None) = or_none (token_repeats ring before s) (first_bad (token_repeats ring) (s ∷ before) xs) none in
    let here : AllByRecursion (IsNewIn (ring ++ incoming before)) own = none_found (is_known ring before) own (map_none (λ (p : Pair). p.token) (find (is_known ring before) own) parts.0) in
    let later : AreFresh (brought xs) × AllByRecursion (IsNewIn (ring ++ (s.in_pairs ++ incoming before))) (brought xs) = tokens_from ring (s ∷ before) xs parts.1 up.1 in
    let cross : AllByRecursion (IsNewIn own) (brought xs) =
    all_weaker (IsNewIn (ring ++ (s.in_pairs ++ incoming before))) (IsNewIn own)
    (λ p new. new_brought s.kind s.in_pairs p (new_left s.in_pairs (incoming before) p (new_right ring (s.in_pairs ++ incoming before) p new))) (brought xs) later.1 in
    let rest : AllByRecursion (IsNewIn (ring ++ incoming before)) (brought xs) =
    all_weaker (IsNewIn (ring ++ (s.in_pairs ++ incoming before))) (IsNewIn (ring ++ incoming before))
    (λ p new. new_both ring (incoming before) p (new_left ring (s.in_pairs ++ incoming before) p new) (new_right s.in_pairs (incoming before) p (new_right ring (s.in_pairs ++ incoming before) p new))) (brought xs) later.1 in
    (fresh_append own (brought xs) (fresh_brought s.kind s.in_pairs (fresh_sorted s.in_pairs up.0)) later.0 cross, all_append (IsNewIn (ring ++ incoming before)) own (brought xs) here rest)

pub fresh_from : (image : Image) → IsStrictlySortedBy by_token image.tokens → AllByRecursion (λ s. IsStrictlySortedBy by_token s.in_pairs) image.sequences → rule_16 image ≡ None → AreFresh (image.tokens ++ brought image.sequences)
fresh_from image ring up none =
    let parts = tokens_from image.tokens [] image.sequences none up in
    fresh_append image.tokens (brought image.sequences) (fresh_sorted image.tokens ring) parts.0
    (all_weaker (IsNewIn (image.tokens ++ [])) (IsNewIn image.tokens) (λ p new. new_left image.tokens [] p new) (brought image.sequences) parts.1)

all_left : {X : Type 0} (P : X → Type 0) (xs ys : List X) → AllByRecursion P (xs ++ ys) → AllByRecursion P xs
all_left P [] ys all = tt
all_left P (x ∷ xs) ys all = (all.0, all_left P xs ys all.1)

all_right : {X : Type 0} (P : X → Type 0) (xs ys : List X) → AllByRecursion P (xs ++ ys) → AllByRecursion P ys
all_right P [] ys all = all
all_right P (x ∷ xs) ys all = all_right P xs ys all.1

tokens_to : (ring : List Pair) (before xs : List SeqRow) → AllByRecursion (PutsKnown ring) before → AllByRecursion (PutsKnown ring) xs → AreFresh (brought xs)
    → AllByRecursion (IsNewIn (ring ++ brought before)) (brought xs) → first_bad (token_repeats ring) before xs ≡ None
tokens_to ring before [] known more d new = refl
tokens_to ring before (s ∷ xs) known more d new =
    let own : List Pair = brought_by s.kind s.in_pairs in
    let split : AreFresh own × AreFresh (brought xs) × AllByRecursion (IsNewIn own) (brought xs) = fresh_split own (brought xs) d in
    let here : AllByRecursion (λ p. is_known ring before p ≡ false) own =
    all_weaker (IsNewIn (ring ++ brought before)) (λ p. is_known ring before p ≡ false) (λ p h. sym (same_widest ring before known p.token) ∙ h) own (all_left (IsNewIn (ring ++ brought before)) own (brought xs) new) in
    let rest : AllByRecursion (IsNewIn (ring ++ (own ++ brought before))) (brought xs) =
    all_both (IsNewIn (ring ++ brought before)) (IsNewIn own) (IsNewIn (ring ++ (own ++ brought before)))
    (λ p one two. new_both ring (own ++ brought before) p (new_left ring (brought before) p one) (new_both own (brought before) p two (new_right ring (brought before) p one)))
    (brought xs) (all_right (IsNewIn (ring ++ brought before)) own (brought xs) new) split.2 in
    none_or (token_repeats ring before s) (first_bad (token_repeats ring) (s ∷ before) xs)
    (ap (option_map (λ (p : Pair). p.token)) (find_none (is_known ring before) own here))
    (tokens_to ring (s ∷ before) xs (more.0, known) more.1 split.1 rest)

pub fresh_to : (image : Image) → AllByRecursion (PutsKnown image.tokens) image.sequences → AreFresh (image.tokens ++ brought image.sequences) → rule_16 image ≡ None
fresh_to image known d =
    let split = fresh_split image.tokens (brought image.sequences) d in
    tokens_to image.tokens [] image.sequences tt known split.1
    (all_weaker (IsNewIn image.tokens) (IsNewIn (image.tokens ++ [])) (λ p new. new_both image.tokens [] p new refl) (brought image.sequences) split.2)

-- ---- how many tokens there are

member_token : (ps : List Pair) (t : ℤ) → is_member int_eq (tokens_of ps) t ≡ has_token ps t
member_token [] t = refl
member_token (p ∷ ps) t = λ i. int_flip t p.token i || member_token ps t i

pub count_widest : (image : Image) → AllByRecursion (PutsKnown image.tokens) image.sequences → AreFresh (image.tokens ++ brought image.sequences)
    → length (image.tokens ++ brought image.sequences) ≡ distinct_count int_eq (tokens_of (widest image))
count_widest image known d =
    sym (length-map (image.tokens ++ brought image.sequences) (λ (p : Pair). p.token))
    ∙ length-from_keys int_eq_equiv (tokens_of (image.tokens ++ brought image.sequences)) (tokens_of (widest image)) d
    (λ t. member_token (image.tokens ++ brought image.sequences) t ∙ same_widest image.tokens image.sequences known t ∙ sym (member_token (widest image) t))

pub few_from : (image : Image) → AllByRecursion (PutsKnown image.tokens) image.sequences → AreFresh (image.tokens ++ brought image.sequences) → rule_17 image ≡ None → length (image.tokens ++ brought image.sequences) ≤ most_tokens
few_from image known d none =
    let count = count_widest image known d in
    let test : nat_lt most_tokens (distinct_count int_eq (tokens_of (widest image))) ≡ false = not_shown (nat_lt most_tokens (distinct_count int_eq (tokens_of (widest image)))) (pos (distinct_count int_eq (tokens_of (widest image)))) none in
    let few : distinct_count int_eq (tokens_of (widest image)) ≤ most_tokens = grind (arith, nat_tests, test) in
    omega arith

pub few_to : (image : Image) → AllByRecursion (PutsKnown image.tokens) image.sequences → AreFresh (image.tokens ++ brought image.sequences) → length (image.tokens ++ brought image.sequences) ≤ most_tokens → rule_17 image ≡ None
few_to image known d few =
    let count = count_widest image known d in
    let less : distinct_count int_eq (tokens_of (widest image)) ≤ most_tokens = omega arith in
    let test : nat_lt most_tokens (distinct_count int_eq (tokens_of (widest image))) ≡ false = grind (arith, nat_tests, less) in
    ap (λ b. shown_if b (pos (distinct_count int_eq (tokens_of (widest image))))) test
