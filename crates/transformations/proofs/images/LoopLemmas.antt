-- Steps of the loops that look for a broken rule.
use Rattle.std.proofs.Common.{◌≡◌, ℕ, zero, suc, ◌+◌, ◌-◌, ◌^◌, ◌<◌, ◌≤◌, Bool, true, false, ◌||◌, ◌==◌, cond, not, pos, Bor, List, [], ◌∷◌, get_or, length, take, min, nat_le, nat_lt, Some, None, refl, sym, ap, ◌∙◌, arith, add-one}
use Rattle.std.proofs.lemmas.Bool.Decides.{nat_tests}
use Rattle.std.proofs.lemmas.Bool.Decides.{Decides-like, same_from_decides}
use Rattle.std.proofs.lemmas.List.{get_or_default, length-map}
use Rattle.std.proofs.lemmas.Map.Made.{distinct_count-le}
use Rattle.std.specs.Set.{distinct_count}
use Rattle.std.specs.Ordering.{int_eq}
use Rattle.cluster_terms.specs.Pair.{tokens_of}
use Rattle.transformations.specs.Refusals.{most_tokens}
use Rattle.transformations.specs.Rings.{widest}
use Rattle.transformations.specs.declared.image.Image.{Image}
use Rattle.std.proofs.lemmas.List.Folds.{list_any_more}
use Rattle.std.proofs.lemmas.Map.Text.{is_eq-slice_cmp}
use Rattle.std.proofs.lemmas.Slice.Eq.{bytes_eq-Decides}
use Rattle.std.specs.BTreeSet.{BTreeSet, Updates, contains_by}
use Rattle.std.specs.Cmp.Lexicographic.{slice_cmp}
use Rattle.std.specs.List.{list_any}
use Rattle.std.specs.Ordering.{is_eq, is_lt, nat_cmp, ordering_index}
use Rattle.std.specs.Str.{bytes_eq}
use Rattle.std.specs.declared.cmp.Ordering.{Ordering}
use Rattle.std.specs.declared.cmp.Ordering.TheVariants.{Less, Equal, Greater}
use Rattle.cluster_terms.specs.declared.node.NodeRow.{NodeRow}
use Rattle.cluster_terms.specs.declared.token.Pair.{Pair}
use Rattle.transformations.proofs.images.FirstBadLemmas.{any_behind, bad_here, bad_more, behind, behind-more, fall_here, fall_more}
use Rattle.transformations.specs.ImageRules.{first_bad, first_fall, id_before, id_falls, name_repeats, rule_17, shown_if}
use Rattle.transformations.specs.Movements.{owned}

-- ---- ids that don't ascend

pub id_bad : (nodes : List NodeRow) (i : ℕ) (row : NodeRow) (last : ℕ) → i < length nodes → first_bad id_falls [] (take i nodes) ≡ None
    → last ≡ id_before (behind [] i nodes) → row ≡ get_or nodes i row → row.id ≤ last → Some (pos row.id) ≡ first_bad id_falls [] nodes
id_bad nodes i row last in_i none is here le =
    let test : nat_le row.id (id_before (behind [] i nodes)) ≡ true = grind (arith, nat_tests) in
    let bad : id_falls (behind [] i nodes) row ≡ Some (pos row.id) = ap (λ b. shown_if b (pos row.id)) test in
    sym (bad_here id_falls [] nodes i row (pos row.id) in_i none (rw (← here) bad))

pub id_good : (nodes : List NodeRow) (i : ℕ) (row : NodeRow) (last : ℕ) → i < length nodes → first_bad id_falls [] (take i nodes) ≡ None
    → last ≡ id_before (behind [] i nodes) → row ≡ get_or nodes i row → last < row.id
    → (first_bad id_falls [] (take (i + 1) nodes) ≡ None) × (row.id ≡ id_before (behind [] (i + 1) nodes))
id_good nodes i row last in_i none is here less =
    let test : nat_le row.id (id_before (behind [] i nodes)) ≡ false = grind (arith, nat_tests) in
    let good : id_falls (behind [] i nodes) row ≡ None = ap (λ b. shown_if b (pos row.id)) test in
    (bad_more id_falls [] nodes i row in_i none (rw (← here) good), ap (λ r. r.id) here ∙ sym (ap id_before (behind-more [] nodes i row in_i)))

-- ---- items that don't ascend

pub less_index : (o : Ordering) (b : Bool) → b ≡ not (ordering_index o == 0) → is_lt o ≡ not b
less_index Less b e = ap not (sym e)
less_index Equal b e = ap not (sym e)
less_index Greater b e = ap not (sym e)

pub fall_bad : {A : Type 0} (order : A → A → Ordering) (items : List A) (at : ℕ) (one two three : A) → 1 ≤ at → at < length items
    → first_fall order 0 (take at items) ≡ None → one ≡ get_or items (at - 1) one → two ≡ get_or items at two → three ≡ get_or items at three → is_lt (order one two) ≡ false
    → Some (at, three) ≡ first_fall order 0 items
fall_bad order items zero one two three low in_at none e f k test = absurd (omega arith)
fall_bad {A} order items (suc i) one two three low in_at none e f k test =
    sym (fall_here order 0 items i two in_at none falls ∙ (λ j. Some (place j, (get_or_default items (suc i) two three in_at ∙ sym k) j)))
  where
    place : 0 + suc i ≡ suc i
    place = omega arith

    before : one ≡ get_or items i one
    before = let same : suc i - 1 ≡ i = omega arith in rw same at e

    falls : is_lt (order (get_or items i two) (get_or items (suc i) two)) ≡ false
    falls = rw (get_or_default items i two one (omega arith), ← before, ← f) test

pub fall_good : {A : Type 0} (order : A → A → Ordering) (items : List A) (at : ℕ) (one two : A) → 1 ≤ at → at < length items
    → first_fall order 0 (take at items) ≡ None → one ≡ get_or items (at - 1) one → two ≡ get_or items at two → is_lt (order one two) ≡ true
    → first_fall order 0 (take (at + 1) items) ≡ None
fall_good order items zero one two low in_at none e f test = absurd (omega arith)
fall_good {A} order items (suc i) one two low in_at none e f test = rw add-one (fall_more order 0 items i two in_at none rises)
  where
    before : one ≡ get_or items i one
    before = let same : suc i - 1 ≡ i = omega arith in rw same at e

    rises : is_lt (order (get_or items i two) (get_or items (suc i) two)) ≡ true
    rises = rw (get_or_default items i two one (omega arith), ← before, ← f) test

-- ---- names that repeat

bytes_flip : (xs ys : List ℕ) → bytes_eq xs ys ≡ bytes_eq ys xs
bytes_flip xs ys = same_from_decides (bytes_eq xs ys) (bytes_eq ys xs) (bytes_eq-Decides xs ys) (Decides-like (bytes_eq ys xs) (λ e. sym e) (λ e. sym e) (bytes_eq-Decides ys xs))

any_name : (name : List ℕ) (rows : List NodeRow) → list_any (λ (q : NodeRow). bytes_eq q.name name) rows ≡ list_any (λ (q : NodeRow). bytes_eq name q.name) rows
any_name name [] = refl
any_name name (q ∷ rows) = λ i. bytes_flip q.name name i || any_name name rows i

pub or_false : (b : Bool) → (b || false) ≡ b
or_false true = refl
or_false false = refl

abbrev pub has_name : BTreeSet (Bor (List ℕ)) → List ℕ → Bool
has_name names q = contains_by (λ k. slice_cmp nat_cmp q k.now) names

name_test : (nodes : List NodeRow) (i : ℕ) (row : NodeRow) (b : Bool) → list_any (λ (q : NodeRow). bytes_eq row.name q.name) (take i nodes) ≡ b
    → name_repeats (behind [] i nodes) row ≡ shown_if b (pos row.id)
name_test nodes i row b e =
    ap (λ t. shown_if t (pos row.id)) (any_behind (λ (q : NodeRow). bytes_eq q.name row.name) [] nodes i ∙ or_false (list_any (λ (q : NodeRow). bytes_eq q.name row.name) (take i nodes)) ∙ any_name row.name (take i nodes) ∙ e)

pub name_bad : (nodes : List NodeRow) (i : ℕ) (row : NodeRow) → i < length nodes → first_bad name_repeats [] (take i nodes) ≡ None
    → row ≡ get_or nodes i row → list_any (λ (q : NodeRow). bytes_eq row.name q.name) (take i nodes) ≡ true → Some (pos row.id) ≡ first_bad name_repeats [] nodes
name_bad nodes i row in_i none here there = sym (bad_here name_repeats [] nodes i row (pos row.id) in_i none (rw (← here) (name_test nodes i row true there)))

pub name_good : (nodes : List NodeRow) (i : ℕ) (row : NodeRow) → i < length nodes → first_bad name_repeats [] (take i nodes) ≡ None
    → row ≡ get_or nodes i row → list_any (λ (q : NodeRow). bytes_eq row.name q.name) (take i nodes) ≡ false → first_bad name_repeats [] (take (i + 1) nodes) ≡ None
name_good nodes i row in_i none here there = bad_more name_repeats [] nodes i row in_i none (rw (← here) (name_test nodes i row false there))

-- whether the name was in the set, by whether it is new there
pub name_known : (names : BTreeSet (Bor (List ℕ))) (nodes : List NodeRow) (i : ℕ) (row : NodeRow) (key : Bor (List ℕ)) (b : Bool) → key.now ≡ row.name
    → ((q : List ℕ) → has_name names q ≡ list_any (λ (r : NodeRow). bytes_eq q r.name) (take i nodes))
    → b ≡ not (has_name names key.now) → list_any (λ (r : NodeRow). bytes_eq row.name r.name) (take i nodes) ≡ not b
name_known names nodes i row key b is known new =
    ap (λ q. list_any (λ (r : NodeRow). bytes_eq q r.name) (take i nodes)) (sym is) ∙ sym (known key.now) ∙ sym (ap not new ∙ twice (has_name names key.now))
  where
    twice : (t : Bool) → not (not t) ≡ t
    twice true = refl
    twice false = refl

pub names_more : (names after : BTreeSet (Bor (List ℕ))) (nodes : List NodeRow) (i : ℕ) (row : NodeRow) (key : Bor (List ℕ)) → i < length nodes → row ≡ get_or nodes i row → key.now ≡ row.name
    → ((q : List ℕ) → has_name names q ≡ list_any (λ (r : NodeRow). bytes_eq q r.name) (take i nodes))
    → Updates (λ x y. slice_cmp nat_cmp x.now y.now) names after key true
    → (q : List ℕ) → has_name after q ≡ list_any (λ (r : NodeRow). bytes_eq q r.name) (take (i + 1) nodes)
names_more names after nodes i row key in_i here is known updates q =
    updates.0 (record { ref_ptr = (0, 0); now = q })
    ∙ (λ j. cond (same j) true (known q j))
    ∙ either (bytes_eq q row.name) (list_any (λ (r : NodeRow). bytes_eq q r.name) (take i nodes))
    ∙ (λ j. list_any (λ (r : NodeRow). bytes_eq q r.name) (take i nodes) || bytes_eq q (here j).name)
    ∙ sym (list_any_more (λ (r : NodeRow). bytes_eq q r.name) nodes i row in_i)
  where
    same : is_eq (slice_cmp nat_cmp key.now q) ≡ bytes_eq q row.name
    same = is_eq-slice_cmp key.now q ∙ bytes_flip key.now q ∙ ap (bytes_eq q) is

    either : (a b : Bool) → cond a true b ≡ (b || a)
    either true true = refl
    either true false = refl
    either false true = refl
    either false false = refl

-- ---- pairs that are counted

pub owned-le : (pairs : List Pair) (i n : ℕ) → length (owned (take i pairs) n) ≤ i
owned-le pairs zero n = omega arith
owned-le [] (suc i) n = omega arith
owned-le (q ∷ qs) (suc i) n = by (q.node == n) (owned-le qs i n)
  where
    by : (b : Bool) → length (owned (take i qs) n) ≤ i → length (cond b (q ∷ owned (take i qs) n) (owned (take i qs) n)) ≤ suc i
    by true le = omega (arith, le)
    by false le = omega (arith, le)

-- no more tokens differ than there are pairs
pub few_widest : (image : Image) (count : ℕ) → count ≡ min (length (widest image) + 0) (2 ^ 64 - 1) → count ≤ most_tokens → None ≡ rule_17 image
few_widest image count is few =
    let all = distinct_count-le int_eq (tokens_of (widest image)) in
    let pairs = length-map (widest image) (λ (p : Pair). p.token) in
    let test : nat_lt most_tokens (distinct_count int_eq (tokens_of (widest image))) ≡ false = grind (arith, nat_tests) in
    sym (ap (λ b. shown_if b (pos (distinct_count int_eq (tokens_of (widest image))))) test)

pub counted_fits : (items : List ℕ) (pairs : List Pair) (i ids at v : ℕ) → ((n : ℕ) → n < ids → get_or items n 0 ≡ length (owned (take i pairs) n))
    → length items ≡ ids → at < ids → v ≡ get_or items at v → v ≤ i
counted_fits items pairs i ids at v counts long low is =
    let known = counts at low in
    let le = owned-le pairs i at in
    let same : get_or items at v ≡ get_or items at 0 = get_or_default items at v 0 (omega arith) in
    omega arith
