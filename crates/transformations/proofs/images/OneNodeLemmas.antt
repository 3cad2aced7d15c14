-- Movements whose outgoing pairs are of one node.
use Rattle.std.proofs.Common.{◌≡◌, ℕ, zero, suc, ◌+◌, ◌<◌, Bool, true, false, ◌||◌, not, ◌==◌, find, option_map, pos, List, [], ◌∷◌, get_or, length, take, Some, None, refl, sym, subst, ap, ◌∙◌, arith}
use Rattle.std.specs.List.{AllByRecursion, list_any}
use Rattle.cluster_terms.specs.declared.token.Pair.{Pair}
use Rattle.transformations.proofs.images.FirstBadLemmas.{any_behind, bad_here, bad_more, behind, find_here, find_more}
use Rattle.transformations.proofs.images.LoopLemmas.{or_false}
use Rattle.transformations.proofs.lists.ListLemmas.{all_weaker}
use Rattle.transformations.specs.ImageRules.{first_bad, fits, node_repeats, rule_14, shares_node, shown_if}
use Rattle.transformations.specs.code.OneNode.{IsOfOneNode, is_in, meets, passes}
use Rattle.transformations.specs.Movements.{first_node, takes_part}
use Rattle.transformations.specs.declared.image.Image.{Image}
use Rattle.transformations.specs.declared.sequence.SeqRow.{SeqRow}

pub all_take : {X : Type 0} (P : X → Type 0) (xs : List X) (i : ℕ) → AllByRecursion P xs → AllByRecursion P (take i xs)
all_take P xs zero all = tt
all_take P [] (suc i) all = tt
all_take P (x ∷ xs) (suc i) all = (all.0, all_take P xs i all.1)

pub all_get : {X : Type 0} (P : X → Type 0) (xs : List X) (i : ℕ) (d : X) → AllByRecursion P xs → i < length xs → P (get_or xs i d)
all_get P [] i d all h = absurd (omega arith)
all_get P (x ∷ xs) zero d all h = all.0
all_get P (x ∷ xs) (suc i) d all h = all_get P xs i d all.1 (omega arith)

any_alike : {X : Type 0} (f g : X → Bool) (xs : List X) → AllByRecursion (λ x. f x ≡ g x) xs → list_any f xs ≡ list_any g xs
any_alike f g [] all = refl
any_alike f g (x ∷ xs) all = λ i. all.0 i || any_alike f g xs all.1 i

-- a test of the nodes is a test of the first one
any_same : (test : ℕ → Bool) (n : ℕ) (ps : List Pair) → AllByRecursion (λ p. Some n ≡ Some p.node) ps → (test n || list_any (λ (p : Pair). test p.node) ps) ≡ test n
any_same test n [] all = or_false (test n)
any_same test n (p ∷ ps) all = (let same : n ≡ p.node = cc in
    ap (λ m. test n || (test m || list_any (λ (p : Pair). test p.node) ps)) (sym same) ∙ twice (test n) (list_any (λ (p : Pair). test p.node) ps) ∙ any_same test n ps all.1)
  where
    twice : (a b : Bool) → (a || (a || b)) ≡ (a || b)
    twice true b = refl
    twice false b = refl

one_node : (test : ℕ → Bool) (ps : List Pair) → AllByRecursion (λ p. first_node ps ≡ Some p.node) ps → list_any (λ (p : Pair). test p.node) ps ≡ passes test (first_node ps)
one_node test [] all = refl
one_node test (p ∷ ps) all = any_same test p.node ps all.1

takes-is_in : (s : SeqRow) → IsOfOneNode s → (n : ℕ) → is_in s n ≡ takes_part n s
takes-is_in s one n = ap (λ b. (s.node == n) || b) (sym (one_node (λ m. m == n) s.out_pairs one))

meets-shares : (s q : SeqRow) → IsOfOneNode s → IsOfOneNode q → meets s q ≡ shares_node s q
meets-shares s q one other = λ i. takes-is_in q other s.node i || (sym (one_node (is_in q) s.out_pairs one) ∙ any_alike (λ (p : Pair). is_in q p.node) (λ p. takes_part p.node q) s.out_pairs (each s.out_pairs)) i
  where
    each : (ps : List Pair) → AllByRecursion (λ p. is_in q p.node ≡ takes_part p.node q) ps
    each [] = tt
    each (p ∷ ps) = (takes-is_in q other p.node, each ps)

-- ---- a node of an earlier movement

node_test : (rows : List SeqRow) (i : ℕ) (row : SeqRow) (b : Bool) → i < length rows → AllByRecursion IsOfOneNode rows → row ≡ get_or rows i row
    → list_any (meets row) (take i rows) ≡ b → node_repeats (behind [] i rows) row ≡ shown_if b (pos row.node)
node_test rows i row b in_i one here e =
    let own : IsOfOneNode row = subst IsOfOneNode (sym here) (all_get IsOfOneNode rows i row one in_i) in
    let same : list_any (meets row) (take i rows) ≡ list_any (shares_node row) (take i rows) =
    any_alike (meets row) (shares_node row) (take i rows) (all_weaker IsOfOneNode (λ q. meets row q ≡ shares_node row q) (λ q other. meets-shares row q own other) (take i rows) (all_take IsOfOneNode rows i one)) in
    ap (λ t. shown_if t (pos row.node)) (any_behind (shares_node row) [] rows i ∙ or_false (list_any (shares_node row) (take i rows)) ∙ sym same ∙ e)

pub node_bad : (rows : List SeqRow) (i : ℕ) (row : SeqRow) → i < length rows → AllByRecursion IsOfOneNode rows → first_bad node_repeats [] (take i rows) ≡ None
    → row ≡ get_or rows i row → list_any (meets row) (take i rows) ≡ true → Some (pos row.node) ≡ first_bad node_repeats [] rows
node_bad rows i row in_i one none here e = sym (bad_here node_repeats [] rows i row (pos row.node) in_i none (subst (λ r. node_repeats (behind [] i rows) r ≡ Some (pos row.node)) here (node_test rows i row true in_i one here e)))

pub node_good : (rows : List SeqRow) (i : ℕ) (row : SeqRow) → i < length rows → AllByRecursion IsOfOneNode rows → first_bad node_repeats [] (take i rows) ≡ None
    → row ≡ get_or rows i row → list_any (meets row) (take i rows) ≡ false → first_bad node_repeats [] (take (i + 1) rows) ≡ None
node_good rows i row in_i one none here e = bad_more node_repeats [] rows i row in_i none (subst (λ r. node_repeats (behind [] i rows) r ≡ None) here (node_test rows i row false in_i one here e))

-- ---- a movement whose pairs don't fit

pub unfit_bad : (image : Image) (rows : List SeqRow) (i : ℕ) (row : SeqRow) → rows ≡ image.sequences → i < length rows → find (λ s. not (fits image s)) (take i rows) ≡ None
    → row ≡ get_or rows i row → fits image row ≡ false → Some (pos row.node) ≡ rule_14 image
unfit_bad image rows i row is in_i none here e =
    let test : not (fits image (get_or rows i row)) ≡ true = rw (← here) (ap not e) in
    ap (λ (s : SeqRow). Some (pos s.node)) here ∙ sym (ap (option_map (λ (s : SeqRow). pos s.node)) (ap (find (λ s. not (fits image s))) (sym is) ∙ find_here (λ s. not (fits image s)) rows i row in_i none test))

pub unfit_good : (image : Image) (rows : List SeqRow) (i : ℕ) (row : SeqRow) → i < length rows → find (λ s. not (fits image s)) (take i rows) ≡ None
    → row ≡ get_or rows i row → fits image row ≡ true → find (λ s. not (fits image s)) (take (i + 1) rows) ≡ None
unfit_good image rows i row in_i none here e =
    let test : not (fits image (get_or rows i row)) ≡ false = rw (← here) (ap not e) in
    find_more (λ s. not (fits image s)) rows i row in_i none test
