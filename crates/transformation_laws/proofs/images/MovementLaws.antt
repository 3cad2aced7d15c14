-- The rules on nodes and tokens of several movements, and what they stand for.
use Rattle.std.proofs.Common.{◌≡◌, ℕ, Bool, true, false, ◌&&◌, ◌||◌, ◌==◌, pos, List, [], ◌∷◌, None, refl, subst, arith}
use Rattle.std.proofs.lemmas.Bool.Decides.{nat_tests}
use Rattle.std.specs.List.{AllByRecursion, AllPairs, IsDistinct, list_any}
use Rattle.cluster_terms.proofs.placement.GroupLemmas.{or_elim}
use Rattle.cluster_terms.specs.declared.token.Pair.{Pair}
use Rattle.transformations.proofs.commands.AcceptedLemmas.{same_id}
use Rattle.transformations.proofs.images.OrderLaws.{repeats_clear, repeats_none}
use Rattle.transformations.proofs.lists.ListLemmas.{all_false, all_weaker, any_false, any_holds}
use Rattle.transformations.proofs.movements.ExchangeLemmas.{own_takes}
use Rattle.transformations.proofs.movements.OnceLemmas.{AreOnce, both_take, once_by_node, once_of}
use Rattle.transformations.specs.ImageRules.{rule_15, shares_node}
use Rattle.transformations.specs.Movements.{takes_part}
use Rattle.transformations.specs.Valid.{HaveNoNodeTwice}
use Rattle.transformations.specs.declared.image.Image.{Image}
use Rattle.transformations.specs.declared.sequence.SeqRow.{SeqRow}

-- ---- nodes that take part in two movements

or_false_left : (a b : Bool) → (a || b) ≡ false → a ≡ false
or_false_left a b h = grind arith

or_false_right : (a b : Bool) → (a || b) ≡ false → b ≡ false
or_false_right a b h = grind arith

-- the later movement shares a node with the earlier one
abbrev pub shared : SeqRow → SeqRow → Bool
shared q s = shares_node s q

both_false : (a b : Bool) → (b ≡ true → a ≡ false) → (a && b) ≡ false
both_false a true h = and_true a (h refl)
  where
    and_true : (a : Bool) → a ≡ false → (a && true) ≡ false
    and_true a e = rw e refl
both_false true false h = refl
both_false false false h = refl

and_left : (a b : Bool) → (a && b) ≡ false → b ≡ true → a ≡ false
and_left a b h e = grind arith

not_shared : (q s : SeqRow) → shared q s ≡ false → (n : ℕ) → both_take n q s ≡ false
not_shared q s h n = both_false (takes_part n q) (takes_part n s) each
  where
    own : takes_part s.node q ≡ false
    own = or_false_left (takes_part s.node q) (list_any (λ p. takes_part p.node q) s.out_pairs) h

    out : AllByRecursion (λ p. takes_part p.node q ≡ false) s.out_pairs
    out = all_false (λ p. takes_part p.node q) s.out_pairs (or_false_right (takes_part s.node q) (list_any (λ p. takes_part p.node q) s.out_pairs) h)

    each : takes_part n s ≡ true → takes_part n q ≡ false
    each takes =
        or_elim (s.node == n) (list_any (λ (p : Pair). p.node == n) s.out_pairs) takes
        (λ here. subst (λ m. takes_part m q ≡ false) (same_id s.node n here) own)
        (λ there. any_holds (λ (p : Pair). p.node == n) (λ p. takes_part p.node q ≡ false) (takes_part n q ≡ false) s.out_pairs out
        (λ p none is. subst (λ m. takes_part m q ≡ false) (same_id p.node n is) none) there)

is_shared : (q s : SeqRow) → ((n : ℕ) → both_take n q s ≡ false) → shared q s ≡ false
is_shared q s apart = rw (own, any_false (λ (p : Pair). takes_part p.node q) s.out_pairs (out s.out_pairs (λ p there. there))) refl
  where
    own : takes_part s.node q ≡ false
    own = and_left (takes_part s.node q) (takes_part s.node s) (apart s.node) (own_takes s)

    out : (ps : List Pair) → ((n : ℕ) → list_any (λ (p : Pair). p.node == n) ps ≡ true → list_any (λ (p : Pair). p.node == n) s.out_pairs ≡ true) → AllByRecursion (λ p. takes_part p.node q ≡ false) ps
    out [] part = tt
    out (p ∷ ps) part = (
      and_left (takes_part p.node q) (takes_part p.node s) (apart p.node) (either (s.node == p.node) (list_any (λ (r : Pair). r.node == p.node) s.out_pairs) (part p.node (first p.node (list_any (λ (r : Pair). r.node == p.node) ps)))),
      out ps (λ n there. part n (later (p.node == n) (list_any (λ (r : Pair). r.node == n) ps) there)),
    )
      where
        either : (a b : Bool) → b ≡ true → (a || b) ≡ true
        either a b e = grind arith

        first : (n : ℕ) (b : Bool) → ((n == n) || b) ≡ true
        first n b = grind (arith, nat_tests)

        later : (a b : Bool) → b ≡ true → (a || b) ≡ true
        later a b e = grind arith

pairs_of_tests : (e : SeqRow → SeqRow → Bool) (f : ℕ → SeqRow → SeqRow → Bool) → ((q s : SeqRow) → e q s ≡ false → (n : ℕ) → f n q s ≡ false) → (n : ℕ) (xs : List SeqRow) → IsDistinct e xs → IsDistinct (f n) xs
unfolding IsDistinct
pairs_of_tests e f each n [] d = tt
pairs_of_tests e f each n (x ∷ xs) d = (all_weaker (λ y. e x y ≡ false) (λ y. f n x y ≡ false) (λ y h. each x y h n) xs d.0, pairs_of_tests e f each n xs d.1)

tests_of_pairs : (xs : List SeqRow) → AreOnce xs → IsDistinct shared xs
unfolding IsDistinct
tests_of_pairs [] once = tt
tests_of_pairs (x ∷ xs) once = (shares xs (λ n. (once n).0), tests_of_pairs xs (λ n. (once n).1))
  where
    shares : (ys : List SeqRow) → ((n : ℕ) → AllByRecursion (λ y. both_take n x y ≡ false) ys) → AllByRecursion (λ y. shared x y ≡ false) ys
    shares [] each = tt
    shares (y ∷ ys) each = (is_shared x y (λ n. (each n).0), shares ys (λ n. (each n).1))

pub once_from : (image : Image) → rule_15 image ≡ None → AllPairs HaveNoNodeTwice image.sequences
once_from image none =
    once_of image.sequences (λ n. pairs_of_tests shared both_take not_shared n image.sequences (repeats_none shared (λ (s : SeqRow). pos s.node) [] image.sequences none).0)

pub once_to : (image : Image) → AllPairs HaveNoNodeTwice image.sequences → rule_15 image ≡ None
once_to image once = repeats_clear shared (λ (s : SeqRow). pos s.node) [] image.sequences (tests_of_pairs image.sequences (once_by_node image.sequences once)) tt
