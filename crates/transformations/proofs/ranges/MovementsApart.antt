-- Movements that do not overlap: for a token, no two of them have it in the ranges of both.
use Rattle.std.proofs.Common.{◌≡◌, ℕ, suc, Bool, true, false, cond, true≢false, ◌&&◌, ◌==◌, ℤ, List, [], ◌∷◌, map, find, Some, refl, sym, ap, ◌∙◌, arith}
use Rattle.std.proofs.lemmas.List.Elements.{All-from_recursion, recursion_from_All}
use Rattle.std.proofs.lemmas.List.Kept.{AllPairs-cons}
use Rattle.std.specs.List.{AllByRecursion, AllPairs, IsDistinct, list_any}
use Rattle.transformations.proofs.lists.ListLemmas.{all_both, all_found, all_map, all_weaker}
use Rattle.transformations.specs.Ranges.{in_both, in_ranges}
use Rattle.transformations.specs.declared.image.Image.{Image}
use Rattle.transformations.specs.declared.sequence.SeqRow.{SeqRow}

-- whether x is in the ranges of both
abbrev pub both_at : Image → ℤ → SeqRow → SeqRow → Bool
both_at image x s q = in_both image s q x

-- ---- pairs by place, and pairs by recursion

module _ {X : Type 0} (e : X → X → Bool) where
  pub distinct_from_pairs : (xs : List X) → AllPairs (λ x y. e x y ≡ false) xs → IsDistinct e xs
  unfolding IsDistinct
  distinct_from_pairs [] pairs = tt
  distinct_from_pairs (x ∷ xs) pairs = (
    recursion_from_All (λ y. e x y ≡ false) xs (λ k d within. pairs 0 (suc k) d (omega arith) (omega arith)),
    distinct_from_pairs xs (λ i j d before within. pairs (suc i) (suc j) d (omega arith) (omega arith)),
  )

  pub pairs_from_distinct : (xs : List X) → IsDistinct e xs → AllPairs (λ x y. e x y ≡ false) xs
  unfolding IsDistinct
  pairs_from_distinct [] d = λ i j y before within. absurd (omega arith)
  pairs_from_distinct (x ∷ xs) d = AllPairs-cons (λ x y. e x y ≡ false) x xs (All-from_recursion (λ y. e x y ≡ false) xs d.0) (pairs_from_distinct xs d.1)

  pub distinct_map : {Y : Type 0} (f : Y → X) (ys : List Y) → IsDistinct (λ x y. e (f x) (f y)) ys → IsDistinct e (map f ys)
  unfolding IsDistinct
  distinct_map f [] d = tt
  distinct_map f (y ∷ ys) d = (all_map (λ z. e (f y) z ≡ false) f ys d.0, distinct_map f ys d.1)

  -- the same where the test is the same at some items
  pub distinct_alike : (other : X → X → Bool) (P : X → Type 0) → ((x y : X) → P x → P y → e x y ≡ other x y) → (xs : List X) → AllByRecursion P xs → IsDistinct e xs → IsDistinct other xs
  unfolding IsDistinct
  distinct_alike other P alike [] all d = tt
  distinct_alike other P alike (x ∷ xs) all d = (
    all_both (λ y. e x y ≡ false) P (λ y. other x y ≡ false) (λ y apart here. sym (alike x y all.0 here) ∙ apart) xs d.0 all.1,
    distinct_alike other P alike xs all.1 d.1,
  )

-- ---- the movement of a node, and the others

-- the movement that is found for a node is apart from those of other nodes
pub found_apart : (e : SeqRow → SeqRow → Bool) → ((s q : SeqRow) → e s q ≡ e q s) → (n : ℕ) (sequences : List SeqRow) (s : SeqRow)
    → find (λ (q : SeqRow). q.node == n) sequences ≡ Some s → IsDistinct e sequences → AllByRecursion (λ q. (q.node == n) ≡ false → e s q ≡ false) sequences
unfolding IsDistinct
found_apart e flips n [] s found d = tt
found_apart e flips n (q ∷ sequences) s found d = by (q.node == n) refl found (λ later. found_apart e flips n sequences s later d.1)
  where
    by : (b : Bool) → (q.node == n) ≡ b → cond b (Some q) (find (λ (q : SeqRow). q.node == n) sequences) ≡ Some s
        → (find (λ (q : SeqRow). q.node == n) sequences ≡ Some s → AllByRecursion (λ q. (q.node == n) ≡ false → e s q ≡ false) sequences)
        → ((q.node == n) ≡ false → e s q ≡ false) × AllByRecursion (λ q. (q.node == n) ≡ false → e s q ≡ false) sequences
    by true here found rest =
        let is : q ≡ s = cc in (
          λ other. absurd (true≢false (sym here ∙ other)),
          all_weaker (λ r. e q r ≡ false) (λ r. (r.node == n) ≡ false → e s r ≡ false) (λ r apart other. ap (λ t. e t r) (sym is) ∙ apart) sequences d.0,
        )
    by false here found rest = (
      λ other. flips s q ∙ all_found (λ r. e q r ≡ false) (λ (q : SeqRow). q.node == n) sequences s found d.0,
      rest found,
    )

-- ---- ranges of both

pub both_flips : (image : Image) (x : ℤ) (s q : SeqRow) → both_at image x s q ≡ both_at image x q s
both_flips image x s q = λ i. list_any (λ k. turned (in_ranges image k.replication s x) (in_ranges image k.replication q x) i) image.keyspaces
  where
    turned : (a b : Bool) → (a && b) ≡ (b && a)
    turned a b = grind arith
