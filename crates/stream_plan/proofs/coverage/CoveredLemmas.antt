-- Two quorums have a node in common if the nodes of one are moved to different nodes among few.
use Rattle.std.proofs.Common.{◌≡◌, ℕ, ◌+◌, ◌/◌, ◌<◌, ◌≤◌, Bool, true, false, ◌||◌, nat_eq, nat_lt, List, [], ◌∷◌, ◌++◌, map, length, refl, sym, ap, ◌∙◌, subst, arith}
use Rattle.std.proofs.lemmas.Bool.{false≢true, or_left, or_right}
use Rattle.std.proofs.lemmas.Bool.Decides.{nat_tests}
use Rattle.std.proofs.lemmas.List.{length-map}
use Rattle.std.proofs.lemmas.List.Folds.{list_any-append}
use Rattle.std.proofs.lemmas.Map.Made.{distinct_count-le}
use Rattle.std.proofs.lemmas.Map.Views.{exact_unsigned_eq}
use Rattle.std.specs.Cmp.{nat_eq_equiv}
use Rattle.std.specs.List.{AllByRecursion, IsDistinct, list_any}
use Rattle.std.specs.Set.{distinct_count}
use Rattle.cluster_terms.proofs.lists.CommonLemmas.{some_common}
use Rattle.cluster_terms.proofs.lists.DistinctCounts.{distinct_count-within}
use Rattle.cluster_terms.proofs.placement.GroupLemmas.{has, or_elim}
use Rattle.cluster_terms.specs.Quorum.{AreSome, have_common, quorum_of}

-- any two quorums of at most `total` nodes have a node in common
majority : (total c : ℕ) → c ≤ total → nat_lt c ((total / 2 + 1) + (total / 2 + 1)) ≡ true
majority total c few =
    let less : c < (total / 2 + 1) + (total / 2 + 1) = omega arith in
    grind (arith, nat_tests)

quorums_share : (total : ℕ) (ns : List ℕ) → length ns ≤ total → have_common (quorum_of total) ns (quorum_of total) ns ≡ true
quorums_share total ns few =
    let q : ℕ = quorum_of total in
    let c : ℕ = distinct_count nat_eq (ns ++ ns) in
    let within = distinct_count-within nat_eq_equiv (ns ++ ns) ns
    (λ v m. or_elim (has ns v) (has ns v) (sym (list_any-append (nat_eq v) ns ns) ∙ m) (λ here. here) (λ here. here)) in
    let most = distinct_count-le nat_eq ns in
    let last : nat_lt c (q + q) ≡ true = majority total c (omega arith) in
    or_right (nat_lt (length ns) q) (nat_lt (length ns) q || nat_lt c (q + q)) (or_right (nat_lt (length ns) q) (nat_lt c (q + q)) last)

module _ (to : ℕ → ℕ) where
  -- nodes that are moved to different nodes
  abbrev pub AreMovedApart : List ℕ → Type 0
  AreMovedApart ns = (v w : ℕ) → has ns v ≡ true → has ns w ≡ true → to v ≡ to w → v ≡ w

  moved_member : (ns : List ℕ) (P : ℕ → Type 0) → ((v : ℕ) → has ns v ≡ true → P (to v)) → (w : ℕ) → has (map to ns) w ≡ true → P w
  moved_member [] P all w there = absurd (false≢true there)
  moved_member (n ∷ ns) P all w there =
      or_elim (nat_eq w (to n)) (has (map to ns) w) there
      (λ here. (let same : w ≡ to n = exact_unsigned_eq w (to n) here in
      subst P (sym same) (all n (or_left (nat_eq n n) (has ns n) (nat_eq_equiv.refl n)))))
      (moved_member ns P (λ v m. all v (or_right (nat_eq v n) (has ns v) m)) w)

  apart_from : (n : ℕ) (ns : List ℕ) → ((m : ℕ) → has ns m ≡ true → to n ≡ to m → n ≡ m) → AllByRecursion (λ m. nat_eq n m ≡ false) ns → AllByRecursion (λ m. nat_eq (to n) m ≡ false) (map to ns)
  apart_from n [] once apart = tt
  apart_from n (m ∷ ns) once apart =
      (by (nat_eq (to n) (to m)) refl, apart_from n ns (λ k there. once k (or_right (nat_eq k m) (has ns k) there)) apart.1)
    where
      by : (b : Bool) → nat_eq (to n) (to m) ≡ b → nat_eq (to n) (to m) ≡ false
      by false e = e
      by true e =
          let same : n ≡ m = once m (or_left (nat_eq m m) (has ns m) (nat_eq_equiv.refl m)) (exact_unsigned_eq (to n) (to m) e) in
          absurd (false≢true (sym apart.0 ∙ ap (λ k. nat_eq n k) (sym same) ∙ nat_eq_equiv.refl n))

  moved_distinct : (ns : List ℕ) → IsDistinct nat_eq ns → AreMovedApart ns → IsDistinct nat_eq (map to ns)
  unfolding IsDistinct
  moved_distinct [] d once = tt
  moved_distinct (n ∷ ns) d once = (
    apart_from n ns (λ m there. once n m (or_left (nat_eq n n) (has ns n) (nat_eq_equiv.refl n)) (or_right (nat_eq m n) (has ns m) there)) d.0,
    moved_distinct ns d.1 (λ v w a b. once v w (or_right (nat_eq v n) (has ns v) a) (or_right (nat_eq w n) (has ns w) b)),
  )

  any_moved : (test : ℕ → Bool) (ns : List ℕ) → list_any test (map to ns) ≡ list_any (λ n. test (to n)) ns
  any_moved test [] = refl
  any_moved test (n ∷ ns) = ap (λ b. test (to n) || b) (any_moved test ns)

  module _ (total : ℕ) (few : List ℕ) (most : length few ≤ total) (ns taken asked : List ℕ) where
    -- a quorum among few nodes, and a quorum whose nodes are moved to different nodes among these
    pub moved_common : AreSome (quorum_of total) few taken → AreSome (quorum_of total) ns asked
        → AreMovedApart asked → ((v : ℕ) → has asked v ≡ true → has few (to v) ≡ true) → list_any (λ n. has taken (to n)) asked ≡ true
    moved_common one other apart into =
        let moved : AreSome (quorum_of total) few (map to asked) = record {
          distinct = moved_distinct asked other.distinct apart;
          among = moved_member asked (λ w. has few w ≡ true) into;
          enough = (let same = length-map asked to in let enough = other.enough in omega arith);
        } in
        sym (any_moved (has taken) asked) ∙ some_common (quorum_of total) (quorum_of total) few few taken (map to asked) one moved (quorums_share total few most)
