-- The placement, as the order in which the pairs of a ring are met finds it.
use Rattle.std.proofs.Common.{◌≡◌, ℕ, suc, ◌+◌, ◌<◌, Bool, true, false, not, ◌&&◌, ◌||◌, nat_eq, ℤ, List, [], ◌∷◌, ◌++◌, length, get_or, take, drop, refl, sym, ap, ◌∙◌, subst, arith, append_assoc, length-append, take-append-drop}
use Rattle.std.proofs.lemmas.List.{take_at, get_or_at}
use Rattle.std.proofs.lemmas.List.Sorted.{list_any-IsPermutation, IsPermutation-append_comm, length_permutation}
use Rattle.std.specs.Cmp.{nat_eq_equiv}
use Rattle.std.specs.List.{list_any}
use Rattle.std.specs.List.Sorted.{IsPermutation}
use Rattle.cluster_terms.proofs.lists.DistinctCounts.{is_member-alike}
use Rattle.cluster_terms.specs.Group.{Group, nodes_of, ahead_of, is_first, is_chosen, is_chosen_at, is_replica}
use Rattle.cluster_terms.specs.declared.token.Pair.{Pair}
use Rattle.cluster_terms.proofs.placement.GroupLemmas.{has, is_chosen-same}
use Rattle.cluster_terms.proofs.placement.PlacementLemmas.{has-nodes_of, has-permuted, nodes_of-append}
use Rattle.token_ring.proofs.RingLemmas.{walk_from, ahead_of-walk}
use Rattle.token_ring.specs.Ring.{IsRing, IsFirstAt}

-- whether the group finds v when n is met, in a ring with the nodes ns, where the nodes ahead were met before
abbrev pub finds_at : Group → List ℕ → List ℕ → ℕ → ℕ → Bool
finds_at g ns ahead n v = nat_eq v n && (not (has ahead v) && is_chosen g ns ahead (g.rack_of v))

-- whether it finds v among the nodes that are met from there on
abbrev pub finds : Group → List ℕ → List ℕ → List ℕ → ℕ → Bool
finds g ns ahead [] v = false
finds g ns ahead (n ∷ rest) v = finds_at g ns ahead n v || finds g ns (ahead ++ n ∷ []) rest v

-- ---- the order of the walk

module _ (ps : List Pair) (x : ℤ) (i : ℕ) (ring : IsRing ps) (first : IsFirstAt ps x i) where
  abbrev walk : List Pair
  walk = walk_from i ps

  -- the walk has the pairs of the ring
  pub walk_permuted : IsPermutation walk ps
  walk_permuted =
      let round : drop i ps ++ take i ps ≡ walk = refl in
      subst (λ l. IsPermutation walk l) (take-append-drop i ps) (IsPermutation-append_comm (drop i ps) (take i ps))

  -- what is ahead of a pair of the walk are the pairs of the walk up to it
  ahead_permuted : (pre : List Pair) (p : Pair) (suf : List Pair) → walk ≡ pre ++ p ∷ suf → IsPermutation (ahead_of x p.token ps) pre
  ahead_permuted pre p suf e =
      let size : length walk ≡ length pre + suc (length suf) = ap length e ∙ length-append pre (p ∷ suf) in
      let same : length ps ≡ length walk = length_permutation walk ps walk_permuted in
      let within : length pre < length ps = omega arith in
      let at : get_or walk (length pre) p ≡ p = ap (λ l. get_or l (length pre) p) e ∙ get_or_at pre p suf p (length pre) refl in
      let front : take (length pre) walk ≡ pre = ap (take (length pre)) e ∙ take_at pre (p ∷ suf) (length pre) refl in
      subst (λ (q : Pair). IsPermutation (ahead_of x q.token ps) pre) at (subst (λ l. IsPermutation (ahead_of x (get_or walk (length pre) p).token ps) l) front (ahead_of-walk ps x i ring first (length pre) p within))

  module _ (g : Group) where
    -- the rule at a pair of the walk, in terms of the walk up to it
    chosen_on_walk : (pre : List Pair) (p : Pair) (suf : List Pair) (v : ℕ) → walk ≡ pre ++ p ∷ suf → is_chosen_at g x ps v p ≡ finds_at g (nodes_of ps) (nodes_of pre) p.node v
    chosen_on_walk pre p suf v e = by (nat_eq v p.node) refl
      where
        met : (q : ℕ) → has (nodes_of (ahead_of x p.token ps)) q ≡ has (nodes_of pre) q
        met q = has-permuted (ahead_of x p.token ps) pre (ahead_permuted pre p suf e) q

        before : nat_eq v p.node ≡ true → list_any (λ (q : Pair). nat_eq p.node q.node) (ahead_of x p.token ps) ≡ has (nodes_of pre) v
        before same = sym (has-nodes_of (ahead_of x p.token ps) p.node) ∙ met p.node ∙ sym (is_member-alike nat_eq_equiv (nodes_of pre) v p.node same)

        rule : is_chosen g (nodes_of ps) (nodes_of (ahead_of x p.token ps)) (g.rack_of v) ≡ is_chosen g (nodes_of ps) (nodes_of pre) (g.rack_of v)
        rule = is_chosen-same g (nodes_of ps) (nodes_of (ahead_of x p.token ps)) (nodes_of pre) met (g.rack_of v)

        by : (b : Bool) → nat_eq v p.node ≡ b
            → (b && (is_first x ps p && is_chosen g (nodes_of ps) (nodes_of (ahead_of x p.token ps)) (g.rack_of v)))
            ≡ (b && (not (has (nodes_of pre) v) && is_chosen g (nodes_of ps) (nodes_of pre) (g.rack_of v)))
        by false same = refl
        by true same = λ j. not (before same j) && rule j

    -- the rule over what is left of the walk
    chosen_on_rest : (pre suf : List Pair) (v : ℕ) → walk ≡ pre ++ suf → list_any (is_chosen_at g x ps v) suf ≡ finds g (nodes_of ps) (nodes_of pre) (nodes_of suf) v
    chosen_on_rest pre [] v e = refl
    chosen_on_rest pre (p ∷ suf) v e =
        (λ j. chosen_on_walk pre p suf v e j || chosen_on_rest (pre ++ p ∷ []) suf v (e ∙ sym (append_assoc pre (p ∷ []) suf)) j)
        ∙ ap (λ l. finds_at g (nodes_of ps) (nodes_of pre) p.node v || finds g (nodes_of ps) l (nodes_of suf) v) (nodes_of-append pre (p ∷ []))

    -- a node is a replica where the walk from the first token on, round the ring, finds it
    pub replica_on_walk : (v : ℕ) → is_replica g x ps v ≡ finds g (nodes_of ps) [] (nodes_of walk) v
    unfolding is_replica
    replica_on_walk v = sym (list_any-IsPermutation (is_chosen_at g x ps v) walk ps walk_permuted) ∙ chosen_on_rest [] walk v refl
