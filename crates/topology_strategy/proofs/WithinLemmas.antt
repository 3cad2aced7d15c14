-- The pairs of one group in a ring have the group's replicas.
use Rattle.std.proofs.Common.{◌≡◌, ℕ, suc, zero, ◌-◌, ◌<◌, ◌≤◌, min, Bool, true, false, not, ◌&&◌, if◌then◌else◌, cond, nat_eq, ℤ, List, [], ◌∷◌, length, get_or, drop, filter, filter_map, Option, Some, None, is_some, refl, sym, ap, ◌∙◌, arith}
use Rattle.std.proofs.Math.Bool.{and-false}
use Rattle.std.proofs.lemmas.Bool.{le-ltb, lt-ltb}
use Rattle.std.proofs.lemmas.Map.Views.{exact_unsigned_eq}
use Rattle.std.specs.Borrow.{Bor}
use Rattle.std.specs.List.{cons_option, list_any}
use Rattle.std.specs.Set.{is_member, distinct_count}
use Rattle.std.specs.Str.{bytes_eq}
use Rattle.cluster_terms.specs.Arc.{in_arc}
use Rattle.cluster_terms.specs.Group.{Group, nodes_of, ahead_of, is_first, is_chosen, is_chosen_at, is_replica}
use Rattle.cluster_terms.specs.declared.token.Pair.{Pair}
use Rattle.cluster_terms.proofs.placement.GroupLemmas.{is_chosen_by, is_chosen_rack-by}
use Rattle.cluster_terms.proofs.placement.PlacementLemmas.{any-filter}
use Rattle.node_directory.specs.Shape.{shape_of}
use Rattle.node_directory.specs.Tally.{racks_in}
use Rattle.topology_strategy.specs.code.RackedPairs.{HaveRacks, pairs_within}
use Rattle.topology_strategy.specs.Walk.{Found, found_after, found_at, found_with}
use Rattle.topology_strategy.specs.code.WalkAmong.{found_among}

-- two filters, in any order
filters_swapped : {X : Type 0} (f h : X → Bool) (xs : List X) → filter f (filter h xs) ≡ filter h (filter f xs)
filters_swapped f h [] = refl
filters_swapped f h (x ∷ xs) = by (f x) (h x) refl refl (filters_swapped f h xs)
  where
    by : (a b : Bool) → f x ≡ a → h x ≡ b → filter f (filter h xs) ≡ filter h (filter f xs)
        → filter f (if b then x ∷ filter h xs else filter h xs) ≡ filter h (if a then x ∷ filter f xs else filter f xs)
    by true true p q rest = ap (λ c. if c then x ∷ filter f (filter h xs) else filter f (filter h xs)) p ∙ ap (λ l. x ∷ l) rest
        ∙ ap (λ c. if c then x ∷ filter h (filter f xs) else filter h (filter f xs)) (sym q)
    by true false p q rest = rest ∙ ap (λ c. if c then x ∷ filter h (filter f xs) else filter h (filter f xs)) (sym q)
    by false true p q rest = ap (λ c. if c then x ∷ filter f (filter h xs) else filter f (filter h xs)) p ∙ rest
    by false false p q rest = rest

module _ (g : Group) where
  -- ---- the counts of the group

  nodes_within : (ps : List Pair) → filter (λ n. is_some (g.rack_of n)) (nodes_of (pairs_within g ps)) ≡ filter (λ n. is_some (g.rack_of n)) (nodes_of ps)
  nodes_within [] = refl
  nodes_within (p ∷ ps) = by (is_some (g.rack_of p.node)) refl (nodes_within ps)
    where
      by : (b : Bool) → is_some (g.rack_of p.node) ≡ b → filter (λ n. is_some (g.rack_of n)) (nodes_of (pairs_within g ps)) ≡ filter (λ n. is_some (g.rack_of n)) (nodes_of ps)
          → filter (λ n. is_some (g.rack_of n)) (nodes_of (if b then p ∷ pairs_within g ps else pairs_within g ps))
          ≡ (if b then p.node ∷ filter (λ n. is_some (g.rack_of n)) (nodes_of ps) else filter (λ n. is_some (g.rack_of n)) (nodes_of ps))
      by true e rest =
          let within = filter (λ n. is_some (g.rack_of n)) (nodes_of (pairs_within g ps)) in
          ap (λ c. if c then p.node ∷ within else within) e ∙ ap (λ l. p.node ∷ l) rest
      by false e rest = rest

  racks_within : (ps : List Pair) → filter_map g.rack_of (nodes_of (pairs_within g ps)) ≡ filter_map g.rack_of (nodes_of ps)
  racks_within [] = refl
  racks_within (p ∷ ps) = by (g.rack_of p.node) refl (racks_within ps)
    where
      by : (o : Option (List ℕ)) → g.rack_of p.node ≡ o → filter_map g.rack_of (nodes_of (pairs_within g ps)) ≡ filter_map g.rack_of (nodes_of ps)
          → filter_map g.rack_of (nodes_of (if is_some o then p ∷ pairs_within g ps else pairs_within g ps)) ≡ cons_option o (filter_map g.rack_of (nodes_of ps))
      by None e rest = rest
      by (Some rack) e rest = ap (λ o. cons_option o (filter_map g.rack_of (nodes_of (pairs_within g ps)))) e ∙ ap (λ l. rack ∷ l) rest

  -- these pairs have the shape of the ring
  pub shape_of-within : (ps : List Pair) → shape_of (nodes_of (pairs_within g ps)) g ≡ shape_of (nodes_of ps) g
  shape_of-within ps = λ i. record { wanted = wanted_by (nodes_within ps i); spare = spare_by (racks_within ps i) }
    where
      wanted_by : List ℕ → ℕ
      wanted_by ns = min g.rf (distinct_count nat_eq ns)

      spare_by : List (List ℕ) → ℕ
      spare_by racks = g.rf - min g.rf (distinct_count bytes_eq racks)

  -- ---- the rule of the group

  chosen_within : (ps ahead : List Pair) (o : Option (List ℕ))
      → is_chosen g (nodes_of (pairs_within g ps)) (nodes_of (pairs_within g ahead)) o ≡ is_chosen g (nodes_of ps) (nodes_of ahead) o
  chosen_within ps ahead None = refl
  chosen_within ps ahead (Some rack) =
      is_chosen_rack-by g (nodes_of (pairs_within g ps)) (nodes_of (pairs_within g ahead)) rack
      ∙ (λ i. is_chosen_by (shape_of-within ps i).wanted (shape_of-within ps i).spare
      (distinct_count nat_eq (nodes_within ahead i)) (distinct_count bytes_eq (racks_within ahead i)) (is_member bytes_eq (racks_within ahead i) rack))
      ∙ sym (is_chosen_rack-by g (nodes_of ps) (nodes_of ahead) rack)

  module _ (x : ℤ) (ps : List Pair) where
    -- what is ahead of a pair, within the group
    ahead_within : (y : ℤ) → ahead_of x y (pairs_within g ps) ≡ pairs_within g (ahead_of x y ps)
    ahead_within y = filters_swapped (λ q. in_arc x y q.token) (λ q. is_some (g.rack_of q.node)) ps

    -- a pair of the group is its node's first one in the ring where it is so within the group
    first_within : (p : Pair) → is_some (g.rack_of p.node) ≡ true → is_first x (pairs_within g ps) p ≡ is_first x ps p
    first_within p there =
        ap not (ap (list_any (λ (q : Pair). nat_eq p.node q.node)) (ahead_within p.token)
        ∙ any-filter (λ (q : Pair). nat_eq p.node q.node) (λ (q : Pair). is_some (g.rack_of q.node)) (ahead_of x p.token ps)
        ∙ (λ i. list_any (λ (q : Pair). same q (nat_eq p.node q.node) refl i) (ahead_of x p.token ps)))
      where
        same : (q : Pair) (b : Bool) → nat_eq p.node q.node ≡ b → (is_some (g.rack_of q.node) && nat_eq p.node q.node) ≡ nat_eq p.node q.node
        same q true e = ap (λ b. is_some (g.rack_of q.node) && b) e ∙ ap (λ n. is_some (g.rack_of n) && true) (sym (exact_unsigned_eq p.node q.node e)) ∙ ap (λ b. b && true) there ∙ sym e
        same q false e = ap (λ b. is_some (g.rack_of q.node) && b) e ∙ and-false (is_some (g.rack_of q.node)) ∙ sym e

    -- a node is chosen at a pair of the group alone, and there as it is within the group
    chosen_at_within : (v : ℕ) (p : Pair) → (is_some (g.rack_of p.node) && is_chosen_at g x (pairs_within g ps) v p) ≡ is_chosen_at g x ps v p
    chosen_at_within v p = by (nat_eq v p.node) (g.rack_of p.node) refl refl
      where
        rule : is_chosen g (nodes_of (pairs_within g ps)) (nodes_of (ahead_of x p.token (pairs_within g ps))) (g.rack_of v)
            ≡ is_chosen g (nodes_of ps) (nodes_of (ahead_of x p.token ps)) (g.rack_of v)
        rule = ap (λ l. is_chosen g (nodes_of (pairs_within g ps)) (nodes_of l) (g.rack_of v)) (ahead_within p.token) ∙ chosen_within ps (ahead_of x p.token ps) (g.rack_of v)

        by : (b : Bool) (o : Option (List ℕ)) → nat_eq v p.node ≡ b → g.rack_of p.node ≡ o
            → (is_some (g.rack_of p.node) && (b && (is_first x (pairs_within g ps) p && is_chosen g (nodes_of (pairs_within g ps)) (nodes_of (ahead_of x p.token (pairs_within g ps))) (g.rack_of v))))
            ≡ (b && (is_first x ps p && is_chosen g (nodes_of ps) (nodes_of (ahead_of x p.token ps)) (g.rack_of v)))
        by false o e is = and-false (is_some (g.rack_of p.node))
        by true None e is =
            let outside : g.rack_of v ≡ None = ap g.rack_of (exact_unsigned_eq v p.node e) ∙ is in
            ap (λ o. is_some o && (is_first x (pairs_within g ps) p && is_chosen g (nodes_of (pairs_within g ps)) (nodes_of (ahead_of x p.token (pairs_within g ps))) (g.rack_of v))) is
            ∙ sym (ap (λ o. is_first x ps p && is_chosen g (nodes_of ps) (nodes_of (ahead_of x p.token ps)) o) outside ∙ and-false (is_first x ps p))
        by true (Some rack) e is =
            let there : is_some (g.rack_of p.node) ≡ true = ap (λ o. is_some o) is in
            ap (λ b. b && (is_first x (pairs_within g ps) p && is_chosen g (nodes_of (pairs_within g ps)) (nodes_of (ahead_of x p.token (pairs_within g ps))) (g.rack_of v))) there
            ∙ (λ i. first_within p there i && rule i)

    -- the group has the same replicas in its own pairs as in the ring
    pub replica_within : (v : ℕ) → is_replica g x (pairs_within g ps) v ≡ is_replica g x ps v
    unfolding is_replica
    replica_within v =
        any-filter (is_chosen_at g x (pairs_within g ps) v) (λ q. is_some (g.rack_of q.node)) ps
        ∙ (λ i. list_any (λ p. chosen_at_within v p i) ps)

  -- ---- a walk along pairs of the group

  -- it takes what a walk along their nodes takes
  pub among-after : (w : ℕ) (ps : List Pair) (racks : List (List ℕ)) (found : Found) → HaveRacks g ps racks → found_among w (nodes_of ps) racks found ≡ found_after g w (nodes_of ps) found
  among-after w [] racks found have = refl
  among-after w (p ∷ ps) [] found have = absurd (cc)
  among-after w (p ∷ ps) (rack ∷ racks) found have =
      among-after w ps racks (found_with w p.node (Some rack) found) (ap (drop 1) have)
      ∙ ap (λ o. found_after g w (nodes_of ps) (found_with w p.node o found)) (sym (ap (λ l. get_or l 0 None) have))

-- once as many as wanted are taken, nothing changes
pub among_full : (w : ℕ) (ns : List ℕ) (racks : List (List ℕ)) (found : Found) → w ≤ length found.taken → found_among w ns racks found ≡ found
among_full w [] racks found full = refl
among_full w (n ∷ ns) [] found full = refl
among_full w (n ∷ ns) (rack ∷ racks) found full =
    ap (found_among w ns racks) (ap (λ b. cond b (found_at n rack found) found) (le-ltb (length found.taken) w full)) ∙ among_full w ns racks found full

-- one more node is met
pub among_step : (w : ℕ) (ps : List Pair) (racks : List (Bor (List ℕ))) (i : ℕ) (p : Pair) (rack : Bor (List ℕ)) (found later : Found)
    → i < length ps → i < length racks → length found.taken < w → later ≡ found_at (get_or ps i p).node (get_or racks i rack).now found
    → found_among w (nodes_of (drop (suc i) ps)) (drop (suc i) (racks_in racks)) later ≡ found_among w (nodes_of (drop i ps)) (drop i (racks_in racks)) found
among_step w [] racks i p rack found later in_p in_r room step = absurd (omega arith)
among_step w (q ∷ ps) [] i p rack found later in_p in_r room step = absurd (omega arith)
among_step w (q ∷ ps) (r ∷ racks) zero p rack found later in_p in_r room step =
    ap (found_among w (nodes_of ps) (racks_in racks)) (step ∙ sym (ap (λ b. cond b (found_at q.node r.now found) found) (lt-ltb (length found.taken) w room)))
among_step w (q ∷ ps) (r ∷ racks) (suc i) p rack found later in_p in_r room step = among_step w ps racks i p rack found later (omega arith) (omega arith) room step
