-- A placement depends on the pairs that reach its token, and on no other.
use Rattle.std.proofs.Common.{◌≡◌, ℕ, ◌+◌, ◌-◌, ◌<◌, ◌≤◌, min, Bool, true, false, not, ◌||◌, nat_lt, ℤ, List, [], ◌∷◌, is_some, refl, sym, ap, ◌∙◌, arith}
use Rattle.std.proofs.lemmas.Bool.{false≢true, or_left, and_parts, or_parts}
use Rattle.std.proofs.lemmas.Bool.Decides.{nat_tests}
use Rattle.std.specs.Cmp.{both_ways}
use Rattle.std.specs.List.{list_any}
use Rattle.cluster_terms.proofs.placement.CountLemmas.{IsWithin, node_count-within, rack_count-within, wanted-within, spare-within, has_rack-of_within}
use Rattle.cluster_terms.proofs.placement.GroupLemmas.{has, has_rack, or_elim, is_chosen_by}
use Rattle.cluster_terms.proofs.rows.PairLemmas.{Found, found_from_any, any_from_pair, nodes-within, ahead-within}
use Rattle.cluster_terms.proofs.placement.PlacementLemmas.{place-alike}
use Rattle.cluster_terms.proofs.reach.SettledLemmas.{IsSettled-from_reach, arc-through, free-from_reach, shape-between}
use Rattle.cluster_terms.proofs.placement.ReplicaAt.{IsReplicaAt, IsReplicaAt-from_replica, replica-from_IsReplicaAt}
use Rattle.cluster_terms.specs.Arc.{in_arc}
use Rattle.cluster_terms.specs.Group.{Group, nodes_of, node_count, rack_count, wanted, spare, ahead_of, is_replica, is_replica_of_any, place}
use Rattle.cluster_terms.specs.Pair.{has_pair}
use Rattle.cluster_terms.specs.Reach.{reaches, is_reached_in, is_reached, IsBetween, DifferWithin}
use Rattle.cluster_terms.specs.declared.token.Pair.{Pair}

-- ---- two rings that are alike up to a pair

squeezed : (a b : ℕ) → a ≤ b → b ≤ a → a ≡ b
squeezed a b low high = omega arith

-- the group's pairs of a ring that are ahead of a token, or have it, are in another
abbrev AreCarried : Group → ℤ → ℤ → List Pair → List Pair → Type 0
AreCarried g x y ps qs =
    (q : Pair) → is_some (g.rack_of q.node) ≡ true → ((z : ℤ) → in_arc x q.token z ≡ true → in_arc x y z ≡ true) → has_pair ps q ≡ true → has_pair qs q ≡ true

-- and so are its nodes ahead of that token
ahead-carried : (g : Group) (x y : ℤ) (ps qs : List Pair) → AreCarried g x y ps qs → IsWithin g (nodes_of (ahead_of x y ps)) (nodes_of (ahead_of x y qs))
ahead-carried g x y ps qs carried =
    ahead-within g ps qs x y y (λ q of arc there. (carried q of (λ z. arc-through x q.token y z arc) there, arc))

module _ (g : Group) (x : ℤ) (one other : List Pair) where
  -- a replica of one ring is a replica of the other where they have the same shape, and the same pairs of the group up
  -- to its first pair
  replica-carried : (v : ℕ) (r : IsReplicaAt g x one v) → wanted g (nodes_of one) ≡ wanted g (nodes_of other) → spare g (nodes_of one) ≡ spare g (nodes_of other)
      → AreCarried g x r.pair.token one other → AreCarried g x r.pair.token other one → IsReplicaAt g x other v
  replica-carried v r wanted_same spare_same forth back = record {
    pair = r.pair;
    rack = r.rack;
    there = forth r.pair (ap (λ n. is_some (g.rack_of n)) (sym r.node) ∙ of) (λ z arc. arc) r.there;
    node = r.node;
    in_rack = r.in_rack;
    first = by (has ahead_other v) refl;
    chosen = sym (λ i. is_chosen_by (wanted_same i) (spare_same i) (nodes_same i) (racks_same i) (rack_same i)) ∙ r.chosen;
  }
    where
      of : is_some (g.rack_of v) ≡ true
      of = ap (λ o. is_some o) r.in_rack

      ahead_one : List ℕ
      ahead_one = nodes_of (ahead_of x r.pair.token one)

      ahead_other : List ℕ
      ahead_other = nodes_of (ahead_of x r.pair.token other)

      to : IsWithin g ahead_one ahead_other
      to = ahead-carried g x r.pair.token one other forth

      from : IsWithin g ahead_other ahead_one
      from = ahead-carried g x r.pair.token other one back

      by : (b : Bool) → has ahead_other v ≡ b → has ahead_other v ≡ false
      by true e = absurd (false≢true (sym r.first ∙ from v of e))
      by false e = e

      nodes_same : node_count g ahead_one ≡ node_count g ahead_other
      nodes_same = squeezed _ _ (node_count-within g ahead_one ahead_other to) (node_count-within g ahead_other ahead_one from)

      racks_same : rack_count g ahead_one ≡ rack_count g ahead_other
      racks_same = squeezed _ _ (rack_count-within g ahead_one ahead_other to) (rack_count-within g ahead_other ahead_one from)

      rack_same : has_rack g ahead_one r.rack ≡ has_rack g ahead_other r.rack
      rack_same = both_ways _ _ (has_rack-of_within g ahead_one ahead_other to r.rack) (has_rack-of_within g ahead_other ahead_one from r.rack)

-- ---- one group

-- replicas are left to be found at a replica's first pair
chosen-open : (w s d p : ℕ) (there : Bool) → is_chosen_by w s d p there ≡ true → min (p + s) d < w
chosen-open w s d p there h = (let few = (and_parts (nat_lt (min (p + s) d) w) (not there || nat_lt (d - p) s) h).0 in grind (arith, nat_tests))

module _ (g : Group) (fixed widest : List Pair) (x : ℤ) (one : List Pair) (ring : IsBetween fixed widest one) where
  -- a token that doesn't reach x is neither ahead of a replica's first pair nor there
  beyond : (v : ℕ) (r : IsReplicaAt g x one v) (y : ℤ) → reaches g fixed widest x y ≡ false → ((z : ℤ) → in_arc x y z ≡ true → in_arc x r.pair.token z ≡ true) → false ≡ true
  beyond v r y free ahead =
      let s = IsSettled-from_reach g fixed widest x y free in
      let shape = shape-between g fixed widest one ring s.wanted_alike s.spare_alike in
      let within : IsWithin g (nodes_of (ahead_of x y fixed)) (nodes_of (ahead_of x r.pair.token one))
      = ahead-within g fixed one x y r.pair.token (λ q of arc there. (ring.keeps q there, ahead q.token arc)) in
      let nodes = node_count-within g (nodes_of (ahead_of x y fixed)) (nodes_of (ahead_of x r.pair.token one)) within in
      let racks = rack_count-within g (nodes_of (ahead_of x y fixed)) (nodes_of (ahead_of x r.pair.token one)) within in
      let few = chosen-open _ _ _ _ _ r.chosen in
      absurd (none _ _ _ _ _ _ _ _ s.nodes s.racks nodes racks shape.0 shape.1 few)
    where
      none : (w s d p v t e q : ℕ) → w ≤ d → w ≤ p + s → d ≤ e → p ≤ q → v ≡ w → t ≡ s → min (q + t) e < v → ⊥
      none w s d p v t e q a b c f same alike few = omega arith

module _ (g : Group) (fixed widest moved : List Pair) (x : ℤ) (free : is_reached_in fixed widest moved x g ≡ false) where
  module _ (one other : List Pair) (ring : IsBetween fixed widest one) (another : IsBetween fixed widest other) (differ : DifferWithin moved one other) where
    -- both rings have the group's shape: that of the fixed pairs, or the same nodes of the group
    shape-same : (wanted g (nodes_of one) ≡ wanted g (nodes_of other)) × (spare g (nodes_of one) ≡ spare g (nodes_of other))
    shape-same = by (list_any test moved) refl
      where
        test : Pair → Bool
        test p = is_some (g.rack_of p.node)

        Same : Type 0
        Same = (wanted g (nodes_of one) ≡ wanted g (nodes_of other)) × (spare g (nodes_of one) ≡ spare g (nodes_of other))

        by : (b : Bool) → list_any test moved ≡ b → Same
        by true e = at (found_from_any test moved e)
          where
            at : Found test moved → Same
            at f =
                let s = IsSettled-from_reach g fixed widest x f.pair.token (free-from_reach g fixed widest moved x free f.pair f.passes f.there) in
                let a = shape-between g fixed widest one ring s.wanted_alike s.spare_alike in
                let b = shape-between g fixed widest other another s.wanted_alike s.spare_alike in
                (a.0 ∙ sym b.0, a.1 ∙ sym b.1)
        by false e =
            let forth : IsWithin g (nodes_of one) (nodes_of other) = nodes-within g one other (λ q of there. kept other q of (differ.forth q there)) in
            let back : IsWithin g (nodes_of other) (nodes_of one) = nodes-within g other one (λ q of there. kept one q of (differ.back q there)) in (
              squeezed _ _ (wanted-within g (nodes_of one) (nodes_of other) forth) (wanted-within g (nodes_of other) (nodes_of one) back),
              squeezed _ _ (spare-within g (nodes_of other) (nodes_of one) back) (spare-within g (nodes_of one) (nodes_of other) forth),
            )
          where
            kept : (ps : List Pair) (q : Pair) → is_some (g.rack_of q.node) ≡ true → (has_pair ps q || has_pair moved q) ≡ true → has_pair ps q ≡ true
            kept ps q of h = or_elim (has_pair ps q) (has_pair moved q) h (λ there. there) (λ there. absurd (false≢true (sym e ∙ any_from_pair test moved q there of)))

    -- where no moved pair of the group reaches x, a replica of one ring is a replica of the other
    replica-forth : (v : ℕ) → is_replica g x one v ≡ true → is_replica g x other v ≡ true
    replica-forth v h = at (IsReplicaAt-from_replica g x one v h)
      where
        at : IsReplicaAt g x one v → is_replica g x other v ≡ true
        at r = replica-from_IsReplicaAt g x other v (replica-carried g x one other v r shape-same.0 shape-same.1
            (λ q of ahead there. kept other q of ahead (differ.forth q there)) (λ q of ahead there. kept one q of ahead (differ.back q there)))
          where
            kept : (ps : List Pair) (q : Pair) → is_some (g.rack_of q.node) ≡ true → ((z : ℤ) → in_arc x q.token z ≡ true → in_arc x r.pair.token z ≡ true) → (has_pair ps q || has_pair moved q) ≡ true → has_pair ps q ≡ true
            kept ps q of ahead h =
                or_elim (has_pair ps q) (has_pair moved q) h (λ there. there) (λ there.
                absurd (false≢true (beyond g fixed widest x one ring v r q.token (free-from_reach g fixed widest moved x free q of there) ahead)))

-- ---- all groups

-- the difference, from the other ring
turned : (moved one other : List Pair) → DifferWithin moved one other → DifferWithin moved other one
turned moved one other differ = record { forth = differ.back; back = differ.forth }

module _ (fixed widest moved one other : List Pair) (x : ℤ) (ring : IsBetween fixed widest one) (another : IsBetween fixed widest other) (differ : DifferWithin moved one other) where
  replicas-same : (gs : List Group) → is_reached gs fixed widest moved x ≡ false → (v : ℕ) → is_replica_of_any gs x one v ≡ is_replica_of_any gs x other v
  replicas-same [] free v = refl
  replicas-same (g ∷ gs) free v =
      let parts = or_parts (is_reached_in fixed widest moved x g) (is_reached gs fixed widest moved x) free in
      let here : is_replica g x one v ≡ is_replica g x other v
      = both_ways _ _ (replica-forth g fixed widest moved x parts.0 one other ring another differ v)
      (replica-forth g fixed widest moved x parts.0 other one another ring (turned moved one other differ) v) in
      let rest = replicas-same gs parts.1 v in
      λ i. here i || rest i

-- the placement at x depends on the pairs that reach x, and on no other
pub placed_by_reach : (gs : List Group) (fixed widest moved one other : List Pair) (x : ℤ) → IsBetween fixed widest one → IsBetween fixed widest other → DifferWithin moved one other
    → is_reached gs fixed widest moved x ≡ false → place gs x one ≡ place gs x other
placed_by_reach gs fixed widest moved one other x ring another differ free =
    place-alike gs x one other (replicas-same fixed widest moved one other x ring another differ gs free)

-- a placement depends on which pairs there are
pub place-same : (gs : List Group) (x : ℤ) (one other : List Pair) → ((p : Pair) → has_pair one p ≡ has_pair other p) → place gs x one ≡ place gs x other
place-same gs x one other same =
    placed_by_reach gs one one [] one other x (record { keeps = λ p h. h; within = λ p h. h }) (record { keeps = λ p h. sym (same p) ∙ h; within = λ p h. same p ∙ h })
    (record { forth = λ p h. or_left (has_pair other p) false (sym (same p) ∙ h); back = λ p h. or_left (has_pair one p) false (same p ∙ h) }) (nothing gs)
  where
    nothing : (hs : List Group) → is_reached hs one one [] x ≡ false
    nothing [] = refl
    nothing (h ∷ hs) = nothing hs
