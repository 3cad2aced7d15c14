-- A replica, by its first pair.
use Rattle.std.proofs.Common.{◌≡◌, ℕ, true, false, not, ◌&&◌, nat_eq, ℤ, List, Option, Some, None, refl, sym, ap, ◌∙◌}
use Rattle.std.proofs.lemmas.Bool.{false≢true, and_parts, not-true}
use Rattle.std.proofs.lemmas.Map.Views.{exact_unsigned_eq}
use Rattle.std.specs.Cmp.{nat_eq_equiv}
use Rattle.cluster_terms.proofs.placement.GroupLemmas.{has, has_rack, is_chosen_by, is_chosen_rack-by}
use Rattle.cluster_terms.proofs.rows.PairLemmas.{Found, found_from_any, any_from_pair}
use Rattle.cluster_terms.proofs.placement.PlacementLemmas.{has-nodes_of}
use Rattle.cluster_terms.specs.Group.{Group, nodes_of, node_count, rack_count, wanted, spare, is_chosen, ahead_of, is_first, is_chosen_at, is_replica}
use Rattle.cluster_terms.specs.Pair.{has_pair}
use Rattle.cluster_terms.specs.declared.token.Pair.{Pair}

-- a replica of the group, at its first pair, with its rack
pub record IsReplicaAt (g : Group) (x : ℤ) (ps : List Pair) (v : ℕ) : Type 0 where
  pub pair : Pair
  pub rack : List ℕ
  pub there : has_pair ps pair ≡ true
  pub node : v ≡ pair.node
  pub in_rack : g.rack_of v ≡ Some rack
  pub first : has (nodes_of (ahead_of x pair.token ps)) v ≡ false
  pub chosen : is_chosen_by (wanted g (nodes_of ps)) (spare g (nodes_of ps)) (node_count g (nodes_of (ahead_of x pair.token ps)))
      (rack_count g (nodes_of (ahead_of x pair.token ps))) (has_rack g (nodes_of (ahead_of x pair.token ps)) rack) ≡ true

-- the two ways between it and the test
pub IsReplicaAt-from_replica : (g : Group) (x : ℤ) (ps : List Pair) (v : ℕ) → is_replica g x ps v ≡ true → IsReplicaAt g x ps v
unfolding is_replica
IsReplicaAt-from_replica g x ps v h = at (found_from_any (is_chosen_at g x ps v) ps h)
  where
    at : Found (is_chosen_at g x ps v) ps → IsReplicaAt g x ps v
    at f = by (g.rack_of v) refl parts.1
      where
        p : Pair
        p = f.pair

        outer : (nat_eq v p.node ≡ true) × ((is_first x ps p && is_chosen g (nodes_of ps) (nodes_of (ahead_of x p.token ps)) (g.rack_of v)) ≡ true)
        outer = and_parts (nat_eq v p.node) (is_first x ps p && is_chosen g (nodes_of ps) (nodes_of (ahead_of x p.token ps)) (g.rack_of v)) f.passes

        parts : (is_first x ps p ≡ true) × (is_chosen g (nodes_of ps) (nodes_of (ahead_of x p.token ps)) (g.rack_of v) ≡ true)
        parts = and_parts (is_first x ps p) (is_chosen g (nodes_of ps) (nodes_of (ahead_of x p.token ps)) (g.rack_of v)) outer.1

        same : v ≡ p.node
        same = exact_unsigned_eq v p.node outer.0

        by : (o : Option (List ℕ)) → g.rack_of v ≡ o → is_chosen g (nodes_of ps) (nodes_of (ahead_of x p.token ps)) o ≡ true → IsReplicaAt g x ps v
        by None is c = absurd (false≢true c)
        by (Some rack) is c = record {
          pair = p;
          rack = rack;
          there = f.there;
          node = same;
          in_rack = is;
          first = ap (has (nodes_of (ahead_of x p.token ps))) same ∙ has-nodes_of (ahead_of x p.token ps) p.node ∙ not-true _ parts.0;
          chosen = sym (is_chosen_rack-by g (nodes_of ps) (nodes_of (ahead_of x p.token ps)) rack) ∙ c;
        }

pub replica-from_IsReplicaAt : (g : Group) (x : ℤ) (ps : List Pair) (v : ℕ) → IsReplicaAt g x ps v → is_replica g x ps v ≡ true
unfolding is_replica
replica-from_IsReplicaAt g x ps v r = any_from_pair (is_chosen_at g x ps v) ps p r.there (λ i. same i && (first i && chosen i))
  where
    p : Pair
    p = r.pair

    same : nat_eq v p.node ≡ true
    same = ap (nat_eq v) (sym r.node) ∙ nat_eq_equiv.refl v

    first : is_first x ps p ≡ true
    first = ap not (sym (has-nodes_of (ahead_of x p.token ps) p.node) ∙ ap (has (nodes_of (ahead_of x p.token ps))) (sym r.node) ∙ r.first)

    chosen : is_chosen g (nodes_of ps) (nodes_of (ahead_of x p.token ps)) (g.rack_of v) ≡ true
    chosen = ap (is_chosen g (nodes_of ps) (nodes_of (ahead_of x p.token ps))) r.in_rack ∙ is_chosen_rack-by g (nodes_of ps) (nodes_of (ahead_of x p.token ps)) r.rack ∙ r.chosen
