-- A placement is the same from one token up to another where no pair lies in between.
use Rattle.std.proofs.Common.{◌≡◌, ℕ, false, not, ◌&&◌, ◌||◌, ◌==◌, ℤ, ◌≤ℤ◌, List, [], ◌∷◌, filter, refl}
use Rattle.std.specs.List.{AllByRecursion, list_any}
use Rattle.std.specs.Ordering.{nat_cmp}
use Rattle.cluster_terms.proofs.reach.ReachLemmas.{ahead-between}
use Rattle.cluster_terms.specs.Arc.{in_arc}
use Rattle.cluster_terms.specs.Ascending.{ascending}
use Rattle.cluster_terms.specs.Group.{Group, nodes_of, is_chosen, is_chosen_at, is_replica, place}
use Rattle.cluster_terms.specs.declared.token.Pair.{Pair}

module _ (x w : ℤ) (le : x ≤ℤ w) (ps : List Pair) (out : AllByRecursion (λ p. in_arc x w p.token ≡ false) ps) where
  chosen-between : (g : Group) (v : ℕ) (p : Pair) → in_arc x w p.token ≡ false → is_chosen_at g x ps v p ≡ is_chosen_at g w ps v p
  chosen-between g v p here =
      let ahead = ahead-between x w p.token le here ps out in
      λ i. (v == p.node) && (not (list_any (λ q. p.node == q.node) (ahead i)) && is_chosen g (nodes_of ps) (nodes_of (ahead i)) (g.rack_of v))

  chosen_among : (g : Group) (v : ℕ) (qs : List Pair) → AllByRecursion (λ p. in_arc x w p.token ≡ false) qs → list_any (is_chosen_at g x ps v) qs ≡ list_any (is_chosen_at g w ps v) qs
  chosen_among g v [] all = refl
  chosen_among g v (q ∷ qs) all = (let here = chosen-between g v q all.0 in let rest = chosen_among g v qs all.1 in λ i. here i || rest i)

  replica-between : (g : Group) (v : ℕ) → is_replica g x ps v ≡ is_replica g w ps v
  unfolding is_replica
  replica-between g v = chosen_among g v ps out

  -- the replicas at x are those at w
  pub place-between : (gs : List Group) → place gs x ps ≡ place gs w ps
  unfolding place
  place-between gs = λ i. ascending nat_cmp (filter (λ v. list_any (λ g. replica-between g v i) gs) (nodes_of ps))
