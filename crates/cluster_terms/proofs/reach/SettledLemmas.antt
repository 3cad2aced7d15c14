-- Tokens that don't reach another, and rings between the fixed pairs and the widest set.
use Rattle.std.proofs.Common.{◌≡◌, ℕ, ◌+◌, ◌≤◌, min, Bool, true, false, not, ◌&&◌, ◌||◌, nat_eq, nat_lt, ℤ, List, is_some, refl, sym, ◌∙◌, arith}
use Rattle.std.proofs.lemmas.Bool.{false≢true}
use Rattle.std.proofs.lemmas.Bool.Decides.{nat_tests}
use Rattle.std.proofs.lemmas.Int.{ints}
use Rattle.cluster_terms.proofs.placement.CountLemmas.{IsWithin, wanted-within, spare-within}
use Rattle.cluster_terms.proofs.rows.PairLemmas.{any_from_pair, nodes-within}
use Rattle.cluster_terms.specs.Arc.{in_arc}
use Rattle.cluster_terms.specs.Group.{Group, nodes_of, node_count, rack_count, wanted, spare, ahead_of}
use Rattle.cluster_terms.specs.Pair.{has_pair}
use Rattle.cluster_terms.specs.Reach.{reaches, is_reached_in, IsBetween}
use Rattle.cluster_terms.specs.declared.token.Pair.{Pair}

-- what is ahead of a token that is ahead of y is ahead of y
pub arc-through : (x y t z : ℤ) → in_arc x t y ≡ true → in_arc x y z ≡ true → in_arc x t z ≡ true
arc-through x y t z a b = grind (arith, ints)

-- where a token doesn't reach x, the shapes agree and the fixed nodes ahead of it leave no replica to be found
pub record IsSettled (g : Group) (fixed widest : List Pair) (x y : ℤ) : Type 0 where
  pub wanted_alike : wanted g (nodes_of fixed) ≡ wanted g (nodes_of widest)
  pub spare_alike : spare g (nodes_of fixed) ≡ spare g (nodes_of widest)
  pub nodes : wanted g (nodes_of fixed) ≤ node_count g (nodes_of (ahead_of x y fixed))
  pub racks : wanted g (nodes_of fixed) ≤ rack_count g (nodes_of (ahead_of x y fixed)) + spare g (nodes_of fixed)

settled : (w z s t d p : ℕ) → (not (nat_eq w z && nat_eq s t) || nat_lt (min (p + s) d) w) ≡ false → (w ≡ z) × (s ≡ t) × (w ≤ d) × (w ≤ p + s)
settled w z s t d p h = (grind (arith, nat_tests), grind (arith, nat_tests), grind (arith, nat_tests), grind (arith, nat_tests))

pub IsSettled-from_reach : (g : Group) (fixed widest : List Pair) (x y : ℤ) → reaches g fixed widest x y ≡ false → IsSettled g fixed widest x y
unfolding reaches
IsSettled-from_reach g fixed widest x y h =
    let facts = settled (wanted g (nodes_of fixed)) (wanted g (nodes_of widest)) (spare g (nodes_of fixed)) (spare g (nodes_of widest))
    (node_count g (nodes_of (ahead_of x y fixed))) (rack_count g (nodes_of (ahead_of x y fixed))) h in
    record { wanted_alike = facts.0; spare_alike = facts.1; nodes = facts.2; racks = facts.3 }

-- no moved pair of the group reaches x where x isn't reached
pub free-from_reach : (g : Group) (fixed widest moved : List Pair) (x : ℤ) → is_reached_in fixed widest moved x g ≡ false
    → (q : Pair) → is_some (g.rack_of q.node) ≡ true → has_pair moved q ≡ true → reaches g fixed widest x q.token ≡ false
free-from_reach g fixed widest moved x free q of there = by (reaches g fixed widest x q.token) refl
  where
    by : (b : Bool) → reaches g fixed widest x q.token ≡ b → reaches g fixed widest x q.token ≡ false
    by true e = absurd (false≢true (sym free ∙ any_from_pair (λ (p : Pair). is_some (g.rack_of p.node) && reaches g fixed widest x p.token) moved q there (λ i. of i && e i)))
    by false e = e

-- where the shapes of the fixed pairs and the widest set agree, each ring between them has that shape
pub shape-between : (g : Group) (fixed widest ring : List Pair) → IsBetween fixed widest ring
    → wanted g (nodes_of fixed) ≡ wanted g (nodes_of widest) → spare g (nodes_of fixed) ≡ spare g (nodes_of widest)
    → (wanted g (nodes_of ring) ≡ wanted g (nodes_of fixed)) × (spare g (nodes_of ring) ≡ spare g (nodes_of fixed))
shape-between g fixed widest ring between wanted_alike spare_alike =
    let low : IsWithin g (nodes_of fixed) (nodes_of ring) = nodes-within g fixed ring (λ q of there. between.keeps q there) in
    let high : IsWithin g (nodes_of ring) (nodes_of widest) = nodes-within g ring widest (λ q of there. between.within q there) in
    let wanted_low = wanted-within g (nodes_of fixed) (nodes_of ring) low in
    let wanted_high = wanted-within g (nodes_of ring) (nodes_of widest) high in
    let spare_low = spare-within g (nodes_of fixed) (nodes_of ring) low in
    let spare_high = spare-within g (nodes_of ring) (nodes_of widest) high in
    (squeezed wanted_low wanted_high wanted_alike, squeezed spare_high spare_low (sym spare_alike) ∙ sym spare_alike)
  where
    squeezed : {a b c : ℕ} → a ≤ b → b ≤ c → a ≡ c → b ≡ a
    squeezed low high same = omega arith
