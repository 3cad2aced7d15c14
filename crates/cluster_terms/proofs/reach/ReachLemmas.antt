-- Where a token reaches: at nearer tokens too, and alike where no pair lies in between.
use Rattle.std.proofs.Common.{◌≡◌, ℕ, ◌+◌, ◌≤◌, min, Bool, true, false, not, ◌&&◌, ◌||◌, if◌then◌else◌, nat_eq, nat_lt, ℤ, ◌≤ℤ◌, List, [], ◌∷◌, is_some, refl, sym, ap, ◌∙◌, arith}
use Rattle.std.proofs.lemmas.Bool.{and_parts, eq-eqb, or_right}
use Rattle.std.proofs.lemmas.Bool.Decides.{nat_tests}
use Rattle.std.proofs.lemmas.Int.{ints}
use Rattle.std.proofs.lemmas.Map.Views.{exact_unsigned_eq}
use Rattle.std.specs.List.{AllByRecursion, list_any}
use Rattle.cluster_terms.proofs.placement.CountLemmas.{IsWithin, node_count-within, rack_count-within}
use Rattle.cluster_terms.proofs.rows.PairLemmas.{ahead-within}
use Rattle.cluster_terms.proofs.reach.SettledLemmas.{arc-through}
use Rattle.cluster_terms.specs.Arc.{in_arc}
use Rattle.cluster_terms.specs.Group.{Group, nodes_of, node_count, rack_count, wanted, spare, taken, ahead_of}
use Rattle.cluster_terms.specs.Reach.{same_shape, is_open, reaches, is_reached_in, is_reached}
use Rattle.cluster_terms.specs.declared.token.Pair.{Pair}

-- ---- arcs

-- nothing else is met from w than from x, where neither lies from x to w
pub arc-between : (x w y t : ℤ) → x ≤ℤ w → in_arc x w y ≡ false → in_arc x w t ≡ false → in_arc x y t ≡ in_arc w y t
arc-between x w y t le out_y out_t = grind (arith, ints)

-- ---- from x to w

-- the same pairs are ahead of a token
pub ahead-between : (x w y : ℤ) → x ≤ℤ w → in_arc x w y ≡ false → (ps : List Pair) → AllByRecursion (λ p. in_arc x w p.token ≡ false) ps → ahead_of x y ps ≡ ahead_of w y ps
ahead-between x w y le out [] h = refl
ahead-between x w y le out (p ∷ ps) h =
    let rest = ahead-between x w y le out ps h.1 in
    λ i. if arc-between x w y p.token le out h.0 i then p ∷ rest i else rest i

reaches-between : (g : Group) (fixed widest : List Pair) (x w y : ℤ) → x ≤ℤ w → in_arc x w y ≡ false → AllByRecursion (λ p. in_arc x w p.token ≡ false) fixed → reaches g fixed widest x y ≡ reaches g fixed widest w y
unfolding reaches
reaches-between g fixed widest x w y le out h =
    ap (λ ahead. not (same_shape g fixed widest) || nat_lt (taken g (nodes_of fixed) (nodes_of ahead)) (wanted g (nodes_of fixed))) (ahead-between x w y le out fixed h)

reached_in-between : (g : Group) (fixed widest : List Pair) (x w : ℤ) → x ≤ℤ w → AllByRecursion (λ p. in_arc x w p.token ≡ false) fixed
    → (moved : List Pair) → AllByRecursion (λ p. in_arc x w p.token ≡ false) moved → is_reached_in fixed widest moved x g ≡ is_reached_in fixed widest moved w g
reached_in-between g fixed widest x w le h [] out = refl
reached_in-between g fixed widest x w le h (p ∷ ps) out =
    let here = reaches-between g fixed widest x w p.token le out.0 h in
    let rest = reached_in-between g fixed widest x w le h ps out.1 in
    λ i. (is_some (g.rack_of p.node) && here i) || rest i

-- nothing changes from x to w where no pair lies in between
pub reached-between : (gs : List Group) (fixed widest moved : List Pair) (x w : ℤ) → x ≤ℤ w
    → AllByRecursion (λ p. in_arc x w p.token ≡ false) fixed → AllByRecursion (λ p. in_arc x w p.token ≡ false) moved
    → is_reached gs fixed widest moved x ≡ is_reached gs fixed widest moved w
reached-between gs fixed widest moved x w le h out = λ i. list_any (λ g. reached_in-between g fixed widest x w le h moved out i) gs

-- ---- which tokens reach

-- whether replicas are left to be found, by how many are wanted and spare, and how many nodes and racks are ahead
abbrev is_open_by : ℕ → ℕ → ℕ → ℕ → Bool
is_open_by w s d p = nat_lt (min (p + s) d) w

is_open-fewer : (w s d p w' s' d' p' : ℕ) → w' ≤ w → s ≤ s' → d ≤ d' → p ≤ p' → is_open_by w' s' d' p' ≡ true → is_open_by w s d p ≡ true
is_open-fewer w s d p w' s' d' p' ww ss dd pp h = grind (arith, nat_tests)

module _ (g : Group) where
  -- shapes as equations
  pub shape-wanted : (ps qs : List Pair) → same_shape g ps qs ≡ true → wanted g (nodes_of ps) ≡ wanted g (nodes_of qs)
  shape-wanted ps qs h =
      exact_unsigned_eq (wanted g (nodes_of ps)) (wanted g (nodes_of qs))
      (and_parts (nat_eq (wanted g (nodes_of ps)) (wanted g (nodes_of qs))) (nat_eq (spare g (nodes_of ps)) (spare g (nodes_of qs))) h).0

  pub shape-spare : (ps qs : List Pair) → same_shape g ps qs ≡ true → spare g (nodes_of ps) ≡ spare g (nodes_of qs)
  shape-spare ps qs h =
      exact_unsigned_eq (spare g (nodes_of ps)) (spare g (nodes_of qs))
      (and_parts (nat_eq (wanted g (nodes_of ps)) (wanted g (nodes_of qs))) (nat_eq (spare g (nodes_of ps)) (spare g (nodes_of qs))) h).1

  pub same_shape-from : (ps qs : List Pair) → wanted g (nodes_of ps) ≡ wanted g (nodes_of qs) → spare g (nodes_of ps) ≡ spare g (nodes_of qs) → same_shape g ps qs ≡ true
  same_shape-from ps qs w s = λ i. eq-eqb (wanted g (nodes_of ps)) (wanted g (nodes_of qs)) w i && eq-eqb (spare g (nodes_of ps)) (spare g (nodes_of qs)) s i

  -- replicas are left where the ring wants as many or more, and fewer are spare, and fewer nodes of the group are ahead
  pub is_open-within : (fixed fixed' : List Pair) (x y z : ℤ) → wanted g (nodes_of fixed') ≤ wanted g (nodes_of fixed) → spare g (nodes_of fixed) ≤ spare g (nodes_of fixed')
      → IsWithin g (nodes_of (ahead_of x z fixed)) (nodes_of (ahead_of x y fixed')) → is_open g fixed' x y ≡ true → is_open g fixed x z ≡ true
  is_open-within fixed fixed' x y z ww ss ahead =
      is_open-fewer (wanted g (nodes_of fixed)) (spare g (nodes_of fixed)) (node_count g (nodes_of (ahead_of x z fixed))) (rack_count g (nodes_of (ahead_of x z fixed)))
      (wanted g (nodes_of fixed')) (spare g (nodes_of fixed')) (node_count g (nodes_of (ahead_of x y fixed'))) (rack_count g (nodes_of (ahead_of x y fixed')))
      ww ss (node_count-within g _ _ ahead) (rack_count-within g _ _ ahead)

  -- where a farther token is open, a nearer one is
  pub nearer-open : (fixed : List Pair) (x y z : ℤ) → in_arc x y z ≡ true → is_open g fixed x y ≡ true → is_open g fixed x z ≡ true
  nearer-open fixed x y z near =
      is_open-within fixed fixed x y z (omega arith) (omega arith)
      (ahead-within g fixed fixed x z y (λ p of ahead there. (there, arc-through x z y p.token near ahead)))

  -- every token reaches where the shapes differ, and where they don't those that are open
  pub reaches-open : (fixed widest : List Pair) (x y : ℤ) → is_open g fixed x y ≡ true → reaches g fixed widest x y ≡ true
  unfolding reaches
  reaches-open fixed widest x y h = or_right (not (same_shape g fixed widest)) (is_open g fixed x y) h

  pub reaches-differ : (fixed widest : List Pair) (x y : ℤ) → same_shape g fixed widest ≡ false → reaches g fixed widest x y ≡ true
  unfolding reaches
  reaches-differ fixed widest x y h = ap (λ b. not b || is_open g fixed x y) h

  pub open-reaches : (fixed widest : List Pair) (x y : ℤ) → same_shape g fixed widest ≡ true → reaches g fixed widest x y ≡ true → is_open g fixed x y ≡ true
  unfolding reaches
  open-reaches fixed widest x y e h = sym (ap (λ b. not b || is_open g fixed x y) e) ∙ h
