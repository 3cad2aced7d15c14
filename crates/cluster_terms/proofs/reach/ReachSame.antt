-- Reach depends on which pairs there are.
use Rattle.std.proofs.Common.{◌≡◌, ℕ, ◌+◌, min, Bool, true, false, not, ◌&&◌, ◌||◌, nat_eq, nat_lt, ◌==◌, ℤ, List, [], ◌∷◌, ◌++◌, is_some, refl, sym, ap, ◌∙◌}
use Rattle.std.proofs.lemmas.List.Folds.{list_any-append}
use Rattle.std.specs.Cmp.{both_ways}
use Rattle.std.specs.List.{list_any}
use Rattle.cluster_terms.proofs.placement.GroupLemmas.{has, node_count-same, rack_count-same, wanted-same, spare-same}
use Rattle.cluster_terms.proofs.rows.PairLemmas.{any-carried, has-ahead}
use Rattle.cluster_terms.proofs.placement.PlacementLemmas.{has-nodes_of}
use Rattle.cluster_terms.specs.Arc.{in_arc}
use Rattle.cluster_terms.specs.Group.{Group, nodes_of, node_count, rack_count, wanted, spare, ahead_of}
use Rattle.cluster_terms.specs.Pair.{has_pair}
use Rattle.cluster_terms.specs.Reach.{reaches, is_reached_in, is_reached}
use Rattle.cluster_terms.specs.declared.token.Pair.{Pair}

-- whether a token reaches, by how many are wanted and spare among the fixed and the widest pairs, and how many nodes
-- and racks are ahead
abbrev pub reaches_by : ℕ → ℕ → ℕ → ℕ → ℕ → ℕ → Bool
reaches_by wf ww sf sw d p = not ((wf == ww) && (sf == sw)) || nat_lt (min (p + sf) d) wf

pub reaches-by : (g : Group) (fixed widest : List Pair) (x y : ℤ) → reaches g fixed widest x y
    ≡ reaches_by (wanted g (nodes_of fixed)) (wanted g (nodes_of widest)) (spare g (nodes_of fixed)) (spare g (nodes_of widest)) (node_count g (nodes_of (ahead_of x y fixed))) (rack_count g (nodes_of (ahead_of x y fixed)))
unfolding reaches
reaches-by g fixed widest x y = refl

-- ---- the same pairs

any-within : (test : Pair → Bool) (ps qs : List Pair) → ((p : Pair) → has_pair ps p ≡ true → has_pair qs p ≡ true) → list_any test ps ≡ true → list_any test qs ≡ true
any-within test ps qs within = any-carried test test ps qs (λ p there passes. (within p there, passes))

-- a test passes alike among the same pairs
pub any-same : (test : Pair → Bool) (ps qs : List Pair) → ((p : Pair) → has_pair ps p ≡ has_pair qs p) → list_any test ps ≡ list_any test qs
any-same test ps qs same =
    both_ways (list_any test ps) (list_any test qs) (any-within test ps qs (λ p h. sym (same p) ∙ h)) (any-within test qs ps (λ p h. same p ∙ h))

module _ (ps qs : List Pair) (same : (p : Pair) → has_pair ps p ≡ has_pair qs p) where
  nodes-same : (v : ℕ) → has (nodes_of ps) v ≡ has (nodes_of qs) v
  nodes-same v = has-nodes_of ps v ∙ any-same (λ (p : Pair). nat_eq v p.node) ps qs same ∙ sym (has-nodes_of qs v)

  ahead-same : (x y : ℤ) (v : ℕ) → has (nodes_of (ahead_of x y ps)) v ≡ has (nodes_of (ahead_of x y qs)) v
  ahead-same x y v = has-ahead x y ps v ∙ any-same (λ (q : Pair). in_arc x y q.token && nat_eq v q.node) ps qs same ∙ sym (has-ahead x y qs v)

reaches-same : (g : Group) (fixed widest fixed' widest' : List Pair) (x y : ℤ) → ((p : Pair) → has_pair fixed p ≡ has_pair fixed' p) → ((p : Pair) → has_pair widest p ≡ has_pair widest' p)
    → reaches g fixed widest x y ≡ reaches g fixed' widest' x y
reaches-same g fixed widest fixed' widest' x y f w =
    let wf = wanted-same g (nodes_of fixed) (nodes_of fixed') (nodes-same fixed fixed' f) in
    let ww = wanted-same g (nodes_of widest) (nodes_of widest') (nodes-same widest widest' w) in
    let sf = spare-same g (nodes_of fixed) (nodes_of fixed') (nodes-same fixed fixed' f) in
    let sw = spare-same g (nodes_of widest) (nodes_of widest') (nodes-same widest widest' w) in
    let d = node_count-same g (nodes_of (ahead_of x y fixed)) (nodes_of (ahead_of x y fixed')) (ahead-same fixed fixed' f x y) in
    let p = rack_count-same g (nodes_of (ahead_of x y fixed)) (nodes_of (ahead_of x y fixed')) (ahead-same fixed fixed' f x y) in
    reaches-by g fixed widest x y ∙ (λ i. reaches_by (wf i) (ww i) (sf i) (sw i) (d i) (p i)) ∙ sym (reaches-by g fixed' widest' x y)

reached_in-same : (g : Group) (fixed widest fixed' widest' moved moved' : List Pair) (x : ℤ) → ((p : Pair) → has_pair fixed p ≡ has_pair fixed' p) → ((p : Pair) → has_pair widest p ≡ has_pair widest' p)
    → ((p : Pair) → has_pair moved p ≡ has_pair moved' p) → is_reached_in fixed widest moved x g ≡ is_reached_in fixed' widest' moved' x g
reached_in-same g fixed widest fixed' widest' moved moved' x f w m =
    any-same (λ (p : Pair). is_some (g.rack_of p.node) && reaches g fixed widest x p.token) moved moved' m
    ∙ (λ i. list_any (λ (p : Pair). is_some (g.rack_of p.node) && reaches-same g fixed widest fixed' widest' x p.token f w i) moved')

-- reach depends on which pairs there are
pub reached-same : (gs : List Group) (fixed widest fixed' widest' moved moved' : List Pair) (x : ℤ) → ((p : Pair) → has_pair fixed p ≡ has_pair fixed' p) → ((p : Pair) → has_pair widest p ≡ has_pair widest' p)
    → ((p : Pair) → has_pair moved p ≡ has_pair moved' p) → is_reached gs fixed widest moved x ≡ is_reached gs fixed' widest' moved' x
reached-same gs fixed widest fixed' widest' moved moved' x f w m = λ i. list_any (λ g. reached_in-same g fixed widest fixed' widest' moved moved' x f w m i) gs

-- ---- parts of the moved pairs

any_or : {X : Type 0} (f h : X → Bool) (qs : List X) → list_any (λ q. f q || h q) qs ≡ (list_any f qs || list_any h qs)
any_or f h [] = refl
any_or f h (q ∷ qs) = ap (λ b. (f q || h q) || b) (any_or f h qs) ∙ swap (f q) (h q) (list_any f qs) (list_any h qs)
  where
    swap : (a b c d : Bool) → ((a || b) || (c || d)) ≡ ((a || c) || (b || d))
    swap true b c d = refl
    swap false true true d = refl
    swap false true false d = refl
    swap false false c d = refl

any_never : {X : Type 0} (qs : List X) → list_any (λ q. false) qs ≡ false
any_never [] = refl
any_never (q ∷ qs) = any_never qs

-- some pairs and more reach what the ones or the others reach, and no pairs reach nothing
pub reached-append : (gs : List Group) (fixed widest moved more : List Pair) (x : ℤ) → is_reached gs fixed widest (moved ++ more) x ≡ (is_reached gs fixed widest moved x || is_reached gs fixed widest more x)
reached-append gs fixed widest moved more x =
    (λ i. list_any (λ (g : Group). list_any-append (λ (p : Pair). is_some (g.rack_of p.node) && reaches g fixed widest x p.token) moved more i) gs)
    ∙ any_or (is_reached_in fixed widest moved x) (is_reached_in fixed widest more x) gs

pub reached-none : (gs : List Group) (fixed widest : List Pair) (x : ℤ) → is_reached gs fixed widest [] x ≡ false
reached-none gs fixed widest x = any_never gs
