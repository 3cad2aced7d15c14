-- The placement depends on which pairs there are.
use Rattle.std.proofs.Common.{◌≡◌, ℕ, Bool, true, false, not, ◌&&◌, ◌||◌, if◌then◌else◌, nat_eq, ℤ, List, [], ◌∷◌, ◌++◌, filter, refl, sym, ap, ◌∙◌}
use Rattle.std.proofs.lemmas.Bool.{false≢true, or_right, and_parts}
use Rattle.std.proofs.lemmas.List.Sorted.{list_any-IsPermutation}
use Rattle.std.proofs.lemmas.Map.Lookups.{exact_unsigned}
use Rattle.std.proofs.lemmas.Map.Made.{is_member-filter}
use Rattle.std.proofs.lemmas.Map.Views.{exact_unsigned_eq}
use Rattle.std.specs.Cmp.{nat_eq_equiv, nat_cmp_total, unsigned_tied}
use Rattle.std.specs.List.{list_any}
use Rattle.std.specs.List.Sorted.{IsPermutation}
use Rattle.std.specs.Ordering.{nat_cmp, eq_by_cmp}
use Rattle.std.specs.Set.{is_member}
use Rattle.cluster_terms.proofs.lists.AscendingLemmas.{ascending_from_members, ascending_sorted, member-ascending}
use Rattle.cluster_terms.specs.Arc.{in_arc}
use Rattle.cluster_terms.specs.Ascending.{ascending}
use Rattle.cluster_terms.specs.Group.{Group, nodes_of, ahead_of, is_first, is_chosen_at, is_replica, is_replica_of_any, place}
use Rattle.cluster_terms.specs.declared.token.Pair.{Pair}
use Rattle.cluster_terms.proofs.placement.GroupLemmas.{has, is_chosen-among, is_chosen-same}

-- ---- nodes of pairs

-- whether a node is among those of some pairs
pub has-nodes_of : (ps : List Pair) (v : ℕ) → has (nodes_of ps) v ≡ list_any (λ (p : Pair). nat_eq v p.node) ps
has-nodes_of [] v = refl
has-nodes_of (p ∷ ps) v = ap (λ b. nat_eq v p.node || b) (has-nodes_of ps v)

pub has-permuted : (ps qs : List Pair) → IsPermutation ps qs → (v : ℕ) → has (nodes_of ps) v ≡ has (nodes_of qs) v
has-permuted ps qs h v = has-nodes_of ps v ∙ list_any-IsPermutation (λ (p : Pair). nat_eq v p.node) ps qs h ∙ sym (has-nodes_of qs v)

pub nodes_of-append : (ps qs : List Pair) → nodes_of (ps ++ qs) ≡ nodes_of ps ++ nodes_of qs
nodes_of-append [] qs = refl
nodes_of-append (p ∷ ps) qs = ap (λ l. p.node ∷ l) (nodes_of-append ps qs)

-- ---- the placement

pub tied : (xs : List ℕ) (v : ℕ) → is_member (eq_by_cmp nat_cmp) xs v ≡ has xs v
tied [] v = refl
tied (x ∷ xs) v = λ i. unsigned_tied v x i || tied xs v i

module _ (x : ℤ) (ps : List Pair) where
  -- a replica is a node of the ring
  chosen-has : (g : Group) (qs : List Pair) (v : ℕ) → list_any (is_chosen_at g x ps v) qs ≡ true → has (nodes_of qs) v ≡ true
  chosen-has g [] v h = h
  chosen-has g (q ∷ qs) v h = by (is_chosen_at g x ps v q) refl h (chosen-has g qs v)
    where
      by : (b : Bool) → is_chosen_at g x ps v q ≡ b → (b || list_any (is_chosen_at g x ps v) qs) ≡ true
          → (list_any (is_chosen_at g x ps v) qs ≡ true → has (nodes_of qs) v ≡ true) → (nat_eq v q.node || has (nodes_of qs) v) ≡ true
      by true here e rest = ap (λ b. b || has (nodes_of qs) v) ((and_parts (nat_eq v q.node) _ here).0)
      by false here e rest = or_right (nat_eq v q.node) (has (nodes_of qs) v) (rest e)

  pub replica-has : (gs : List Group) (v : ℕ) → is_replica_of_any gs x ps v ≡ true → has (nodes_of ps) v ≡ true
  unfolding is_replica
  replica-has [] v h = absurd (false≢true h)
  replica-has (g ∷ gs) v h = by (list_any (is_chosen_at g x ps v) ps) refl h (replica-has gs v)
    where
      by : (b : Bool) → list_any (is_chosen_at g x ps v) ps ≡ b → (b || is_replica_of_any gs x ps v) ≡ true
          → (is_replica_of_any gs x ps v ≡ true → has (nodes_of ps) v ≡ true) → has (nodes_of ps) v ≡ true
      by true here e rest = chosen-has g ps v here
      by false here e rest = rest e

  both : (a b : Bool) → (a ≡ true → b ≡ true) → a ≡ (b && a)
  both true true f = refl
  both true false f = sym (f refl)
  both false true f = refl
  both false false f = refl

  -- the nodes that are kept for a placement are its replicas
  pub placed-has : (gs : List Group) (v : ℕ) → has (filter (is_replica_of_any gs x ps) (nodes_of ps)) v ≡ is_replica_of_any gs x ps v
  placed-has gs v =
      is_member-filter nat_eq_equiv (is_replica_of_any gs x ps) v (λ q e. ap (is_replica_of_any gs x ps) (exact_unsigned_eq v q e)) (nodes_of ps)
      ∙ sym (both (is_replica_of_any gs x ps v) (has (nodes_of ps) v) (replica-has gs v))

  -- nodes that are taken exactly where they are replicas are the placement
  pub placed_by : (gs : List Group) (taken : List ℕ) → ((v : ℕ) → has taken v ≡ is_replica_of_any gs x ps v) → place gs x ps ≡ ascending nat_cmp taken
  unfolding place
  placed_by gs taken same =
      sym (ascending_from_members nat_cmp nat_cmp_total exact_unsigned (ascending nat_cmp taken) (filter (is_replica_of_any gs x ps) (nodes_of ps)) (ascending_sorted nat_cmp nat_cmp_total taken)
      (λ v. member-ascending nat_cmp nat_cmp_total taken v ∙ tied taken v ∙ same v ∙ sym (placed-has gs v) ∙ sym (tied (filter (is_replica_of_any gs x ps) (nodes_of ps)) v)))

-- rings with the same replicas have the same placement
pub place-alike : (gs : List Group) (x : ℤ) (ps qs : List Pair) → ((v : ℕ) → is_replica_of_any gs x ps v ≡ is_replica_of_any gs x qs v) → place gs x ps ≡ place gs x qs
unfolding place
place-alike gs x ps qs same =
    placed_by x ps gs (filter (is_replica_of_any gs x qs) (nodes_of qs)) (λ v. placed-has x qs gs v ∙ sym (same v))

-- a ring of nothing places nothing
pub placed_nowhere : (gs : List Group) (x : ℤ) → place gs x [] ≡ []
unfolding place
placed_nowhere gs x = refl

-- ---- pairs in another order

pub any-filter : {X : Type 0} (f p : X → Bool) (xs : List X) → list_any f (filter p xs) ≡ list_any (λ q. p q && f q) xs
any-filter f p [] = refl
any-filter f p (y ∷ ys) = by (p y) (any-filter f p ys)
  where
    by : (b : Bool) → list_any f (filter p ys) ≡ list_any (λ q. p q && f q) ys → list_any f (if b then y ∷ filter p ys else filter p ys) ≡ ((b && f y) || list_any (λ q. p q && f q) ys)
    by true rest = ap (λ b. f y || b) rest
    by false rest = rest

module _ (ps qs : List Pair) (moved : IsPermutation ps qs) (x : ℤ) where
  -- the same nodes are ahead of a token
  ahead-permuted : (y : ℤ) (v : ℕ) → has (nodes_of (ahead_of x y ps)) v ≡ has (nodes_of (ahead_of x y qs)) v
  ahead-permuted y v =
      has-nodes_of (ahead_of x y ps) v ∙ any-filter (λ (q : Pair). nat_eq v q.node) (λ (q : Pair). in_arc x y q.token) ps
      ∙ list_any-IsPermutation (λ (q : Pair). in_arc x y q.token && nat_eq v q.node) ps qs moved
      ∙ sym (any-filter (λ (q : Pair). nat_eq v q.node) (λ (q : Pair). in_arc x y q.token) qs) ∙ sym (has-nodes_of (ahead_of x y qs) v)

  first-permuted : (p : Pair) → is_first x ps p ≡ is_first x qs p
  first-permuted p =
      ap not (sym (has-nodes_of (ahead_of x p.token ps) p.node) ∙ ahead-permuted p.token p.node ∙ has-nodes_of (ahead_of x p.token qs) p.node)

  chosen-permuted : (g : Group) (v : ℕ) (p : Pair) → is_chosen_at g x ps v p ≡ is_chosen_at g x qs v p
  chosen-permuted g v p =
      let rule = is_chosen-same g (nodes_of ps) (nodes_of (ahead_of x p.token ps)) (nodes_of (ahead_of x p.token qs)) (ahead-permuted p.token) (g.rack_of v)
      ∙ is_chosen-among g (nodes_of ps) (nodes_of qs) (nodes_of (ahead_of x p.token qs)) (has-permuted ps qs moved) (g.rack_of v) in
      λ i. nat_eq v p.node && (first-permuted p i && rule i)

  replica-permuted : (g : Group) (v : ℕ) → is_replica g x ps v ≡ is_replica g x qs v
  unfolding is_replica
  replica-permuted g v = list_any-IsPermutation (is_chosen_at g x ps v) ps qs moved ∙ (λ i. list_any (λ p. chosen-permuted g v p i) qs)

  -- a placement depends on which pairs there are, and not on their order
  pub place-permuted : (gs : List Group) → place gs x ps ≡ place gs x qs
  place-permuted gs = place-alike gs x ps qs (λ v i. list_any (λ g. replica-permuted g v i) gs)
