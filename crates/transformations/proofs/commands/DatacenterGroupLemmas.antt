-- Groups of replicas that have too few nodes with tokens.
use Rattle.std.proofs.Common.{◌≡◌, ℕ, ◌+◌, ◌<◌, ◌≤◌, Bool, true, false, ◌||◌, List, [], ◌∷◌, ◌++◌, Some, None, cond, not, filter, find, get_or, length, map, take, drop, option_map, nat_eq, ◌==◌, arith, refl, sym, ap, ◌∙◌}
use Rattle.std.proofs.Math.Bool.{or-false, or-true}
use Rattle.std.proofs.lemmas.Bool.{or_left}
use Rattle.std.proofs.lemmas.Cmp.{nat_eq_equiv}
use Rattle.std.proofs.lemmas.List.{length-map, length_push, map-append, map_more, take-append-drop}
use Rattle.std.proofs.lemmas.List.Elements.{filter-append}
use Rattle.std.proofs.lemmas.List.Folds.{list_any-append}
use Rattle.std.specs.List.{list_any}
use Rattle.std.specs.Set.{is_member, distinct_count}
use Rattle.cluster_terms.proofs.lists.DistinctCounts.{distinct_count-new, distinct_count-old, distinct_count-within, is_member-alike, is_member-push}
use Rattle.cluster_terms.specs.Group.{nodes_of}
use Rattle.cluster_terms.specs.Replication.{datacenter_group, groups_of}
use Rattle.cluster_terms.specs.declared.replication.Replication.{Replication}
use Rattle.cluster_terms.specs.declared.replication.Replication.TheVariants.{Simple, Topology}
use Rattle.cluster_terms.specs.declared.token.Pair.{Pair}
use Rattle.transformations.specs.code.DatacenterGroups.{is_short_at}
use Rattle.transformations.specs.Refusals.{is_short, is_too_few, not_one_token, refused_if, too_few_nodes, unless_one}
use Rattle.transformations.specs.declared.image.Image.{Image}
use Rattle.transformations.specs.declared.keyspace.KeyspaceRow.{KeyspaceRow}
use Rattle.transformations.specs.declared.refusal.Refusal.TheVariants.{NotOneToken, TooFewNodes}

-- ---- the distinct nodes of some that pass a test

module _ (test : ℕ → Bool) where
  -- these are found among some nodes: those that pass, each once
  pub record AreFound (ns found : List ℕ) : Type 0 where
    pub count : length found ≡ distinct_count nat_eq (filter test ns)
    pub same : (q : ℕ) → is_member nat_eq found q ≡ is_member nat_eq (filter test ns) q

  -- with a node more
  more : (ns : List ℕ) (n : ℕ) (b : Bool) → test n ≡ b → filter test (ns ++ n ∷ []) ≡ filter test ns ++ cond b (n ∷ []) []
  more ns n b is = filter-append test ns (n ∷ []) ∙ (λ i. filter test ns ++ cond (is i) (n ∷ []) [])

  all_there : (xs : List ℕ) → xs ++ [] ≡ xs
  all_there [] = refl
  all_there (x ∷ xs) = ap (λ l. x ∷ l) (all_there xs)

  -- one that doesn't pass
  pub found_other : (ns found : List ℕ) (n : ℕ) → AreFound ns found → test n ≡ false → AreFound (ns ++ n ∷ []) found
  found_other ns found n f out =
      let is : filter test (ns ++ n ∷ []) ≡ filter test ns = more ns n false out ∙ all_there (filter test ns) in
      record { count = f.count ∙ ap (distinct_count nat_eq) (sym is); same = λ q. f.same q ∙ ap (λ l. is_member nat_eq l q) (sym is) }

  -- one that is found already
  pub found_old : (ns found : List ℕ) (n : ℕ) → AreFound ns found → is_member nat_eq found n ≡ true → AreFound (ns ++ n ∷ []) found
  found_old ns found n f there = by (test n) refl
    where
      old : is_member nat_eq (filter test ns) n ≡ true
      old = sym (f.same n) ∙ there

      here : (q : ℕ) (b : Bool) → nat_eq q n ≡ b → (is_member nat_eq (filter test ns) q || b) ≡ is_member nat_eq (filter test ns) q
      here q true e = or-true (is_member nat_eq (filter test ns) q) ∙ sym (is_member-alike nat_eq_equiv (filter test ns) q n e ∙ old)
      here q false e = or-false (is_member nat_eq (filter test ns) q)

      by : (b : Bool) → test n ≡ b → AreFound (ns ++ n ∷ []) found
      by false out = found_other ns found n f out
      by true in_ =
          let is : filter test (ns ++ n ∷ []) ≡ filter test ns ++ n ∷ [] = more ns n true in_ in
          record {
            count = f.count ∙ sym (distinct_count-old nat_eq_equiv (filter test ns) n old) ∙ ap (distinct_count nat_eq) (sym is);
            same = λ q. f.same q ∙ sym (is_member-push nat_eq_equiv (filter test ns) n q ∙ here q (nat_eq q n) refl) ∙ ap (λ l. is_member nat_eq l q) (sym is);
          }

  -- one that is new
  pub found_new : (ns found : List ℕ) (n : ℕ) → AreFound ns found → test n ≡ true → is_member nat_eq found n ≡ false → AreFound (ns ++ n ∷ []) (found ++ n ∷ [])
  found_new ns found n f passes new =
      let is : filter test (ns ++ n ∷ []) ≡ filter test ns ++ n ∷ [] = more ns n true passes in
      let before = f.count in
      let one : distinct_count nat_eq (filter test ns ++ n ∷ []) ≡ distinct_count nat_eq (filter test ns) + 1 = distinct_count-new nat_eq_equiv (filter test ns) n (sym (f.same n) ∙ new) in
      let push = length_push found n in
      let count : length (found ++ n ∷ []) ≡ distinct_count nat_eq (filter test ns ++ n ∷ []) = omega arith in
      record {
        count = count ∙ ap (distinct_count nat_eq) (sym is);
        same = λ q. is_member-push nat_eq_equiv found n q ∙ ap (λ b. b || nat_eq q n) (f.same q) ∙ sym (is_member-push nat_eq_equiv (filter test ns) n q) ∙ ap (λ l. is_member nat_eq l q) (sym is);
      }

  -- they are no more than those among more nodes
  pub found_among : (ns rest found : List ℕ) → AreFound ns found → length found ≤ distinct_count nat_eq (filter test (ns ++ rest))
  found_among ns rest found f =
      let within = distinct_count-within nat_eq_equiv (filter test ns) (filter test (ns ++ rest)) (λ q m. ap (λ l. is_member nat_eq l q) (filter-append test ns rest) ∙ list_any-append (nat_eq q) (filter test ns) (filter test rest) ∙ or_left (is_member nat_eq (filter test ns) q) (is_member nat_eq (filter test rest) q) m) in
      let count = f.count in
      omega arith

-- the nodes of the pairs up to one, and of those after it
pub nodes_up_to : (pairs : List Pair) (i : ℕ) (p : Pair) → i < length pairs → p ≡ get_or pairs i p → nodes_of (take (i + 1) pairs) ≡ nodes_of (take i pairs) ++ p.node ∷ []
nodes_up_to pairs i p within is = map_more (λ (q : Pair). q.node) pairs i p within ∙ ap (λ (q : Pair). nodes_of (take i pairs) ++ q.node ∷ []) (sym is)

pub nodes_after : (pairs : List Pair) (i : ℕ) → nodes_of pairs ≡ nodes_of (take i pairs) ++ nodes_of (drop i pairs)
nodes_after pairs i = ap nodes_of (sym (take-append-drop i pairs)) ∙ map-append (λ (q : Pair). q.node) (take i pairs) (drop i pairs)

-- ---- the groups of a replication

module _ (image : Image) (n : ℕ) where
  -- the group of all nodes
  pub few_simple : (r : Replication) (rf : ℕ) → r ≡ Simple rf → is_short_at image n None rf ≡ is_too_few image n r
  few_simple r rf is = sym (ap (λ r. list_any (is_short image n) (groups_of image.nodes r)) is ∙ or-false (is_short_at image n None rf))

  any_datacenter : (factors : List (List ℕ × ℕ)) → list_any (is_short image n) (map (datacenter_group image.nodes) factors)
      ≡ list_any (λ (f : List ℕ × ℕ). is_short_at image n (Some f.0) f.1) factors
  any_datacenter [] = refl
  any_datacenter (f ∷ factors) = ap (λ b. is_short_at image n (Some f.0) f.1 || b) (any_datacenter factors)

  -- the groups of datacenters
  pub few_topology : (r : Replication) (factors : List (List ℕ × ℕ)) → r ≡ Topology factors
      → list_any (λ (f : List ℕ × ℕ). is_short_at image n (Some f.0) f.1) factors ≡ is_too_few image n r
  few_topology r factors is = sym (ap (λ r. list_any (is_short image n) (groups_of image.nodes r)) is ∙ any_datacenter factors)

  -- the first keyspace with a group that is too small
  pub too_few_found : (k : KeyspaceRow) → find (λ (k : KeyspaceRow). is_too_few image n k.replication) image.keyspaces ≡ Some k → Some (TooFewNodes k.name) ≡ too_few_nodes image n
  too_few_found k found = sym (ap (option_map (λ (k : KeyspaceRow). TooFewNodes k.name)) found)

  pub too_few_none : find (λ (k : KeyspaceRow). is_too_few image n k.replication) image.keyspaces ≡ None → None ≡ too_few_nodes image n
  too_few_none none = sym (ap (option_map (λ (k : KeyspaceRow). TooFewNodes k.name)) none)

-- ---- how many tokens a node has

pub not_one_counted : (image : Image) (n count : ℕ) → count ≡ length (filter (λ (p : Pair). p.node == n) image.tokens) → refused_if (not (count == 1)) (NotOneToken count) ≡ not_one_token image n
not_one_counted image n count is =
    ap unless_one (is ∙ sym (length-map (filter (λ (p : Pair). p.node == n) image.tokens) (λ (p : Pair). p.token)))
