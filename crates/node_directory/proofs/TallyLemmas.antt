-- A tally of the nodes that are met tells how many there are, as far as they are asked for.
use Rattle.std.proofs.Common.{◌≡◌, ℕ, ◌+◌, ◌<◌, ◌≤◌, min, Bool, true, false, not, cond, ◌&&◌, ◌||◌, nat_eq, nat_lt, List, [], ◌∷◌, ◌++◌, length, filter, filter_map, Option, Some, None, is_some, refl, sym, ap, ◌∙◌, arith}
use Rattle.std.proofs.Math.Bool.{or-false}
use Rattle.std.proofs.lemmas.Bool.{false≢true, or_parts}
use Rattle.std.proofs.lemmas.Bool.Decides.{nat_tests}
use Rattle.std.proofs.lemmas.Cmp.{nat_list_eq_equiv}
use Rattle.std.proofs.lemmas.List.{length_push}
use Rattle.std.specs.Cmp.{IsEquivalence, nat_eq_equiv}
use Rattle.std.specs.Set.{is_member, distinct_count}
use Rattle.std.specs.Str.{bytes_eq}
use Rattle.cluster_terms.proofs.lists.DistinctCounts.{is_member-alike, is_member-push}
use Rattle.cluster_terms.proofs.placement.GroupLemmas.{has, node_count-same, rack_count-same}
use Rattle.cluster_terms.specs.Group.{Group, node_count, rack_count}
use Rattle.cluster_terms.specs.Replication.{whole_group}
use Rattle.node_directory.specs.Tally.{Tallied, nothing, with_new, met_with, met, lacks}
use Rattle.node_directory.specs.code.GroupTally.{met_all, has_all}

-- ---- distinct keys, no more of them than are asked for

module _ {K : Type 0} {eq : K → K → Bool} (laws : IsEquivalence eq) (most : ℕ) where
  -- what is kept of some keys, as many as are asked for
  abbrev pub kept : List K → List K
  kept [] = []
  kept (x ∷ xs) = with_new eq most x (kept xs)

  -- as many as there are, or as are asked for; and while fewer are there, all are kept
  record Keeps (xs : List K) (ks : List K) : Type 0 where
    few : length ks ≡ min most (distinct_count eq xs)
    same : distinct_count eq xs < most → (q : K) → is_member eq ks q ≡ is_member eq xs q

  keeps_full : (x : K) (xs ks : List K) → Keeps xs ks → most ≤ distinct_count eq xs → Keeps (x ∷ xs) ks
  keeps_full x xs ks k full = by (is_member eq xs x) refl
    where
      by : (b : Bool) → is_member eq xs x ≡ b → Keeps (x ∷ xs) ks
      by true old = (let few = k.few in let all : distinct_count eq (x ∷ xs) ≡ distinct_count eq xs = rw old refl in record { few = omega arith; same = λ less q. absurd (omega arith) })
      by false new = (let few = k.few in let all : distinct_count eq (x ∷ xs) ≡ distinct_count eq xs + 1 = rw new (omega arith) in record { few = omega arith; same = λ less q. absurd (omega arith) })

  keeps_old : (x : K) (xs ks : List K) → Keeps xs ks → is_member eq xs x ≡ true → Keeps (x ∷ xs) ks
  keeps_old x xs ks k old =
      let few = k.few in
      let all : distinct_count eq (x ∷ xs) ≡ distinct_count eq xs = rw old refl in
      record { few = omega arith; same = λ less q. k.same (omega arith) q ∙ here q (eq q x) refl }
    where
      here : (q : K) (b : Bool) → eq q x ≡ b → is_member eq xs q ≡ (b || is_member eq xs q)
      here q true e = is_member-alike laws xs q x e ∙ old
      here q false e = refl

  keeps_new : (x : K) (xs ks : List K) → Keeps xs ks → is_member eq xs x ≡ false → distinct_count eq xs < most → Keeps (x ∷ xs) (ks ++ x ∷ [])
  keeps_new x xs ks k new room =
      let few = k.few in
      let all : distinct_count eq (x ∷ xs) ≡ distinct_count eq xs + 1 = rw new (omega arith) in
      let push = length_push ks x in
      record { few = omega arith; same = λ less q. is_member-push laws ks x q ∙ ap (λ b. b || eq q x) (k.same room q) ∙ swap (is_member eq xs q) (eq q x) }
    where
      swap : (a b : Bool) → (a || b) ≡ (b || a)
      swap true true = refl
      swap true false = refl
      swap false true = refl
      swap false false = refl

  keeps_more : (x : K) (xs ks : List K) → Keeps xs ks → Keeps (x ∷ xs) (with_new eq most x ks)
  keeps_more x xs ks k = by (nat_lt (length ks) most) (is_member eq ks x) refl refl
    where
      by : (room there : Bool) → nat_lt (length ks) most ≡ room → is_member eq ks x ≡ there → Keeps (x ∷ xs) (cond (room && not there) (ks ++ x ∷ []) ks)
      by false there full at = (let few = k.few in keeps_full x xs ks k (grind (arith, nat_tests)))
      by true true room at = (let few = k.few in keeps_old x xs ks k (let less : distinct_count eq xs < most = grind (arith, nat_tests) in sym (k.same less x) ∙ at))
      by true false room at = (let few = k.few in let less : distinct_count eq xs < most = grind (arith, nat_tests) in keeps_new x xs ks k (sym (k.same less x) ∙ at) less)

  keeps : (xs : List K) → Keeps xs (kept xs)
  keeps [] = record { few = omega arith; same = λ less q. refl }
  keeps (x ∷ xs) = keeps_more x xs (kept xs) (keeps xs)

  pub length-kept : (xs : List K) → length (kept xs) ≡ min most (distinct_count eq xs)
  length-kept xs = (keeps xs).few

-- ---- tallies

module _ (g : Group) (most_nodes most_racks : ℕ) where
  -- the tally of some nodes, of which the last one is met first
  abbrev pub tally_of : List ℕ → Tallied
  tally_of ns = record {
    most_nodes = most_nodes;
    most_racks = most_racks;
    nodes = kept nat_eq_equiv most_nodes (filter (λ n. is_some (g.rack_of n)) ns);
    racks = kept nat_list_eq_equiv most_racks (filter_map g.rack_of ns);
  }

  -- a node more
  pub tally_of-met : (n : ℕ) (ns : List ℕ) → met g n (tally_of ns) ≡ tally_of (n ∷ ns)
  tally_of-met n ns = by (g.rack_of n) refl
    where
      by : (o : Option (List ℕ)) → g.rack_of n ≡ o → met_with n o (tally_of ns) ≡ tally_of (n ∷ ns)
      by None outside = rw outside refl
      by (Some rack) is = rw is refl

  -- some nodes more, one after another
  abbrev met_before : List ℕ → List ℕ → List ℕ
  met_before [] ns = ns
  met_before (m ∷ ms) ns = met_before ms (m ∷ ns)

  tally_of-met_all : (ms ns : List ℕ) → met_all g ms (tally_of ns) ≡ tally_of (met_before ms ns)
  tally_of-met_all [] ns = refl
  tally_of-met_all (m ∷ ms) ns = ap (met_all g ms) (tally_of-met m ns) ∙ tally_of-met_all ms (m ∷ ns)

  has-met_before : (ms ns : List ℕ) (v : ℕ) → has (met_before ms ns) v ≡ (has ms v || has ns v)
  has-met_before [] ns v = refl
  has-met_before (m ∷ ms) ns v = has-met_before ms (m ∷ ns) v ∙ swap (nat_eq v m) (has ms v) (has ns v)
    where
      swap : (a b c : Bool) → (b || (a || c)) ≡ ((a || b) || c)
      swap true true c = refl
      swap true false c = refl
      swap false true c = refl
      swap false false c = refl

  has-all_met : (ms : List ℕ) (v : ℕ) → has (met_before ms []) v ≡ has ms v
  has-all_met ms v = has-met_before ms [] v ∙ or-false (has ms v)

  -- how many nodes and racks are kept of some nodes that are met
  pub nodes_met : (ms : List ℕ) → length (met_all g ms (nothing most_nodes most_racks)).nodes ≡ min most_nodes (node_count g ms)
  nodes_met ms =
      ap (λ (t : Tallied). length t.nodes) (tally_of-met_all ms [])
      ∙ length-kept nat_eq_equiv most_nodes (filter (λ n. is_some (g.rack_of n)) (met_before ms []))
      ∙ ap (min most_nodes) (node_count-same g (met_before ms []) ms (has-all_met ms))

  pub racks_met : (ms : List ℕ) → length (met_all g ms (nothing most_nodes most_racks)).racks ≡ min most_racks (rack_count g ms)
  racks_met ms =
      ap (λ (t : Tallied). length t.racks) (tally_of-met_all ms [])
      ∙ length-kept nat_list_eq_equiv most_racks (filter_map g.rack_of (met_before ms []))
      ∙ ap (min most_racks) (rack_count-same g (met_before ms []) ms (has-all_met ms))

  -- whether nodes or racks lack in the tally of some nodes
  pub lacks-tally_of : (ns : List ℕ) → lacks (tally_of ns) ≡ (nat_lt (node_count g ns) most_nodes || nat_lt (rack_count g ns) most_racks)
  lacks-tally_of ns = λ i. nodes i || racks i
    where
      below : (k n m : ℕ) → k ≡ min m n → nat_lt k m ≡ nat_lt n m
      below k n m e = grind (arith, nat_tests)

      nodes : nat_lt (length (tally_of ns).nodes) most_nodes ≡ nat_lt (node_count g ns) most_nodes
      nodes = below _ _ most_nodes (length-kept nat_eq_equiv most_nodes (filter (λ n. is_some (g.rack_of n)) ns))

      racks : nat_lt (length (tally_of ns).racks) most_racks ≡ nat_lt (rack_count g ns) most_racks
      racks = below _ _ most_racks (length-kept nat_list_eq_equiv most_racks (filter_map g.rack_of ns))

-- ---- a tally that lacks nothing

with_new-full : {K : Type 0} (eq : K → K → Bool) (most : ℕ) (x : K) (xs : List K) → nat_lt (length xs) most ≡ false → with_new eq most x xs ≡ xs
with_new-full eq most x xs full = ap (λ room. cond (room && not (is_member eq xs x)) (xs ++ x ∷ []) xs) full

with_new-there : {K : Type 0} (eq : K → K → Bool) (most : ℕ) (x : K) (xs : List K) → is_member eq xs x ≡ true → with_new eq most x xs ≡ xs
with_new-there eq most x xs there = ap (λ old. cond (nat_lt (length xs) most && not old) (xs ++ x ∷ []) xs) there ∙ off (nat_lt (length xs) most)
  where
    off : (room : Bool) → cond (room && false) (xs ++ x ∷ []) xs ≡ xs
    off true = refl
    off false = refl

-- it stays as it is, whatever nodes are met
pub met_all_full : (g : Group) (ns : List ℕ) (tally : Tallied) → lacks tally ≡ false → met_all g ns tally ≡ tally
met_all_full g [] tally full = refl
met_all_full g (n ∷ ns) tally full = ap (met_all g ns) (none (g.rack_of n)) ∙ met_all_full g ns tally full
  where
    none : (o : Option (List ℕ)) → met_with n o tally ≡ tally
    none None = refl
    none (Some rack) =
        let parts = or_parts (nat_lt (length tally.nodes) tally.most_nodes) (nat_lt (length tally.racks) tally.most_racks) full in
        let nodes = with_new-full nat_eq tally.most_nodes n tally.nodes parts.0 in
        let racks = with_new-full bytes_eq tally.most_racks rack tally.racks parts.1 in
        (λ i. record tally { nodes = nodes i; racks = racks i })

-- so does a tally of the group of all nodes that has enough nodes and the one rack
pub met_all_whole : (rf : ℕ) (ns : List ℕ) (tally : Tallied) → has_all tally ≡ true → met_all (whole_group rf) ns tally ≡ tally
met_all_whole rf [] tally all = refl
met_all_whole rf (n ∷ ns) tally all = ap (met_all (whole_group rf) ns) one ∙ met_all_whole rf ns tally all
  where
    parts : (nat_lt (length tally.nodes) tally.most_nodes ≡ false) × (is_member bytes_eq tally.racks [] ≡ true)
    parts = by (nat_lt (length tally.nodes) tally.most_nodes) (is_member bytes_eq tally.racks []) all
      where
        by : (room there : Bool) → (not room && there) ≡ true → (room ≡ false) × (there ≡ true)
        by false true both = (refl, refl)
        by false false both = absurd (false≢true both)
        by true there both = absurd (false≢true both)

    one : met (whole_group rf) n tally ≡ tally
    one =
        let nodes = with_new-full nat_eq tally.most_nodes n tally.nodes parts.0 in
        let racks = with_new-there bytes_eq tally.most_racks [] tally.racks parts.1 in
        (λ i. record tally { nodes = nodes i; racks = racks i })
