-- The counts of a group once one more node is met.
use Rattle.std.proofs.Common.{◌≡◌, ℕ, ◌+◌, Bool, true, false, cond, ◌&&◌, ◌||◌, nat_eq, List, [], ◌∷◌, ◌++◌, filter, filter_map, Some, None, is_some, refl, sym, ap, ◌∙◌, append-nil}
use Rattle.std.proofs.Math.Bool.{or-false, or-true}
use Rattle.std.proofs.lemmas.Cmp.{nat_list_eq_equiv}
use Rattle.std.proofs.lemmas.List.Elements.{filter-append, filter_map-append}
use Rattle.std.specs.Cmp.{nat_eq_equiv}
use Rattle.std.specs.List.{cons_option}
use Rattle.std.specs.Set.{is_member, distinct_count}
use Rattle.std.specs.Str.{bytes_eq}
use Rattle.cluster_terms.proofs.lists.DistinctCounts.{is_member-alike, is_member-push, distinct_count-new, distinct_count-old}
use Rattle.cluster_terms.specs.Group.{Group, node_count, rack_count}
use Rattle.cluster_terms.proofs.placement.GroupLemmas.{has, has_rack, has-of, has_rack-same, node_count-same, rack_count-same}

module _ (g : Group) (ahead : List ℕ) (n : ℕ) where
  -- the nodes and the racks of the group, with the node
  nodes_push : filter (λ m. is_some (g.rack_of m)) (ahead ++ n ∷ []) ≡ filter (λ m. is_some (g.rack_of m)) ahead ++ cond (is_some (g.rack_of n)) (n ∷ []) []
  nodes_push = filter-append (λ m. is_some (g.rack_of m)) ahead (n ∷ [])

  racks_push : filter_map g.rack_of (ahead ++ n ∷ []) ≡ filter_map g.rack_of ahead ++ cons_option (g.rack_of n) []
  racks_push = filter_map-append g.rack_of ahead (n ∷ [])

  module _ (outside : g.rack_of n ≡ None) where
    no_node : filter (λ m. is_some (g.rack_of m)) (ahead ++ n ∷ []) ≡ filter (λ m. is_some (g.rack_of m)) ahead
    no_node = nodes_push ∙ ap (λ o. filter (λ m. is_some (g.rack_of m)) ahead ++ cond (is_some o) (n ∷ []) []) outside ∙ append-nil _

    no_rack : filter_map g.rack_of (ahead ++ n ∷ []) ≡ filter_map g.rack_of ahead
    no_rack = racks_push ∙ ap (λ o. filter_map g.rack_of ahead ++ cons_option o []) outside ∙ append-nil _

    -- a node outside the group changes no count
    pub node_count-outside : node_count g (ahead ++ n ∷ []) ≡ node_count g ahead
    node_count-outside = ap (distinct_count nat_eq) no_node

    pub rack_count-outside : rack_count g (ahead ++ n ∷ []) ≡ rack_count g ahead
    rack_count-outside = ap (distinct_count bytes_eq) no_rack

    pub has_rack-outside : (r : List ℕ) → has_rack g (ahead ++ n ∷ []) r ≡ has_rack g ahead r
    has_rack-outside r = ap (λ racks. is_member bytes_eq racks r) no_rack

  module _ (old : has ahead n ≡ true) where
    same : (q : ℕ) → has (ahead ++ n ∷ []) q ≡ has ahead q
    same q = is_member-push nat_eq_equiv ahead n q ∙ by (nat_eq q n) refl
      where
        by : (b : Bool) → nat_eq q n ≡ b → (has ahead q || b) ≡ has ahead q
        by true e = or-true (has ahead q) ∙ sym (is_member-alike nat_eq_equiv ahead q n e ∙ old)
        by false e = or-false (has ahead q)

    -- nor does a node that was met before
    pub node_count-again : node_count g (ahead ++ n ∷ []) ≡ node_count g ahead
    node_count-again = node_count-same g (ahead ++ n ∷ []) ahead same

    pub rack_count-again : rack_count g (ahead ++ n ∷ []) ≡ rack_count g ahead
    rack_count-again = rack_count-same g (ahead ++ n ∷ []) ahead same

    pub has_rack-again : (r : List ℕ) → has_rack g (ahead ++ n ∷ []) r ≡ has_rack g ahead r
    has_rack-again = has_rack-same g (ahead ++ n ∷ []) ahead same

  module _ (rack : List ℕ) (is : g.rack_of n ≡ Some rack) where
    rack_more : filter_map g.rack_of (ahead ++ n ∷ []) ≡ filter_map g.rack_of ahead ++ rack ∷ []
    rack_more = racks_push ∙ ap (λ o. filter_map g.rack_of ahead ++ cons_option o []) is

    pub has_rack-push : (r : List ℕ) → has_rack g (ahead ++ n ∷ []) r ≡ (has_rack g ahead r || bytes_eq r rack)
    has_rack-push r = ap (λ racks. is_member bytes_eq racks r) rack_more ∙ is_member-push nat_list_eq_equiv (filter_map g.rack_of ahead) rack r

    -- a node of the group that wasn't met is one more
    pub node_count-new : has ahead n ≡ false → node_count g (ahead ++ n ∷ []) ≡ node_count g ahead + 1
    node_count-new new =
        ap (distinct_count nat_eq) (nodes_push ∙ ap (λ o. filter (λ m. is_some (g.rack_of m)) ahead ++ cond (is_some o) (n ∷ []) []) is)
        ∙ distinct_count-new nat_eq_equiv (filter (λ m. is_some (g.rack_of m)) ahead) n (has-of g ahead n ∙ ap (λ b. b && is_some (g.rack_of n)) new)

    -- its rack is one more where it wasn't seen
    pub rack_count-new : has_rack g ahead rack ≡ false → rack_count g (ahead ++ n ∷ []) ≡ rack_count g ahead + 1
    rack_count-new new = ap (distinct_count bytes_eq) rack_more ∙ distinct_count-new nat_list_eq_equiv (filter_map g.rack_of ahead) rack new

    pub rack_count-old : has_rack g ahead rack ≡ true → rack_count g (ahead ++ n ∷ []) ≡ rack_count g ahead
    rack_count-old seen = ap (distinct_count bytes_eq) rack_more ∙ distinct_count-old nat_list_eq_equiv (filter_map g.rack_of ahead) rack seen
