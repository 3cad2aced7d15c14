use Rattle.std.proofs.Common.{◌≡◌, ◌-◌, ◌++◌, true, cond, ℤ, List, Some, None, sym, ap, ◌∙◌, subst}
use Rattle.std.proofs.lemmas.Result.{IfOk-weaker}
use Rattle.std.specs.List.{list_any, slice_get}
use Rattle.std.specs.Ordering.{int_eq}
use Rattle.std.specs.Set.{is_member}
use Rattle.cluster_terms.specs.Group.{nodes_of}
use Rattle.cluster_terms.specs.Pair.{tokens_of}
use Rattle.cluster_terms.specs.Reach.{same_shape}
use Rattle.cluster_terms.specs.declared.token.Pair.{Pair}
use Rattle.node_directory.specs.Members.{group_of}
use Rattle.node_directory.specs.Shape.{shape_of}
use Rattle.node_directory.specs.declared.shape.Shape.{Shape}
use Rattle.ring_reach.specs.code.Moved.{AreTokensAmong}
use Rattle.ring_reach.specs.code.WalkBack.{Course, leaves}
use Rattle.ring_reach.specs.code.Windows.{have, window_bounds}
use Rattle.ring_reach.specs.declared.windows.Window.{Window}
use Rattle.ring_reach.proofs.ReachedByChange.{common_some, common_none, none_reached, all_reached, leaves-reached, bounds_in_both, bounds_of_ring}
use Rattle.ring_reach.proofs.TokenLemmas.{first_member}
use Rattle.ring_reach.proofs.ring_change.RingChange.windows.Goals as goal

pub returns-in_default-clause-reach : goal.returns-in_default-clause-reach
returns-in_default-clause-reach c x =
    let self = c.args.self.now in
    let tokens = c.in_ok-moved.moved.items in
    let empty : None ≡ slice_get tokens 0 = c.in_default.ensures.value ∙ ap (λ (ts : List ℤ). slice_get ts 0) c.deref.ensures.value in
    ap (λ (ws : List Window). have ws x) c.empty.ensures
    ∙ none_reached (group_of c.args.members.now) self.fixed.now self.widest.now self.moved.now tokens c.in_ok-moved.ensures.tokens empty x

pub returns-in-Some-common_shape-clause-reach : goal.returns-in-Some-common_shape-clause-reach
returns-in-Some-common_shape-clause-reach c =
    let self = c.args.self.now in
    let g = group_of c.args.members.now in
    let tokens = c.in_ok-moved.moved.items in
    let told : Some c.in-Some-common_shape.shape ≡ cond (same_shape g self.fixed.now self.widest.now) (Some (shape_of (nodes_of self.fixed.now) g)) None =
    sym c.in-Some-common_shape.is ∙ c.common_shape.ensures.common
    ∙ ap (λ (ps : List Pair). cond (same_shape g ps self.widest.now) (Some (shape_of (nodes_of ps) g)) None) c.pairs.ensures.pairs in
    let common = common_some (same_shape g self.fixed.now self.widest.now) (shape_of (nodes_of self.fixed.now) g) c.in-Some-common_shape.shape told in
    let course : Shape → Course = λ s. record { group = g; fixed = self.fixed.now; nodes = s.wanted; racks = s.wanted - s.spare } in
    IfOk-weaker c.windows.result _ _
    (λ ws h x.
    (rw c.deref-in-Some-common_shape.ensures.value at (h x)) ∙ ap (λ (s : Shape). list_any (leaves (course s) x) tokens) common.1
    ∙ leaves-reached g self.fixed.now self.widest.now self.moved.now tokens c.in_ok-moved.ensures.tokens common.0 x)
    c.windows.ensures.reach

pub returns-in-Some-common_shape-clause-bounds : goal.returns-in-Some-common_shape-clause-bounds
returns-in-Some-common_shape-clause-bounds c =
    let self = c.args.self.now in
    IfOk-weaker c.windows.result _ _
    (λ ws h. bounds_in_both (group_of c.args.members.now) self.fixed.now self.widest.now self.moved.now c.in_ok-moved.moved.items c.in_ok-moved.ensures.tokens (window_bounds ws) (rw c.deref-in-Some-common_shape.ensures.value at h))
    c.windows.ensures.bounds

pub returns-clause-reach : goal.returns-clause-reach
returns-clause-reach c =
    let self = c.args.self.now in
    let g = group_of c.args.members.now in
    let tokens = c.in_ok-moved.moved.items in
    let t = c.in-Some.first.now in
    let there : is_member int_eq tokens t ≡ true = first_member tokens t (c.in-Some.ensures.value ∙ ap (λ (ts : List ℤ). slice_get ts 0) c.deref.ensures.value) in
    let told : None ≡ cond (same_shape g self.fixed.now self.widest.now) (Some (shape_of (nodes_of self.fixed.now) g)) None =
    sym c.in-None.is ∙ c.common_shape.ensures.common
    ∙ ap (λ (ps : List Pair). cond (same_shape g ps self.widest.now) (Some (shape_of (nodes_of ps) g)) None) c.pairs.ensures.pairs in
    let differ = common_none (same_shape g self.fixed.now self.widest.now) (shape_of (nodes_of self.fixed.now) g) told in
    IfOk-weaker c.whole_ring.result _ _
    (λ ws h x.
    ap (λ (l : List Window). have l x) h
    ∙ all_reached g self.fixed.now self.widest.now self.moved.now tokens c.in_ok-moved.ensures.tokens t there differ x)
    c.whole_ring.ensures

pub returns-clause-bounds : goal.returns-clause-bounds
returns-clause-bounds c =
    let self = c.args.self.now in
    let tokens = c.in_ok-moved.moved.items in
    let t = c.in-Some.first.now in
    let there : is_member int_eq tokens t ≡ true = first_member tokens t (c.in-Some.ensures.value ∙ ap (λ (ts : List ℤ). slice_get ts 0) c.deref.ensures.value) in
    IfOk-weaker c.whole_ring.result _ _
    (λ ws h.
    subst (λ (l : List Window). AreTokensAmong (window_bounds l) (tokens_of self.fixed.now ++ tokens_of self.moved.now)) (sym h)
    (bounds_of_ring (group_of c.args.members.now) self.fixed.now self.widest.now self.moved.now tokens c.in_ok-moved.ensures.tokens t there))
    c.whole_ring.ensures
