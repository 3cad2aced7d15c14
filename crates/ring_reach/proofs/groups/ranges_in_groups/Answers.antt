use Rattle.std.proofs.Common.{[], ◌++◌, sym, ap, ◌∙◌}
use Rattle.std.proofs.lemmas.List.{append-nil}
use Rattle.std.proofs.lemmas.Result.{IfOk-weaker}
use Rattle.std.specs.List.{flat_map}
use Rattle.std.specs.Ordering.{int_eq}
use Rattle.std.specs.Set.{is_member}
use Rattle.token_ring.proofs.BoundLemmas.{out_more}
use Rattle.ring_reach.specs.code.RingChange.{tokens_of_both}
use Rattle.ring_reach.specs.code.Windows.{window_bounds}
use Rattle.ring_reach.proofs.groups.ranges_in_groups.Goals as goal

pub returns-in_ok-windows-in-Simple-clause-bounds : goal.returns-in_ok-windows-in-Simple-clause-bounds
returns-in_ok-windows-in-Simple-clause-bounds c =
    let bounds = window_bounds c.in_ok-windows-in-Simple.windows in
    IfOk-weaker c.ranges_of.result _ _
    (λ ranges h. out_more (bounds ++ []) (tokens_of_both c.args.change.now) (λ t k. c.in_ok-windows-in-Simple.ensures.bounds t (ap (λ l. is_member int_eq l t) (sym (append-nil bounds)) ∙ k)) ranges h)
    c.ranges_of.ensures.bounds

pub returns-in_ok-groups-in-Topology-clause-bounds : goal.returns-in_ok-groups-in-Topology-clause-bounds
returns-in_ok-groups-in-Topology-clause-bounds c =
    let groups = c.in_ok-groups-in-Topology.groups.items in
    IfOk-weaker c.ranges_of-in-Topology.result _ _
    (λ ranges h. out_more (flat_map window_bounds groups) (tokens_of_both c.args.change.now) c.in_ok-groups-in-Topology.ensures.bounds ranges (rw c.deref.ensures.value at h))
    c.ranges_of-in-Topology.ensures.bounds
