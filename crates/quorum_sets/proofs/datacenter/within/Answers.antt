use Rattle.std.proofs.Common.{◌≡◌, IfOk, ap, ◌∙◌, subst}
use Rattle.std.specs.Ordering.{nat_cmp}
use Rattle.cluster_terms.specs.Ascending.{ascending}
use Rattle.cluster_terms.specs.Quorum.{within}
use Rattle.quorum_sets.proofs.PendingLemmas.{within_in_order}
use Rattle.quorum_sets.proofs.datacenter.within.Goals as goal

pub returns : goal.returns
returns c =
    let own : c.deref.result.now ≡ within c.args.dir.now.rows c.args.dc.now c.args.nodes.now = cc (c.deref.ensures.value, c.in_ok-ids.ensures, c.ids.ensures.ids) in
    let same = ap (ascending nat_cmp) own ∙ within_in_order c.args.dir.now.rows c.args.dc.now c.args.nodes.now c.ids.ensures.ascend in
    subst (λ l. IfOk c.from_ids.result (λ set. set ≡ l)) same c.from_ids.ensures.ids
