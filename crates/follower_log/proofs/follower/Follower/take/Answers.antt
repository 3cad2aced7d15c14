use Rattle.std.proofs.Common.{ap, subst, sym, arith}
use Rattle.cluster_terms.proofs.lists.AscendingLemmas.{All-put}
use Rattle.follower_log.specs.Follower.{FollowerState, by_epoch}
use Rattle.follower_log.specs.code.WaitingEntries.{CanWait, CanWaitAt}
use Rattle.follower_log.proofs.follower.Follower.take.Goals as goal

pub invariant_of-self-2 : goal.invariant_of-self-2
invariant_of-self-2 c =
    let at = ap (λ (f : FollowerState). f.image.epoch) c.self.view_is in
    let own : CanWaitAt c.self.inside.metadata.epoch c.args.entry.now = record {
      above = omega (arith, c.requires.above, at);
      within = c.requires.epoch;
      formed = c.requires.formed;
    } in
    subst (CanWait c.self.inside.metadata.epoch) (sym c.in_ok-insert.ensures.ok) (All-put by_epoch (CanWaitAt c.self.inside.metadata.epoch) c.args.entry.now c.self.inside.waiting own c.self.invariant)
