use Rattle.std.proofs.Common.{ap, ◌∙◌}
use Rattle.std.specs.BTreeMap.{insert_entry}
use Rattle.std.specs.Map.{values_of}
use Rattle.std.specs.Ordering.{nat_cmp}
use Rattle.cluster_terms.specs.Ascending.{put}
use Rattle.follower_log.proofs.WaitingLemmas.{keyed-put, put_there}
use Rattle.follower_log.specs.Follower.{by_epoch}
use Rattle.follower_log.proofs.waiting.Waiting.insert.Goals as goal

pub invariant_of-self-2 : goal.invariant_of-self-2
invariant_of-self-2 c =
    rw (c.in_ok-_replaced.ensures.entries, c.in_ok-copy.ensures) (keyed-put c.args.entry.now c.self.inside.entries.entries c.self.invariant)

pub returns-clause-ok : goal.returns-clause-ok
returns-clause-ok c =
    ap values_of (c.in_ok-_replaced.ensures.entries ∙ ap (insert_entry nat_cmp c.self.inside.entries.entries c.args.entry.now.epoch) c.in_ok-copy.ensures)
    ∙ put_there c.args.entry.now c.self.inside.entries.entries c.self.invariant ∙ ap (put by_epoch c.args.entry.now) c.self.view_is
