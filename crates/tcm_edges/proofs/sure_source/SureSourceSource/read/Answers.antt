use Rattle.std.proofs.Common.{ap}
use Rattle.tcm_edges.specs.Feed.{Feed}
use Rattle.tcm_edges.proofs.FeedLemmas.{read_consumes}
use Rattle.tcm_edges.proofs.sure_source.SureSourceSource.read.Goals as goal

pub returns-clause-bytes : goal.returns-clause-bytes
returns-clause-bytes c =
    let gave = c.give.ensures in
    read_consumes c.args.self.now c.args.buf.now _ _ _ gave.some c.requires gave.count gave.given (ap (λ (feed : Feed). feed.bytes) gave.after)
