use Rattle.follower_log.proofs.ShowsLemmas.{prefix_ends}
use Rattle.follower_log.proofs.validity.prefix_ends_where_none_waits.Goals as goal

pub returns : goal.returns
returns c = prefix_ends
