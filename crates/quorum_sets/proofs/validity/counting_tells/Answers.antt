use Rattle.quorum_sets.proofs.CommonNodes.{counted_common}
use Rattle.quorum_sets.proofs.PartedLemmas.{parted}
use Rattle.quorum_sets.proofs.validity.counting_tells.Goals as goal

pub returns-clause-common : goal.returns-clause-common
returns-clause-common c = counted_common

pub returns-clause-parted : goal.returns-clause-parted
returns-clause-parted c = parted
