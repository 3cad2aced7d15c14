use Rattle.std.proofs.Common.{◌≤◌, length, subst}
use Rattle.transformations.proofs.quorums.AdjacentLemmas.{each_exist, each_written, meet_itself}
use Rattle.transformations.specs.Meeting.{QuorumsExistTogether, QuorumsMeet, ReadsAreWritten}
use Rattle.transformations.specs.Rings.{writes_at}
use Rattle.placement_maps.proofs.ImageRings.{few_served}
use Rattle.cluster_metadata.proofs.metadata.Metadata.keyspace.Goals as goal

pub returns-clause-few : goal.returns-clause-few
returns-clause-few c = λ r x. subst (λ i. length (writes_at i r x) ≤ 1024) c.self.view_is (few_served _ c.self.invariant.valid r x)

pub returns-clause-itself : goal.returns-clause-itself
returns-clause-itself c = subst (λ i. QuorumsMeet i i) c.self.view_is (meet_itself _ c.self.invariant.valid c.self.invariant.replications)

pub returns-clause-together : goal.returns-clause-together
returns-clause-together c = subst QuorumsExistTogether c.self.view_is (each_exist _ c.self.invariant.valid)

pub returns-clause-written : goal.returns-clause-written
returns-clause-written c = subst ReadsAreWritten c.self.view_is (each_written _ c.self.invariant.valid)
