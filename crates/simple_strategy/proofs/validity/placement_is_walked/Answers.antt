use Rattle.std.proofs.Common.{[], ◌∷◌}
use Rattle.cluster_terms.proofs.placement.PlacementLemmas.{placed_nowhere}
use Rattle.cluster_terms.specs.Replication.{whole_group}
use Rattle.simple_strategy.proofs.SimplePlacement.{placed_by_walk}
use Rattle.simple_strategy.proofs.validity.placement_is_walked.Goals as goal

pub returns-clause-walk : goal.returns-clause-walk
returns-clause-walk c = λ rf i ring x some is first. placed_by_walk ring x i is first rf some

pub returns-clause-nowhere : goal.returns-clause-nowhere
returns-clause-nowhere c = λ rf x. placed_nowhere (whole_group rf ∷ []) x
