use Rattle.cluster_terms.proofs.lists.CommonLemmas.{quorums_have_common}
use Rattle.transformations.proofs.quorums.AdjacentLemmas.{each_exist, each_few, each_written, meet_itself, meet_next}
use Rattle.transformation_laws.proofs.validity.adjacent_epochs_meet.Goals as goal

pub returns-clause-within : goal.returns-clause-within
returns-clause-within c = each_written

pub returns-clause-few : goal.returns-clause-few
returns-clause-few c = each_few

pub returns-clause-needs : goal.returns-clause-needs
returns-clause-needs c = each_exist

pub returns-clause-itself : goal.returns-clause-itself
returns-clause-itself c = meet_itself

pub returns-clause-adjacent : goal.returns-clause-adjacent
returns-clause-adjacent c = meet_next

pub returns-clause-common : goal.returns-clause-common
returns-clause-common c = quorums_have_common
