use Rattle.sequence_plans.proofs.BasisLemmas.{valid_rows}
use Rattle.cluster_metadata.proofs.metadata_parts.directory_for.Goals as goal

pub from_valid-requires : goal.from_valid-requires
from_valid-requires c = rw c.as_slice.ensures (valid_rows _ c.requires)
