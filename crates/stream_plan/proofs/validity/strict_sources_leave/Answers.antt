use Rattle.stream_plan.proofs.coverage.ReadableLemmas.{are_sources}
use Rattle.stream_plan.proofs.validity.strict_sources_leave.Goals as goal

pub returns : goal.returns
returns c = are_sources
