use Rattle.std.proofs.Common.{refl}
use Rattle.share_machine.proofs.FirstRequests.{other_header, script_asks, stands_where_offered}
use Rattle.share_machine.proofs.validity.entries_wait_for_the_store.Goals as goal

pub returns-clause-asks : goal.returns-clause-asks
returns-clause-asks c = λ cluster s bytes waits. (script_asks cluster s bytes waits).waits

pub returns-clause-knows : goal.returns-clause-knows
returns-clause-knows c = λ cluster s bytes waits. (script_asks cluster s bytes waits).session

pub returns-clause-stands : goal.returns-clause-stands
returns-clause-stands c = stands_where_offered

pub returns-clause-unknown : goal.returns-clause-unknown
returns-clause-unknown c = λ cluster s line text answer. refl

pub returns-clause-header : goal.returns-clause-header
returns-clause-header c = other_header
