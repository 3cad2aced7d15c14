use Rattle.tcm_session.proofs.members.ReadLists.{one_part, part_and_rest}
use Rattle.tcm_session.proofs.node_list.first_part.Goals as goal

pub returns-in-Some-clause-parts : goal.returns-in-Some-clause-parts
returns-in-Some-clause-parts c = (let at = c.in-Some.ensures in part_and_rest c.args.text.now c.in-Some.at at.0.high at.0.before at.1)

pub returns-in-None-clause-parts : goal.returns-in-None-clause-parts
returns-in-None-clause-parts c = one_part c.args.text.now c.in-None.ensures
