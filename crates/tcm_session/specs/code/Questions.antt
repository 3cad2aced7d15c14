-- What is asked of the log in a file.
use Rattle.std.specs.Prelude.{List, IsTrue}
use Rattle.transformations.specs.declared.entry.Entry.{Entry}
use Rattle.tcm_session.specs.Request.{are_nodes}
use Rattle.tcm_session.specs.declared.ending.Ending.{Ending}
use Rattle.tcm_session.specs.declared.files.question.Question.{Question}
use Rattle.tcm_session.specs.declared.files.question.Question.TheVariants.{State, Plan, Route}
use Rattle.tcm_session.specs.files.MemberRoute.{log_route}
use Rattle.tcm_session.specs.files.StateLine.{state_ending}
use Rattle.tcm_session.specs.files.StreamPlan.{log_plan}

-- what is said of a log
abbrev pub said : Question → List Entry → Ending
said (State epoch) log = state_ending epoch log
said (Plan node keyspace) log = log_plan node keyspace log
said (Route from to) log = log_route from to log

-- lists of nodes have 1 to 16 that ascend
abbrev pub IsAsked : Question → Type 0
IsAsked (Route from to) = IsTrue (are_nodes from) × IsTrue (are_nodes to)
IsAsked _ = Unit {0}
