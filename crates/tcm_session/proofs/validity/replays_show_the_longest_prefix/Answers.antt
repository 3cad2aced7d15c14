use Rattle.tcm_session.proofs.log_files.ReplayPrefixes.{comes_to_prefix}
use Rattle.tcm_session.proofs.log_files.ReplayReports.{refuses_no_line, reports_prefix}
use Rattle.tcm_session.proofs.validity.replays_show_the_longest_prefix.Goals as goal

pub returns-clause-shows : goal.returns-clause-shows
returns-clause-shows c = λ log names seen is all. comes_to_prefix log is names seen all

pub returns-clause-reports : goal.returns-clause-reports
returns-clause-reports c = λ log names seen is all zero. reports_prefix names seen log is all zero

pub returns-clause-unrefused : goal.returns-clause-unrefused
returns-clause-unrefused c = λ log names seen cluster is all headed. refuses_no_line names seen log is all cluster headed
