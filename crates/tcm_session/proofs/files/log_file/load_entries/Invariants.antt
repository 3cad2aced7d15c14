use Rattle.std.proofs.Common.{◌≤◌, length}
use Rattle.tcm_session.proofs.log_files.LoadLemmas.{Loads}
use Rattle.tcm_session.proofs.files.log_file.load_entries.Given as goal

abbrev pub invariant-loop-line : goal.invariant-loop-line
invariant-loop-line l = record {
  loads : Loads l.first l.lines l.session l.rest;
  shorter : length l.rest ≤ length l.lines;
}

abbrev pub decreases-loop-line : goal.decreases-loop-line
decreases-loop-line l = length l.rest
