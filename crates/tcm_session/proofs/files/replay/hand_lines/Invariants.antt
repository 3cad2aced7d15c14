use Rattle.std.proofs.Common.{◌≤◌, ◌+◌, length}
use Rattle.tcm_session.proofs.log_files.ReplayLemmas.{Hands}
use Rattle.tcm_session.proofs.files.replay.hand_lines.Given as goal

abbrev pub invariant-loop-line : goal.invariant-loop-line
invariant-loop-line l = record {
  hands : Hands l.file l.fn.replay l.bytes l.number l.replay l.rest;
  shorter : l.number + length l.rest ≤ length l.bytes + 1;
  lines : l.replay.lines + length l.rest ≤ l.fn.replay.lines + length l.bytes;
  full : l.replay.full + length l.rest ≤ l.fn.replay.full + length l.bytes;
}

abbrev pub decreases-loop-line : goal.decreases-loop-line
decreases-loop-line l = length l.rest
