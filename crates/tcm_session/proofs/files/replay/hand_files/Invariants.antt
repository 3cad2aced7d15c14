use Rattle.std.proofs.Common.{◌≡◌, ◌≤◌, ◌+◌, ◌*◌, length, map, string_bytes}
use Rattle.tcm_edges.specs.Shown.{ShowsNoMore}
use Rattle.tcm_session.proofs.log_files.ReplayLemmas.{GoesOn}
use Rattle.tcm_session.proofs.files.replay.hand_files.Given as goal

abbrev pub invariant-loop-name : goal.invariant-loop-name
invariant-loop-name g l = record {
  goes_on : GoesOn (map string_bytes l.names) (g.D.Store.files l.fn.store) l.file l.replay (map string_bytes l.rest);
  files : g.D.Store.files l.store ≡ g.D.Store.files l.fn.store;
  crash : ShowsNoMore (g.D.Store.shows l.fn.store) (g.D.Store.shows l.store);
  counted : g.D.Store.faults l.store ≡ g.D.Store.faults l.fn.store;
  few : l.file + length l.rest ≤ 65;
  lines : l.replay.lines + 536870912 * length l.rest ≤ 536870912 * 64;
  full : l.replay.full + 536870912 * length l.rest ≤ 536870912 * 64;
}

abbrev pub decreases-loop-name : goal.decreases-loop-name
decreases-loop-name g l = length l.rest
