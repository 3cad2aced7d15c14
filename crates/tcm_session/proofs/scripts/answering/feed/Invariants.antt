use Rattle.std.proofs.Common.{◌≡◌, length, None}
use Rattle.std.specs.Option.{option_copied}
use Rattle.tcm_edges.specs.Shown.{StaysOnly}
use Rattle.tcm_session.specs.Counts.{counts}
use Rattle.tcm_session.specs.code.Runs.{script_at}
use Rattle.tcm_session.proofs.inputs.PieceLoop.{Feeds}
use Rattle.tcm_session.proofs.scripts.answering.feed.Given as goal

abbrev pub invariant-loop-line : goal.invariant-loop-line
invariant-loop-line g l =
    let written = g.K.Sink.written in
    let files = g.D.Store.files in
    record {
      feeds : Feeds (option_copied l.initial.script.log) (script_at l.initial.script (written l.initial.out) (files l.initial.store)) l.piece
          (script_at l.script (written l.out) (files l.store)) l.rest;
      log : l.script.log ≡ l.initial.script.log;
      counted : counts 0 (g.K.Sink.faults l.out) (g.D.Store.faults l.store) ≡ counts 0 (g.K.Sink.faults l.initial.out) (g.D.Store.faults l.initial.store);
      unnamed : option_copied l.initial.script.log ≡ None → l.store ≡ l.initial.store;
      stays : StaysOnly g.D.Store.files g.D.Store.shows l.initial.store l.store;
    }

abbrev pub decreases-loop-line : goal.decreases-loop-line
decreases-loop-line g l = length l.rest
