use Rattle.std.proofs.Common.{◌-◌, ◌≡◌, ◌≤◌, None, vec_len}
use Rattle.std.specs.Option.{option_copied}
use Rattle.tcm_edges.specs.Shown.{StaysOnly}
use Rattle.tcm_session.specs.Counts.{counts}
use Rattle.tcm_session.specs.code.Runs.{script_at}
use Rattle.tcm_session.proofs.inputs.ReadLemmas.{ReadsSoFar}
use Rattle.tcm_session.proofs.scripts.pieces.read_script.Given as goal

abbrev pub invariant-loop-taken : goal.invariant-loop-taken
invariant-loop-taken g l =
    let left = g.S.Source.left in
    let written = g.K.Sink.written in
    let files = g.D.Store.files in
    record {
      reads : ReadsSoFar (option_copied l.initial.script.log) l.taken (left l.initial.input) (left l.input)
          (script_at l.initial.script (written l.initial.out) (files l.initial.store)) (script_at l.script (written l.out) (files l.store));
      log : l.script.log ≡ l.initial.script.log;
      limit : l.taken ≤ 536870912;
      buffer : vec_len l.buffer ≡ 65536;
      counted : counts (g.S.Source.faults l.input) (g.K.Sink.faults l.out) (g.D.Store.faults l.store)
          ≡ counts (g.S.Source.faults l.initial.input) (g.K.Sink.faults l.initial.out) (g.D.Store.faults l.initial.store);
      unnamed : option_copied l.initial.script.log ≡ None → l.store ≡ l.initial.store;
      stays : StaysOnly g.D.Store.files g.D.Store.shows l.initial.store l.store;
    }

abbrev pub decreases-loop-taken : goal.decreases-loop-taken
decreases-loop-taken g l = 536870912 - l.taken
