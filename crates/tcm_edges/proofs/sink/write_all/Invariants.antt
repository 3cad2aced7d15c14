use Rattle.std.proofs.Common.{length}
use Rattle.tcm_edges.proofs.WriteLoop.{Wrote}
use Rattle.tcm_edges.proofs.sink.write_all.Given as goal

abbrev pub invariant-loop-rest : goal.invariant-loop-rest
invariant-loop-rest g l = Wrote g.K.Sink.written g.K.Sink.faults l.initial.sink l.sink l.bytes l.rest

abbrev pub decreases-loop-rest : goal.decreases-loop-rest
decreases-loop-rest g l = length l.rest
