use Rattle.std.proofs.Common.{◌∙◌, ap, arith, length}
use Rattle.tcm_edges.proofs.WriteLoop.{Owes-taken}
use Rattle.tcm_edges.proofs.sink.write_all.Goals as goal

pub loop-rest-preserved : goal.loop-rest-preserved
loop-rest-preserved g c =
    let was = c.loop-rest.invariant in
    record {
      owes = Owes-taken _ _ _ _ _ _ was.owes c.in_ok-taken.ensures.bytes;
      count = c.in_ok-taken.ensures.cause ∙ was.count;
      told = c.write.ensures.told ∙ was.told;
      none = λ e. let empty = ap length (was.none e).1 in absurd (omega (arith, empty, c.in_ok-taken.ensures.bound.0, c.in_ok-taken.ensures.bound.1));
    }
