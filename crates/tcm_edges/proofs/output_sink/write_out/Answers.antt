use Rattle.tcm_edges.proofs.OwedLemmas.{WritesPrefix-keep, WritesPrefix-of_write}
use Rattle.tcm_edges.proofs.output_sink.write_out.Goals as goal

pub returns-in_default-clause-part : goal.returns-in_default-clause-part
returns-in_default-clause-part g c = WritesPrefix-of_write _ _ c.write.result _ c.write.ensures.bytes

pub returns-then-n-eq0-clause-part : goal.returns-then-n-eq0-clause-part
returns-then-n-eq0-clause-part g c = WritesPrefix-of_write _ _ c.write.result _ c.write.ensures.bytes

pub returns-then-is_err-clause-part : goal.returns-then-is_err-clause-part
returns-then-is_err-clause-part g c =
    WritesPrefix-keep _ _ _ _ (WritesPrefix-of_write _ _ c.write.result _ c.write.ensures.bytes) c.flush.ensures.bytes

pub returns-clause-part : goal.returns-clause-part
returns-clause-part g c =
    WritesPrefix-keep _ _ _ _ (WritesPrefix-of_write _ _ c.write.result _ c.write.ensures.bytes) c.flush.ensures.bytes
