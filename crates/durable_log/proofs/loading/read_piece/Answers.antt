use Rattle.std.proofs.Common.{◌≡◌, ◌+◌, ◌-◌, ◌++◌, true, not, ap, arith, is_ok, length, length-drop, replicate, sym, take, vec_len, ◌∙◌}
use Rattle.durable_log.proofs.steps.LoadSteps.{behind, longer, piece_added}
use Rattle.durable_log.proofs.loading.read_piece.Goals as goal

pub returns-in-Ok-clause-added : goal.returns-in-Ok-clause-added
returns-in-Ok-clause-added g c =
    let old = c.args.bytes.now.items in
    let start = length c.as_slice-start.result.now in
    let end = start + c.args.piece.len in
    let more = end - vec_len c.args.bytes.now in
    let ok : is_ok c.resize.result ≡ true = c.is_err.ensures.negation ∙ ap not c.if-is_err.false in
    let items : c.resize.new.self.items ≡ take end old ++ replicate more 0 = rw ok at c.resize.ensures.items in
    let len : vec_len c.resize.new.self ≡ end = rw ok at c.resize.ensures.len in
    let is_start : length old ≡ start = ap length (sym c.as_slice-start.ensures.value) in
    let size : length c.read_full.new.buf ≡ c.args.piece.len = omega (arith, c.read_full.auto.buf, c.deref_mut.ensures.len, len, length-drop start c.deref_mut.result.now) in
    piece_added (g.D.Disk.content c.args.disk.now) c.args.piece.at c.args.piece.len c.in-Ok.field-0 old c.read_full.new.buf _
    (behind start (vec_len c.resize.new.self) old _ c.read_full.new.buf _ _
    (longer start end old c.deref_mut.result.now more is_start (omega arith) (c.deref_mut.ensures.value ∙ items))
    (omega (arith, size, len, is_start)))
    size c.requires.within c.in-Ok.ensures.bound c.in-Ok.ensures.bytes
