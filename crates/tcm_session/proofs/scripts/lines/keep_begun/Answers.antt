use Rattle.std.proofs.Common.{◌∙◌, arith}
use Rattle.tcm_session.proofs.inputs.BegunLines.{kept_of-extend}
use Rattle.tcm_session.proofs.scripts.lines.keep_begun.Goals as goal

pub returns-clause-ok : goal.returns-clause-ok
returns-clause-ok c =
    c.in_ok-extend_from_slice.ensures.items
    ∙ kept_of-extend c.args.begun.now.items c.args.bytes.now c.min-kept.result c.requires.few (omega (arith, c.min-kept.ensures, c.len-room.ensures))
