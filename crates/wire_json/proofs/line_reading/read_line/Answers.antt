use Rattle.std.proofs.Common.{Err, sym, ap, ◌∙◌}
use Rattle.std.proofs.lemmas.Result.{err_from_is_err_and}
use Rattle.serde_json.specs.View.{view}
use Rattle.wire_json.proofs.json_values.LineLemmas.{line_epoch, line_tokens}
use Rattle.wire_json.proofs.json_values.ReadingLemmas.{reading-long, passed_no_value, passed_line}
use Rattle.wire_json.proofs.line_reading.read_line.Goals as goal

pub returns-then-bytes-gt-MOST_BYTES-clause-meaning : goal.returns-then-bytes-gt-MOST_BYTES-clause-meaning
returns-then-bytes-gt-MOST_BYTES-clause-meaning c = λ other. sym (reading-long c.args.bytes.now c.if-bytes-gt-MOST_BYTES.true)

pub returns-in_err-value-clause-meaning : goal.returns-in_err-value-clause-meaning
returns-in_err-value-clause-meaning c =
    let p = err_from_is_err_and c.from_residual.result c.from_residual.ensures.1 in
    passed_no_value view c.args.bytes.now c.in_err-value.field-0.0 c.from_residual.result c.if-bytes-gt-MOST_BYTES.false c.in_err-value.ensures (p.1 ∙ ap Err p.2)

pub returns-clause-meaning : goal.returns-clause-meaning
returns-clause-meaning c = passed_line c.args.bytes.now (view c.in_ok-value.value) c.line_in.result c.if-bytes-gt-MOST_BYTES.false c.in_ok-value.ensures c.line_in.ensures

pub returns-clause-tokens : goal.returns-clause-tokens
returns-clause-tokens c = line_tokens (view c.in_ok-value.value) c.line_in.result c.line_in.ensures

pub returns-clause-epoch : goal.returns-clause-epoch
returns-clause-epoch c = line_epoch (view c.in_ok-value.value) c.line_in.result c.line_in.ensures
