use Rattle.std.proofs.Common.{◌∷◌, length, ap, length-append, arith}
use Rattle.tcm_session.proofs.log_files.ReplayLemmas.{hands_end, hands_line, hands_refused}
use Rattle.tcm_session.proofs.files.replay.hand_lines.Goals as goal

pub returns-in-Some-2-clause-leads : goal.returns-in-Some-2-clause-leads
returns-in-Some-2-clause-leads c =
    hands_refused c.args.file c.args.replay.now c.args.bytes.now c.loop-line.number c.loop-line.replay c.loop-line.rest.now c.in-Some.line.now c.in-Some.more.now c.loop-line.invariant.hands c.in-Some.ensures.some.1 c.in-Some.ensures.some.0
    c.in_ok-cause.field-0 c.hand_line.new.self c.in-Some-2.cause c.in-Some-2.is c.in_ok-cause.ensures.leads

pub loop-line-preserved : goal.loop-line-preserved
loop-line-preserved c =
    let size = ap length c.in-Some.ensures.some.1 in
    let sum = length-append c.in-Some.line.now (10 ∷ c.in-Some.more.now) in
    record {
      hands = hands_line c.args.file c.args.replay.now c.args.bytes.now c.loop-line.number c.loop-line.replay c.loop-line.rest.now c.in-Some.line.now c.in-Some.more.now c.loop-line.invariant.hands c.in-Some.ensures.some.1 c.in-Some.ensures.some.0
          c.in_ok-cause.field-0 c.hand_line.new.self c.in_default-2.is c.in_ok-cause.ensures.leads;
      shorter = omega (arith, c.loop-line.invariant.shorter, size, sum);
      lines = omega (arith, c.loop-line.invariant.lines, c.in_ok-cause.ensures.grows.lines, size, sum);
      full = omega (arith, c.loop-line.invariant.full, c.in_ok-cause.ensures.grows.full, size, sum);
    }

pub returns-clause-leads : goal.returns-clause-leads
returns-clause-leads c = hands_end c.args.file c.args.replay.now c.args.bytes.now c.loop-line.number c.loop-line.replay c.loop-line.rest.now c.loop-line.invariant.hands c.in_default.ensures.none
