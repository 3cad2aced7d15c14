use Rattle.std.proofs.Common.{◌∷◌, length, ap, length-append, arith}
use Rattle.tcm_session.proofs.log_files.LoadLemmas.{loads_begin, loads_end, loads_refused, loads_taken}
use Rattle.tcm_session.proofs.files.log_file.load_entries.Goals as goal

pub loop-line-init : goal.loop-line-init
loop-line-init c = rw c.requires.empty (record { loads = loads_begin c.args.first c.args.lines.now; shorter = omega arith })

pub returns-in-Some-2-clause-fault : goal.returns-in-Some-2-clause-fault
returns-in-Some-2-clause-fault c =
    loads_refused c.args.first c.args.lines.now c.loop-line.session c.take_line.new.self c.loop-line.rest.now c.in-Some.line.now c.in-Some.more.now c.loop-line.invariant.loads c.in-Some.ensures.some.1 c.in-Some.ensures.some.0
    c.in_ok-cause.field-0 c.in_ok-cause.ensures.ok c.in-Some-2.cause c.in-Some-2.is c.last_epoch.result c.last_epoch.ensures.length c.refused_at.result c.refused_at.ensures

pub loop-line-preserved : goal.loop-line-preserved
loop-line-preserved c = record {
  loads = loads_taken c.args.first c.args.lines.now c.loop-line.session c.take_line.new.self c.loop-line.rest.now c.in-Some.line.now c.in-Some.more.now c.loop-line.invariant.loads c.in-Some.ensures.some.1 c.in-Some.ensures.some.0
      c.in_ok-cause.field-0 c.in_ok-cause.ensures.ok c.in_default-2.is;
  shorter = omega (arith, c.loop-line.invariant.shorter, ap length c.in-Some.ensures.some.1, length-append c.in-Some.line.now (10 ∷ c.in-Some.more.now));
}

pub returns-clause-opened : goal.returns-clause-opened
returns-clause-opened c = loads_end c.args.first c.args.lines.now c.loop-line.session c.loop-line.rest.now c.loop-line.invariant.loads c.in_default.ensures.none
