use Rattle.std.proofs.Common.{refl, ap, map, string_bytes, ◌∙◌, arith}
use Rattle.std.proofs.lemmas.List.{length-map}
use Rattle.tcm_session.specs.Counts.{Counts}
use Rattle.tcm_session.specs.declared.files.replay.Replay.{Replay}
use Rattle.tcm_session.proofs.log_files.ReplayLemmas.{file_off, file_on, files_begin, files_end}
use Rattle.tcm_session.proofs.files.replay.hand_files.Goals as goal

pub loop-name-init : goal.loop-name-init
loop-name-init g c = record {
  goes_on = files_begin _ _ c.args.replay.now c.requires.begins;
  files = refl;
  crash = λ f shown. shown;
  counted = refl;
  few = omega (arith, c.requires.few);
  lines = omega (arith, c.requires.few, ap (λ (r : Replay). r.lines) c.requires.begins);
  full = omega (arith, c.requires.few, ap (λ (r : Replay). r.full) c.requires.begins);
}

pub returns-in-Some-2-clause-hands : goal.returns-in-Some-2-clause-hands
returns-in-Some-2-clause-hands g c =
    file_off _ _ _ _ _ _ _ _ _ c.loop-name.invariant.goes_on (ap (map string_bytes) c.in-Some.ensures.cases.0) c.loop-name.invariant.files c.as_str.ensures.value _ c.hand_file.new.replay c.in_ok-ending.ensures.hands
    c.in-Some-2.ending c.in-Some-2.is

pub loop-name-preserved : goal.loop-name-preserved
loop-name-preserved g c = record {
  goes_on = file_on _ _ _ _ _ _ _ _ _ c.loop-name.invariant.goes_on (ap (map string_bytes) c.in-Some.ensures.cases.0) c.loop-name.invariant.files c.as_str.ensures.value _ c.hand_file.new.replay c.in_ok-ending.ensures.hands c.in_default-2.is;
  files = c.in_ok-ending.ensures.files ∙ c.loop-name.invariant.files;
  crash = λ f shown. c.loop-name.invariant.crash f (c.in_ok-ending.ensures.crash f shown);
  counted = ap (λ (c : Counts). c.store) c.in_ok-ending.ensures.cause ∙ c.loop-name.invariant.counted;
  few = omega (arith, c.loop-name.invariant.few, c.in-Some.ensures.cases.1);
  lines = omega (arith, c.loop-name.invariant.lines, c.in_ok-ending.ensures.grows.lines, c.in-Some.ensures.cases.1);
  full = omega (arith, c.loop-name.invariant.full, c.in_ok-ending.ensures.grows.full, c.in-Some.ensures.cases.1);
}

pub returns-clause-hands : goal.returns-clause-hands
returns-clause-hands g c = files_end _ _ _ _ _ c.loop-name.invariant.goes_on (length-map c.loop-name.rest.now string_bytes ∙ c.in_default.ensures.cases)

pub returns-in_err-ending-clause-crash : goal.returns-in_err-ending-clause-crash
returns-in_err-ending-clause-crash g c = λ f shown. c.loop-name.invariant.crash f (c.in_err-ending.ensures.crash f shown)

pub returns-in-Some-2-clause-crash : goal.returns-in-Some-2-clause-crash
returns-in-Some-2-clause-crash g c = λ f shown. c.loop-name.invariant.crash f (c.in_ok-ending.ensures.crash f shown)
