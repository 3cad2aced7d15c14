use Rattle.std.proofs.Common.{◌≡◌, ◌++◌, take}
use Rattle.script_session.specs.LogFiles.{entry_lines}
use Rattle.tcm_session.proofs.files.mend.add_entries.Given as goal

-- the lines of the entries before this one are added
abbrev pub invariant-loop-before : goal.invariant-loop-before
invariant-loop-before l = l.out ≡ l.fn.out ++ entry_lines (take l.before l.log)
