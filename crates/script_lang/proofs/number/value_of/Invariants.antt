use Rattle.std.proofs.Common.{drop}
use Rattle.script_lang.proofs.Numerals.{ReadsDigits}
use Rattle.script_lang.proofs.number.value_of.Given as goal

-- the number so far and the digits that are left write what all the digits write
abbrev pub invariant-loop-byte : goal.invariant-loop-byte
invariant-loop-byte l = ReadsDigits l.digits l.value (drop l.byte-index l.digits)
