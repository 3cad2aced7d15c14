use Rattle.std.proofs.Common.{sym}
use Rattle.script_lang.proofs.Numerals.{refused_at_start, read_is}
use Rattle.script_lang.proofs.number.number_of.Goals as goal

pub returns-then-is_empty_or_has_leading_zero : goal.returns-then-is_empty_or_has_leading_zero
returns-then-is_empty_or_has_leading_zero c = sym (refused_at_start c.args.text.now (cc))

pub returns : goal.returns
returns c = read_is c.args.text.now c.value_of.result (cc) c.value_of.ensures
