use Rattle.std.proofs.Common.{arith, sym}
use Rattle.cluster_terms.proofs.texts.FactorTexts.{one_digit_at, ten_and_at}
use Rattle.cluster_terms.proofs.rf.Rf.from_text.Goals as goal

pub returns-in-49-to-57 : goal.returns-in-49-to-57
returns-in-49-to-57 c = sym (one_digit_at c.args.text.now (omega arith) (omega arith) (omega arith))

pub returns-in-49 : goal.returns-in-49
returns-in-49 c = sym (ten_and_at c.args.text.now (omega arith) (omega arith) (omega arith) (omega arith))
