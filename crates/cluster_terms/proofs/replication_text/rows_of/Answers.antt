use Rattle.std.proofs.Common.{◌∙◌, sym}
use Rattle.cluster_terms.proofs.texts.ReadWords.{AreRead-more}
use Rattle.cluster_terms.proofs.texts.ReplicationTexts.{all_rows, no_rows}
use Rattle.cluster_terms.specs.ReplicationText.{factor_row_of}
use Rattle.cluster_terms.proofs.replication_text.rows_of.Goals as goal

pub returns-in-None : goal.returns-in-None
returns-in-None c = sym (no_rows (λ word. word.now) c.args.words.now c.loop-word.word-index _ c.loop-word-test.true (sym c.in_ok-row.ensures ∙ c.in-None.is))

pub loop-word-preserved : goal.loop-word-preserved
loop-word-preserved c =
    AreRead-more factor_row_of (λ word. word.now) c.args.words.now c.loop-word.word-index _ c.in-Some.row c.loop-word.rows c.push.new.self c.loop-word-test.true (sym c.in_ok-row.ensures ∙ c.in-Some.is) c.loop-word.invariant c.in_ok-push-in-Some.ensures

pub returns : goal.returns
returns c = sym (all_rows (λ word. word.now) c.args.words.now c.loop-word.word-index c.loop-word.rows c.loop-word-test.false c.loop-word.invariant)
