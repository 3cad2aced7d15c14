use Rattle.cluster_terms.proofs.texts.ReadWords.{AreRead}
use Rattle.cluster_terms.specs.ReplicationText.{factor_row_of}
use Rattle.cluster_terms.proofs.replication_text.rows_of.Given as goal

-- the words so far are rows, and these are in the list
abbrev pub invariant-loop-word : goal.invariant-loop-word
invariant-loop-word l = AreRead factor_row_of (λ word. word.now) l.words l.word-index l.rows
