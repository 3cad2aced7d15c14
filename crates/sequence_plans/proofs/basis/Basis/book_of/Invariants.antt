use Rattle.std.proofs.Common.{take}
use Rattle.sequence_plans.proofs.BookLemmas.{AreRangesUnder}
use Rattle.sequence_plans.proofs.basis.Basis.book_of.Given as goal

-- the ranges under the replications so far
abbrev pub invariant-loop-replication : goal.invariant-loop-replication
invariant-loop-replication l = AreRangesUnder l.self.image.now l.row (take l.replication-index l.replication-items) l.book
