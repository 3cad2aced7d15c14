use Rattle.std.proofs.Common.{◌≡◌, ◌+◌, ◌==◌, List, [], ◌∷◌, ◌++◌, take, refl, sym, ◌∙◌, subst}
use Rattle.std.proofs.lemmas.Bool.{not-false, not-true}
use Rattle.token_ring.specs.declared.range_book.LockRow.{LockRow}
use Rattle.transformations.specs.Movements.{others}
use Rattle.sequence_plans.specs.Plan.{AreLocks}
use Rattle.sequence_plans.proofs.BookLemmas.{each_within, locks_more, locks_passed}
use Rattle.sequence_plans.proofs.basis.Basis.locks_beside.Goals as goal
use Rattle.sequence_plans.proofs.basis.Basis.locks_beside.Goals.{then-ne+in_ok-book_of+in_ok-push, else-ne}

pub book_of-requires-clause-within : goal.book_of-requires-clause-within
book_of-requires-clause-within c =
    each_within c.args.self.now.image.now c.loop-row.row-index c.row-item.result c.requires.sound (rw c.sequences-row-items.ensures at c.loop-row-test.true) (rw c.sequences-row-items.ensures at c.row-item.is)

pub loop-row-preserved : goal.loop-row-preserved
loop-row-preserved c =
    let image = c.args.self.now.image.now in
    let rows = c.sequences-row-items.result.now in
    let i = c.loop-row.row-index in
    let s = c.row-item.result in
    let n = c.args.node in
    elim c.if-ne.branch [
      | then-ne+in_ok-book_of+in_ok-push w ↦
          let row : LockRow = record { node = s.node; ranges = w.in_ok-book_of.field-0 } in
          let pushed : c.if-ne.locks ≡ c.loop-row.locks ++ row ∷ [] = w.locks-is ∙ w.in_ok-push.ensures in
          let more = locks_more image rows n i s c.loop-row-test.true c.row-item.is c.loop-row.locks row (not-true (s.node == n) (sym c.ne.ensures ∙ w.if-ne.true)) c.loop-row.invariant refl w.in_ok-book_of.ensures in
          subst (λ (locks : List LockRow). AreLocks image (others (take (i + 1) rows) n) locks) (sym pushed) more
      | else-ne w ↦
          let passed = locks_passed image rows n i s c.loop-row-test.true c.row-item.is c.loop-row.locks (not-false (s.node == n) (sym c.ne.ensures ∙ w.if-ne.false)) c.loop-row.invariant in
          subst (λ (locks : List LockRow). AreLocks image (others (take (i + 1) rows) n) locks) (sym w.locks-is) passed
    ]
