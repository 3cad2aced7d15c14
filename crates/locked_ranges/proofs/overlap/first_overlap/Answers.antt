use Rattle.std.proofs.Common.{◌≡◌, ◌∷◌, ◌∙◌, refl, sym, true≢false}
use Rattle.locked_ranges.proofs.Overlaps.{first_free, next_apart, next_overlap}
use Rattle.locked_ranges.proofs.overlap.first_overlap.Goals as goal

pub returns-in-Some-first_conflict-clause-apart : goal.returns-in-Some-first_conflict-clause-apart
returns-in-Some-first_conflict-clause-apart c =
    let rest : c.loop-row.rest.now ≡ c.in-Some.row.now ∷ c.in-Some.later.now = c.in-Some.ensures.cases.0 in
    let apart = rw rest at c.loop-row.invariant.apart in
    (λ none. absurd (true≢false none), λ pairs. c.in-Some-first_conflict.ensures.free.1 (rw c.as_slice.ensures (first_free c.in-Some.row.now c.in-Some.later.now (apart.0 pairs))))

pub loop-row-preserved : goal.loop-row-preserved
loop-row-preserved c =
    let rest : c.loop-row.rest.now ≡ c.in-Some.row.now ∷ c.in-Some.later.now = c.in-Some.ensures.cases.0 in
    let before = rw rest at c.loop-row.invariant in
    let none = rw (c.as_slice.ensures, c.in_default-first_conflict.is) at c.first_conflict.ensures.conflict in
    let free = rw c.as_slice.ensures at c.in_default-first_conflict.ensures.free in
    let one = next_apart c.in-Some.row.now c.in-Some.later.now (free.0 refl) in
    record {
      overlap = before.overlap ∙ next_overlap c.in-Some.row.now c.in-Some.later.now c.args.cuts.now (sym none);
      apart = (λ pairs. one.0 (before.apart.0 pairs), λ pairs. before.apart.1 (one.1 pairs));
      cut_out = before.cut_out.1;
    }
