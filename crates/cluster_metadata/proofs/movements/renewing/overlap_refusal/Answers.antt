use Rattle.std.proofs.Common.{ap, ◌∙◌}
use Rattle.cluster_metadata.proofs.locks.LockLemmas.{locks_cut}
use Rattle.cluster_metadata.proofs.locks.RenewedLocks.{cuts_sorted, overlap_shown, overlapping_found}
use Rattle.cluster_metadata.proofs.movements.renewing.overlap_refusal.Goals as goal

pub first_overlap-requires-clause-ascending : goal.first_overlap-requires-clause-ascending
first_overlap-requires-clause-ascending c = rw (c.as_slice-3.ensures, c.in_ok-cuts.ensures.cuts, c.as_slice.ensures) (cuts_sorted c.args.image.now)

pub first_overlap-requires-clause-cut_out : goal.first_overlap-requires-clause-cut_out
first_overlap-requires-clause-cut_out c =
    rw (c.as_slice-2.ensures, c.as_slice-3.ensures, c.in_ok-cuts.ensures.cuts, c.as_slice.ensures) (locks_cut c.args.image.now c.args.image.now.sequences c.args.locks.now c.requires)

pub returns-in-Some-clause-refusal : goal.returns-in-Some-clause-refusal
returns-in-Some-clause-refusal c =
    let found = rw (c.as_slice-2.ensures, c.as_slice-3.ensures, c.in_ok-cuts.ensures.cuts, c.as_slice.ensures) at c.in-Some.ensures.overlap in
    ap overlap_shown found ∙ overlapping_found c.args.image.now (rw c.as_slice.ensures at c.in_ok-cuts.ensures.tokens) c.args.image.now.sequences c.args.locks.now c.requires

pub returns-clause-refusal : goal.returns-clause-refusal
returns-clause-refusal c =
    let found = rw (c.as_slice-2.ensures, c.as_slice-3.ensures, c.in_ok-cuts.ensures.cuts, c.as_slice.ensures) at c.in-None.ensures.overlap in
    ap overlap_shown found ∙ overlapping_found c.args.image.now (rw c.as_slice.ensures at c.in_ok-cuts.ensures.tokens) c.args.image.now.sequences c.args.locks.now c.requires
