use Rattle.std.proofs.Common.{sym, subst}
use Rattle.std.specs.List.Sorted.{IsStrictlySortedBy}
use Rattle.std.specs.Ordering.{int_cmp}
use Rattle.std.proofs.lemmas.Cmp.{int_cmp_total}
use Rattle.cluster_terms.proofs.lists.AscendingLemmas.{ascending_sorted}
use Rattle.tcm_program.proofs.tests.calls.rings.cuts_of.Goals as goal

pub returns : goal.returns
returns c = subst (IsStrictlySortedBy int_cmp) (sym c.in_ok-ascending.ensures) (ascending_sorted int_cmp int_cmp_total c.as_slice.result.now)
