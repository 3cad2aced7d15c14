-- Lemmas on the counts of faults of a run.
use Rattle.std.proofs.Common.{◌≡◌, Result, Ok, Err, IsErrAnd, sym, ap, ◌∙◌, arith}
use Rattle.tcm_session.specs.Counts.{Counts}
use Rattle.tcm_session.specs.code.RunFaults.{counts_after, counts_by}
use Rattle.tcm_session.specs.declared.run_fault.RunFault.{RunFault}
use Rattle.tcm_session.specs.declared.run_fault.RunFault.TheVariants as run

-- no fault of the source without a source
pub not_source : (e : RunFault) (before after : Counts) → before.source ≡ 0 → after.source ≡ 0 → after ≡ counts_after e before → e ≡ run.Source → ⊥
not_source run.Memory before after none none' cause is = cc
not_source run.Source before after none none' cause is = (let one = ap (λ (c : Counts). c.source) cause in omega (arith, one, none, none'))
not_source run.Sink before after none none' cause is = cc
not_source run.Store before after none none' cause is = cc

-- a fault that is passed on by another call, before which nothing was counted
pub counts_passed : {T : Type 0} (e : RunFault) (r : Result T RunFault) (before mid after : Counts) → mid ≡ before → after ≡ counts_after e mid → IsErrAnd r (λ y. y ≡ e) → after ≡ counts_by r before
counts_passed e (Ok x) before mid after first cause is = absurd is
counts_passed e (Err y) before mid after first cause is = cause ∙ ap (counts_after e) first ∙ ap (λ f. counts_after f before) (sym is)
