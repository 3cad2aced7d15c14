-- Calls that are to fail.
use Rattle.std.specs.Prelude.{ℕ, List, Bool, ◌==◌, Option}
use Rattle.std.specs.List.{find, list_any}
use Rattle.std.specs.Option.{option_map}
use Rattle.tcm_edges.specs.declared.store_fail.StoreFail.{StoreFail}
use Rattle.tcm_edges.specs.Causes.{one_more}

-- the calls that are to fail, each told by an F; how many calls were made, and how many failed
pub record Plan (F : Type 0) : Type 0 where
  pub fails : List F
  pub made : ℕ
  pub faults : ℕ

-- the plan before the first call
abbrev pub fresh_plan : {F : Type 0} → List F → Plan F
fresh_plan fails = record { fails = fails; made = 0; faults = 0 }

-- whether the next call is to fail; the first call has the number 1
abbrev pub next_fails : Plan ℕ → Bool
next_fails plan = list_any (λ call. call == one_more plan.made) plan.fails

-- how many bytes the next call is to keep, by the first entry with its number; None if it is not to fail
abbrev pub next_keep : Plan StoreFail → Option ℕ
next_keep plan = option_map (λ (fail : StoreFail). fail.keep) (find (λ (fail : StoreFail). fail.call == one_more plan.made) plan.fails)

-- the plan after a call that succeeded
abbrev pub call_passed : {F : Type 0} → Plan F → Plan F
call_passed plan = record plan { made = one_more plan.made }

-- the plan after a call that failed
abbrev pub failed : {F : Type 0} → Plan F → Plan F
failed plan = record plan { made = one_more plan.made; faults = one_more plan.faults }
