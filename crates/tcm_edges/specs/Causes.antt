-- Counts of faults: what each call makes of the count of its object.
use Rattle.std.specs.Prelude.{ℕ, ◌+◌, ◌-◌, ◌^◌, min, ⊤, Result, Ok, Err}
use Rattle.tcm_edges.specs.declared.fault.WriteFault.{WriteFault}
use Rattle.tcm_edges.specs.declared.fault.WriteFault.TheVariants as write
use Rattle.tcm_edges.specs.declared.fault.LoadFault.{LoadFault}
use Rattle.tcm_edges.specs.declared.fault.LoadFault.TheVariants as load

-- the count plus one, at most the greatest u64
abbrev pub one_more : ℕ → ℕ
one_more count = min (count + 1) (2 ^ 64 - 1)

-- the count after a read: one more if it failed, else the same
abbrev pub count_read : {T E : Type 0} → Result T E → ℕ → ℕ
count_read (Ok _) count = count
count_read (Err _) count = one_more count

-- the count after a write, or a change of a file: one more if the outside failed, else the same
abbrev pub count_write : {T : Type 0} → Result T WriteFault → ℕ → ℕ
count_write (Err write.Failed) count = one_more count
count_write _ count = count

-- the count after a load
abbrev pub count_load : {T : Type 0} → Result T LoadFault → ℕ → ℕ
count_load (Err load.Failed) count = one_more count
count_load _ count = count

-- P holds if the fault is `Failed`
abbrev pub OnFailed : WriteFault → Type 0 → Type 0
OnFailed write.Failed P = P
OnFailed write.Memory P = ⊤

-- P holds if the fault is `Memory`
abbrev pub OnMemory : WriteFault → Type 0 → Type 0
OnMemory write.Failed P = ⊤
OnMemory write.Memory P = P

-- P holds if the fault of a load is `Failed`
abbrev pub OnLoadFailed : LoadFault → Type 0 → Type 0
OnLoadFailed load.Failed P = P
OnLoadFailed load.Memory P = ⊤

-- P holds if the fault of a load is `Memory`
abbrev pub OnLoadMemory : LoadFault → Type 0 → Type 0
OnLoadMemory load.Failed P = ⊤
OnLoadMemory load.Memory P = P
