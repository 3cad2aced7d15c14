-- Contracts of the calls of a source, a sink and a store, in addition to those of std.
use Rattle.std.specs.Prelude.{◌≡◌, ℕ, ◌≤◌, List, length, Result, IfErr, IfOk, is_some, Option, None}
use Rattle.tcm_edges.specs.declared.fault.WriteFault.{WriteFault}
use Rattle.tcm_edges.specs.Causes.{OnMemory}

-- at least one byte was taken, and at most all bytes
abbrev pub TakesSome : {E : Type 0} → Result ℕ E → List ℕ → Type 0
TakesSome result bytes = IfOk result (λ n. (1 ≤ n) × (n ≤ length bytes))

-- the meaning of an object that does not tell its bytes
abbrev pub untold : Option (List ℕ)
untold = None

-- a call does not change whether an object tells its meaning
abbrev pub TellsAlike : {A : Type 0} → Option A → Option A → Type 0
TellsAlike old new = is_some new ≡ is_some old

-- if memory ran out, the meaning of an object is as before
abbrev pub KeptAtMemory : {T A : Type 0} → Option A → Option A → Result T WriteFault → Type 0
KeptAtMemory old new result = IfErr result (λ fault. OnMemory fault (new ≡ old))
