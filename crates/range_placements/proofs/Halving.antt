-- A search that halves what is left: each step doubles the power of two that the length bounds.
use Rattle.std.proofs.Common.{◌≡◌, ℕ, suc, ◌+◌, ◌-◌, ◌*◌, ◌^◌, ◌<◌, ◌≤◌, arith}
use Rattle.std.proofs.Math.Nat.{mul-le-mul_left, pow-suc}

-- one step more is twice the power
doubled : (from steps : ℕ) → from ≤ steps → 2 ^ (steps + 1 - from) ≡ 2 ^ (steps - from) * 2
doubled from steps le =
    let more : steps + 1 - from ≡ suc (steps - from) = omega arith in
    rw more (pow-suc 2 (steps - from))

-- what is left after a step, at most half of what was left, times the power is still below n
pub narrower : (p left half n : ℕ) → p * left < n → half + half ≤ left → p * 2 * half < n
narrower p left half n below halved =
    let less : p * (half + half) ≤ p * left = mul-le-mul_left p halved in
    grind arith

-- what is left after a step, no less than the lesser half of the others, plus 2, times the power stays above n
pub no_narrower : (p left half n : ℕ) → n < p * (left + 2) → left ≤ half + half + 2 → n < p * 2 * (half + 2)
no_narrower p left half n above halved =
    let more : p * (left + 2) ≤ p * (half + half + 4) = mul-le-mul_left p (omega arith) in
    grind arith

-- the power after a step is at most twice n
pub costs : (p left n : ℕ) → p * left < n → 1 ≤ left → p * 2 ≤ 2 * n
costs p left n below some =
    let one : p * 1 ≤ p * left = mul-le-mul_left p some in
    grind arith

module _ (from steps left n : ℕ) where
  pub step_narrows : (half : ℕ) → from ≤ steps → 2 ^ (steps - from) * left < n → half + half ≤ left → 2 ^ (steps + 1 - from) * half < n
  step_narrows half le below halved = rw (doubled from steps le) (narrower (2 ^ (steps - from)) left half n below halved)

  pub step_keeps : (half : ℕ) → from ≤ steps → n < 2 ^ (steps - from) * (left + 2) → left ≤ half + half + 2 → n < 2 ^ (steps + 1 - from) * (half + 2)
  step_keeps half le above halved = rw (doubled from steps le) (no_narrower (2 ^ (steps - from)) left half n above halved)

  pub step_costs : from ≤ steps → 2 ^ (steps - from) * left < n → 1 ≤ left → 2 ^ (steps + 1 - from) ≤ 2 * n
  step_costs le below some = rw (doubled from steps le) (costs (2 ^ (steps - from)) left n below some)

-- before the first step
pub begin_narrow : (steps n : ℕ) → 1 ≤ n → 2 ^ (steps - steps) * (n - 1 - 0) < n
begin_narrow steps n some =
    let none : steps - steps ≡ 0 = omega arith in
    rw none (omega arith)

pub begin_cost : (steps n : ℕ) → 1 ≤ n → 2 ^ (steps - steps) ≤ 2 * n
begin_cost steps n some =
    let none : steps - steps ≡ 0 = omega arith in
    rw none (omega arith)

pub begin_enough : (steps n : ℕ) → 1 ≤ n → n < 2 ^ (steps - steps) * (n - 1 - 0 + 2)
begin_enough steps n some =
    let none : steps - steps ≡ 0 = omega arith in
    rw none (omega arith)
