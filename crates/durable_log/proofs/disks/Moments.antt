-- How calls of a disk go on, one after another.
use Rattle.std.proofs.Common.{◌≡◌, ⊎_elim, ℕ, ◌+◌, ◌≤◌, List, refl, sym, ◌∙◌, subst, arith}
use Rattle.std.proofs.lemmas.Bool.{cases_lt}
use Rattle.durable_log.specs.Disk.{Passes, Same, Torn}
use Rattle.durable_log.proofs.disks.Writes.{torn_joined, torn_same, torn_wider}

abbrev pub Step : Type 1
Step = List ℕ → List ℕ → Type 0

module _ {D : Type 0} (moment : D → ℕ) (image : D → ℕ → List ℕ → Type 0) where
  -- the images of the end come from those of the start
  pub from_start : (R : Step) (old mid : D) → ((c : List ℕ) → R c c) → Passes moment image R old mid → (e : List ℕ) → image mid (moment mid) e → (d : List ℕ) × image old (moment old) d × R d e
  from_start R old mid same passes e now = ⊎_elim
      (λ lt. passes.since (moment mid) e lt (omega arith) now)
      (λ le. let at_start : moment mid ≡ moment old = omega (arith, passes.later, le) in
      (e, passes.adds_none (moment old) e (omega arith) (subst (λ (t : ℕ). image mid t e) at_start now), same e))
      (cases_lt (moment old) (moment mid))

  -- a step may be told otherwise
  pub told_as : (S R : Step) (old new : D) → ((d c : List ℕ) → image old (moment old) d → S d c → R d c) → Passes moment image S old new → Passes moment image R old new
  told_as S R old new as_step passes = record {
    later = passes.later;
    keeps = passes.keeps;
    adds_none = passes.adds_none;
    since = λ t c lt le left. let from = passes.since t c lt le left in (from.0, from.1, as_step from.0 c from.1 from.2);
  }

  -- one call more
  pub goes_on : (R S : Step) (old mid new : D) → Passes moment image R old mid → Passes moment image S mid new
      → ((e c : List ℕ) → image mid (moment mid) e → S e c → (d : List ℕ) × image old (moment old) d × R d c)
      → Passes moment image R old new
  goes_on R S old mid new first second step = record {
    later = omega (arith, first.later, second.later);
    keeps = λ t c le left. second.keeps t c (omega (arith, le, first.later)) (first.keeps t c le left);
    adds_none = λ t c le left. first.adds_none t c le (second.adds_none t c (omega (arith, le, first.later)) left);
    since = λ t c lt le left. ⊎_elim
        (λ later. let from = second.since t c later le left in step from.0 c from.1 from.2)
        (λ before. first.since t c lt before (second.adds_none t c before left))
        (cases_lt (moment mid) t);
  }

  -- writes one behind the other
  pub passes_wider : (at n m : ℕ) (old new : D) → n ≤ m → Passes moment image (Torn at n) old new → Passes moment image (Torn at m) old new
  passes_wider at n m old new le = told_as (Torn at n) (Torn at m) old new (λ d c here torn. torn_wider at n m d c le torn)

  pub passes_joined : (at n m : ℕ) (old mid new : D) → Passes moment image (Torn at n) old mid → Passes moment image (Torn (at + n) m) mid new → Passes moment image (Torn at (n + m)) old new
  passes_joined at n m old mid new first second =
      goes_on (Torn at (n + m)) (Torn (at + n) m) old mid new (passes_wider at n (n + m) old mid (omega arith) first) second
      (λ e c here torn.
      let from = from_start (Torn at n) old mid (torn_same at n) first e here in
      (from.0, from.1, torn_joined at n m from.0 e c from.2 torn))

  pub passes_joined_at : (at n m behind all : ℕ) (old mid new : D) → behind ≡ at + n → all ≡ n + m → Passes moment image (Torn at n) old mid → Passes moment image (Torn behind m) mid new → Passes moment image (Torn at all) old new
  passes_joined_at at n m behind all old mid new is_behind is_all first second =
      subst (λ (k : ℕ). Passes moment image (Torn at k) old new) (sym is_all)
      (passes_joined at n m old mid new first (subst (λ (k : ℕ). Passes moment image (Torn k m) mid new) is_behind second))

  -- calls that change nothing
  pub same_again : (old mid new : D) → Passes moment image Same old mid → Passes moment image Same mid new → Passes moment image Same old new
  same_again old mid new first second =
      goes_on Same Same old mid new first second
      (λ e c here is.
      let from = from_start Same old mid (λ c. refl) first e here in
      (from.0, from.1, is ∙ from.2))
