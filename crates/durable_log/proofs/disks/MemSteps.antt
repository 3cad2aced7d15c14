-- A step more of a disk in memory.
use Rattle.std.proofs.Common.{◌≡◌, ℕ, ◌+◌, ◌≤◌, List, [], ◌∷◌, ◌++◌, length, take, reverse, refl, sym, ◌∙◌, ap, subst, arith, false, Result, Ok, Err, IfOk, MatchResult}
use Rattle.std.proofs.Math.Logic.{∥∥₁_map}
use Rattle.std.specs.Result.{is_err}
use Rattle.std.proofs.lemmas.List.{reverse-append, take-append-le, take_all}
use Rattle.durable_log.specs.Disk.{Written}
use Rattle.durable_log.specs.MemImages.{LeavesAfter, LeftAt, last_kept}
use Rattle.durable_log.specs.declared.mem_disk.Done.{Done}
use Rattle.durable_log.specs.declared.mem_disk.Done.TheVariants.{Wrote, Synced}
use Rattle.durable_log.proofs.disks.Writes.{torn_same, torn_wider, written_torn}

module _ (first : List ℕ) (done : List Done) (step : Done) where
  pushed : reverse (take (length (done ++ step ∷ [])) (done ++ step ∷ [])) ≡ step ∷ reverse done
  pushed = ap reverse (take_all (length (done ++ step ∷ [])) (done ++ step ∷ []) (omega arith)) ∙ reverse-append done (step ∷ [])

  whole : reverse (take (length done) done) ≡ reverse done
  whole = ap reverse (take_all (length done) done (omega arith))

  -- what is left after one step more
  pub after_step : (c : List ℕ) → LeavesAfter first (step ∷ reverse done) c → LeftAt first (done ++ step ∷ []) (length (done ++ step ∷ [])) c
  after_step c left = subst (λ (l : List Done). LeavesAfter first l c) (sym pushed) left

  pub to_now : (c : List ℕ) → LeftAt first done (length done) c → LeavesAfter first (reverse done) c
  to_now c left = subst (λ (l : List Done). LeavesAfter first l c) whole left

  -- the past stays
  pub before : (t : ℕ) → t ≤ length done → take t (done ++ step ∷ []) ≡ take t done
  before t le = take-append-le t done (step ∷ []) le

-- the content stays among the images
pub among_synced : (first : List ℕ) (done new : List Done) (bytes kept : List ℕ) → new ≡ done ++ Synced kept ∷ [] → bytes ≡ kept → ∥ LeftAt first done (length done) bytes ∥₁ → ∥ LeftAt first new (length new) bytes ∥₁
among_synced first done new bytes kept is same among =
    subst (λ (l : List Done). ∥ LeftAt first l (length l) bytes ∥₁) (sym is)
    (∥∥₁_map among (λ left. after_step first done (Synced kept) bytes (same, to_now first done (Synced kept) bytes left)))

pub among_wrote : (first : List ℕ) (done new : List Done) (at n : ℕ) (bytes old next : List ℕ) → new ≡ done ++ Wrote at n ∷ [] → at ≤ length old → length bytes ≤ n → Written at bytes old next → ∥ LeftAt first done (length done) old ∥₁ → ∥ LeftAt first new (length new) next ∥₁
among_wrote first done new at n bytes old next is le front written among =
    subst (λ (l : List Done). ∥ LeftAt first l (length l) next ∥₁) (sym is)
    (∥∥₁_map among (λ left. after_step first done (Wrote at n) next (old, to_now first done (Wrote at n) old left, torn_wider at (length bytes) n old next front (written_torn at bytes old next le written))))

-- a step was noted, or nothing was
pub noted : {E : Type 0} (r : Result (Unit {0}) E) (Q : E → Type 0) (done new : List Done) (step : Done) → MatchResult r (λ _. new ≡ done ++ step ∷ []) (λ e. (new ≡ done) × Q e) → is_err r ≡ false → new ≡ done ++ step ∷ []
noted (Ok x) Q done new step pushed fine = pushed
noted (Err e) Q done new step pushed fine = absurd (cc fine)

pub among_kept : {E : Type 0} (r : Result (Unit {0}) E) (Q : E → Type 0) (first : List ℕ) (done new : List Done) (bytes kept : List ℕ) → MatchResult r (λ _. new ≡ done ++ Synced kept ∷ []) (λ e. (new ≡ done) × Q e) → bytes ≡ kept → ∥ LeftAt first done (length done) bytes ∥₁ → ∥ LeftAt first new (length new) bytes ∥₁
among_kept (Ok x) Q first done new bytes kept pushed same among = among_synced first done new bytes kept pushed same among
among_kept (Err e) Q first done new bytes kept pushed same among = subst (λ (l : List Done). ∥ LeftAt first l (length l) bytes ∥₁) (sym pushed.0) among

-- what the last sync kept is an image
kept_left : (first : List ℕ) (older : List Done) (x : List ℕ) → LeavesAfter first older x → LeavesAfter first older (last_kept first older)
kept_left first [] x left = refl
kept_left first (Wrote at n ∷ older) x left = (last_kept first older, kept_left first older left.0 left.1, torn_same at n (last_kept first older))
kept_left first (Synced bytes ∷ older) x left = (refl, subst (λ (l : List ℕ). LeavesAfter first older l) left.0 left.1)

kept_among : (first : List ℕ) (done : List Done) (x bytes : List ℕ) → bytes ≡ last_kept first (reverse done) → ∥ LeftAt first done (length done) x ∥₁ → ∥ LeftAt first done (length done) bytes ∥₁
kept_among first done x bytes is among =
    ∥∥₁_map among (λ left.
    let whole : reverse (take (length done) done) ≡ reverse done = ap reverse (take_all (length done) done (omega arith)) in
    subst (λ (l : List Done). LeavesAfter first l bytes) (sym whole)
    (subst (λ (b : List ℕ). LeavesAfter first (reverse done) b) (sym is)
    (kept_left first (reverse done) x (subst (λ (l : List Done). LeavesAfter first l x) whole left))))

pub crash_left : {E : Type 0} (r : Result (List ℕ) E) (first : List ℕ) (done : List Done) (x bytes : List ℕ) → bytes ≡ last_kept first (reverse done) → IfOk r (λ copy. copy ≡ bytes) → ∥ LeftAt first done (length done) x ∥₁ → IfOk r (λ copy. ∥ LeftAt first done (length done) copy ∥₁)
crash_left (Ok copy) first done x bytes is copied among = kept_among first done x copy (copied ∙ is) among
crash_left (Err e) first done x bytes is copied among = tt
