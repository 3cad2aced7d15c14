-- The steps of adding a record, on a disk that may tell its content.
use Rattle.std.proofs.Common.{◌≡◌, inl, inr, ⊎_elim, ℕ, ◌+◌, ◌^◌, ◌<◌, ◌≤◌, List, [], ◌∷◌, ◌++◌, length, Option, None, Some, IfSome, get_or, ◌≢◌, refl, sym, ◌∙◌, ap, subst, arith}
use Rattle.durable_log.specs.Disk.{Changes, Only, Passes, Same, Torn, Written}
use Rattle.durable_log.specs.Images.{SameFilesOr}
use Rattle.durable_log.specs.Ends.{IsFront}
use Rattle.durable_log.specs.code.Ends.{FilesChanged, FilesMayChange, IsSettled}
use Rattle.durable_log.specs.Records.{Change, body, changed, files}
use Rattle.durable_log.proofs.disks.Crash.{behind_kept, opened, stage, torn_gate}
use Rattle.durable_log.proofs.disks.Moments.{Step, from_start, goes_on, told_as}
use Rattle.durable_log.proofs.disks.Writes.{written_gate, written_torn}

-- a call that changes nothing
pub then_same : {D : Type 0} (moment : D → ℕ) (image : D → ℕ → List ℕ → Type 0) (R : Step) (old mid new : D) → ((c : List ℕ) → R c c) → Passes moment image R old mid → Passes moment image Same mid new → Passes moment image R old new
then_same moment image R old mid new same first second =
    goes_on moment image R Same old mid new first second
    (λ e c here is. let from = from_start moment image R old mid same first e here in (from.0, from.1, subst (λ (l : List ℕ). R from.0 l) (sym is) from.2))

module _ (gate : ℕ) (change : Change) (kind : change.kind ≤ 1) (name_fits : length change.name < 2 ^ 64) (bytes_fit : length change.bytes < 2 ^ 64) (image0 : List ℕ → Type 0) where
  abbrev Settled : Option (List ℕ) → Type 0
  Settled told = IfSome told (IsSettled gate image0)

  abbrev Puts : Option (List ℕ) → Option (List ℕ) → Type 0
  Puts = Changes (Written (gate + 1) (body change ++ 0 ∷ []))

  behind : (n : ℕ) (old new : List ℕ) → IsSettled gate image0 old → Torn (gate + 1) n old new → files new ≡ files old
  behind n old new s torn = (behind_kept gate old s.front s.room s.closed new torn.before torn.no_shorter).1

  pub put_err : (n : ℕ) (old new : Option (List ℕ)) → Settled old → Changes (Torn (gate + 1) n) old new → Changes (FilesMayChange change) old new
  put_err n None new s torn = torn
  put_err n (Some old) None s torn = torn
  put_err n (Some old) (Some new) s torn = inl (behind n old new s torn)

  pub put_synced : (old mid new : Option (List ℕ)) → Settled old → Puts old mid → new ≡ mid → Changes (FilesMayChange change) old new
  put_synced None None new s puts kept = kept
  put_synced None (Some mid) new s puts kept = absurd (cc puts)
  put_synced (Some old) None new s puts kept = absurd puts
  put_synced (Some old) (Some mid) new s puts kept =
      subst (λ (o : Option (List ℕ)). Changes (FilesMayChange change) (Some old) o) (sym kept)
      (inl (behind (length (body change ++ 0 ∷ [])) old mid s (written_torn (gate + 1) (body change ++ 0 ∷ []) old mid (omega (arith, s.room)) puts)))

  pub gate_err : (old mid synced new : Option (List ℕ)) → Settled old → Puts old mid → synced ≡ mid → Changes (Torn gate 1) synced new → Changes (FilesMayChange change) old new
  gate_err None None synced new s puts kept torn = subst (λ (o : Option (List ℕ)). Changes (Torn gate 1) o new) kept torn
  gate_err None (Some mid) synced new s puts kept torn = absurd (cc puts)
  gate_err (Some old) None synced new s puts kept torn = absurd puts
  gate_err (Some old) (Some mid) synced None s puts kept torn = subst (λ (o : Option (List ℕ)). Changes (Torn gate 1) o None) kept torn
  gate_err (Some old) (Some mid) synced (Some new) s puts kept torn =
      torn_gate gate old s.front s.room s.closed change kind name_fits bytes_fit mid new
      (stage gate old s.front s.room s.closed change kind name_fits bytes_fit mid puts)
      (subst (λ (o : Option (List ℕ)). Changes (Torn gate 1) o (Some new)) kept torn)

  pub gate_ok : (old mid synced new last : Option (List ℕ)) → Settled old → Puts old mid → synced ≡ mid → Changes (Written gate (1 ∷ [])) synced new → last ≡ new → Changes (FilesChanged change) old last
  gate_ok None None synced new last s puts kept opens kept_last = kept_last ∙ subst (λ (o : Option (List ℕ)). Changes (Written gate (1 ∷ [])) o new) kept opens
  gate_ok None (Some mid) synced new last s puts kept opens kept_last = absurd (cc puts)
  gate_ok (Some old) None synced new last s puts kept opens kept_last = absurd puts
  gate_ok (Some old) (Some mid) synced None last s puts kept opens kept_last = absurd (subst (λ (o : Option (List ℕ)). Changes (Written gate (1 ∷ [])) o None) kept opens)
  gate_ok (Some old) (Some mid) synced (Some new) last s puts kept opens kept_last =
      subst (λ (o : Option (List ℕ)). Changes (FilesChanged change) (Some old) o) (sym kept_last)
      (opened gate old s.front s.room s.closed change kind name_fits bytes_fit mid new
      (stage gate old s.front s.room s.closed change kind name_fits bytes_fit mid puts)
      (subst (λ (o : Option (List ℕ)). Changes (Written gate (1 ∷ [])) o (Some new)) kept opens)).files_are

  pub gate_adds : (old mid synced new last : Option (List ℕ)) → Settled old → Puts old mid → synced ≡ mid → Changes (Written gate (1 ∷ [])) synced new → last ≡ new → Changes (Written gate (1 ∷ (body change ++ 0 ∷ []))) old last
  gate_adds None None synced new last s puts kept opens kept_last = kept_last ∙ subst (λ (o : Option (List ℕ)). Changes (Written gate (1 ∷ [])) o new) kept opens
  gate_adds None (Some mid) synced new last s puts kept opens kept_last = absurd (cc puts)
  gate_adds (Some old) None synced new last s puts kept opens kept_last = absurd puts
  gate_adds (Some old) (Some mid) synced None last s puts kept opens kept_last = absurd (subst (λ (o : Option (List ℕ)). Changes (Written gate (1 ∷ [])) o None) kept opens)
  gate_adds (Some old) (Some mid) synced (Some new) last s puts kept opens kept_last =
      subst (λ (o : Option (List ℕ)). Changes (Written gate (1 ∷ (body change ++ 0 ∷ []))) (Some old) o) (sym kept_last)
      (written_gate gate 1 (body change ++ 0 ∷ []) old mid new s.room puts
      (subst (λ (o : Option (List ℕ)). Changes (Written gate (1 ∷ [])) o (Some new)) kept opens))

  pub may_from : (old new : Option (List ℕ)) → Changes (FilesChanged change) old new → Changes (FilesMayChange change) old new
  may_from None new is = is
  may_from (Some old) None is = is
  may_from (Some old) (Some new) is = inr is

  pub settles : (old mid synced new last : Option (List ℕ)) (image : List ℕ → Type 0) (end : ℕ) → end ≡ gate + 1 + length (body change) → Settled old → Puts old mid → synced ≡ mid → Changes (Written gate (1 ∷ [])) synced new → last ≡ new
      → IfSome new (Only image) → IfSome last (IsSettled end image)
  settles None None synced new last image end is s puts kept opens kept_last only =
      subst (λ (o : Option (List ℕ)). IfSome o (IsSettled end image)) (sym (kept_last ∙ subst (λ (o : Option (List ℕ)). Changes (Written gate (1 ∷ [])) o new) kept opens)) tt
  settles None (Some mid) synced new last image end is s puts kept opens kept_last only = absurd (cc puts)
  settles (Some old) None synced new last image end is s puts kept opens kept_last only = absurd puts
  settles (Some old) (Some mid) synced None last image end is s puts kept opens kept_last only = absurd (subst (λ (o : Option (List ℕ)). Changes (Written gate (1 ∷ [])) o None) kept opens)
  settles (Some old) (Some mid) synced (Some new) last image end is s puts kept opens kept_last only =
      let there = opened gate old s.front s.room s.closed change kind name_fits bytes_fit mid new
      (stage gate old s.front s.room s.closed change kind name_fits bytes_fit mid puts)
      (subst (λ (o : Option (List ℕ)). Changes (Written gate (1 ∷ [])) o (Some new)) kept opens) in
      let here : IsSettled (gate + 1 + length (body change)) image new = record { front = there.front; room = there.room; closed = there.closed; only = only } in
      subst (λ (o : Option (List ℕ)). IfSome o (IsSettled end image)) (sym kept_last)
      (subst (λ (n : ℕ). IsSettled n image new) (sym is) here)

-- what a crash may leave
module _ {D : Type 0} (moment : D → ℕ) (image : D → ℕ → List ℕ → Type 0) (gate : ℕ) (change : Change) (kind : change.kind ≤ 1) (name_fits : length change.name < 2 ^ 64) (bytes_fit : length change.bytes < 2 ^ 64) (start : D) where
  abbrev Kept : List ℕ → Step
  Kept old = SameFilesOr (changed (files old) change)

  abbrev Goes : Option (List ℕ) → D → Type 0
  Goes told now = IfSome told (λ old. Passes moment image (Kept old) start now)

  abbrev Begins : Option (List ℕ) → Type 0
  Begins told = IfSome told (IsSettled gate (image start (moment start)))

  pub put_passes : (n : ℕ) (told : Option (List ℕ)) (mid : D) → Begins told → Passes moment image (Torn (gate + 1) n) start mid → Goes told mid
  put_passes n None mid s passes = tt
  put_passes n (Some old) mid s passes =
      told_as moment image (Torn (gate + 1) n) (Kept old) start mid
      (λ d c here torn. inl ((behind_kept gate d (subst (IsFront gate) (sym (s.only d here)) s.front) (subst (λ (l : List ℕ). gate < length l) (sym (s.only d here)) s.room) (subst (λ (l : List ℕ). get_or l gate 0 ≢ 1) (sym (s.only d here)) s.closed) c torn.before torn.no_shorter).1))
      passes

  pub same_passes : (told : Option (List ℕ)) (mid new : D) → Goes told mid → Passes moment image Same mid new → Goes told new
  same_passes None mid new first second = tt
  same_passes (Some old) mid new first second = then_same moment image (Kept old) start mid new (λ c. inl refl) first second

  pub gate_passes : (told puts : Option (List ℕ)) (mid new : D) → Begins told → Changes (Written (gate + 1) (body change ++ 0 ∷ [])) told puts → IfSome puts (Only (image mid (moment mid))) → Goes told mid → Passes moment image (Torn gate 1) mid new → Goes told new
  gate_passes None puts mid new s is only first second = tt
  gate_passes (Some old) None mid new s is only first second = absurd is
  gate_passes (Some old) (Some staged) mid new s is only first second =
      goes_on moment image (Kept old) (Torn gate 1) start mid new first second
      (λ e c here torn.
      let from = from_start moment image (Kept old) start mid (λ c. inl refl) first e here in
      let at_gate = torn_gate gate old s.front s.room s.closed change kind name_fits bytes_fit staged c
      (stage gate old s.front s.room s.closed change kind name_fits bytes_fit staged is)
      (subst (λ (l : List ℕ). Torn gate 1 l c) (only e here) torn) in
      (from.0, from.1, ⊎_elim (λ same. inl (same ∙ ap files (sym (s.only from.0 from.1)))) (λ new. inr new) at_gate))
