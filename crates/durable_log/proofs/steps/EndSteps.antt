-- The steps of closing the end of the records, on a disk that may tell its content.
use Rattle.std.proofs.Common.{◌≡◌, ℕ, false, List, [], ◌∷◌, ◌++◌, Option, None, Some, IfSome, inl, inr, ⊎_elim, refl, sym, ◌∙◌, ap, subst}
use Rattle.durable_log.specs.Disk.{Changes, Only, Passes, Same, Torn, Written}
use Rattle.durable_log.specs.Images.{SameFiles, SameFilesOr, Stands, StandsEither}
use Rattle.durable_log.specs.Ends.{AddsRecord, ClosesAt, EndsAt}
use Rattle.durable_log.specs.code.Ends.{IsSettled}
use Rattle.tcm_edges.specs.Files.{Files}
use Rattle.durable_log.specs.Records.{Change, body, changed, files}
use Rattle.durable_log.proofs.disks.Crash.{torn_end, written_end}
use Rattle.durable_log.proofs.disks.Moments.{Step, from_start, goes_on, told_as}
use Rattle.durable_log.proofs.disks.Writes.{written_over, written_torn}
use Rattle.durable_log.proofs.steps.AddSteps.{then_same}

module _ (place : ℕ) where
  abbrev Ends : Option (List ℕ) → Type 0
  Ends told = IfSome told (EndsAt place false)

  pub close_err : (old new : Option (List ℕ)) → Ends old → Changes (Torn place 1) old new → Changes SameFiles old new
  close_err None new ends torn = torn
  close_err (Some old) None ends torn = torn
  close_err (Some old) (Some new) ends torn = torn_end place old ends.end (ends.bare refl) new torn

  pub close_ok : (old new last : Option (List ℕ)) → Ends old → Changes (Written place (0 ∷ [])) old new → last ≡ new → Changes SameFiles old last
  close_ok None new last ends is kept = kept ∙ is
  close_ok (Some old) None last ends is kept = absurd is
  close_ok (Some old) (Some new) last ends is kept =
      subst (λ (o : Option (List ℕ)). Changes SameFiles (Some old) o) (sym kept)
      (torn_end place old ends.end (ends.bare refl) new (written_torn place (0 ∷ []) old new ends.end.front.within is))

  pub close_settles : (old new last : Option (List ℕ)) (image : List ℕ → Type 0) → Ends old → Changes (Written place (0 ∷ [])) old new → last ≡ new → IfSome new (Only image) → IfSome last (IsSettled place image)
  close_settles None new last image ends is kept only = subst (λ (o : Option (List ℕ)). IfSome o (IsSettled place image)) (sym (kept ∙ is)) tt
  close_settles (Some old) None last image ends is kept only = absurd is
  close_settles (Some old) (Some new) last image ends is kept only =
      let there = written_end place old ends.end (ends.bare refl) new is in
      let here : IsSettled place image new = record { front = there.front; room = there.room; closed = there.closed; only = only } in
      subst (λ (o : Option (List ℕ)). IfSome o (IsSettled place image)) (sym kept) here

  -- a record that is written at the gate that was closed
  pub adds : (change : Change) (old mid new : Option (List ℕ)) → Changes (ClosesAt place) old mid → Changes (Written place (1 ∷ (body change ++ 0 ∷ []))) mid new → Changes (AddsRecord change) old new
  adds change None None new first second = second
  adds change None (Some mid) new first second = absurd (cc first)
  adds change (Some old) None new first second = absurd first
  adds change (Some old) (Some mid) None first second = second
  adds change (Some old) (Some mid) (Some new) first second = ⊎_elim
      (λ it. (place, it.0.end, subst (λ (l : List ℕ). Written place (1 ∷ (body change ++ 0 ∷ [])) l new) it.1 second))
      (λ it. (place, it.0.end, written_over place 0 1 (body change ++ 0 ∷ []) old mid new it.0.end.front.within it.1 second))
      first

module _ {D : Type 0} (moment : D → ℕ) (image : D → ℕ → List ℕ → Type 0) where
  abbrev Goes : Option (List ℕ) → D → D → Type 0
  Goes told old new = IfSome told (λ _. Passes moment image SameFiles old new)

  pub close_passes : (place : ℕ) (told : Option (List ℕ)) (old new : D) → IfSome told (EndsAt place false) → IfSome told (Only (image old (moment old))) → Passes moment image (Torn place 1) old new → Goes told old new
  close_passes place None old new ends only passes = tt
  close_passes place (Some bytes) old new ends only passes =
      told_as moment image (Torn place 1) SameFiles old new
      (λ d c here torn. let there = subst (EndsAt place false) (sym (only d here)) ends in torn_end place d there.end (there.bare refl) c torn)
      passes

  pub files_same : (told : Option (List ℕ)) (old mid new : D) → Goes told old mid → Passes moment image Same mid new → Goes told old new
  files_same None old mid new first second = tt
  files_same (Some bytes) old mid new first second = then_same moment image SameFiles old mid new (λ c. refl) first second

  pub files_start : (told : Option (List ℕ)) (old new : D) → Passes moment image Same old new → Goes told old new
  files_start None old new passes = tt
  files_start (Some bytes) old new passes = told_as moment image Same SameFiles old new (λ d c here is. ap files is) passes

  pub files_joined : (told told' : Option (List ℕ)) (old mid new : D) → told' ≡ told → Goes told old mid → Goes told' mid new → Goes told old new
  files_joined None told' old mid new same first second = tt
  files_joined (Some bytes) None old mid new same first second = absurd (cc same)
  files_joined (Some bytes) (Some other) old mid new same first second =
      goes_on moment image SameFiles SameFiles old mid new first second
      (λ e c here is. let from = from_start moment image SameFiles old mid (λ c. refl) first e here in (from.0, from.1, is ∙ from.2))

  -- the files of a start that stood for the same files are as good a start
  pub promised : (change : Change) (told told' : Option (List ℕ)) (old mid new : D) → Changes SameFiles told told' → Goes told old mid
      → IfSome told' (λ bytes. Passes moment image (SameFilesOr (changed (files bytes) change)) mid new)
      → IfSome told (λ bytes. Passes moment image (SameFilesOr (changed (files bytes) change)) old new)
  promised change None told' old mid new same first second = tt
  promised change (Some bytes) None old mid new same first second = absurd same
  promised change (Some bytes) (Some other) old mid new same first second =
      let R : Step = SameFilesOr (changed (files bytes) change) in
      goes_on moment image R (SameFilesOr (changed (files other) change)) old mid new
      (told_as moment image SameFiles R old mid (λ d c here is. inl is) first) second
      (λ e c here is.
      let from = from_start moment image SameFiles old mid (λ c. refl) first e here in
      (from.0, from.1, ⊎_elim (λ kept. inl (kept ∙ from.2)) (λ made. inr (made ∙ ap (λ (all : Files). changed all change) same)) is))

-- where the only image is the content, each stands for its files
pub stands : (told : Option (List ℕ)) (gate : ℕ) (image : List ℕ → Type 0) → IfSome told (IsSettled gate image) → Stands told image
stands None gate image settled = tt
stands (Some bytes) gate image settled = λ c here. ap files (settled.only c here)

pub either : {D : Type 0} (moment : D → ℕ) (image : D → ℕ → List ℕ → Type 0) (change : Change) (told : Option (List ℕ)) (old new : D) → Stands told (image old (moment old))
    → IfSome told (λ bytes. Passes moment image (SameFilesOr (changed (files bytes) change)) old new)
    → StandsEither change told (image new (moment new))
either moment image change None old new stand passes = tt
either moment image change (Some bytes) old new stand passes = λ c here.
    let from = from_start moment image (SameFilesOr (changed (files bytes) change)) old new (λ c. inl refl) passes c here in
    ⊎_elim (λ same. inl (same ∙ stand from.0 from.1)) (λ made. inr made) from.2
