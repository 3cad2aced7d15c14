-- A run over a disk: once the store is opened, and where it can't be.
use Rattle.std.proofs.Common.{◌≡◌, ◌≢◌, inr, ℕ, ◌<◌, ◌-◌, ◌^◌, true, List, [], Option, None, Some, IfNone, IfSome, refl, sym, ap, ◌∙◌, arith}
use Rattle.std.proofs.lemmas.Bool.{eq-eqb}
use Rattle.tcm_edges.specs.Files.{Files}
use Rattle.durable_log.specs.Disk.{Changes, Passes}
use Rattle.durable_log.specs.Images.{SameFiles, Shows, Stands, told_files}
use Rattle.durable_log.specs.Records.{files}
use Rattle.durable_log.proofs.disks.Moments.{from_start}
use Rattle.tcm_session.specs.Counts.{Counts}
use Rattle.tcm_session.specs.Left.{LeavesFiles}
use Rattle.tcm_session.specs.Outcomes.{outcome}
use Rattle.tcm_session.specs.Request.{request_of}
use Rattle.tcm_session.specs.Run.{HasStatus, IsRun, more_if, told}
use Rattle.tcm_session.specs.declared.run_fault.RunFault.TheVariants as fault
use Rattle.tcm_session.proofs.log_files.HeldFiles.{files_behind}
use Rattle.tcm_session.proofs.log_files.ReplayLemmas.{seen_any}
use Rattle.tcm_session.proofs.runs.LeftLemmas.{files_same}
use Rattle.tcm_session.proofs.runs.RequestRuns.{is_run}
use Rattle.tcm_session.proofs.runs.RunLemmas.{runs_early}

-- the files that a disk tells stay
pub told_same : (old new : Option (List ℕ)) → Changes SameFiles old new → told_files new ≡ told_files old
told_same None new same = ap told_files same
told_same (Some b) None same = absurd same
told_same (Some b) (Some n) same = ap Some same

-- without a fault of the disk the status isn't 6
pub uncounted_6 : (before after : Counts) (status : ℕ) → HasStatus before after status → before.store < 2 ^ 64 - 1 → after.store ≡ before.store → status ≢ 6
uncounted_6 before after status has few same six =
    let one : before.store ≡ more_if true before.store = sym same ∙ has.store ∙ ap (λ b. more_if b before.store) (eq-eqb status 6 six) in
    omega (arith, one, few)

-- ---- a store that could not be opened

not_source : fault.Store ≢ fault.Source
not_source e = cc

-- a run that does nothing, and leaves the files as they are
pub unopened : (words : List (List ℕ)) (InputKept : Type 0) (kept : InputKept) (left w : Option (List ℕ)) (f f' : Option Files) → f' ≡ f → IsRun (request_of words) InputKept (told left w f) (told left w f') 6
unopened words InputKept kept left w f f' same =
    let request = request_of words in
    let seen : ℕ → Files = λ _. files_behind f [] None in
    is_run InputKept (told left w f) (told left w f') 6 request
    (record {
      seen = seen;
      held = seen_any f;
      runs = runs_early (LeavesFiles request f f') InputKept kept left w (outcome request seen) f f' fault.Store not_source
          (λ given ended. files_same request f f' (outcome request seen given) ended same);
    })

-- ---- the images

abbrev Imageless : {D : Type 0} → (D → ℕ → List ℕ → Type 0) → Option (List ℕ) → D → Type 0
Imageless image content disk = IfNone content ((t : ℕ) (c : List ℕ) → image disk t c → ⊥)

module _ {D : Type 0} (moment : D → ℕ) (image : D → ℕ → List ℕ → Type 0) where
  -- an image stands for files that a crash may leave
  pub is_shown : (disk : D) (content : Option (List ℕ)) → Imageless image content disk → (c : List ℕ) → image disk (moment disk) c → Shows content (image disk (moment disk)) (files c)
  is_shown disk None none c here = absurd (none (moment disk) c here)
  is_shown disk (Some bytes) none c here = (c, inr here, refl)

  -- if each image of a disk stood for its files, each image of one that could not be opened stands for the files of before
  pub image_kept : (disk disk' : D) (old new : Option (List ℕ)) → Changes SameFiles old new → IfSome old (λ _. Passes moment image SameFiles disk disk') → Stands old (image disk (moment disk))
      → Imageless image new disk' → (c : List ℕ) → image disk' (moment disk') c → Some (files c) ≡ told_files old
  image_kept disk disk' None None same passes stood none c here = absurd (none (moment disk') c here)
  image_kept disk disk' None (Some n) same passes stood none c here = absurd (cc same)
  image_kept disk disk' (Some b) None same passes stood none c here = absurd same
  image_kept disk disk' (Some b) (Some n) same passes stood none c here =
      let from = from_start moment image SameFiles disk disk' (λ x. refl) passes c here in
      ap Some (from.2 ∙ stood from.0 from.1)
