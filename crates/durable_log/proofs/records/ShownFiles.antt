-- Which files a crash may leave after a call.
use Rattle.std.proofs.Common.{◌≡◌, ◌⊎◌, inl, inr, ⊎_elim, ℕ, List, ◌++◌, length, Option, None, Some, IfSome, Result, Ok, Err, OnOk, OnErr, IfErr, refl, sym, ap, ◌∙◌, subst, arith}
use Rattle.std.proofs.lemmas.List.{take_all}
use Rattle.tcm_edges.specs.Causes.{OnMemory}
use Rattle.tcm_edges.specs.Files.{Files, GainsPart, IsOldOrNew, OthersKept, content, file_of}
use Rattle.tcm_edges.specs.Shown.{CrashLeaves, ShowsChanged, ShowsNoMore, ShowsOnly}
use Rattle.tcm_edges.specs.declared.fault.Failed.{Failed}
use Rattle.tcm_edges.specs.declared.fault.WriteFault.{WriteFault}
use Rattle.tcm_edges.proofs.FileLemmas.{file_of-put, file_of-put_other}
use Rattle.durable_log.specs.Disk.{Changes, Passes}
use Rattle.durable_log.specs.Images.{SameFiles, SameFilesOr, Shows, Stands, told_files}
use Rattle.durable_log.specs.Records.{Change, changed, files}
use Rattle.durable_log.specs.code.Ends.{FilesChanged, FilesMayChange, change_by, write_result}
use Rattle.durable_log.proofs.disks.Moments.{from_start}

-- the files are those after a change
may_any : (change : Change) (old new : Option (List ℕ)) → Changes (FilesChanged change) old new → Changes (FilesMayChange change) old new
may_any change None new is = is
may_any change (Some old) None is = is
may_any change (Some old) (Some new) is = inr is

-- all images stand for the files of the content
pub only_told : (content : Option (List ℕ)) (image : List ℕ → Type 0) → Stands content image → ShowsOnly (Shows content image) (told_files content)
only_told None image stands f shown = absurd shown
only_told (Some bytes) image stands f (c, left, is) = ap Some (⊎_elim (λ same. sym (ap files same)) (λ here. sym (stands c here)) left ∙ sym is)

module _ {D : Type 0} (moment : D → ℕ) (image : D → ℕ → List ℕ → Type 0) (start now : D) where
  abbrev Before : Option (List ℕ) → Files → Type 0
  Before old = Shows old (image start (moment start))

  abbrev After : Option (List ℕ) → Files → Type 0
  After new = Shows new (image now (moment now))

  -- calls that leave the files as they are
  pub no_more : (old new : Option (List ℕ)) → Changes SameFiles old new → IfSome old (λ _. Passes moment image SameFiles start now) → ShowsNoMore (Before old) (After new)
  no_more None None same passes f shown = absurd shown
  no_more None (Some n) same passes f shown = absurd (cc same)
  no_more (Some b) None same passes f shown = absurd shown
  no_more (Some b) (Some n) same passes f (c, inl is, eq) = (b, inl refl, eq ∙ ap files is ∙ same)
  no_more (Some b) (Some n) same passes f (c, inr here, eq) =
      let from = from_start moment image SameFiles start now (λ x. refl) passes c here in
      (from.0, inr from.1, eq ∙ from.2)

  -- calls that change a file
  abbrev From : Change → Files → Files → Type 0
  From change g f = (f ≡ g) ⊎ (f ≡ changed g change)

  from_changed : (change : Change) (old new : Option (List ℕ)) → Changes (FilesMayChange change) old new
      → IfSome old (λ b. Passes moment image (SameFilesOr (changed (files b) change)) start now)
      → (f : Files) → After new f → (g : Files) × Before old g × From change g f
  from_changed change None None may passes f shown = absurd shown
  from_changed change None (Some n) may passes f shown = absurd (cc may)
  from_changed change (Some b) None may passes f shown = absurd shown
  from_changed change (Some b) (Some n) may passes f (c, inl is, eq) =
      (files b, (b, inl refl, refl), ⊎_elim (λ same. inl (eq ∙ ap files is ∙ same)) (λ made. inr (eq ∙ ap files is ∙ made)) may)
  from_changed change (Some b) (Some n) may passes f (c, inr here, eq) =
      let from = from_start moment image (SameFilesOr (changed (files b) change)) start now (λ x. inl refl) passes c here in
      ⊎_elim
      (λ same. (files from.0, (from.0, inr from.1, refl), inl (eq ∙ same)))
      (λ made. (files b, (b, inl refl, refl), inr (eq ∙ made)))
      from.2

  -- how the file with its name changed, and that no other did
  part_of : (name bytes : List ℕ) (g f : Files) → From (change_by 0 name bytes) g f → GainsPart bytes (file_of g name) (file_of f name)
  part_of name bytes g f (inl same) = inl (ap (λ (all : Files). file_of all name) same)
  part_of name bytes g f (inr made) =
      inr (
        length bytes,
        ap (λ (all : Files). file_of all name) made ∙ file_of-put g name (content (file_of g name) ++ bytes)
            ∙ ap (λ (l : List ℕ). Some (content (file_of g name) ++ l)) (sym (take_all (length bytes) bytes (omega arith))),
      )

  old_or_new_of : (name bytes : List ℕ) (g f : Files) → From (change_by 1 name bytes) g f → IsOldOrNew bytes (file_of g name) (file_of f name)
  old_or_new_of name bytes g f (inl same) = inl (ap (λ (all : Files). file_of all name) same)
  old_or_new_of name bytes g f (inr made) = inr (ap (λ (all : Files). file_of all name) made ∙ file_of-put g name bytes)

  others_from : (change : Change) (g f : Files) → From change g f → OthersKept (Some g) (Some f) change.name
  others_from change g f (inl same) = λ other apart. ap (λ (all : Files). file_of all other) same
  others_from change g f (inr made) = λ other apart. ap (λ (all : Files). file_of all other) made ∙ file_of-put_other g change.name _ other apart

  module _ (written name bytes : List ℕ) (same : written ≡ name) (old new : Option (List ℕ)) (added : Result (Unit {0}) Failed) (result : Result (Unit {0}) WriteFault) (is : result ≡ write_result added) where
    abbrev Made : ℕ → Type 0
    Made kind = OnOk added (Changes (FilesChanged (change_by kind written bytes)) old new)

    abbrev May : ℕ → Type 0
    May kind = OnErr added (Changes (FilesMayChange (change_by kind written bytes)) old new)

    abbrev Goes : ℕ → Type 0
    Goes kind = IfSome old (λ b. Passes moment image (SameFilesOr (changed (files b) (change_by kind written bytes))) start now)

    any_change : (kind : ℕ) → Made kind → May kind → Changes (FilesMayChange (change_by kind written bytes)) old new
    any_change kind made may = by added made may
      where
        by : (a : Result (Unit {0}) Failed) → OnOk a (Changes (FilesChanged (change_by kind written bytes)) old new) → OnErr a (Changes (FilesMayChange (change_by kind written bytes)) old new) → Changes (FilesMayChange (change_by kind written bytes)) old new
        by (Ok x) made may = may_any (change_by kind written bytes) old new made
        by (Err e) made may = may

    -- a disk's fault is never want of memory
    at_memory : (P : Type 0) → IfErr result (λ e. OnMemory e P)
    at_memory P = subst (λ (r : Result (Unit {0}) WriteFault). IfErr r (λ e. OnMemory e P)) (sym is) (by added)
      where
        by : (a : Result (Unit {0}) Failed) → IfErr (write_result a) (λ e. OnMemory e P)
        by (Ok x) = tt
        by (Err e) = tt

    at_ok : OnOk added (Stands new (image now (moment now))) → OnOk result (ShowsOnly (After new) (told_files new))
    at_ok stands = subst (λ (r : Result (Unit {0}) WriteFault). OnOk r (ShowsOnly (After new) (told_files new))) (sym is) (by added stands)
      where
        by : (a : Result (Unit {0}) Failed) → OnOk a (Stands new (image now (moment now))) → OnOk (write_result a) (ShowsOnly (After new) (told_files new))
        by (Ok x) stands = only_told new (image now (moment now)) stands
        by (Err e) stands = tt

    pub append_crash : Made 0 → May 0 → Goes 0 → OnOk added (Stands new (image now (moment now))) → CrashLeaves (GainsPart bytes) (Before old) (After new) (told_files new) name result
    append_crash made may goes stands =
        record {
          ok = at_ok stands;
          changed = subst (λ (n : List ℕ). ShowsChanged (GainsPart bytes) (Before old) (After new) n) same
              (λ f shown.
              let from = from_changed (change_by 0 written bytes) old new (any_change 0 made may) goes f shown in
              (from.0, from.1, part_of written bytes from.0 f from.2, others_from (change_by 0 written bytes) from.0 f from.2));
          memory = at_memory (ShowsNoMore (Before old) (After new));
        }

    pub replace_crash : Made 1 → May 1 → Goes 1 → OnOk added (Stands new (image now (moment now))) → CrashLeaves (IsOldOrNew bytes) (Before old) (After new) (told_files new) name result
    replace_crash made may goes stands =
        record {
          ok = at_ok stands;
          changed = subst (λ (n : List ℕ). ShowsChanged (IsOldOrNew bytes) (Before old) (After new) n) same
              (λ f shown.
              let from = from_changed (change_by 1 written bytes) old new (any_change 1 made may) goes f shown in
              (from.0, from.1, old_or_new_of written bytes from.0 f from.2, others_from (change_by 1 written bytes) from.0 f from.2));
          memory = at_memory (ShowsNoMore (Before old) (After new));
        }
