-- Lemmas on what a crash may leave of the files of a store.
use Rattle.std.proofs.Common.{◌≡◌, inl, inr, ℕ, List, ◌++◌, length, Option, Some, Result, Ok, Err, OnOk, IfErr, refl, sym, ap, ◌∙◌, subst, arith}
use Rattle.std.proofs.lemmas.List.{take_all}
use Rattle.tcm_edges.specs.Causes.{OnMemory}
use Rattle.tcm_edges.specs.declared.fault.WriteFault.{WriteFault}
use Rattle.tcm_edges.specs.declared.fault.WriteFault.TheVariants as write
use Rattle.tcm_edges.specs.Files.{Files, GainsPart, IsOldOrNew, OthersKept, content, file_of}
use Rattle.tcm_edges.specs.Shown.{CrashLeaves, MayLeave, ShowsChanged, ShowsNoMore, ShowsOnly, StaysOnly}
use Rattle.tcm_edges.proofs.FileLemmas.{file_of-put, file_of-put_other}
use Rattle.std.specs.FinMap as map

-- a file gained all of the bytes
gained_all : (bytes : List ℕ) (old new : Option (List ℕ)) → new ≡ Some (content old ++ bytes) → GainsPart bytes old new
gained_all bytes old new is = inr (length bytes, is ∙ ap (λ (l : List ℕ). Some (content old ++ l)) (sym (take_all (length bytes) bytes (omega arith))))

-- ---- a store that shows its files alone

module _ (old new : Files) (name : List ℕ) where
  abbrev Alone : (Option (List ℕ) → Option (List ℕ) → Type 0) → Type 0
  Alone Change = ShowsChanged Change (λ (f : Files). f ≡ old) (λ (f : Files). f ≡ new) name

  alone_changed : (Change : Option (List ℕ) → Option (List ℕ) → Type 0) → Change (file_of old name) (file_of new name) → OthersKept (Some old) (Some new) name → Alone Change
  alone_changed Change changes others f is =
      (old, refl, subst (λ (f : Files). Change (file_of old name) (file_of f name)) (sym is) changes, subst (λ (f : Files). OthersKept (Some old) (Some f) name) (sym is) others)

  abbrev AloneLeaves : (Option (List ℕ) → Option (List ℕ) → Type 0) → Result (Unit {0}) WriteFault → Type 0
  AloneLeaves Change result = CrashLeaves Change (λ (f : Files). f ≡ old) (λ (f : Files). f ≡ new) (Some new) name result

  alone_only : ShowsOnly (λ (f : Files). f ≡ new) (Some new)
  alone_only f is = ap Some (sym is)

  -- it changed at `Ok`
  pub leaves_ok : (Change : Option (List ℕ) → Option (List ℕ) → Type 0) → Change (file_of old name) (file_of new name) → OthersKept (Some old) (Some new) name → AloneLeaves Change (Ok tt)
  leaves_ok Change changes others = record { ok = alone_only; changed = alone_changed Change changes others; memory = tt }

  pub leaves_failed : (Change : Option (List ℕ) → Option (List ℕ) → Type 0) → Change (file_of old name) (file_of new name) → OthersKept (Some old) (Some new) name → AloneLeaves Change (Err write.Failed)
  leaves_failed Change changes others = record { ok = tt; changed = alone_changed Change changes others; memory = tt }

  -- it is as before
  pub leaves_same : (Change : Option (List ℕ) → Option (List ℕ) → Type 0) → ((x : Option (List ℕ)) → Change x x) → new ≡ old → (r : Result (Unit {0}) WriteFault) → AloneLeaves Change r
  leaves_same Change same is r = record { ok = at_ok r; changed = alone_changed Change here others; memory = at_err r }
    where
      here : Change (file_of old name) (file_of new name)
      here = subst (λ (f : Files). Change (file_of old name) (file_of f name)) (sym is) (same (file_of old name))

      others : OthersKept (Some old) (Some new) name
      others other apart = ap (λ (f : Files). file_of f other) is

      at_ok : (r : Result (Unit {0}) WriteFault) → OnOk r (ShowsOnly (λ (f : Files). f ≡ new) (Some new))
      at_ok (Ok x) = alone_only
      at_ok (Err e) = tt

      no_more : ShowsNoMore (λ (f : Files). f ≡ old) (λ (f : Files). f ≡ new)
      no_more f shown = shown ∙ is

      at_fault : (e : WriteFault) → OnMemory e (ShowsNoMore (λ (f : Files). f ≡ old) (λ (f : Files). f ≡ new))
      at_fault write.Failed = tt
      at_fault write.Memory = no_more

      at_err : (r : Result (Unit {0}) WriteFault) → IfErr r (λ e. OnMemory e (ShowsNoMore (λ (f : Files). f ≡ old) (λ (f : Files). f ≡ new)))
      at_err (Ok x) = tt
      at_err (Err e) = at_fault e

module _ (old was new : Files) (name bytes : List ℕ) (is_old : was ≡ old) where
  abbrev Appends : Result (Unit {0}) WriteFault → Type 0
  Appends result = CrashLeaves (GainsPart bytes) (λ (f : Files). f ≡ old) (λ (f : Files). f ≡ new) (Some new) name result

  abbrev Replaces : Result (Unit {0}) WriteFault → Type 0
  Replaces result = CrashLeaves (IsOldOrNew bytes) (λ (f : Files). f ≡ old) (λ (f : Files). f ≡ new) (Some new) name result

  -- the bytes were appended
  pub append_made : new ≡ map.insert was name (content (file_of was name) ++ bytes) → Appends (Ok tt)
  append_made is =
      let made : new ≡ map.insert old name (content (file_of old name) ++ bytes) = is ∙ ap (λ (f : Files). map.insert f name (content (file_of f name) ++ bytes)) is_old in
      leaves_ok old new name (GainsPart bytes)
      (gained_all bytes (file_of old name) (file_of new name) (ap (λ (f : Files). file_of f name) made ∙ file_of-put old name _))
      (λ other apart. ap (λ (f : Files). file_of f other) made ∙ file_of-put_other old name _ other apart)

  pub append_same : new ≡ was → (r : Result (Unit {0}) WriteFault) → Appends r
  append_same is = leaves_same old new name (GainsPart bytes) (λ x. inl refl) (is ∙ is_old)

  -- the contents were replaced
  pub replace_made : new ≡ map.insert was name bytes → Replaces (Ok tt)
  replace_made is =
      let made : new ≡ map.insert old name bytes = is ∙ ap (λ (f : Files). map.insert f name bytes) is_old in
      leaves_ok old new name (IsOldOrNew bytes)
      (inr (ap (λ (f : Files). file_of f name) made ∙ file_of-put old name bytes))
      (λ other apart. ap (λ (f : Files). file_of f other) made ∙ file_of-put_other old name bytes other apart)

  pub replace_same : new ≡ was → (r : Result (Unit {0}) WriteFault) → Replaces r
  replace_same is = leaves_same old new name (IsOldOrNew bytes) (λ x. inl refl) (is ∙ is_old)

-- ---- over some calls

module _ {D : Type 0} (told : D → Option Files) (shows : D → Files → Type 0) (old new : D) (left : Option Files) where
  -- calls that leave the store as it is
  pub left_same : new ≡ old → MayLeave told shows old new left → left ≡ told old
  left_same same (inl is) = is ∙ ap told same
  left_same same (inr it) = it.1.2 ∙ sym (it.0 it.1.0 (subst (λ (d : D). shows d it.1.0) same it.1.1))

  -- calls that change no file
  pub left_kept : told new ≡ told old → ShowsNoMore (shows old) (shows new) → MayLeave told shows old new left → left ≡ told old
  left_kept kept no_more (inl is) = is ∙ kept
  left_kept kept no_more (inr it) = it.1.2 ∙ sym (it.0 it.1.0 (no_more it.1.0 it.1.1))

  -- calls after which a crash leaves only what the store tells
  pub left_only : StaysOnly told shows old new → MayLeave told shows old new left → left ≡ told new
  left_only stays (inl is) = is
  left_only stays (inr it) = it.1.2 ∙ sym (stays it.0 it.1.0 it.1.1)

  -- what may be left after further calls
  pub left_after : (before : D) → StaysOnly told shows before old → MayLeave told shows before new left → MayLeave told shows old new left
  left_after before stays (inl is) = inl is
  left_after before stays (inr it) = inr (stays it.0, it.1)

module _ {D : Type 0} (told : D → Option Files) (shows : D → Files → Type 0) (old new : D) where
  -- calls that change no file
  pub stays_kept : told new ≡ told old → ShowsNoMore (shows old) (shows new) → StaysOnly told shows old new
  stays_kept kept no_more only f shown = kept ∙ only f (no_more f shown)
