-- The files after a change, where the disk tells its content.
use Rattle.std.proofs.Common.{◌≡◌, ◌≢◌, inl, inr, ⊎_elim, ℕ, List, ◌++◌, length, Option, None, Some, Result, Ok, Err, OnOk, OnErr, IfErr, subst, sym, ◌∙◌, ap, arith}
use Rattle.std.specs.Option.{option_map}
use Rattle.std.proofs.lemmas.List.{take_all}
use Rattle.tcm_edges.specs.Files.{ChangesFile, Files, GainsAll, GainsPart, IsOldOrNew, IsReplaced, OthersKept, content, file_of}
use Rattle.tcm_edges.proofs.FileLemmas.{file_of-put, file_of-put_other}
use Rattle.tcm_edges.specs.Causes.{OnFailed}
use Rattle.tcm_edges.specs.declared.fault.Failed.{Failed}
use Rattle.tcm_edges.specs.declared.fault.WriteFault.{WriteFault}
use Rattle.durable_log.specs.Disk.{Changes}
use Rattle.durable_log.specs.Ends.{AddsRecord}
use Rattle.durable_log.specs.code.Ends.{FilesChanged, FilesMayChange}
use Rattle.durable_log.specs.Records.{Change, changed, files}
use Rattle.durable_log.specs.code.Ends.{change_by, write_result}

pub gains_all : (name bytes : List ℕ) (old new : Option (List ℕ)) → Changes (FilesChanged (change_by 0 name bytes)) old new → ChangesFile (GainsAll bytes) (option_map files old) (option_map files new) name
gains_all name bytes None new is = tt
gains_all name bytes (Some old) None is = is
gains_all name bytes (Some old) (Some new) is = ap (λ (all : Files). file_of all name) is ∙ file_of-put (files old) name (content (file_of (files old) name) ++ bytes)

pub gains_part : (name bytes : List ℕ) (old new : Option (List ℕ)) → Changes (FilesMayChange (change_by 0 name bytes)) old new → ChangesFile (GainsPart bytes) (option_map files old) (option_map files new) name
gains_part name bytes None new is = tt
gains_part name bytes (Some old) None is = is
gains_part name bytes (Some old) (Some new) is = ⊎_elim
    (λ same. inl (ap (λ (all : Files). file_of all name) same))
    (λ made. inr (
      length bytes,
      ap (λ (all : Files). file_of all name) made ∙ file_of-put (files old) name (content (file_of (files old) name) ++ bytes)
          ∙ ap (λ (l : List ℕ). Some (content (file_of (files old) name) ++ l)) (sym (take_all (length bytes) bytes (omega arith))),
    ))
    is

pub is_replaced : (name bytes : List ℕ) (old new : Option (List ℕ)) → Changes (FilesChanged (change_by 1 name bytes)) old new → ChangesFile (IsReplaced bytes) (option_map files old) (option_map files new) name
is_replaced name bytes None new is = tt
is_replaced name bytes (Some old) None is = is
is_replaced name bytes (Some old) (Some new) is = ap (λ (all : Files). file_of all name) is ∙ file_of-put (files old) name bytes

pub old_or_new : (name bytes : List ℕ) (old new : Option (List ℕ)) → Changes (FilesMayChange (change_by 1 name bytes)) old new → ChangesFile (IsOldOrNew bytes) (option_map files old) (option_map files new) name
old_or_new name bytes None new is = tt
old_or_new name bytes (Some old) None is = is
old_or_new name bytes (Some old) (Some new) is = ⊎_elim
    (λ same. inl (ap (λ (all : Files). file_of all name) same))
    (λ made. inr (ap (λ (all : Files). file_of all name) made ∙ file_of-put (files old) name bytes))
    is

module _ (change : Change) where
  other_kept : (all : Files) (other : List ℕ) → other ≢ change.name → file_of (changed all change) other ≡ file_of all other
  other_kept all other apart = file_of-put_other all change.name _ other apart

  pub others_made : (old new : Option (List ℕ)) → Changes (FilesChanged change) old new → OthersKept (option_map files old) (option_map files new) change.name
  others_made None new is = tt
  others_made (Some old) None is = is
  others_made (Some old) (Some new) is = λ other apart. ap (λ (all : Files). file_of all other) is ∙ other_kept (files old) other apart

  pub others_may : (old new : Option (List ℕ)) → Changes (FilesMayChange change) old new → OthersKept (option_map files old) (option_map files new) change.name
  others_may None new is = tt
  others_may (Some old) None is = is
  others_may (Some old) (Some new) is = λ other apart. ⊎_elim
      (λ same. ap (λ (all : Files). file_of all other) same)
      (λ made. ap (λ (all : Files). file_of all other) made ∙ other_kept (files old) other apart)
      is

-- the same, by the results of the calls
module _ (written name bytes : List ℕ) (old new : Option (List ℕ)) (added : Result (Unit {0}) Failed) (result : Result (Unit {0}) WriteFault) (same : written ≡ name) (is : result ≡ write_result added) where
  pub add_ok : (kind : ℕ) → OnOk added (Changes (AddsRecord (change_by kind written bytes)) old new) → OnOk result (Changes (AddsRecord (change_by kind name bytes)) old new)
  add_ok kind made = subst (λ (r : Result (Unit {0}) WriteFault). OnOk r (Changes (AddsRecord (change_by kind name bytes)) old new)) (sym is) (by added made)
    where
      by : (a : Result (Unit {0}) Failed) → OnOk a (Changes (AddsRecord (change_by kind written bytes)) old new) → OnOk (write_result a) (Changes (AddsRecord (change_by kind name bytes)) old new)
      by (Ok x) made = subst (λ (n : List ℕ). Changes (AddsRecord (change_by kind n bytes)) old new) same made
      by (Err e) made = tt

  pub append_ok : OnOk added (Changes (FilesChanged (change_by 0 written bytes)) old new) → OnOk result (ChangesFile (GainsAll bytes) (option_map files old) (option_map files new) name)
  append_ok made = subst (λ (r : Result (Unit {0}) WriteFault). OnOk r (ChangesFile (GainsAll bytes) (option_map files old) (option_map files new) name)) (sym is) (by added made)
    where
      by : (a : Result (Unit {0}) Failed) → OnOk a (Changes (FilesChanged (change_by 0 written bytes)) old new) → OnOk (write_result a) (ChangesFile (GainsAll bytes) (option_map files old) (option_map files new) name)
      by (Ok x) made = subst (λ (n : List ℕ). ChangesFile (GainsAll bytes) (option_map files old) (option_map files new) n) same (gains_all written bytes old new made)
      by (Err e) made = tt

  pub append_err : OnErr added (Changes (FilesMayChange (change_by 0 written bytes)) old new) → IfErr result (λ fault. OnFailed fault (ChangesFile (GainsPart bytes) (option_map files old) (option_map files new) name))
  append_err may = subst (λ (r : Result (Unit {0}) WriteFault). IfErr r (λ fault. OnFailed fault (ChangesFile (GainsPart bytes) (option_map files old) (option_map files new) name))) (sym is) (by added may)
    where
      by : (a : Result (Unit {0}) Failed) → OnErr a (Changes (FilesMayChange (change_by 0 written bytes)) old new) → IfErr (write_result a) (λ fault. OnFailed fault (ChangesFile (GainsPart bytes) (option_map files old) (option_map files new) name))
      by (Ok x) may = tt
      by (Err e) may = subst (λ (n : List ℕ). ChangesFile (GainsPart bytes) (option_map files old) (option_map files new) n) same (gains_part written bytes old new may)

  pub replace_ok : OnOk added (Changes (FilesChanged (change_by 1 written bytes)) old new) → OnOk result (ChangesFile (IsReplaced bytes) (option_map files old) (option_map files new) name)
  replace_ok made = subst (λ (r : Result (Unit {0}) WriteFault). OnOk r (ChangesFile (IsReplaced bytes) (option_map files old) (option_map files new) name)) (sym is) (by added made)
    where
      by : (a : Result (Unit {0}) Failed) → OnOk a (Changes (FilesChanged (change_by 1 written bytes)) old new) → OnOk (write_result a) (ChangesFile (IsReplaced bytes) (option_map files old) (option_map files new) name)
      by (Ok x) made = subst (λ (n : List ℕ). ChangesFile (IsReplaced bytes) (option_map files old) (option_map files new) n) same (is_replaced written bytes old new made)
      by (Err e) made = tt

  pub replace_err : OnErr added (Changes (FilesMayChange (change_by 1 written bytes)) old new) → IfErr result (λ fault. OnFailed fault (ChangesFile (IsOldOrNew bytes) (option_map files old) (option_map files new) name))
  replace_err may = subst (λ (r : Result (Unit {0}) WriteFault). IfErr r (λ fault. OnFailed fault (ChangesFile (IsOldOrNew bytes) (option_map files old) (option_map files new) name))) (sym is) (by added may)
    where
      by : (a : Result (Unit {0}) Failed) → OnErr a (Changes (FilesMayChange (change_by 1 written bytes)) old new) → IfErr (write_result a) (λ fault. OnFailed fault (ChangesFile (IsOldOrNew bytes) (option_map files old) (option_map files new) name))
      by (Ok x) may = tt
      by (Err e) may = subst (λ (n : List ℕ). ChangesFile (IsOldOrNew bytes) (option_map files old) (option_map files new) n) same (old_or_new written bytes old new may)

pub others_of : (kind : ℕ) (written name bytes : List ℕ) (old new : Option (List ℕ)) (added : Result (Unit {0}) Failed) → written ≡ name → OnOk added (Changes (FilesChanged (change_by kind written bytes)) old new) → OnErr added (Changes (FilesMayChange (change_by kind written bytes)) old new)
    → OthersKept (option_map files old) (option_map files new) name
others_of kind written name bytes old new (Ok x) same made may = subst (λ (n : List ℕ). OthersKept (option_map files old) (option_map files new) n) same (others_made (change_by kind written bytes) old new made)
others_of kind written name bytes old new (Err e) same made may = subst (λ (n : List ℕ). OthersKept (option_map files old) (option_map files new) n) same (others_may (change_by kind written bytes) old new may)
