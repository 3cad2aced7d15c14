-- Files that a store holds: those that a load finds, and those after a file is written.
use Rattle.std.proofs.Common.{◌≡◌, ◌≢◌, ℕ, Bool, true, false, if◌then◌else◌, nat_le, List, [], length, Option, None, Some, IfSome, refl, sym, ap, ◌∙◌, subst}
use Rattle.std.specs.Cmp.Lexicographic.{slice_cmp}
use Rattle.std.specs.FinMap as map
use Rattle.std.specs.Ordering.{nat_cmp}
use Rattle.tcm_edges.specs.Files.{Files, IsLoad, content, file_of, loaded_of}
use Rattle.tcm_edges.specs.declared.store.Loaded.{Loaded}
use Rattle.tcm_edges.specs.declared.store.Loaded.TheVariants as loaded
use Rattle.tcm_edges.proofs.FileLemmas.{file_of-put}
use Rattle.tcm_session.specs.code.Loading.{HoldsFile, IsWritten}
use Rattle.tcm_session.specs.code.Runs.{MayHold}
use Rattle.script_session.proofs.steps.GainLemmas.{changed_is}

-- ---- a file that is written

-- what a store may hold, once a file is written
pub held_written : (name bytes : List ℕ) (old new : Option Files) (all : Files) → MayHold old all → IsWritten name bytes old new → MayHold new (map.insert all name bytes)
held_written name bytes None new all held is = subst (λ f. MayHold f (map.insert all name bytes)) (sym is) tt
held_written name bytes (Some these) new all held is = subst (λ f. MayHold f (map.insert all name bytes)) (sym is) (ap (λ fs. map.insert fs name bytes) held)

-- a file that has some bytes is there
held_some : (file : Option (List ℕ)) (bytes : List ℕ) → bytes ≢ [] → content file ≡ bytes → file ≡ Some bytes
held_some None bytes some is = absurd (some (sym is))
held_some (Some file) bytes some is = ap Some is

-- a file that has these bytes needs no writing
pub written_already : (name bytes : List ℕ) (files : Option Files) → bytes ≢ [] → HoldsFile name bytes files → IsWritten name bytes files files
written_already name bytes None some holds = refl
written_already name bytes (Some all) some holds = ap Some (changed_is all all name bytes (held_some (file_of all name) bytes some holds) (λ other apart. refl))

-- ---- files that a load tells of

-- some files in which the file of a name is this one
abbrev files_with_one : List ℕ → Option (List ℕ) → Files
files_with_one name None = map.empty
files_with_one name (Some bytes) = map.insert map.empty name bytes

abbrev pub files_behind : Option Files → List ℕ → Option (List ℕ) → Files
files_behind None name file = files_with_one name file
files_behind (Some all) name file = all

pub behind_held : (files : Option Files) (name : List ℕ) (file : Option (List ℕ)) → MayHold files (files_behind files name file)
behind_held None name file = tt
behind_held (Some all) name file = refl

pub behind_file : (files : Option Files) (name : List ℕ) (file : Option (List ℕ)) → IfSome files (λ all. file ≡ file_of all name) → file_of (files_behind files name file) name ≡ file
behind_file None name None told = map.get-empty (slice_cmp nat_cmp) name
behind_file None name (Some bytes) told = file_of-put map.empty name bytes
behind_file (Some all) name file told = sym told

pub behind_loaded : (files : Option Files) (name : List ℕ) (limit : ℕ) (loaded : Loaded) (load : IsLoad files name limit loaded) → loaded ≡ loaded_of (file_of (files_behind files name load.file) name) limit
behind_loaded files name limit loaded load = load.answer ∙ ap (λ file. loaded_of file limit) (sym (behind_file files name load.file load.told))

-- ---- a load

-- the load that came to a result
pub load_of : (files : Option Files) (name : List ℕ) (limit : ℕ) (loaded it : Loaded) → loaded ≡ it → IsLoad files name limit loaded → IsLoad files name limit it
load_of files name limit loaded it is load = subst (IsLoad files name limit) is load

-- after a load, which changes no file, the store may hold the files behind it
pub held_after : {limit : ℕ} {loaded : Loaded} (files files' : Option Files) (name : List ℕ) (load : IsLoad files name limit loaded) → files' ≡ files → MayHold files' (files_behind files name load.file)
held_after files files' name load kept = subst (λ f. MayHold f (files_behind files name load.file)) (sym kept) (behind_held files name load.file)

absent_file : (file : Option (List ℕ)) (limit : ℕ) → loaded.Absent ≡ loaded_of file limit → file ≡ None
absent_file None limit is = refl
absent_file (Some bytes) limit is = by (nat_le (length bytes) limit) is
  where
    by : (b : Bool) → loaded.Absent ≡ (if b then loaded.Bytes bytes else loaded.TooLarge (length bytes)) → Some bytes ≡ None
    by true e = absurd (cc)
    by false e = absurd (cc)

bytes_file : (file : Option (List ℕ)) (limit : ℕ) (found : List ℕ) → loaded.Bytes found ≡ loaded_of file limit → file ≡ Some found
bytes_file None limit found is = absurd (cc)
bytes_file (Some bytes) limit found is = by (nat_le (length bytes) limit) is
  where
    by : (b : Bool) → loaded.Bytes found ≡ (if b then loaded.Bytes bytes else loaded.TooLarge (length bytes)) → Some bytes ≡ Some found
    by true e = let same : found ≡ bytes = cc in ap Some (sym same)
    by false e = absurd (cc)

-- what a load finds is absent, and is there
pub found_absent : {files : Option Files} {name : List ℕ} {limit : ℕ} (load : IsLoad files name limit loaded.Absent) → load.file ≡ None
found_absent {limit = limit} load = absent_file load.file limit load.answer

pub found_bytes : {files : Option Files} {name : List ℕ} {limit : ℕ} (bytes : List ℕ) (load : IsLoad files name limit (loaded.Bytes bytes)) → load.file ≡ Some bytes
found_bytes {limit = limit} bytes load = bytes_file load.file limit bytes load.answer

holds_found : (files : Option Files) (name bytes : List ℕ) (file : Option (List ℕ)) → IfSome files (λ all. file ≡ file_of all name) → content file ≡ bytes → HoldsFile name bytes files
holds_found None name bytes file told is = tt
holds_found (Some all) name bytes file told is = ap content (sym told) ∙ is

-- a load leaves a store that holds what it found
pub holds_absent : (files files' : Option Files) (name : List ℕ) (limit : ℕ) → IsLoad files name limit loaded.Absent → files' ≡ files → HoldsFile name [] files'
holds_absent files files' name limit load kept = subst (HoldsFile name []) (sym kept) (holds_found files name [] load.file load.told (ap content (found_absent load)))

pub holds_bytes : (files files' : Option Files) (name bytes : List ℕ) (limit : ℕ) → IsLoad files name limit (loaded.Bytes bytes) → files' ≡ files → HoldsFile name bytes files'
holds_bytes files files' name bytes limit load kept = subst (HoldsFile name bytes) (sym kept) (holds_found files name bytes load.file load.told (ap content (found_bytes bytes load)))
