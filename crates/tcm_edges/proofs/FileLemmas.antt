-- Lemmas on files, and on a list of files as a map.
use Rattle.std.proofs.Common.{◌≡◌, ◌≢◌, ℕ, suc, ◌+◌, ◌<◌, ◌≤◌, Bool, true, false, cond, not, ltb, List, [], ◌∷◌, ◌++◌, Option, Some, None, refl, sym, ap, ◌∙◌, subst, length, get_or, set, position, arith, add_comm, add-one, take, inl, inr, ◌==◌, replicate}
use Rattle.std.specs.List.{list_any, position_or_len}
use Rattle.std.specs.Ordering.{nat_cmp, eq_by_cmp}
use Rattle.std.specs.Cmp.Lexicographic.{slice_cmp}
use Rattle.std.specs.FinMap as map
use Rattle.std.specs.Str.{bytes_eq}
use Rattle.std.proofs.lemmas.Map.Text.{is_eq-slice_cmp}
use Rattle.std.proofs.lemmas.Cmp.{nat_list_cmp_total}
use Rattle.std.proofs.lemmas.Slice.Eq.{bytes_eq-Decides}
use Rattle.std.proofs.lemmas.Bool.{le-leb, lt-leb, ltb-true, ltb-false, false≢true, false_from_ne_true, or_from, or_parts}
use Rattle.std.proofs.lemmas.List.{length-replicate}
use Rattle.std.proofs.Math.Seq.{get_or-append_seam, set-append_seam}
use Rattle.tcm_edges.specs.declared.store.Loaded.TheVariants.{Bytes, TooLarge}
use Rattle.tcm_edges.specs.FailingFiles.{after_append, after_failed_append, after_failed_replace}
use Rattle.tcm_edges.specs.Files.{Files, content, file_of, untold_files, GainsPart, IsLoad, IsOldOrNew}
use Rattle.tcm_edges.specs.code.StoredFiles.{is_named}

-- ---- names

-- the test of the map is the test of bytes
abbrev same : List ℕ → List ℕ → Bool
same a b = eq_by_cmp (slice_cmp nat_cmp) a b

same_test : (a b : List ℕ) → eq_by_cmp (slice_cmp nat_cmp) a b ≡ bytes_eq a b
same_test a b = is_eq-slice_cmp a b

named_itself : (a : List ℕ) → bytes_eq a a ≡ true
named_itself a = (bytes_eq-Decides a a).1 refl

same_name : (a b : List ℕ) → bytes_eq a b ≡ true → a ≡ b
same_name a b e = (bytes_eq-Decides a b).0 e

named_other : (a b : List ℕ) → a ≢ b → bytes_eq a b ≡ false
named_other a b apart = false_from_ne_true (bytes_eq a b) (λ e. apart (same_name a b e))

-- ---- a file put into a map

pub file_of-put : (all : Files) (name bytes : List ℕ) → file_of (map.insert all name bytes) name ≡ Some bytes
file_of-put all name bytes =
    map.get-insert nat_list_cmp_total all name bytes name ∙ ap (λ b. cond b (Some bytes) (map.get all name)) (same_test name name ∙ named_itself name)

pub file_of-put_other : (all : Files) (name bytes other : List ℕ) → other ≢ name → file_of (map.insert all name bytes) other ≡ file_of all other
file_of-put_other all name bytes other apart =
    map.get-insert nat_list_cmp_total all name bytes other ∙ ap (λ b. cond b (Some bytes) (map.get all other)) (same_test other name ∙ named_other other name apart)

-- ---- files in a list

abbrev pub File : Type 0
File = List ℕ × List ℕ

-- the first file of a name, at its place
record Found (name : List ℕ) (files : List File) (at : ℕ) : Type 0 where
  pre : List File
  item : File
  post : List File
  whole : files ≡ pre ++ item ∷ post
  place : length pre ≡ at
  named : is_named name item ≡ true
  before : list_any (is_named name) pre ≡ false

found : (name : List ℕ) (files : List File) (at : ℕ) → at ≡ position_or_len (is_named name) files → at < length files → Found name files at
found name [] at is_at within = absurd (omega arith)
found name (file ∷ files) at is_at within = by (is_named name file) refl (found name files (position_or_len (is_named name) files) refl)
  where
    by : (t : Bool) → is_named name file ≡ t → (position_or_len (is_named name) files < length files → Found name files (position_or_len (is_named name) files)) → Found name (file ∷ files) at
    by true e rest = record {
      pre = [];
      item = file;
      post = files;
      whole = refl;
      named = e;
      before = refl;
      place = sym (is_at ∙ ap (λ t. cond (not t) (1 + position_or_len (is_named name) files) 0) e);
    }
    by false e rest =
        let later : at ≡ 1 + position_or_len (is_named name) files = is_at ∙ ap (λ t. cond (not t) (1 + position_or_len (is_named name) files) 0) e in
        let it = rest (omega arith) in
        record {
          pre = file ∷ it.pre;
          item = it.item;
          post = it.post;
          named = it.named;
          whole = ap (λ l. file ∷ l) it.whole;
          place = ap suc it.place ∙ sym (later ∙ add_comm 1 _ ∙ add-one _);
          before = or_from _ _ e it.before;
        }

-- in a list, the value of the first file of a name
abbrev first : List ℕ → List File → Option (List ℕ)
first name files = map.find (slice_cmp nat_cmp) name files

first-at : (name : List ℕ) (pre : List File) (item : File) (post : List File) → is_named name item ≡ true → list_any (is_named name) pre ≡ false
    → first name (pre ++ item ∷ post) ≡ Some item.1
first-at name [] item post is before = ap (λ t. cond t (Some item.1) (first name post)) (same_test name item.0 ∙ is)
first-at name (file ∷ pre) item post is before =
    ap (λ t. cond t (Some file.1) (first name (pre ++ item ∷ post))) (same_test name file.0 ∙ (or_parts (is_named name file) (list_any (is_named name) pre) before).0)
    ∙ first-at name pre item post is (or_parts (is_named name file) (list_any (is_named name) pre) before).1

-- a value that is given twice under one test
twice : (t : Bool) (x y z : Option (List ℕ)) → cond t x z ≡ cond t x (cond t y z)
twice true x y z = refl
twice false x y z = refl

-- two tests that do not both hold may stand in either order
swapped : (s t : Bool) (x y z : Option (List ℕ)) → (s ≡ true → t ≡ true → ⊥) → cond s x (cond t y z) ≡ cond t y (cond s x z)
swapped true true x y z apart = absurd (apart refl refl)
swapped true false x y z apart = refl
swapped false t x y z apart = refl

first-changed : (name : List ℕ) (pre : List File) (item : File) (post : List File) (bytes other : List ℕ)
    → is_named name item ≡ true → list_any (is_named name) pre ≡ false
    → first other (pre ++ (item.0, bytes) ∷ post) ≡ cond (same other name) (Some bytes) (first other (pre ++ item ∷ post))
first-changed name [] item post bytes other is before =
    twice (same other item.0) (Some bytes) (Some item.1) (first other post)
    ∙ ap (λ n. cond (same other n) (Some bytes) (cond (same other item.0) (Some item.1) (first other post))) (sym (same_name name item.0 is))
first-changed name (file ∷ pre) item post bytes other is before =
    let apart : same other file.0 ≡ true → same other name ≡ true → ⊥ =
    λ e f. false≢true (sym (or_parts (is_named name file) (list_any (is_named name) pre) before).0 ∙ ap (λ n. bytes_eq n file.0) (sym (same_name other name (sym (same_test other name) ∙ f))) ∙ sym (same_test other file.0) ∙ e) in
    ap (λ r. cond (same other file.0) (Some file.1) r) (first-changed name pre item post bytes other is (or_parts (is_named name file) (list_any (is_named name) pre) before).1)
    ∙ swapped (same other file.0) (same other name) (Some file.1) (Some bytes) (first other (pre ++ item ∷ post)) apart

none_first : (name : List ℕ) (files : List File) → list_any (is_named name) files ≡ false → first name files ≡ None
none_first name [] none = refl
none_first name (file ∷ files) none =
    ap (λ t. cond t (Some file.1) (first name files)) (same_test name file.0 ∙ (or_parts (is_named name file) (list_any (is_named name) files) none).0) ∙ none_first name files (or_parts (is_named name file) (list_any (is_named name) files) none).1

-- ---- the place of a file

-- a place that was found is within the list, and is the first of the name
placed : (name : List ℕ) (files : List File) (at : ℕ) → position (is_named name) files ≡ Some at → Found name files at
placed name files at e = by (ltb (position_or_len (is_named name) files) (length files)) refl e
  where
    by : (t : Bool) → ltb (position_or_len (is_named name) files) (length files) ≡ t → cond t (Some (position_or_len (is_named name) files)) None ≡ Some at → Found name files at
    by true within e =
        let same_place : at ≡ position_or_len (is_named name) files = cc in
        found name files at same_place (omega (arith, ltb-true (position_or_len (is_named name) files) (length files) within))
    by false within e = absurd (cc)

none_named : (name : List ℕ) (files : List File) → length files ≤ position_or_len (is_named name) files → list_any (is_named name) files ≡ false
none_named name [] h = refl
none_named name (file ∷ files) h = by (is_named name file) refl (none_named name files)
  where
    by : (t : Bool) → is_named name file ≡ t → (length files ≤ position_or_len (is_named name) files → list_any (is_named name) files ≡ false) → list_any (is_named name) (file ∷ files) ≡ false
    by true e rest = absurd (omega (arith, h, ap (λ t. cond (not t) (1 + position_or_len (is_named name) files) 0) e))
    by false e rest = or_from _ _ e (rest (omega (arith, h, ap (λ t. cond (not t) (1 + position_or_len (is_named name) files) 0) e)))

unplaced : (name : List ℕ) (files : List File) → position (is_named name) files ≡ None → list_any (is_named name) files ≡ false
unplaced name files e = by (ltb (position_or_len (is_named name) files) (length files)) refl e
  where
    by : (t : Bool) → ltb (position_or_len (is_named name) files) (length files) ≡ t → cond t (Some (position_or_len (is_named name) files)) None ≡ None → list_any (is_named name) files ≡ false
    by true within e = absurd (cc)
    by false within e = none_named name files (ltb-false (position_or_len (is_named name) files) (length files) within)

abbrev pub as_map : List File → Files
as_map files = map.from_entries files

read_placed : (name : List ℕ) (files : List File) (at : ℕ) (d : File) (it : Found name files at) → get_or files at d ≡ it.item
read_placed name files at d it =
    ap (λ l. get_or l at d) it.whole ∙ ap (λ k. get_or (it.pre ++ it.item ∷ it.post) k d) (sym it.place) ∙ get_or-append_seam it.pre it.item it.post d

pub file_of-placed : (name : List ℕ) (files : List File) (at : ℕ) (d : File) → position (is_named name) files ≡ Some at → file_of (as_map files) name ≡ Some (get_or files at d).1
file_of-placed name files at d e =
    let it = placed name files at e in
    map.get-from_entries nat_list_cmp_total files name ∙ ap (first name) it.whole ∙ first-at name it.pre it.item it.post it.named it.before ∙ ap (λ (file : File). Some file.1) (sym (read_placed name files at d it))

pub file_of-unplaced : (name : List ℕ) (files : List File) → position (is_named name) files ≡ None → file_of (as_map files) name ≡ None
file_of-unplaced name files e = map.get-from_entries nat_list_cmp_total files name ∙ none_first name files (unplaced name files e)

changed_placed : (name : List ℕ) (files : List File) (at : ℕ) (d : File) (bytes : List ℕ) → position (is_named name) files ≡ Some at
    → as_map (set files at ((get_or files at d).0, bytes)) ≡ map.insert (as_map files) name bytes
changed_placed name files at d bytes e =
    let it = placed name files at e in
    let pre = it.pre in
    let post = it.post in
    let was = it.item in
    let changed : File = (was.0, bytes) in
    let there : set files at ((get_or files at d).0, bytes) ≡ pre ++ changed ∷ post =
    ap (λ (file : File). set files at (file.0, bytes)) (read_placed name files at d it)
    ∙ ap (λ l. set l at changed) it.whole ∙ ap (λ k. set (pre ++ was ∷ post) k changed) (sym it.place) ∙ set-append_seam pre was post changed in
    ap as_map there
    ∙ map.same_map nat_list_cmp_total (map.slice_cmp-IsAntisymmetric map.nat_cmp-IsAntisymmetric) (as_map (pre ++ changed ∷ post)) (map.insert (as_map files) name bytes)
    (λ q. map.get-from_entries nat_list_cmp_total (pre ++ changed ∷ post) q ∙ first-changed name pre was post bytes q it.named it.before
    ∙ sym (map.get-insert nat_list_cmp_total (as_map files) name bytes q ∙ ap (cond (same q name) (Some bytes)) (map.get-from_entries nat_list_cmp_total files q ∙ ap (first q) it.whole)))

-- a file that is changed at its place is put
pub put_placed : (all : Files) (name bytes : List ℕ) (files : List File) (at : ℕ) (d now : File) → as_map files ≡ all → position (is_named name) files ≡ Some at
    → now.0 ≡ (get_or files at d).0 → now.1 ≡ bytes → as_map (set files at now) ≡ map.insert all name bytes
put_placed all name bytes files at d now is_all e is_name is_bytes =
    ap (λ n. as_map (set files at (n, now.1))) is_name ∙ ap (λ b. as_map (set files at ((get_or files at d).0, b))) is_bytes
    ∙ changed_placed name files at d bytes e ∙ ap (λ all. map.insert all name bytes) is_all

pub put_placed-more : (all : Files) (name more : List ℕ) (files : List File) (at : ℕ) (d now : File) → as_map files ≡ all → position (is_named name) files ≡ Some at
    → now.0 ≡ (get_or files at d).0 → now.1 ≡ (get_or files at d).1 ++ more → as_map (set files at now) ≡ map.insert all name (content (file_of all name) ++ more)
put_placed-more all name more files at d now is_all e is_name is_bytes =
    let was : file_of all name ≡ Some (get_or files at d).1 = ap (λ all. file_of all name) (sym is_all) ∙ file_of-placed name files at d e in
    put_placed all name _ files at d now is_all e is_name (is_bytes ∙ ap (λ file. content file ++ more) (sym was))

-- a file that is added where there was none is put
pub put_unplaced : (all : Files) (name bytes : List ℕ) (files : List File) (now : File) → as_map files ≡ all → position (is_named name) files ≡ None
    → now.0 ≡ name → now.1 ≡ bytes → as_map (files ++ now ∷ []) ≡ map.insert all name bytes
put_unplaced all name bytes files now is_all e is_name is_bytes =
    ap (λ n. as_map (files ++ (n, now.1) ∷ [])) is_name ∙ ap (λ b. as_map (files ++ (name, b) ∷ [])) is_bytes
    ∙ map.from_entries_push nat_list_cmp_total (map.slice_cmp-IsAntisymmetric map.nat_cmp-IsAntisymmetric) files name bytes (none_first name files (unplaced name files e))
    ∙ ap (λ all. map.insert all name bytes) is_all

-- ---- a load of a store that does not tell its files

pub IsLoad-too_large : (name : List ℕ) (limit size : ℕ) → limit < size → IsLoad untold_files name limit (TooLarge size)
IsLoad-too_large name limit size above =
    let file : List ℕ = replicate size 0 in
    let is_long : length file ≡ size = length-replicate size 0 in
    record {
      file = Some file;
      told = tt;
      answer = ap TooLarge (sym is_long) ∙ ap (λ b. cond b (Bytes file) (TooLarge (length file))) (sym (lt-leb (length file) limit (omega (arith, is_long))));
    }

pub IsLoad-bytes : (name bytes : List ℕ) (limit : ℕ) → length bytes ≤ limit → IsLoad untold_files name limit (Bytes bytes)
IsLoad-bytes name bytes limit within =
    record { file = Some bytes; told = tt; answer = ap (λ b. cond b (Bytes bytes) (TooLarge (length bytes))) (sym (le-leb (length bytes) limit within)) }

-- ---- calls that fail by a list

-- a failed append that kept some of the bytes
pub GainsPart-kept : (all was new : Files) (name bytes kept : List ℕ) (n : ℕ) → was ≡ all → new ≡ after_failed_append was name kept → kept ≡ take n bytes
    → GainsPart bytes (file_of all name) (file_of new name)
GainsPart-kept all was new name bytes kept n is_all is_new e =
    let P : Files → Type 0 = λ f. GainsPart bytes (file_of all name) (file_of f name) in
    subst P (sym (is_new ∙ ap (λ f. after_failed_append f name kept) is_all)) (by (length kept == 0))
  where
    by : (b : Bool) → GainsPart bytes (file_of all name) (file_of (cond b all (after_append all name kept)) name)
    by true = inl refl
    by false = inr (n, file_of-put all name _ ∙ ap (λ l. Some (content (file_of all name) ++ l)) e)

pub other-kept_append : (all was new : Files) (name kept other : List ℕ) → was ≡ all → new ≡ after_failed_append was name kept → other ≢ name
    → file_of new other ≡ file_of all other
other-kept_append all was new name kept other is_all is_new apart =
    ap (λ f. file_of f other) (is_new ∙ ap (λ f. after_failed_append f name kept) is_all) ∙ by (length kept == 0)
  where
    by : (b : Bool) → file_of (cond b all (after_append all name kept)) other ≡ file_of all other
    by true = refl
    by false = file_of-put_other all name _ other apart

-- a failed replace that kept nothing, or the new contents
pub IsOldOrNew-kept : (all was new : Files) (name bytes : List ℕ) (keep : ℕ) → was ≡ all → new ≡ after_failed_replace was name bytes keep
    → IsOldOrNew bytes (file_of all name) (file_of new name)
IsOldOrNew-kept all was new name bytes keep is_all is_new =
    let P : Files → Type 0 = λ f. IsOldOrNew bytes (file_of all name) (file_of f name) in
    subst P (sym (is_new ∙ ap (λ f. after_failed_replace f name bytes keep) is_all)) (by (keep == 0))
  where
    by : (b : Bool) → IsOldOrNew bytes (file_of all name) (file_of (cond b all (map.insert all name bytes)) name)
    by true = inl refl
    by false = inr (file_of-put all name bytes)

pub other-kept_replace : (all was new : Files) (name bytes : List ℕ) (keep : ℕ) (other : List ℕ) → was ≡ all → new ≡ after_failed_replace was name bytes keep → other ≢ name
    → file_of new other ≡ file_of all other
other-kept_replace all was new name bytes keep other is_all is_new apart =
    ap (λ f. file_of f other) (is_new ∙ ap (λ f. after_failed_replace f name bytes keep) is_all) ∙ by (keep == 0)
  where
    by : (b : Bool) → file_of (cond b all (map.insert all name bytes)) other ≡ file_of all other
    by true = refl
    by false = file_of-put_other all name bytes other apart
