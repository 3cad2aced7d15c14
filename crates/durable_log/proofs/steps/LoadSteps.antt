-- A file that is loaded from records, record by record.
use Rattle.std.proofs.Common.{◌≡◌, ◌≢◌, ℕ, ◌+◌, ◌<◌, ◌≤◌, Bool, true, false, cond, eqb, List, [], ◌++◌, length, take, drop, replicate, Option, None, Some, IfSome, Result, Ok, Err, IfOk, MatchBool, nat_cmp, refl, sym, ◌∙◌, ap, subst, arith, length-append, take_all, take_at, drop-drop, append_assoc, ⊎_elim}
use Rattle.std.specs.Option.{option_map}
use Rattle.std.proofs.lemmas.Bool.{cases_Bool, cases_lt}
use Rattle.tcm_edges.specs.declared.fault.LoadFault.{LoadFault}
use Rattle.tcm_edges.specs.declared.store.Loaded.{Loaded}
use Rattle.tcm_edges.specs.declared.store.Loaded.TheVariants.{Bytes, Absent, TooLarge}
use Rattle.tcm_edges.specs.Files.{Files, IsLoad, content, file_of, loaded_of}
use Rattle.tcm_edges.proofs.FileLemmas.{IsLoad-bytes, IsLoad-too_large, file_of-put, file_of-put_other}
use Rattle.std.specs.Cmp.Lexicographic.{slice_cmp}
use Rattle.std.specs.FinMap as map
use Rattle.durable_log.specs.declared.scan.RecordHeader.{RecordHeader}
use Rattle.durable_log.specs.Records.{Change, change_of, changed, changed_all, files, is_whole, number_at, records}
use Rattle.durable_log.specs.Ends.{IsEnd, IsFront}
use Rattle.durable_log.specs.code.Headers.{header_len, header_of, whole_header}
use Rattle.durable_log.specs.code.Loads.{FitsLimit, bytes_at, front_of}
use Rattle.durable_log.proofs.disks.Crash.{changed_all_push, files_end}
use Rattle.durable_log.proofs.records.Fronts.{front_more, front_none, records_more}
use Rattle.durable_log.proofs.records.Headers.{whole_some}
use Rattle.durable_log.proofs.records.RecordLemmas.{records_none}

-- ---- a piece of the disk

abbrev pub IsPiece : Option (List ℕ) → ℕ → ℕ → Type 0
IsPiece told at len = IfSome told (λ on. at + len ≤ length on)

-- a buffer that was filled from the disk as far as it goes is full, where the piece lies within the disk
filled : (at n : ℕ) (on buf : List ℕ) → at + length buf ≤ length on → n ≤ length buf → take n buf ≡ take n (drop at on) → (n < length buf → length on ≤ at + n) → buf ≡ bytes_at at (length buf) on
filled at n on buf within le front short =
    let e : n ≡ length buf = ⊎_elim (λ lt. absurd (omega (arith, short lt))) (λ ge. omega arith) (cases_lt n (length buf)) in
    sym (take_all n buf (omega (arith, e))) ∙ front ∙ ap (λ (k : ℕ). take k (drop at on)) e

-- a buffer behind the bytes that were there
pub behind : (start end : ℕ) (old all buf post rest : List ℕ) → take start all ≡ old → length old + length buf ≡ end → take end ((take start all ++ (buf ++ post)) ++ rest) ≡ old ++ buf
behind start end old all buf post rest front long =
    ap (λ (l : List ℕ). take end ((l ++ (buf ++ post)) ++ rest)) front
    ∙ ap (λ (l : List ℕ). take end (l ++ rest)) (sym (append_assoc old buf post))
    ∙ ap (λ (l : List ℕ). take end l) (append_assoc (old ++ buf) post rest)
    ∙ take_at (old ++ buf) (post ++ rest) end (omega (arith, length-append old buf))

-- a list that was made longer
pub longer : (start end : ℕ) (old new : List ℕ) (more : ℕ) → length old ≡ start → start ≤ end → new ≡ take end old ++ replicate more 0 → take start new ≡ old
longer start end old new more long le is =
    ap (λ (l : List ℕ). take start l) is
    ∙ ap (λ (l : List ℕ). take start (l ++ replicate more 0)) (take_all end old (omega arith))
    ∙ take_at old (replicate more 0) start long

pub piece_added : (told : Option (List ℕ)) (at len n : ℕ) (old buf new : List ℕ) → new ≡ old ++ buf → length buf ≡ len → IsPiece told at len → n ≤ length buf
    → IfSome told (λ on. (take n buf ≡ take n (drop at on)) × (n < length buf → length on ≤ at + n)) → IfSome told (λ on. new ≡ old ++ bytes_at at len on)
piece_added None at len n old buf new is long within le reads = tt
piece_added (Some on) at len n old buf new is long within le reads =
    is ∙ ap (λ (l : List ℕ). old ++ l) (filled at n on buf (omega arith) le reads.0 reads.1 ∙ ap (λ (k : ℕ). bytes_at at k on) long)

-- ---- a record more

-- what the header says of the record
module _ (at : ℕ) (on : List ℕ) (header : RecordHeader) (found : Some header ≡ whole_header (drop at on)) where
  abbrev change : Change
  change = change_of (drop at on)

  is : header ≡ header_of (drop at on)
  is = (whole_some (drop at on) header found).1

  name_there : bytes_at (at + 18) header.name_len on ≡ change.name
  name_there =
      ap (λ (h : RecordHeader). bytes_at (at + 18) h.name_len on) is
      ∙ ap (λ (l : List ℕ). take (number_at 2 (drop at on)) l) (sym (drop-drop 18 at on))

  bytes_there : bytes_at (at + 18 + header.name_len) header.bytes_len on ≡ change.bytes
  bytes_there =
      ap (λ (h : RecordHeader). bytes_at (at + 18 + h.name_len) h.bytes_len on) is
      ∙ ap (λ (n : ℕ). bytes_at n (number_at 10 (drop at on)) on) (omega arith)
      ∙ ap (λ (l : List ℕ). take (number_at 10 (drop at on)) l) (sym (drop-drop (18 + number_at 2 (drop at on)) at on))

  kind_there : header.kind ≡ change.kind
  kind_there = ap (λ (h : RecordHeader). h.kind) is

  -- a record of another name
  pub other_kept : (all : Files) (name : List ℕ) → bytes_at (at + 18) header.name_len on ≢ name → file_of (changed all change) name ≡ file_of all name
  other_kept all name apart = file_of-put_other all change.name _ name (λ same. apart (name_there ∙ sym same))

  -- the file of which a record of the name keeps the front
  abbrev kept_file : Files → List ℕ → Option (List ℕ)
  kept_file all name = cond (eqb header.kind 0) (file_of all name) None

  front_is : (all : Files) (name : List ℕ) (limit : ℕ) (before : Loaded) → before ≡ loaded_of (file_of all name) limit → front_of header.kind before ≡ loaded_of (kept_file all name) limit
  front_is all name limit before same = by (eqb header.kind 0)
    where
      by : (b : Bool) → cond b before Absent ≡ loaded_of (cond b (file_of all name) None) limit
      by true = same
      by false = refl

  file_is : (all : Files) (name : List ℕ) → bytes_at (at + 18) header.name_len on ≡ name
      → Some (content (kept_file all name) ++ bytes_at (at + 18 + header.name_len) header.bytes_len on) ≡ file_of (changed all change) name
  file_is all name same =
      let named : change.name ≡ name = sym name_there ∙ same in
      let piece = bytes_at (at + 18 + header.name_len) header.bytes_len on in
      let whole : content (kept_file all name) ++ piece ≡ cond (eqb change.kind 0) (content (file_of all change.name) ++ change.bytes) change.bytes =
      by (eqb header.kind 0) piece
      ∙ ap (λ (l : List ℕ). cond (eqb header.kind 0) (content (file_of all name) ++ l) l) bytes_there
      ∙ ap (λ (k : ℕ). cond (eqb k 0) (content (file_of all name) ++ change.bytes) change.bytes) kind_there
      ∙ ap (λ (n : List ℕ). cond (eqb change.kind 0) (content (file_of all n) ++ change.bytes) change.bytes) (sym named) in
      ap (λ (l : List ℕ). Some l) whole
      ∙ sym (file_of-put all change.name _)
      ∙ ap (λ (n : List ℕ). file_of (changed all change) n) named
    where
      by : (b : Bool) (piece : List ℕ) → content (cond b (file_of all name) None) ++ piece ≡ cond b (content (file_of all name) ++ piece) piece
      by true piece = refl
      by false piece = refl

  pub record_taken : (all : Files) (name : List ℕ) (limit : ℕ) (before after : Loaded) → bytes_at (at + 18) header.name_len on ≡ name
      → ((file : Option (List ℕ)) → front_of header.kind before ≡ loaded_of file limit → after ≡ loaded_of (Some (content file ++ bytes_at (at + 18 + header.name_len) header.bytes_len on)) limit)
      → before ≡ loaded_of (file_of all name) limit → after ≡ loaded_of (file_of (changed all change) name) limit
  record_taken all name limit before after same extends is_before =
      extends (kept_file all name) (front_is all name limit before is_before)
      ∙ ap (λ (file : Option (List ℕ)). loaded_of file limit) (file_is all name same)

abbrev pub Taken : ℕ → List ℕ → ℕ → Loaded → Loaded → List ℕ → Type 0
Taken at name limit before after on = (all : Files) → before ≡ loaded_of (file_of all name) limit → after ≡ loaded_of (file_of (changed all (change_of (drop at on))) name) limit

pub other_told : (told : Option (List ℕ)) (at limit : ℕ) (header : RecordHeader) (name : List ℕ) (before : Loaded) → IfSome told (λ on. Some header ≡ whole_header (drop at on))
    → IfSome told (λ on. bytes_at (at + 18) header.name_len on ≢ name) → IfSome told (Taken at name limit before before)
other_told None at limit header name before found apart = tt
other_told (Some on) at limit header name before found apart = λ all is.
    is ∙ ap (λ (file : Option (List ℕ)). loaded_of file limit) (sym (other_kept at on header found all name apart))

taken_told : (told told' : Option (List ℕ)) (at limit : ℕ) (header : RecordHeader) (name : List ℕ) (before after : Loaded) → told' ≡ told → IfSome told (λ on. Some header ≡ whole_header (drop at on))
    → IfSome told (λ on. bytes_at (at + 18) header.name_len on ≡ name)
    → IfSome told' (λ on. (file : Option (List ℕ)) → front_of header.kind before ≡ loaded_of file limit → after ≡ loaded_of (Some (content file ++ bytes_at (at + 18 + header.name_len) header.bytes_len on)) limit)
    → IfSome told (Taken at name limit before after)
taken_told None told' at limit header name before after kept found same extends = tt
taken_told (Some on) told' at limit header name before after kept found same extends = λ all is.
    let there = subst (λ (o : Option (List ℕ)). IfSome o (λ (l : List ℕ). (file : Option (List ℕ)) → front_of header.kind before ≡ loaded_of file limit → after ≡ loaded_of (Some (content file ++ bytes_at (at + 18 + header.name_len) header.bytes_len l)) limit)) kept extends in
    record_taken at on header found all name limit before after same there is

pub taken_ok : (r : Result Loaded LoadFault) (told told' : Option (List ℕ)) (at limit : ℕ) (header : RecordHeader) (name : List ℕ) (before front : Loaded) → front ≡ front_of header.kind before → told' ≡ told
    → IfSome told (λ on. Some header ≡ whole_header (drop at on)) → IfSome told (λ on. bytes_at (at + 18) header.name_len on ≡ name)
    → IfOk r (λ after. IfSome told' (λ on. (file : Option (List ℕ)) → front ≡ loaded_of file limit → after ≡ loaded_of (Some (content file ++ bytes_at (at + 18 + header.name_len) header.bytes_len on)) limit))
    → IfOk r (λ after. IfSome told (Taken at name limit before after))
taken_ok (Err e) told told' at limit header name before front is_front kept found same extends = tt
taken_ok (Ok after) told told' at limit header name before front is_front kept found same extends =
    taken_told told told' at limit header name before after kept found same
    (subst (λ (f : Loaded). IfSome told' (λ on. (file : Option (List ℕ)) → f ≡ loaded_of file limit → after ≡ loaded_of (Some (content file ++ bytes_at (at + 18 + header.name_len) header.bytes_len on)) limit)) is_front extends)

-- ---- all records

abbrev pub LoadedSoFar : List ℕ → ℕ → ℕ → Loaded → List ℕ → Type 0
LoadedSoFar name limit at loaded on = loaded ≡ loaded_of (file_of (files (take at on)) name) limit

pub load_begins : (told : Option (List ℕ)) (name : List ℕ) (limit : ℕ) → IfSome told (LoadedSoFar name limit 0 Absent)
load_begins None name limit = tt
load_begins (Some on) name limit = ap (λ (file : Option (List ℕ)). loaded_of file limit) (sym (map.get-empty (slice_cmp nat_cmp) name))

pub front_begins : (told : Option (List ℕ)) → IfSome told (IsFront 0)
front_begins None = tt
front_begins (Some on) = front_none on

-- the header that was found, and what its record makes of the file
pub load_goes_on : (told found_in taken_in : Option (List ℕ)) (at limit : ℕ) (header : RecordHeader) (name : List ℕ) (before after : Loaded) → found_in ≡ told → taken_in ≡ told → IfSome told (IsFront at)
    → IfSome found_in (λ on. Some header ≡ whole_header (drop at on)) → IfSome told (LoadedSoFar name limit at before) → IfSome taken_in (Taken at name limit before after)
    → IfSome told (LoadedSoFar name limit (at + header_len header) after) × IfSome told (IsFront (at + header_len header))
load_goes_on None found_in taken_in at limit header name before after same_found same_taken front found so_far taken = (tt, tt)
load_goes_on (Some on) found_in taken_in at limit header name before after same_found same_taken front found so_far taken =
    let here = whole_some (drop at on) header (subst (λ (o : Option (List ℕ)). IfSome o (λ (l : List ℕ). Some header ≡ whole_header (drop at l))) same_found found) in
    let step : Taken at name limit before after on = subst (λ (o : Option (List ℕ)). IfSome o (Taken at name limit before after)) same_taken taken in
    let more : files (take (at + header_len header) on) ≡ changed (files (take at on)) (change_of (drop at on)) =
    ap (λ (h : RecordHeader). files (take (at + header_len h) on)) here.1
    ∙ ap (λ (l : List Change). changed_all map.empty l) (records_more at on front here.0)
    ∙ changed_all_push map.empty (records (take at on)) (change_of (drop at on)) in (
      step (files (take at on)) so_far ∙ ap (λ (all : Files). loaded_of (file_of all name) limit) (sym more),
      subst (λ (n : ℕ). IsFront (at + n) on) (sym (ap header_len here.1)) (front_more at on front here.0),
    )

-- a load of a store that doesn't tell its files
untold_load : (name : List ℕ) (limit : ℕ) (loaded : Loaded) → FitsLimit limit loaded → IsLoad None name limit loaded
untold_load name limit (Bytes bytes) fits = IsLoad-bytes name bytes limit fits
untold_load name limit Absent fits = record { file = None; told = tt; answer = refl }
untold_load name limit (TooLarge size) fits = IsLoad-too_large name limit size fits

pub load_ends : (told told' : Option (List ℕ)) (at limit : ℕ) (name : List ℕ) (loaded : Loaded) → told' ≡ told → FitsLimit limit loaded → IfSome told (IsFront at)
    → IfSome told' (λ on. None ≡ whole_header (drop at on)) → IfSome told (LoadedSoFar name limit at loaded) → IsLoad (option_map files told) name limit loaded
load_ends None told' at limit name loaded kept fits front found so_far = untold_load name limit loaded fits
load_ends (Some on) told' at limit name loaded kept fits front found so_far =
    let here : None ≡ whole_header (drop at on) = subst (λ (o : Option (List ℕ)). IfSome o (λ (l : List ℕ). None ≡ whole_header (drop at l))) kept found in
    let end : IsEnd at on = record { front = front; nothing = no_record (drop at on) here } in
    record {
      file = file_of (files on) name;
      told = refl;
      answer = so_far ∙ ap (λ (all : Files). loaded_of (file_of all name) limit) (sym (files_end at on end));
    }
  where
    no_record : (bytes : List ℕ) → None ≡ whole_header bytes → records bytes ≡ []
    no_record bytes none = ⊎_elim (λ yes. absurd (cc (rw yes at none))) (λ no. records_none bytes no) (cases_Bool (is_whole bytes))

-- ---- by what was read

pub is_other : (told : Option (List ℕ)) (b : Bool) (P Q : List ℕ → Type 0) → b ≡ false → IfSome told (λ on. MatchBool b (P on) (Q on)) → IfSome told Q
is_other None b P Q is_false either = tt
is_other (Some on) b P Q is_false either = subst (λ (t : Bool). MatchBool t (P on) (Q on)) is_false either

pub is_same : (told : Option (List ℕ)) (b : Bool) (P Q : List ℕ → Type 0) → b ≡ true → IfSome told (λ on. MatchBool b (P on) (Q on)) → IfSome told P
is_same None b P Q is_true either = tt
is_same (Some on) b P Q is_true either = subst (λ (t : Bool). MatchBool t (P on) (Q on)) is_true either
