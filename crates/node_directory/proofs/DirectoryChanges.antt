-- What the changes of a directory leave of its entries.
use Rattle.std.proofs.Common.{◌≡◌, ℕ, ◌+◌, true, false, List, [], ◌∷◌, ◌++◌, remove, set, slice_get, string_bytes, IsTrue, None, Some, sym, ap, ◌∙◌, arith}
use Rattle.std.specs.Map.{values_of}
use Rattle.std.specs.String.{string_eq}
use Rattle.std.specs.declared.string.String.{String}
use Rattle.indexmap.specs.IndexMap.{insert_entry}
use Rattle.indexmap.specs.Layout.{set_value_at}
use Rattle.cluster_terms.specs.declared.node.NodeRow.{NodeRow}
use Rattle.node_directory.specs.Directory.{Registry, are_ascending, names_are_distinct, ids_of, node_names, is_directory, node_named, registered, other_rows, marked_left}
use Rattle.node_directory.specs.code.StoredRows.{AreNamed, IsKept, IsPlace}
use Rattle.node_directory.proofs.NodeRows.{ascending_lower, directory_from, directory-registered, directory-other_rows, directory-marked_left, absent-from_free}
use Rattle.node_directory.proofs.StoredRowLemmas.{AreNamed-insert, values-insert, AreNamed-remove, values-remove, values-set, AreNamed-marked_left}
use Rattle.node_directory.proofs.RowSearch.{other_rows-place, marked_left-place}

module _ {Y : Type 0} where
  -- what a directory is seen as
  abbrev pub shown : List (String Y × NodeRow) → ℕ → Registry
  shown es next = record { rows = values_of es; next = next }

  -- the entries of these rows
  pub kept-from_rows : (es : List (String Y × NodeRow)) (rows : List NodeRow) (next : ℕ) → AreNamed es → values_of es ≡ rows → true ≡ are_ascending 1 (ids_of rows) next → names_are_distinct (node_names rows) ≡ true → IsKept es next
  kept-from_rows es rows next named same ids names =
      (named, rw same (directory_from 0 rows next (ascending_lower 0 1 (ids_of rows) next (omega arith) (sym ids)) names))

  -- the entries once a node is registered
  pub record IsRegistered (new : List (String Y × NodeRow)) (d : Registry) (next : ℕ) (name dc rack : List ℕ) : Type 0 where
    pub kept : IsKept new (next + 1)
    pub shows : shown new (next + 1) ≡ registered d name dc rack

  pub kept-registered : (es new : List (String Y × NodeRow)) (d : Registry) (next : ℕ) (key : String Y) (name dc rack : List ℕ) → IsKept es next → shown es next ≡ d → node_named d.rows name ≡ None → string_bytes key ≡ name
      → new ≡ insert_entry string_eq es key (record { id = next; name = name; dc = dc; rack = rack; left = false }) → IsRegistered new d next name dc rack
  kept-registered es new d next key name dc rack kept shows free same is =
      let row : NodeRow = record { id = next; name = name; dc = dc; rack = rack; left = false } in
      let free_here : node_named (values_of es) name ≡ None = ap (λ (d : Registry). node_named d.rows name) shows ∙ free in
      let absent = absent-from_free (values_of es) name free_here in
      let rows : values_of new ≡ values_of es ++ row ∷ [] = values-insert es new key row is kept.0 same absent in
      record {
        kept = (AreNamed-insert es new key row is kept.0 same absent, rw rows (directory-registered (shown es next) name dc rack kept.1 free_here));
        shows = ap (λ (rows : List NodeRow). let r : Registry = record { rows = rows; next = next + 1 } in r) rows ∙ ap (λ (d : Registry). registered d name dc rack) shows;
      }

  -- the entries once a node is removed
  pub record IsRemoved (new : List (String Y × NodeRow)) (d : Registry) (next n : ℕ) : Type 0 where
    pub kept : IsKept new next
    pub rows : values_of new ≡ other_rows d.rows n

  pub kept-removed : (es new : List (String Y × NodeRow)) (d : Registry) (next n at : ℕ) → IsKept es next → shown es next ≡ d → IsPlace d.rows n at → new ≡ remove es at → IsRemoved new d next n
  kept-removed es new d next n at kept shows place is =
      let same : values_of es ≡ d.rows = ap (λ (d : Registry). d.rows) shows in
      let valid : IsTrue (is_directory 0 d.rows next) = rw (← same) kept.1 in
      let rows : values_of new ≡ other_rows d.rows n = ap values_of is ∙ values-remove es at ∙ ap (λ rows. remove rows at) same ∙ sym (other_rows-place d.rows next n at valid place) in
      record { kept = (rw is (AreNamed-remove es at kept.0), rw rows (directory-other_rows d.rows next n valid)); rows = rows }

  -- the entries once a node is marked
  pub record IsMarked (new : List (String Y × NodeRow)) (d : Registry) (next n : ℕ) : Type 0 where
    pub kept : IsKept new next
    pub rows : values_of new ≡ marked_left d.rows n

  pub kept-marked : (es : List (String Y × NodeRow)) (d : Registry) (next n at : ℕ) (row : NodeRow) → IsKept es next → shown es next ≡ d → IsPlace d.rows n at → slice_get (values_of es) at ≡ Some row → IsMarked (set_value_at es at (record row { left = true })) d next n
  kept-marked es d next n at row kept shows place here =
      let same : values_of es ≡ d.rows = ap (λ (d : Registry). d.rows) shows in
      let valid : IsTrue (is_directory 0 d.rows next) = rw (← same) kept.1 in
      let marked : marked_left d.rows n ≡ marked_left (values_of es) n = ap (λ rows. marked_left rows n) (sym same) in
      let rows : values_of (set_value_at es at (record row { left = true })) ≡ marked_left d.rows n = values-set es at (record row { left = true }) ∙ ap (λ rows. set rows at (record row { left = true })) same ∙ sym (marked_left-place d.rows next n at row valid place (rw (← same) here)) in
      record { kept = (AreNamed-marked_left es at n (record row { left = true }) kept.0 (rows ∙ marked), rw rows (directory-marked_left d.rows next n valid)); rows = rows }
