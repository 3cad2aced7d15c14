-- Rows that are kept under their names.
use Rattle.std.proofs.Common.{◌≡◌, ℕ, suc, zero, Bool, false, List, [], ◌∷◌, ◌++◌, set, map, find, is_some, ◌||◌, refl, sym, ap, ◌∙◌, arith, remove, string_bytes}
use Rattle.std.specs.Map.{keys_of, values_of, lookup}
use Rattle.std.specs.Option.{option_map}
use Rattle.std.specs.Set.{is_member}
use Rattle.std.specs.Str.{bytes_eq}
use Rattle.std.specs.String.{string_eq}
use Rattle.std.specs.declared.string.String.{String}
use Rattle.indexmap.specs.IndexMap.{insert_entry}
use Rattle.indexmap.specs.Layout.{set_value_at}
use Rattle.cluster_terms.specs.declared.node.NodeRow.{NodeRow}
use Rattle.node_directory.specs.Directory.{Registry, node_names, node_named, marked_left}
use Rattle.node_directory.specs.code.StoredRows.{AreNamed}
use Rattle.node_directory.proofs.NodeRows.{is_some-named, names-marked_left}

module _ {Y : Type 0} where
  first_name : (e : String Y × NodeRow) (es : List (String Y × NodeRow)) → AreNamed (e ∷ es) → string_bytes e.0 ≡ e.1.name
  first_name e es named = cc

  other_names : (e : String Y × NodeRow) (es : List (String Y × NodeRow)) → AreNamed (e ∷ es) → AreNamed es
  other_names e es named = cc

  -- a look-up by name finds the row with the name
  pub lookup-named : (es : List (String Y × NodeRow)) → AreNamed es → (name : List ℕ) → lookup (λ k. bytes_eq name (string_bytes k)) es ≡ find (λ row. bytes_eq name row.name) (values_of es)
  lookup-named [] named name = refl
  lookup-named (e ∷ es) named name =
      let first = first_name e es named in
      let rest = lookup-named es (other_names e es named) name in
      rw (first, rest) refl

  pub AreNamed-push : (es : List (String Y × NodeRow)) (k : String Y) (row : NodeRow) → AreNamed es → string_bytes k ≡ row.name → AreNamed (es ++ (k, row) ∷ [])
  AreNamed-push [] k row named e = ap (λ (name : List ℕ). name ∷ []) e
  AreNamed-push (f ∷ es) k row named e =
      let first = first_name f es named in
      let rest : AreNamed (es ++ (k, row) ∷ []) = AreNamed-push es k row (other_names f es named) e in
      cc

  pub values-push : (es : List (String Y × NodeRow)) (k : String Y) (row : NodeRow) → values_of (es ++ (k, row) ∷ []) ≡ values_of es ++ row ∷ []
  values-push [] k row = refl
  values-push (e ∷ es) k row = ap (λ rows. e.1 ∷ rows) (values-push es k row)

  pub AreNamed-remove : (es : List (String Y × NodeRow)) (at : ℕ) → AreNamed es → AreNamed (remove es at)
  AreNamed-remove [] zero named = refl
  AreNamed-remove [] (suc at) named = refl
  AreNamed-remove (e ∷ es) zero named = other_names e es named
  AreNamed-remove (e ∷ es) (suc at) named =
      let first = first_name e es named in
      let rest : AreNamed (remove es at) = AreNamed-remove es at (other_names e es named) in
      cc

  pub values-remove : (es : List (String Y × NodeRow)) (at : ℕ) → values_of (remove es at) ≡ remove (values_of es) at
  values-remove [] zero = refl
  values-remove [] (suc at) = refl
  values-remove (e ∷ es) zero = refl
  values-remove (e ∷ es) (suc at) = ap (λ rows. e.1 ∷ rows) (values-remove es at)

  pub values-set : (es : List (String Y × NodeRow)) (at : ℕ) (row : NodeRow) → values_of (set_value_at es at row) ≡ set (values_of es) at row
  values-set [] at row = refl
  values-set (e ∷ es) zero row = refl
  values-set (e ∷ es) (suc at) row = ap (λ rows. e.1 ∷ rows) (values-set es at row)

  pub keys-set : (es : List (String Y × NodeRow)) (at : ℕ) (row : NodeRow) → keys_of (set_value_at es at row) ≡ keys_of es
  keys-set [] at row = refl
  keys-set (e ∷ es) zero row = refl
  keys-set (e ∷ es) (suc at) row = ap (λ keys. e.0 ∷ keys) (keys-set es at row)

  -- a row under a new name goes last
  insert-new : (es : List (String Y × NodeRow)) (key : String Y) (row : NodeRow) → AreNamed es → string_bytes key ≡ row.name → is_member bytes_eq (node_names (values_of es)) row.name ≡ false → insert_entry string_eq es key row ≡ es ++ (key, row) ∷ []
  insert-new [] key row named e new = refl
  insert-new (f ∷ es) key row named e new =
      let first = first_name f es named in
      let apart : string_eq key f.0 ≡ false = rw (e, first) (or_left (bytes_eq row.name f.1.name) (is_member bytes_eq (node_names (values_of es)) row.name) new) in
      let others = or_right (bytes_eq row.name f.1.name) (is_member bytes_eq (node_names (values_of es)) row.name) new in
      rw apart (ap (λ rest. f ∷ rest) (insert-new es key row (other_names f es named) e others))
    where
      or_right : (a b : Bool) → (a || b) ≡ false → b ≡ false
      or_right a b h = grind arith

      or_left : (a b : Bool) → (a || b) ≡ false → a ≡ false
      or_left a b h = grind arith

  pub AreNamed-insert : (es new : List (String Y × NodeRow)) (key : String Y) (row : NodeRow) → new ≡ insert_entry string_eq es key row → AreNamed es → string_bytes key ≡ row.name → is_member bytes_eq (node_names (values_of es)) row.name ≡ false → AreNamed new
  AreNamed-insert es new key row is named e free =
      rw (is, insert-new es key row named e free) (AreNamed-push es key row named e)

  pub values-insert : (es new : List (String Y × NodeRow)) (key : String Y) (row : NodeRow) → new ≡ insert_entry string_eq es key row → AreNamed es → string_bytes key ≡ row.name → is_member bytes_eq (node_names (values_of es)) row.name ≡ false → values_of new ≡ values_of es ++ row ∷ []
  values-insert es new key row is named e free =
      rw (is, insert-new es key row named e free) (values-push es key row)

  -- a name under which a row is kept is among those of the rows
  pub is_some-lookup : (es : List (String Y × NodeRow)) → AreNamed es → (name : List ℕ) → is_some (lookup (λ k. bytes_eq name (string_bytes k)) es) ≡ is_member bytes_eq (node_names (values_of es)) name
  is_some-lookup es named name = ap is_some (lookup-named es named name) ∙ is_some-named (values_of es) name

  -- the node that a look-up by name finds
  pub node_named-lookup : (es : List (String Y × NodeRow)) (d : Registry) (query name : List ℕ) → AreNamed es → values_of es ≡ d.rows → query ≡ name → option_map (λ row. row.id) (lookup (λ k. bytes_eq query (string_bytes k)) es) ≡ node_named d.rows name
  node_named-lookup es d query name named rows same =
      ap (option_map (λ (row : NodeRow). row.id)) (lookup-named es named query) ∙ rw (rows, same) refl

  -- a mark leaves the names
  pub AreNamed-marked_left : (es : List (String Y × NodeRow)) (at n : ℕ) (row : NodeRow) → AreNamed es → values_of (set_value_at es at row) ≡ marked_left (values_of es) n → AreNamed (set_value_at es at row)
  AreNamed-marked_left es at n row named rows =
      ap (map string_bytes) (keys-set es at row) ∙ named ∙ sym (names-marked_left (values_of es) n) ∙ sym (ap node_names rows)
