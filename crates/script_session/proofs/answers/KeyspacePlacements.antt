-- The placements of a keyspace: the text of its placement map, and of the keyspace that is found by its name.
use Rattle.std.proofs.Common.{◌≡◌, ℕ, Bool, true, false, cond, if◌then◌else◌, ℤ, List, [], ◌∷◌, ◌++◌, length, map, flat_map, find, Option, Some, None, IfSome, option_map, refl, sym, ap, ◌∙◌, subst}
use Rattle.std.proofs.lemmas.List.{length-map}
use Rattle.std.proofs.lemmas.Map.Text.{is_eq-slice_cmp}
use Rattle.std.proofs.lemmas.Option.{none-some}
use Rattle.std.proofs.lemmas.Slice.Eq.{bytes_eq-Decides}
use Rattle.std.specs.List.{AllByRecursion}
use Rattle.std.specs.List.Sorted.{IsStrictlySortedBy}
use Rattle.std.specs.Ordering.{is_eq}
use Rattle.std.specs.Str.{bytes_eq}
use Rattle.std.specs.declared.cmp.Ordering.TheVariants.{Less}
use Rattle.cluster_terms.specs.Row.{is_last, rows_between, rows_from}
use Rattle.cluster_terms.specs.declared.replication.Replication.{Replication}
use Rattle.cluster_terms.specs.declared.row.TokenRange.{TokenRange}
use Rattle.cluster_terms.specs.declared.token.RightEnd.TheVariants.{At, Max}
use Rattle.range_placements.specs.declared.placement_row.PlacementRow.{PlacementRow}
use Rattle.transformations.specs.Orders.{by_name}
use Rattle.transformations.specs.Rings.{cuts}
use Rattle.transformations.specs.declared.image.Image.{Image}
use Rattle.transformations.specs.declared.keyspace.KeyspaceRow.{KeyspaceRow}
use Rattle.placement_maps.specs.Maps.{placement_row, placement_rows}
use Rattle.placement_maps.specs.Served.{keyspace_of}
use Rattle.script_lang.specs.AnswerTexts.{map_rows_text, map_text, place_head, place_text, placed_row_text}
use Rattle.script_session.specs.Machine.{placements}

-- ---- the text of a placement map

module _ (image : Image) (r : Replication) where
  -- each row between cuts begins where the row before it ends
  rows_shown : (left : Option ℤ) (cs : List ℤ) → map_rows_text left (map (placement_row image r) (rows_from left cs)) ≡ flat_map (placed_row_text image r) (rows_from left cs)
  rows_shown left [] = by (is_last left)
    where
      last : TokenRange
      last = record { left = left; right = Max }

      by : (b : Bool) → map_rows_text left (map (placement_row image r) (if b then [] else last ∷ [])) ≡ flat_map (placed_row_text image r) (if b then [] else last ∷ [])
      by true = refl
      by false = refl
  rows_shown left (cut ∷ cs) =
      let row : TokenRange = record { left = left; right = At cut } in
      ap (λ (text : List ℕ). placed_row_text image r row ++ text) (rows_shown (Some cut) cs)

-- the text of the map of a keyspace is that of its placements
map_shown : (image : Image) (k : KeyspaceRow) → map_text image.epoch k.name (placement_rows image k.replication) ≡ place_text image k
unfolding place_text
map_shown image k =
    let rows : List TokenRange = rows_between (cuts image) in
    let shown : List ℕ = map_rows_text None (placement_rows image k.replication) in
    ap (λ (n : ℕ). place_head image.epoch k.name n ++ shown) (length-map rows (placement_row image k.replication))
    ∙ ap (λ (text : List ℕ). place_head image.epoch k.name (length rows) ++ text) (rows_shown image k.replication None (cuts image))

-- ---- a keyspace that is found by its name

-- it has the name that is looked for
found_name : (rows : List KeyspaceRow) (name : List ℕ) → IfSome (find (λ row. bytes_eq row.name name) rows) (λ k. k.name ≡ name)
found_name [] name = tt
found_name (row ∷ rows) name = by (bytes_eq row.name name) refl (found_name rows name)
  where
    by : (b : Bool) → bytes_eq row.name name ≡ b → IfSome (find (λ row. bytes_eq row.name name) rows) (λ k. k.name ≡ name)
        → IfSome (cond b (Some row) (find (λ row. bytes_eq row.name name) rows)) (λ k. k.name ≡ name)
    by true e more = (bytes_eq-Decides row.name name).0 e
    by false e more = more

-- the answer to a query of its placements
module _ (P : List ℕ → Type 0) (image : Image) (name : List ℕ) (rows : List PlacementRow) where
  pub place_answered : Some rows ≡ option_map (λ (k : KeyspaceRow). placement_rows image k.replication) (keyspace_of image name) → P (map_text image.epoch name rows) → P (placements image (keyspace_of image name))
  place_answered found shown = by (keyspace_of image name) (found_name image.keyspaces name) found
    where
      by : (o : Option KeyspaceRow) → IfSome o (λ k. k.name ≡ name) → Some rows ≡ option_map (λ (k : KeyspaceRow). placement_rows image k.replication) o → P (placements image o)
      by None is found = absurd (none-some rows (sym found))
      by (Some k) is found =
          let same : rows ≡ placement_rows image k.replication = cc found in
          subst P (map_shown image k) (subst P (λ i. map_text image.epoch (sym is i) (same i)) shown)

-- ---- the keyspaces of a valid image

-- each row is found by its name
found_themselves : (rows : List KeyspaceRow) → IsStrictlySortedBy by_name rows → AllByRecursion (λ (k : KeyspaceRow). find (λ row. bytes_eq row.name k.name) rows ≡ Some k) rows
unfolding IsStrictlySortedBy
found_themselves [] up = tt
found_themselves (row ∷ rows) up = (here, later rows up.0 (found_themselves rows up.1))
  where
    here : cond (bytes_eq row.name row.name) (Some row) (find (λ (k : KeyspaceRow). bytes_eq k.name row.name) rows) ≡ Some row
    here = rw ((bytes_eq-Decides row.name row.name).1 refl)

    past : (k : KeyspaceRow) → by_name row k ≡ Less → find (λ (q : KeyspaceRow). bytes_eq q.name k.name) rows ≡ Some k
        → cond (bytes_eq row.name k.name) (Some row) (find (λ (q : KeyspaceRow). bytes_eq q.name k.name) rows) ≡ Some k
    past k less found =
        let other : bytes_eq row.name k.name ≡ false = sym (is_eq-slice_cmp row.name k.name) ∙ ap is_eq less in
        rw other found

    later : (ks : List KeyspaceRow) → AllByRecursion (λ (k : KeyspaceRow). by_name row k ≡ Less) ks → AllByRecursion (λ (k : KeyspaceRow). find (λ (q : KeyspaceRow). bytes_eq q.name k.name) rows ≡ Some k) ks
        → AllByRecursion (λ (k : KeyspaceRow). find (λ (q : KeyspaceRow). bytes_eq q.name k.name) (row ∷ rows) ≡ Some k) ks
    later [] less found = tt
    later (k ∷ ks) less found = (past k less.0 found.0, later ks less.1 found.1)

-- so the placements of all keyspaces are those of the keyspaces that their names find
module _ (image : Image) where
  answers_same : (ks : List KeyspaceRow) → AllByRecursion (λ (k : KeyspaceRow). keyspace_of image k.name ≡ Some k) ks → flat_map (λ (k : KeyspaceRow). placements image (keyspace_of image k.name)) ks ≡ flat_map (place_text image) ks
  answers_same [] found = refl
  answers_same (k ∷ ks) found = λ i. placements image (found.0 i) ++ answers_same ks found.1 i

  pub places_answered : IsStrictlySortedBy by_name image.keyspaces → flat_map (λ (k : KeyspaceRow). placements image (keyspace_of image k.name)) image.keyspaces ≡ flat_map (place_text image) image.keyspaces
  places_answered up = answers_same image.keyspaces (found_themselves image.keyspaces up)
