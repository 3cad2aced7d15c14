-- What an accepted command says of the nodes, and the changes of the nodes.
use Rattle.std.proofs.Common.{◌≡◌, ℕ, suc, zero, ◌+◌, ◌<◌, Bool, true, false, if◌then◌else◌, find, option_map, not, ◌==◌, List, [], ◌∷◌, ◌++◌, length, map, get_or, set, Option, Some, None, IsSome, IsTrue, refl, sym, ap, ◌∙◌, subst, arith}
use Rattle.std.proofs.lemmas.Option.{none-some}
use Rattle.std.specs.Cmp.Lexicographic.{nat_list_eq_equiv}
use Rattle.std.specs.List.{AllByRecursion, position, slice_get}
use Rattle.std.specs.Str.{bytes_eq}
use Rattle.cluster_terms.specs.NodeRow.{marked, row_of}
use Rattle.cluster_terms.specs.declared.node.NodeRow.{NodeRow}
use Rattle.node_directory.proofs.NodeRows.{ascending_lower, directory_from, ids-ascend, names-distinct}
use Rattle.node_directory.proofs.RowSearch.{marked_left-place}
use Rattle.node_directory.specs.Directory.{ids_of, is_directory, node_named}
use Rattle.node_directory.specs.code.StoredRows.{IsPlace}
use Rattle.sequence_plans.proofs.BasisLemmas.{valid_rows}
use Rattle.transformations.proofs.commands.AcceptedLemmas.{first_none, register_accepted, same_id, test_false}
use Rattle.transformations.proofs.lists.ListLemmas.{found_passes, none_found}
use Rattle.transformations.specs.History.{next_image}
use Rattle.transformations.specs.Refusals.{early_refusal_of, first_of, in_sequence, is_registered, may_be_removed, no_node, nodes_full, wrong_state}
use Rattle.transformations.specs.Movements.{with_left}
use Rattle.transformations.specs.Valid.{IsSound}
use Rattle.transformations.specs.declared.command.Command.{Command}
use Rattle.transformations.specs.declared.command.Command.TheVariants.{Register, Unregister}
use Rattle.transformations.specs.declared.image.Image.{Image}
use Rattle.transformations.specs.declared.refusal.Refusal.TheVariants.{NameTaken, NoNode}
use Rattle.cluster_metadata.proofs.in_flight.MovementPlaces.{at_index, found_at, some_place}
use Rattle.placement_maps.proofs.ArrangedMaps.{found_within}
use Rattle.cluster_metadata.proofs.in_flight.AcceptedSteps.{negated}
use Rattle.cluster_metadata.specs.code.Change.{IsChange}
use Rattle.cluster_metadata.specs.code.Nodes.{IsLeftRow, IsNew, new_row, nodes_left}
use Rattle.cluster_metadata.specs.declared.changes.change.Change.TheVariants.{Registered, Unregistered}
use Rattle.cluster_metadata.specs.declared.changes.new_node.NewNode.{NewNode}

-- ---- a node that is registered

unnamed : (name : List ℕ) (rows : List NodeRow) → AllByRecursion (λ (row : NodeRow). bytes_eq row.name name ≡ false) rows → node_named rows name ≡ None
unnamed name [] all = refl
unnamed name (row ∷ rows) all =
    let other : bytes_eq name row.name ≡ false = nat_list_eq_equiv.symm name row.name ∙ all.0 in
    rw other (unnamed name rows all.1)

-- its name is free
pub free_name : (image : Image) (name dc rack : List ℕ) → early_refusal_of image (Register name dc rack) ≡ None → node_named image.nodes name ≡ None
free_name image name dc rack h = unnamed name image.nodes (register_accepted image name dc rack h).0

-- its refusal is known from the node that has its name
owned : (name : List ℕ) (rows : List NodeRow) → option_map (λ n. NameTaken n) (node_named rows name) ≡ option_map (λ row. NameTaken row.id) (find (λ row. bytes_eq row.name name) rows)
owned name [] = refl
owned name (row ∷ rows) = rw (nat_list_eq_equiv.symm name row.name) (by (bytes_eq row.name name) (owned name rows))
  where
    by : (b : Bool) → option_map (λ n. NameTaken n) (node_named rows name) ≡ option_map (λ row. NameTaken row.id) (find (λ row. bytes_eq row.name name) rows)
        → option_map (λ n. NameTaken n) (option_map (λ (r : NodeRow). r.id) (if b then Some row else find (λ (r : NodeRow). bytes_eq name r.name) rows))
        ≡ option_map (λ (r : NodeRow). NameTaken r.id) (if b then Some row else find (λ (r : NodeRow). bytes_eq r.name name) rows)
    by true rest = refl
    by false rest = rest

pub owner_refused : (image : Image) (c : Command) (name dc rack : List ℕ) (owner : Option ℕ) → c ≡ Register name dc rack → owner ≡ node_named image.nodes name
    → first_of (option_map (λ n. NameTaken n) owner ∷ nodes_full image ∷ []) ≡ early_refusal_of image c
unfolding early_refusal_of
owner_refused image c name dc rack owner is found =
    ap (λ o. first_of (o ∷ nodes_full image ∷ [])) (ap (option_map (λ n. NameTaken n)) found ∙ owned name image.nodes) ∙ ap (early_refusal_of image) (sym is)

pub registers : (image : Image) (name dc rack : List ℕ) (node : NewNode) → IsNew image.nodes image.next node → node.row ≡ new_row image.next name dc rack → IsChange image (Register name dc rack) (Registered node)
unfolding next_image
registers image name dc rack node new row =
    let with_row : ℕ → NodeRow → Image = λ next row. record image { epoch = image.epoch + 1; next = next; nodes = image.nodes ++ row ∷ [] } in
    record { made = λ i. with_row (new.following i) (row i); nodes = new; follows = tt; plan = tt; suits = tt }

-- ---- a node that is removed

removed : (image : Image) (n : ℕ) → early_refusal_of image (Unregister n) ≡ None → IsSome (row_of image.nodes n)
unfolding early_refusal_of
removed image n h =
    let there = first_none (no_node image n) (in_sequence image n ∷ wrong_state may_be_removed image n ∷ []) h in
    negated (is_registered image n) (test_false (not (is_registered image n)) NoNode there.0)

unregistered : (image : Image) (n : ℕ) → early_refusal_of image (Unregister n) ≡ None → IsChange image (Unregister n) (Unregistered n)
unfolding next_image
unregistered image n h = record { made = refl; nodes = removed image n h; follows = tt; plan = tt; suits = tt }

pub unregisters : (image : Image) (c : Command) (n : ℕ) → c ≡ Unregister n → early_refusal_of image c ≡ None → IsChange image c (Unregistered n)
unregisters image c n is h =
    subst (λ c. IsChange image c (Unregistered n)) (sym is) (unregistered image n (subst (λ c. early_refusal_of image c ≡ None) is h))

-- ---- a node that leaves

-- a node that isn't registered leaves no row
all_unmarked : (n : ℕ) (rows : List NodeRow) → AllByRecursion (λ (row : NodeRow). (row.id == n) ≡ false) rows → map (marked n) rows ≡ rows
all_unmarked n [] all = refl
all_unmarked n (row ∷ rows) all = rw all.0 (ap (λ l. row ∷ l) (all_unmarked n rows all.1))

pub none_left : (image : Image) (n : ℕ) → position (λ (row : NodeRow). row.id == n) image.nodes ≡ None → nodes_left image.nodes None ≡ with_left image.nodes (Some n)
none_left image n none = by (row_of image.nodes n) refl
  where
    by : (o : Option NodeRow) → row_of image.nodes n ≡ o → image.nodes ≡ map (marked n) image.nodes
    by None e = sym (all_unmarked n image.nodes (none_found (λ (row : NodeRow). row.id == n) image.nodes e))
    by (Some row) e =
        let some : IsSome (row_of image.nodes n) = rw e refl in
        absurd (some_place (λ (row : NodeRow). row.id == n) image.nodes some none)

-- what is at a position, in the other way to read it
read_at : (rows : List NodeRow) (i : ℕ) (row d : NodeRow) → slice_get rows i ≡ Some row → get_or rows i d ≡ row
read_at [] i row d here = absurd (none-some row here)
read_at (r ∷ rows) zero row d here = cc here
read_at (r ∷ rows) (suc i) row d here = read_at rows i row d here

module _ (image : Image) (n at : ℕ) (row : NodeRow) (sound : IsSound image) (here : row ≡ get_or image.nodes at row) (found : position (λ (row : NodeRow). row.id == n) image.nodes ≡ Some at) where
  within : at < length image.nodes
  within = found_within (λ (row : NodeRow). row.id == n) image.nodes at found

  stands : slice_get image.nodes at ≡ Some row
  stands = at_index image.nodes at row within here

  there : row_of image.nodes n ≡ Some row
  there = sym (found_at (λ (row : NodeRow). row.id == n) image.nodes at found) ∙ stands

  own : row.id ≡ n
  own = same_id row.id n (found_passes (λ (r : NodeRow). r.id == n) image.nodes row there)

  directory : IsTrue (is_directory 0 image.nodes image.next)
  directory =
      let valid = valid_rows image sound in
      directory_from 0 image.nodes image.next (ascending_lower 0 1 (ids_of image.nodes) image.next (omega arith) (ids-ascend 1 image.nodes image.next valid)) (names-distinct 1 image.nodes image.next valid)

  place : IsPlace image.nodes n at
  place = record { in_range = within; row = stands ∙ sym there; id = λ d. ap (λ (r : NodeRow). r.id) (read_at image.nodes at row d stands) ∙ own }

  marks : set image.nodes at (record row { left = true }) ≡ map (marked n) image.nodes
  marks = sym (marked_left-place image.nodes image.next n at row directory place stands)

  -- it leaves by a copy of its row that is marked
  pub left_nodes : (copy : NodeRow) → copy ≡ row → (leaver : Option ℕ) → leaver ≡ Some n → map (marked copy.id) image.nodes ≡ with_left image.nodes leaver
  left_nodes copy same leaver is = ap (λ n. map (marked n) image.nodes) (ap (λ (r : NodeRow). r.id) same ∙ own) ∙ ap (with_left image.nodes) (sym is)

  pub is_left : (copy : NodeRow) → copy ≡ row → IsLeftRow image.nodes (record { at = at; row = record copy { left = true } })
  is_left copy same =
      subst (λ (r : NodeRow). IsLeftRow image.nodes (record { at = at; row = record r { left = true } })) (sym same)
      (record { registered = rw (own, there) refl; within = within; marks = marks ∙ ap (λ n. map (marked n) image.nodes) (sym own) })
