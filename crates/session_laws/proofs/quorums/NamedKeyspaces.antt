-- A keyspace of an image, and the one that is found by its name.
use Rattle.std.proofs.Common.{◌≡◌, ℕ, Bool, true, false, cond, List, [], ◌∷◌, find, Some, refl, sym, ap, ◌∙◌, subst}
use Rattle.std.proofs.lemmas.Map.Text.{is_eq-slice_cmp}
use Rattle.std.proofs.lemmas.Option.{none-some}
use Rattle.std.proofs.lemmas.Slice.Eq.{bytes_eq-Decides}
use Rattle.std.specs.List.{AllByRecursion, Contains}
use Rattle.std.specs.List.Sorted.{IsStrictlySortedBy}
use Rattle.std.specs.Ordering.{is_eq}
use Rattle.std.specs.Str.{bytes_eq}
use Rattle.std.specs.declared.cmp.Ordering.TheVariants.{Less}
use Rattle.placement_maps.specs.Served.{keyspace_of}
use Rattle.transformations.proofs.lists.ContainsLemmas.{first_contained, holds_of, later_contained}
use Rattle.transformations.proofs.lists.ListLemmas.{all_both}
use Rattle.transformations.specs.Orders.{by_name}
use Rattle.transformations.specs.Valid.{IsSound}
use Rattle.transformations.specs.declared.image.Image.{Image}
use Rattle.transformations.specs.declared.keyspace.KeyspaceRow.{KeyspaceRow}

-- an item that is found is contained
pub contained_found : {X : Type 0} (p : X → Bool) (xs : List X) (x : X) → find p xs ≡ Some x → Contains xs x
contained_found p [] x found = absurd (none-some x found)
contained_found {X} p (y ∷ ys) x found = by (p y) found (contained_found p ys x)
  where
    by : (b : Bool) → cond b (Some y) (find p ys) ≡ Some x → (find p ys ≡ Some x → Contains ys x) → Contains (y ∷ ys) x
    by true found rest = (let same : y ≡ x = cc in first_contained y ys x same)
    by false found rest = later_contained y ys x (rest found)

other_name : (s q : KeyspaceRow) → by_name s q ≡ Less → bytes_eq s.name q.name ≡ false
other_name s q less = sym (is_eq-slice_cmp s.name q.name) ∙ ap is_eq less

each_found : (rows : List KeyspaceRow) → IsStrictlySortedBy by_name rows → AllByRecursion (λ k. find (λ (row : KeyspaceRow). bytes_eq row.name k.name) rows ≡ Some k) rows
unfolding IsStrictlySortedBy
each_found [] up = tt
each_found (s ∷ rows) up = (
  ap (λ b. cond b (Some s) (find (λ (row : KeyspaceRow). bytes_eq row.name s.name) rows)) ((bytes_eq-Decides s.name s.name).1 refl),
  all_both (λ k. by_name s k ≡ Less) (λ k. find (λ (row : KeyspaceRow). bytes_eq row.name k.name) rows ≡ Some k) (λ k. find (λ (row : KeyspaceRow). bytes_eq row.name k.name) (s ∷ rows) ≡ Some k)
      (λ k less found. ap (λ b. cond b (Some s) (find (λ (row : KeyspaceRow). bytes_eq row.name k.name) rows)) (other_name s k less) ∙ found) rows up.0 (each_found rows up.1),
)

-- a keyspace of a sound image is found by its name
pub found_named : (image : Image) → IsSound image → (k : KeyspaceRow) → Contains image.keyspaces k → (name : List ℕ) → k.name ≡ name → keyspace_of image name ≡ Some k
found_named image sound k there name is =
    subst (λ n. find (λ (row : KeyspaceRow). bytes_eq row.name n) image.keyspaces ≡ Some k) is
    (holds_of (λ k. find (λ (row : KeyspaceRow). bytes_eq row.name k.name) image.keyspaces ≡ Some k) image.keyspaces k (each_found image.keyspaces sound.keyspaces) there)
