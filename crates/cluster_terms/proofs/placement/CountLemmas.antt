-- The counts of a group grow with its members.
use Rattle.std.proofs.Common.{◌≡◌, ℕ, ◌≤◌, true, ◌&&◌, nat_eq, List, [], ◌∷◌, filter, filter_map, Option, Some, None, is_some, refl, sym, ap, ◌∙◌, arith}
use Rattle.std.proofs.lemmas.Bool.{false≢true, or_left, or_right, and_parts}
use Rattle.std.proofs.lemmas.Cmp.{nat_list_eq_equiv}
use Rattle.std.specs.Cmp.{nat_eq_equiv}
use Rattle.std.specs.List.{cons_option}
use Rattle.std.specs.Set.{is_member}
use Rattle.std.specs.Str.{bytes_eq}
use Rattle.cluster_terms.proofs.lists.DistinctCounts.{distinct_count-within}
use Rattle.cluster_terms.proofs.placement.GroupLemmas.{has, has_rack, or_elim, rack_there, has-of}
use Rattle.cluster_terms.specs.Group.{Group, node_count, rack_count, wanted, spare}

-- whether each node of the group that is among some is among others
abbrev pub IsWithin : Group → List ℕ → List ℕ → Type 0
IsWithin g xs ys = (q : ℕ) → is_some (g.rack_of q) ≡ true → has xs q ≡ true → has ys q ≡ true

module _ (g : Group) where
  -- their racks are among the others' racks
  pub has_rack-of_within : (xs ys : List ℕ) → IsWithin g xs ys → (r : List ℕ) → has_rack g xs r ≡ true → has_rack g ys r ≡ true
  has_rack-of_within [] ys within r h = absurd (false≢true h)
  has_rack-of_within (x ∷ xs) ys within r h =
      by (g.rack_of x) refl h (has_rack-of_within xs ys (λ q of e. within q of (or_right (nat_eq q x) (has xs q) e)) r)
    where
      by : (o : Option (List ℕ)) → g.rack_of x ≡ o → is_member bytes_eq (cons_option o (filter_map g.rack_of xs)) r ≡ true
          → (has_rack g xs r ≡ true → has_rack g ys r ≡ true) → has_rack g ys r ≡ true
      by None is e rest = rest e
      by (Some rack) is e rest =
          or_elim (bytes_eq r rack) (has_rack g xs r) e
          (λ same. rack_there g ys x rack r (within x (ap (λ o. is_some o) is) (or_left (nat_eq x x) (has xs x) (nat_eq_equiv.refl x))) is same) rest

  -- they are no more nodes, in no more racks
  pub node_count-within : (xs ys : List ℕ) → IsWithin g xs ys → node_count g xs ≤ node_count g ys
  node_count-within xs ys within =
      distinct_count-within nat_eq_equiv (filter (λ n. is_some (g.rack_of n)) xs) (filter (λ n. is_some (g.rack_of n)) ys)
      (λ v h. (let parts = and_parts (has xs v) (is_some (g.rack_of v)) (sym (has-of g xs v) ∙ h) in
      has-of g ys v ∙ (λ i. within v parts.1 parts.0 i && parts.1 i)))

  pub rack_count-within : (xs ys : List ℕ) → IsWithin g xs ys → rack_count g xs ≤ rack_count g ys
  rack_count-within xs ys within =
      distinct_count-within nat_list_eq_equiv (filter_map g.rack_of xs) (filter_map g.rack_of ys) (has_rack-of_within xs ys within)

  -- as many or more replicas are to be found where more nodes are, and as many or fewer of them may stand in a rack
  -- that has one
  pub wanted-within : (xs ys : List ℕ) → IsWithin g xs ys → wanted g xs ≤ wanted g ys
  wanted-within xs ys within = (let more = node_count-within xs ys within in omega arith)

  pub spare-within : (xs ys : List ℕ) → IsWithin g xs ys → spare g ys ≤ spare g xs
  spare-within xs ys within = (let more = rack_count-within xs ys within in omega arith)
