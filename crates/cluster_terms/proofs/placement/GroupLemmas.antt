-- The counts of a group depend on which nodes there are, and not on their order or on how often they stand there.
use Rattle.std.proofs.Common.{◌≡◌, ℕ, ◌-◌, ◌+◌, min, Bool, true, false, not, ◌&&◌, ◌||◌, nat_eq, nat_lt, List, [], ◌∷◌, filter, filter_map, Option, Some, None, is_some, refl, sym, ap, ◌∙◌}
use Rattle.std.proofs.lemmas.Bool.{false≢true, or_left, or_right}
use Rattle.std.proofs.lemmas.Cmp.{nat_list_eq_equiv}
use Rattle.std.proofs.lemmas.Map.Made.{is_member-filter}
use Rattle.std.proofs.lemmas.Map.Views.{exact_unsigned_eq}
use Rattle.std.specs.Cmp.{nat_eq_equiv, both_ways}
use Rattle.std.specs.List.{cons_option}
use Rattle.std.specs.Set.{is_member}
use Rattle.std.specs.Str.{bytes_eq}
use Rattle.cluster_terms.proofs.lists.DistinctCounts.{distinct_count-same}
use Rattle.cluster_terms.specs.Group.{Group, node_count, rack_count, wanted, spare, is_chosen, is_chosen_rack}

-- whether a node is among some
abbrev pub has : List ℕ → ℕ → Bool
has ns v = is_member nat_eq ns v

-- whether a rack is among those of some nodes of the group
abbrev pub has_rack : Group → List ℕ → List ℕ → Bool
has_rack g ns rack = is_member bytes_eq (filter_map g.rack_of ns) rack

pub or_elim : {P : Type 0} (a b : Bool) → (a || b) ≡ true → (a ≡ true → P) → (b ≡ true → P) → P
or_elim true b h l r = l refl
or_elim false b h l r = r h

-- the rule, by how many are wanted and spare, how many nodes and racks are ahead, and whether the rack is among these
abbrev pub is_chosen_by : ℕ → ℕ → ℕ → ℕ → Bool → Bool
is_chosen_by w s d p there = nat_lt (min (p + s) d) w && (not there || nat_lt (d - p) s)

-- ---- racks

-- a rack before others
rack_more : (o : Option (List ℕ)) (racks : List (List ℕ)) (r : List ℕ) → is_member bytes_eq racks r ≡ true → is_member bytes_eq (cons_option o racks) r ≡ true
rack_more None racks r h = h
rack_more (Some rack) racks r h = or_right (bytes_eq r rack) (is_member bytes_eq racks r) h

rack_first : (o : Option (List ℕ)) (racks : List (List ℕ)) (rack r : List ℕ) → o ≡ Some rack → bytes_eq r rack ≡ true → is_member bytes_eq (cons_option o racks) r ≡ true
rack_first None racks rack r is same = cc
rack_first (Some other) racks rack r is same =
    let alike : rack ≡ other = cc in
    or_left (bytes_eq r other) (is_member bytes_eq racks r) (ap (bytes_eq r) (sym alike) ∙ same)

module _ (g : Group) where
  -- a node that is there brings its rack
  pub rack_there : (ns : List ℕ) (n : ℕ) (rack r : List ℕ) → has ns n ≡ true → g.rack_of n ≡ Some rack → bytes_eq r rack ≡ true → has_rack g ns r ≡ true
  rack_there [] n rack r there is same = absurd (false≢true there)
  rack_there (m ∷ ns) n rack r there is same = by (nat_eq n m) refl there (λ h. rack_there ns n rack r h is same)
    where
      by : (b : Bool) → nat_eq n m ≡ b → (b || has ns n) ≡ true → (has ns n ≡ true → has_rack g ns r ≡ true) → has_rack g (m ∷ ns) r ≡ true
      by true e h more = rack_first (g.rack_of m) (filter_map g.rack_of ns) rack r (ap g.rack_of (sym (exact_unsigned_eq n m e)) ∙ is) same
      by false e h more = rack_more (g.rack_of m) (filter_map g.rack_of ns) r (more h)

  has_rack-within : (xs ys : List ℕ) → ((q : ℕ) → has xs q ≡ true → has ys q ≡ true) → (r : List ℕ) → has_rack g xs r ≡ true → has_rack g ys r ≡ true
  has_rack-within [] ys within r h = absurd (false≢true h)
  has_rack-within (x ∷ xs) ys within r h =
      by (g.rack_of x) refl h (has_rack-within xs ys (λ q e. within q (or_right (nat_eq q x) (has xs q) e)) r)
    where
      by : (o : Option (List ℕ)) → g.rack_of x ≡ o → is_member bytes_eq (cons_option o (filter_map g.rack_of xs)) r ≡ true
          → (has_rack g xs r ≡ true → has_rack g ys r ≡ true) → has_rack g ys r ≡ true
      by None is e rest = rest e
      by (Some rack) is e rest =
          or_elim (bytes_eq r rack) (has_rack g xs r) e
          (λ same. rack_there ys x rack r (within x (or_left (nat_eq x x) (has xs x) (nat_eq_equiv.refl x))) is same) rest

  -- the same nodes have the same racks
  pub has_rack-same : (xs ys : List ℕ) → ((q : ℕ) → has xs q ≡ has ys q) → (r : List ℕ) → has_rack g xs r ≡ has_rack g ys r
  has_rack-same xs ys same r =
      both_ways (has_rack g xs r) (has_rack g ys r) (has_rack-within xs ys (λ q h. sym (same q) ∙ h) r) (has_rack-within ys xs (λ q h. same q ∙ h) r)

  -- ---- counts

  pub has-of : (ns : List ℕ) (v : ℕ) → has (filter (λ n. is_some (g.rack_of n)) ns) v ≡ (has ns v && is_some (g.rack_of v))
  has-of ns v = is_member-filter nat_eq_equiv (λ n. is_some (g.rack_of n)) v (λ q e. ap (λ n. is_some (g.rack_of n)) (exact_unsigned_eq v q e)) ns

  pub node_count-same : (xs ys : List ℕ) → ((q : ℕ) → has xs q ≡ has ys q) → node_count g xs ≡ node_count g ys
  node_count-same xs ys same =
      distinct_count-same nat_eq_equiv (filter (λ n. is_some (g.rack_of n)) xs) (filter (λ n. is_some (g.rack_of n)) ys)
      (λ v. has-of xs v ∙ ap (λ b. b && is_some (g.rack_of v)) (same v) ∙ sym (has-of ys v))

  pub rack_count-same : (xs ys : List ℕ) → ((q : ℕ) → has xs q ≡ has ys q) → rack_count g xs ≡ rack_count g ys
  rack_count-same xs ys same = distinct_count-same nat_list_eq_equiv (filter_map g.rack_of xs) (filter_map g.rack_of ys) (has_rack-same xs ys same)

  pub wanted-same : (xs ys : List ℕ) → ((q : ℕ) → has xs q ≡ has ys q) → wanted g xs ≡ wanted g ys
  wanted-same xs ys same = ap (min g.rf) (node_count-same xs ys same)

  pub spare-same : (xs ys : List ℕ) → ((q : ℕ) → has xs q ≡ has ys q) → spare g xs ≡ spare g ys
  spare-same xs ys same = ap (λ k. g.rf - min g.rf k) (rack_count-same xs ys same)

  pub is_chosen_rack-by : (ns ahead rack : List ℕ) → is_chosen_rack g ns ahead rack
      ≡ is_chosen_by (wanted g ns) (spare g ns) (node_count g ahead) (rack_count g ahead) (has_rack g ahead rack)
  unfolding is_chosen_rack
  is_chosen_rack-by ns ahead rack = refl

  -- a node is chosen alike where the same nodes are ahead
  pub is_chosen-same : (ns xs ys : List ℕ) → ((q : ℕ) → has xs q ≡ has ys q) → (o : Option (List ℕ)) → is_chosen g ns xs o ≡ is_chosen g ns ys o
  is_chosen-same ns xs ys same None = refl
  is_chosen-same ns xs ys same (Some rack) =
      is_chosen_rack-by ns xs rack
      ∙ (λ i. is_chosen_by (wanted g ns) (spare g ns) (node_count-same xs ys same i) (rack_count-same xs ys same i) (has_rack-same xs ys same rack i))
      ∙ sym (is_chosen_rack-by ns ys rack)

  -- and alike where the ring has the same nodes
  pub is_chosen-among : (ns ms ahead : List ℕ) → ((q : ℕ) → has ns q ≡ has ms q) → (o : Option (List ℕ)) → is_chosen g ns ahead o ≡ is_chosen g ms ahead o
  is_chosen-among ns ms ahead same None = refl
  is_chosen-among ns ms ahead same (Some rack) =
      is_chosen_rack-by ns ahead rack
      ∙ (λ i. is_chosen_by (wanted-same ns ms same i) (spare-same ns ms same i) (node_count g ahead) (rack_count g ahead) (has_rack g ahead rack))
      ∙ sym (is_chosen_rack-by ms ahead rack)
