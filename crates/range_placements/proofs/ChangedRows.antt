-- Rows changed by a delta whose cuts are cuts of the map: each token's reads and writes change by what the delta shows.
use Rattle.std.proofs.Common.{◌&&◌, ◌||◌, not, ◌≡◌, ℕ, Bool, true, false, if◌then◌else◌, ℤ, int_lt, int_le, List, [], ◌∷◌, length, map, refl, sym, ap, ◌∙◌, ◌⊎◌, inl, inr, arith}
use Rattle.std.specs.List.{AllByRecursion, cons_option}
use Rattle.std.specs.Ordering.{int_eq, nat_cmp}
use Rattle.std.specs.Set.{is_member}
use Rattle.std.proofs.lemmas.Bool.{false≢true, or_cases, or_left, or_right, true≢false}
use Rattle.std.proofs.lemmas.Bool.Decides.{Decides-int_eq}
use Rattle.std.proofs.lemmas.Int.{ints}
use Rattle.cluster_terms.proofs.lists.AscendingLemmas.{weaker}
use Rattle.cluster_terms.proofs.lists.AscendingNumbers.{ascending_from_same_members, ascending_same_numbers, member-put_all_numbers, put_all_increases}
use Rattle.cluster_terms.specs.Ascending.{put_all}
use Rattle.cluster_terms.specs.Arc.{IsToken, greatest_token}
use Rattle.cluster_terms.specs.Row.{last_token}
use Rattle.cluster_terms.specs.declared.token.RightEnd.{RightEnd}
use Rattle.cluster_terms.specs.declared.token.RightEnd.TheVariants.{At, Max}
use Rattle.node_sets.proofs.SetLemmas.{has-without, without_increases, without_none}
use Rattle.node_sets.specs.NodeSets.{IsNodeSet, has_node, without}
use Rattle.placement_deltas.specs.Deltas.{EndAtCuts, change_in, delta_at}
use Rattle.placement_deltas.specs.declared.delta_row.DeltaRow.{DeltaRow}
use Rattle.range_placements.specs.code.Changing.{row_changed, rows_changed}
use Rattle.range_placements.specs.Placements.{IsPlacementMap, with_change, cut_of, cuts_of, map_at, placement_in, right_ends}
use Rattle.range_placements.specs.declared.placement_row.PlacementRow.{PlacementRow}
use Rattle.token_ring.specs.TokenRanges.{is_cut_right}

-- ---- the rows stay

module _ (change : List ℕ × List ℕ → List ℕ × List ℕ → List ℕ × List ℕ) (delta : List DeltaRow) where
  pub same_ends : (rows : List PlacementRow) → right_ends (rows_changed change delta rows) ≡ right_ends rows
  same_ends [] = refl
  same_ends (row ∷ rows) = ap (λ ends. row.right ∷ ends) (same_ends rows)

  pub changed_map : (rows : List PlacementRow) → IsPlacementMap rows → IsPlacementMap (rows_changed change delta rows)
  changed_map [] map = map
  changed_map (row ∷ []) map = map
  changed_map (row ∷ next ∷ rows) map = (map.0, changed_map (next ∷ rows) map.1)

-- ---- the row of a token

-- the last token of the row that has a token
abbrev end_at : List PlacementRow → ℤ → ℤ
end_at [] x = x
end_at (row ∷ rows) x = if int_le x (last_token row.right) then last_token row.right else end_at rows x

abbrev ends : List PlacementRow → List ℤ
ends rows = map (λ row. last_token row.right) rows

-- the rows after a row end past it
ends_later : (row : PlacementRow) (rows : List PlacementRow) (e : ℤ) → IsPlacementMap (row ∷ rows) → is_member int_eq (ends rows) e ≡ true → int_lt (last_token row.right) e ≡ true
ends_later row [] e is member = absurd (false≢true member)
ends_later row (next ∷ rows) e is member =
    by (or_cases (int_eq e (last_token next.right)) (is_member int_eq (ends rows) e) member) (λ later. ends_later next rows e is.1 later)
  where
    past : (a b : ℤ) → int_lt a b ≡ true → int_lt b e ≡ true → int_lt a e ≡ true
    past a b h k = grind (arith, ints)

    by : (int_eq e (last_token next.right) ≡ true) ⊎ (is_member int_eq (ends rows) e ≡ true) → (is_member int_eq (ends rows) e ≡ true → int_lt (last_token next.right) e ≡ true) → int_lt (last_token row.right) e ≡ true
    by (inl same) rest = ap (int_lt (last_token row.right)) ((Decides-int_eq e (last_token next.right)).0 same) ∙ is.0
    by (inr later) rest = past (last_token row.right) (last_token next.right) is.0 (rest later)

-- where a row ends at a token or after it, so does the row of the token, and it ends no later
upto_row : (rows : List PlacementRow) (x e : ℤ) → IsPlacementMap rows → is_member int_eq (ends rows) e ≡ true → int_le x e ≡ true → int_le (end_at rows x) e ≡ true
upto_row [] x e is member le = absurd is
upto_row (row ∷ []) x e is member le = by (int_le x (last_token row.right)) refl (or_cases (int_eq e (last_token row.right)) false member)
  where
    self : (w : ℤ) → e ≡ w → int_le w e ≡ true
    self w is = grind (arith, ints)

    by : (b : Bool) → int_le x (last_token row.right) ≡ b → (int_eq e (last_token row.right) ≡ true) ⊎ (false ≡ true) → int_le (if b then last_token row.right else x) e ≡ true
    by true upto (inl same) = self (last_token row.right) ((Decides-int_eq e (last_token row.right)).0 same)
    by true upto (inr none) = absurd (false≢true none)
    by false past same = le
upto_row (row ∷ next ∷ rows) x e is member le =
    by (int_le x (last_token row.right)) refl (or_cases (int_eq e (last_token row.right)) (is_member int_eq (ends (next ∷ rows)) e) member) (λ later. upto_row (next ∷ rows) x e is.1 later le)
  where
    self : (w : ℤ) → e ≡ w → int_le w e ≡ true
    self w is = grind (arith, ints)

    before : (w : ℤ) → int_lt w e ≡ true → int_le w e ≡ true
    before w h = grind (arith, ints)

    by : (b : Bool) → int_le x (last_token row.right) ≡ b → (int_eq e (last_token row.right) ≡ true) ⊎ (is_member int_eq (ends (next ∷ rows)) e ≡ true)
        → (is_member int_eq (ends (next ∷ rows)) e ≡ true → int_le (end_at (next ∷ rows) x) e ≡ true) → int_le (if b then last_token row.right else end_at (next ∷ rows) x) e ≡ true
    by true upto (inl same) rest = self (last_token row.right) ((Decides-int_eq e (last_token row.right)).0 same)
    by true upto (inr later) rest = before (last_token row.right) (ends_later row (next ∷ rows) e is later)
    by false past (inl same) rest = absurd (true≢false (sym le ∙ ap (int_le x) ((Decides-int_eq e (last_token row.right)).0 same) ∙ past))
    by false past (inr later) rest = rest later

-- the row of a token does not end before it
end_after : (rows : List PlacementRow) (x : ℤ) → IsPlacementMap rows → int_le x greatest_token ≡ true → int_le x (end_at rows x) ≡ true
end_after [] x is top = absurd is
end_after (row ∷ []) x is top = by (int_le x (last_token row.right)) refl
  where
    by : (b : Bool) → int_le x (last_token row.right) ≡ b → int_le x (if b then last_token row.right else x) ≡ true
    by true upto = upto
    by false past = grind (arith, ints)
end_after (row ∷ next ∷ rows) x is top = by (int_le x (last_token row.right)) refl (end_after (next ∷ rows) x is.1 top)
  where
    by : (b : Bool) → int_le x (last_token row.right) ≡ b → int_le x (end_at (next ∷ rows) x) ≡ true → int_le x (if b then last_token row.right else end_at (next ∷ rows) x) ≡ true
    by true upto rest = upto
    by false past rest = rest

-- ---- the ends of a delta

cut_in : (rows : List PlacementRow) (t : ℤ) → is_member int_eq (cuts_of rows) t ≡ true → is_member int_eq (ends rows) t ≡ true
cut_in [] t = λ h. h
cut_in (row ∷ rows) t = by row.right (cut_in rows t)
  where
    by : (right : RightEnd) → (is_member int_eq (cuts_of rows) t ≡ true → is_member int_eq (ends rows) t ≡ true) → is_member int_eq (cons_option (cut_of right) (cuts_of rows)) t ≡ true
        → is_member int_eq (last_token right ∷ ends rows) t ≡ true
    by (At s) rest h = elim (or_cases (int_eq t s) (is_member int_eq (cuts_of rows) t) h) [
      | inl same ↦ or_left (int_eq t s) (is_member int_eq (ends rows) t) same
      | inr later ↦ or_right (int_eq t s) (is_member int_eq (ends rows) t) (rest later)
    ]
    by Max rest h = or_right (int_eq t greatest_token) (is_member int_eq (ends rows) t) (rest h)

top_in : (rows : List PlacementRow) → IsPlacementMap rows → is_member int_eq (ends rows) greatest_token ≡ true
top_in [] is = absurd is
top_in (row ∷ []) is = or_left (int_eq greatest_token (last_token row.right)) false ((Decides-int_eq greatest_token (last_token row.right)).1 (sym is))
top_in (row ∷ next ∷ rows) is = or_right (int_eq greatest_token (last_token row.right)) (is_member int_eq (ends (next ∷ rows)) greatest_token) (top_in (next ∷ rows) is.1)

end_in : (rows : List PlacementRow) (right : RightEnd) → IsPlacementMap rows → is_cut_right (cuts_of rows) right ≡ true → is_member int_eq (ends rows) (last_token right) ≡ true
end_in rows (At t) is cut = cut_in rows t cut
end_in rows Max is cut = top_in rows is

-- ---- what a delta shows

-- a delta shows the same at two tokens, where none of its rows ends between them
steady : (delta : List DeltaRow) (x w : ℤ) → int_le x w ≡ true → AllByRecursion (λ d. int_le x (last_token d.right) ≡ true → int_le w (last_token d.right) ≡ true) delta → delta_at delta x ≡ delta_at delta w
steady [] x w le none = refl
steady (row ∷ rows) x w le none = by (int_le x (last_token row.right)) refl (steady rows x w le none.1)
  where
    past : (e : ℤ) → int_le x e ≡ false → int_le w e ≡ false
    past e h = grind (arith, ints)

    by : (b : Bool) → int_le x (last_token row.right) ≡ b → delta_at rows x ≡ delta_at rows w → (if b then change_in row else delta_at rows x) ≡ delta_at (row ∷ rows) w
    by true upto rest = ap (λ c. if c then change_in row else delta_at rows w) (sym (none.0 upto))
    by false before rest = rest ∙ ap (λ c. if c then change_in row else delta_at rows w) (sym (past (last_token row.right) before))

-- a delta whose cuts are cuts of the map shows the same in all of a row
in_whole_row : (rows : List PlacementRow) (delta : List DeltaRow) (x : ℤ) → IsPlacementMap rows → EndAtCuts (cuts_of rows) delta → int_le x greatest_token ≡ true → delta_at delta x ≡ delta_at delta (end_at rows x)
in_whole_row rows delta x is cuts top =
    steady delta x (end_at rows x) (end_after rows x is top)
    (weaker (λ (d : DeltaRow). is_cut_right (cuts_of rows) d.right ≡ true) (λ (d : DeltaRow). int_le x (last_token d.right) ≡ true → int_le (end_at rows x) (last_token d.right) ≡ true)
    (λ d cut le. upto_row rows x (last_token d.right) is (end_in rows d.right is cut) le) delta cuts)

module _ (change : List ℕ × List ℕ → List ℕ × List ℕ → List ℕ × List ℕ) (delta : List DeltaRow) where
  at_end : (rows : List PlacementRow) (x : ℤ) → IsPlacementMap rows → int_le x greatest_token ≡ true → map_at (rows_changed change delta rows) x ≡ change (map_at rows x) (delta_at delta (end_at rows x))
  at_end [] x is top = absurd is
  at_end (row ∷ []) x is top =
      let upto : int_le x (last_token row.right) ≡ true = ap (int_le x) is ∙ top in
      rw upto
  at_end (row ∷ next ∷ rows) x is top = by (int_le x (last_token row.right)) (at_end (next ∷ rows) x is.1 top)
    where
      by : (b : Bool) → map_at (rows_changed change delta (next ∷ rows)) x ≡ change (map_at (next ∷ rows) x) (delta_at delta (end_at (next ∷ rows) x))
          → (if b then placement_in (row_changed change delta row) else map_at (rows_changed change delta (next ∷ rows)) x)
          ≡ change (if b then placement_in row else map_at (next ∷ rows) x) (delta_at delta (if b then last_token row.right else end_at (next ∷ rows) x))
      by true rest = refl
      by false rest = rest

  -- at each token the reads and writes change by what the delta shows there
  pub changed_at : (rows : List PlacementRow) → IsPlacementMap rows → EndAtCuts (cuts_of rows) delta → (x : ℤ) → IsToken x → map_at (rows_changed change delta rows) x ≡ change (map_at rows x) (delta_at delta x)
  changed_at rows is cuts x token =
      let below = token.1 in
      let top : int_le x greatest_token ≡ true = grind (arith, ints) in
      at_end rows x is top ∙ ap (change (map_at rows x)) (sym (in_whole_row rows delta x is cuts top))

-- ---- a change that loses nothing

pub no_loss : (set gained lost : List ℕ) → length lost ≡ 0 → with_change set gained lost ≡ put_all nat_cmp gained set
no_loss set gained (n ∷ lost) one = absurd (omega arith)
no_loss set gained [] none = ap (put_all nat_cmp gained) (without_none set)

pub unchanged : (set gained lost : List ℕ) → length gained ≡ 0 → length lost ≡ 0 → with_change set gained lost ≡ set
unchanged set (n ∷ gained) lost one none = absurd (omega arith)
unchanged set [] lost none_gained none_lost = no_loss set [] lost none_lost

-- ---- the nodes of a changed set

pub changed_nodes : (set gained lost : List ℕ) (n : ℕ) → has_node (with_change set gained lost) n ≡ (has_node gained n || (has_node set n && not (has_node lost n)))
changed_nodes set gained lost n = member-put_all_numbers gained (without set lost) n ∙ ap (λ b. has_node gained n || b) (has-without set lost n)

-- the change between two sets, made to the first one, gives the second
pub changed_to : (before after : List ℕ) → IsNodeSet before → IsNodeSet after → with_change before (without after before) (without before after) ≡ after
changed_to before after up upper =
    ascending_from_same_members (with_change before (without after before) (without before after)) after
    (put_all_increases (without after before) (without before (without before after)) (without_increases before (without before after) up)) members
    ∙ ascending_same_numbers after upper
  where
    either : (a b : Bool) → ((a && not b) || (b && not (b && not a))) ≡ a
    either true true = refl
    either true false = refl
    either false true = refl
    either false false = refl

    members : (n : ℕ) → has_node (with_change before (without after before) (without before after)) n ≡ has_node after n
    members n =
        changed_nodes before (without after before) (without before after) n
        ∙ (λ i. has-without after before n i || (has_node before n && not (has-without before after n i)))
        ∙ either (has_node after n) (has_node before n)
