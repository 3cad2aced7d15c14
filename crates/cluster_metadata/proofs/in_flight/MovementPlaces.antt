-- Movements by their place: one that is put in, one that takes a step, and one that is taken out.
use Rattle.std.proofs.Common.{◌≡◌, ℕ, suc, zero, ◌<◌, ◌≤◌, Bool, true, false, true≢false, ◌==◌, cond, List, [], ◌∷◌, length, map, find, get_or, set, Option, Some, None, IsSome, option_map, ◌≢◌, nat_lt, refl, sym, ap, ◌∙◌, subst, arith}
use Rattle.std.proofs.lemmas.Bool.Decides.{Decides-eqb, nat_tests}
use Rattle.std.proofs.lemmas.Option.{none-some, slice_get_past, slice_get_read}
use Rattle.std.proofs.lemmas.List.Folds.{find_at}
use Rattle.std.specs.List.{AllByRecursion, position, position_or_len, remove, slice_get}
use Rattle.std.specs.List.Sorted.{IsStrictlySortedBy}
use Rattle.std.specs.Ordering.{nat_cmp}
use Rattle.std.specs.declared.cmp.Ordering.TheVariants.{Less}
use Rattle.transformations.specs.Orders.{by_node}
use Rattle.transformations.specs.Movements.{at_phase, others}
use Rattle.transformations.specs.declared.sequence.Phase.{Phase}
use Rattle.transformations.specs.declared.sequence.SeqRow.{SeqRow}
use Rattle.cluster_metadata.specs.code.Change.{in_phase, phased}

-- ---- the only movement of a node

less_is : (a b : ℕ) → nat_cmp a b ≡ Less → a < b
less_is a b h = grind arith

-- a movement with a lesser node, or a greater one, is not the node's
pub less_other : (s q : SeqRow) (n : ℕ) → by_node s q ≡ Less → (q.node == n) ≡ true → (s.node == n) ≡ false
less_other s q n less own = by (s.node == n) refl
  where
    by : (b : Bool) → (s.node == n) ≡ b → b ≡ false
    by false e = refl
    by true e =
        let up = less_is s.node q.node less in
        let one : s.node ≡ n = (Decides-eqb s.node n).0 e in
        let two : q.node ≡ n = (Decides-eqb q.node n).0 own in
        absurd (omega arith)

greater_other : (s q : SeqRow) (n : ℕ) → by_node s q ≡ Less → (s.node == n) ≡ true → (q.node == n) ≡ false
greater_other s q n less own = by (q.node == n) refl
  where
    by : (b : Bool) → (q.node == n) ≡ b → b ≡ false
    by false e = refl
    by true e = absurd (true≢false (sym own ∙ less_other s q n less e))

-- what holds of all movements holds of the one at a place
pub at_place : (P : SeqRow → Type 0) (rows : List SeqRow) (at : ℕ) (s : SeqRow) → AllByRecursion P rows → slice_get rows at ≡ Some s → P s
at_place P [] at s all found = absurd (none-some s found)
at_place P (q ∷ rows) zero s all found = (let same : q ≡ s = cc in subst P same all.0)
at_place P (q ∷ rows) (suc at) s all found = at_place P rows at s all.1 found

module _ (n : ℕ) where
  -- movements that come after the node's stay as they are
  pub steps_none : (p : Phase) (rows : List SeqRow) → AllByRecursion (λ (q : SeqRow). (q.node == n) ≡ false) rows → map (at_phase p n) rows ≡ rows
  steps_none p [] all = refl
  steps_none p (q ∷ rows) all = rw all.0 (ap (λ l. q ∷ l) (steps_none p rows all.1))

  others_all : (rows : List SeqRow) → AllByRecursion (λ (q : SeqRow). (q.node == n) ≡ false) rows → others rows n ≡ rows
  others_all [] all = refl
  others_all (q ∷ rows) all = rw all.0 (ap (λ l. q ∷ l) (others_all rows all.1))

  pub later_others : (s : SeqRow) (rows : List SeqRow) → (s.node == n) ≡ true → AllByRecursion (λ q. by_node s q ≡ Less) rows → AllByRecursion (λ (q : SeqRow). (q.node == n) ≡ false) rows
  later_others s [] own less = tt
  later_others s (q ∷ rows) own less = (greater_other s q n less.0 own, later_others s rows own less.1)

  -- the node's movement takes a step at its place
  pub stepped_at : (p : Phase) (rows : List SeqRow) (at : ℕ) (s : SeqRow) → IsStrictlySortedBy by_node rows → slice_get rows at ≡ Some s → (s.node == n) ≡ true → map (at_phase p n) rows ≡ phased rows at p
  unfolding IsStrictlySortedBy
  stepped_at p [] at s up found own = absurd (none-some s found)
  stepped_at p (q ∷ rows) zero s up found own =
      let same : q ≡ s = cc in
      let mine : (q.node == n) ≡ true = rw same own in
      rw (mine, steps_none p rows (later_others q rows mine up.0)) refl
  stepped_at p (q ∷ rows) (suc at) s up found own =
      let apart = less_other q s n (at_place (λ r. by_node q r ≡ Less) rows at s up.0 found) own in
      rw apart (ap (λ l. q ∷ l) (stepped_at p rows at s up.1 found own))

  -- the others are those without the one at its place
  pub others_at : (rows : List SeqRow) (at : ℕ) (s : SeqRow) → IsStrictlySortedBy by_node rows → slice_get rows at ≡ Some s → (s.node == n) ≡ true → others rows n ≡ remove rows at
  unfolding IsStrictlySortedBy
  others_at [] at s up found own = absurd (none-some s found)
  others_at (q ∷ rows) zero s up found own =
      let same : q ≡ s = cc in
      let mine : (q.node == n) ≡ true = rw same own in
      rw (mine, others_all rows (later_others q rows mine up.0)) refl
  others_at (q ∷ rows) (suc at) s up found own =
      let apart = less_other q s n (at_place (λ r. by_node q r ≡ Less) rows at s up.0 found) own in
      rw apart (ap (λ l. q ∷ l) (others_at rows at s up.1 found own))

-- ---- the place of a movement

-- a movement of which something is known is there
pub some_there : {X : Type 0} (f : SeqRow → X) (b : X) (o : Option SeqRow) → option_map f o ≡ Some b → (P : Type 0) → ((s : SeqRow) → o ≡ Some s → P) → P
some_there f b None h P by = absurd (none-some b h)
some_there f b (Some s) h P by = by s refl

pub known_of : {X : Type 0} (f : SeqRow → X) (b : X) (o : Option SeqRow) (s : SeqRow) → option_map f o ≡ Some b → o ≡ Some s → f s ≡ b
known_of f b None s h here = absurd (none-some b h)
known_of f b (Some q) s h here = (let same : s ≡ q = cc in ap f same ∙ cc h)

-- the movement at a place gets another phase
pub phased_at : (p : Phase) (rows : List SeqRow) (at : ℕ) (s : SeqRow) → slice_get rows at ≡ Some s → set rows at (in_phase p s) ≡ phased rows at p
phased_at p [] at s found = absurd (none-some s found)
phased_at p (q ∷ rows) zero s found = (let same : s ≡ q = cc in ap (λ (r : SeqRow). in_phase p r ∷ rows) same)
phased_at p (q ∷ rows) (suc at) s found = ap (λ l. q ∷ l) (phased_at p rows at s found)

-- the item at a position, in the two ways to read it
pub at_index : {X : Type 0} (xs : List X) (i : ℕ) (x : X) → i < length xs → x ≡ get_or xs i x → slice_get xs i ≡ Some x
at_index xs i x within here = slice_get_read xs (length xs) i x refl within here

-- what is found stands at the first place of its kind, and there is such a place
pub found_at : {X : Type 0} (p : X → Bool) (rows : List X) (at : ℕ) → position p rows ≡ Some at → slice_get rows at ≡ find p rows
found_at p rows at h = by (nat_lt (position_or_len p rows) (length rows)) h
  where
    by : (b : Bool) → cond b (Some (position_or_len p rows)) None ≡ Some at → slice_get rows at ≡ find p rows
    by true h = (let same : position_or_len p rows ≡ at = cc h in rw (← same) (sym (find_at p rows)))
    by false h = absurd (none-some at h)

pub some_place : {X : Type 0} (p : X → Bool) (rows : List X) → IsSome (find p rows) → position p rows ≢ None
some_place {X} p rows some none = by (nat_lt (position_or_len p rows) (length rows)) refl none
  where
    by : (b : Bool) → nat_lt (position_or_len p rows) (length rows) ≡ b → cond b (Some (position_or_len p rows)) None ≡ None → ⊥
    by true e h = none-some (position_or_len p rows) (sym h)
    by false e h =
        let over : length rows ≤ position_or_len p rows = grind (arith, nat_tests) in
        let missing : find p rows ≡ None = find_at p rows ∙ slice_get_past rows (position_or_len p rows) over in
        absurd (true≢false (sym (subst (λ (o : Option X). IsSome o) missing some)))
