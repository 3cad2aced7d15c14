-- What locked ranges are: some token is in the ranges of a movement and of another.
use Rattle.std.proofs.Common.{◌≡◌, ℕ, suc, ◌<◌, Bool, true, false, cond, not, ◌==◌, ℤ, List, [], ◌∷◌, ◌++◌, map, find, Option, Some, None, option_map, refl, sym, ap, ◌∙◌, arith}
use Rattle.std.proofs.lemmas.Bool.Decides.{nat_tests}
use Rattle.std.proofs.lemmas.List.Elements.{All-cons, All-contains, All-from_recursion}
use Rattle.std.proofs.lemmas.Option.{none-some}
use Rattle.std.specs.List.{All, AllByRecursion, Any, Contains}
use Rattle.std.specs.List.Sorted.{IsStrictlySortedBy}
use Rattle.std.specs.Ordering.{nat_cmp}
use Rattle.std.specs.declared.cmp.Ordering.TheVariants.{Less}
use Rattle.cluster_terms.specs.Arc.{IsToken}
use Rattle.cluster_terms.specs.Row.{last_token, rows_between}
use Rattle.cluster_terms.specs.declared.row.TokenRange.{TokenRange}
use Rattle.cluster_terms.specs.declared.token.RightEnd.{RightEnd}
use Rattle.transformations.proofs.lists.ListLemmas.{all_both, all_weaker, part_all_of, part_filter, part_sorted}
use Rattle.transformations.proofs.ranges.PreparedLemmas.{unlocked}
use Rattle.transformations.proofs.ranges.MovementRanges.{IsWithinWidest, moved_within, none_shared, shared_found}
use Rattle.transformations.specs.Orders.{by_node}
use Rattle.transformations.specs.Ranges.{IsFirstShared, IsLockedBy, first_shared, in_both, is_shared}
use Rattle.transformations.specs.Refusals.{first_of, locked}
use Rattle.transformations.specs.Rings.{cuts}
use Rattle.transformations.specs.Movements.{others}
use Rattle.transformations.specs.Valid.{IsSound}
use Rattle.transformations.specs.declared.image.Image.{Image}
use Rattle.transformations.specs.declared.refusal.Refusal.{Refusal}
use Rattle.transformations.specs.declared.refusal.Refusal.TheVariants.{Locked}
use Rattle.transformations.specs.declared.sequence.SeqRow.{SeqRow}

pub within_of : (image : Image) (s : SeqRow) → IsSound image → Contains image.sequences s → IsWithinWidest image s
within_of image s h there = All-contains (IsWithinWidest image) image.sequences s (All-from_recursion (IsWithinWidest image) image.sequences (moved_within image h)) there

-- two movements of a sound image overlap nowhere where no row between cuts is found
pub none_overlaps : (image : Image) (s q : SeqRow) → IsSound image → Contains image.sequences s → Contains image.sequences q → first_shared image s q ≡ None → (x : ℤ) → IsToken x → in_both image s q x ≡ false
none_overlaps image s q h one other none = none_shared image s q (within_of image s h one) (within_of image q h other) none

within_others : (image : Image) (s : SeqRow) → IsSound image → AllByRecursion (IsWithinWidest image) (others image.sequences s.node)
within_others image s h = part_all_of (IsWithinWidest image) (part_filter (λ (q : SeqRow). not (q.node == s.node)) image.sequences) (moved_within image h)

-- a movement that isn't locked overlaps none of the others
pub free_unlocked : (image : Image) (s : SeqRow) → IsSound image → Contains image.sequences s → locked image s ≡ None → (x : ℤ) → IsToken x → All (λ q. in_both image s q x ≡ false) (others image.sequences s.node)
free_unlocked image s h there none x token =
    let rest : List SeqRow = others image.sequences s.node in
    All-from_recursion (λ (q : SeqRow). in_both image s q x ≡ false) rest
    (all_both (IsWithinWidest image) (λ (q : SeqRow). first_shared image s q ≡ None) (λ (q : SeqRow). in_both image s q x ≡ false)
    (λ q other free. none_shared image s q (within_of image s h there) other free x token) rest (within_others image s h) (unlocked image s none))

-- ---- what is found first

-- the item that is found, with the items before it, none of which passes
record IsFound {X : Type 0} (p : X → Bool) (xs : List X) (x : X) : Type 0 where
  before : List X
  after : List X
  split : xs ≡ before ++ x ∷ after
  passes : p x ≡ true
  none_before : All (λ y. p y ≡ false) before

found_first : {X : Type 0} (p : X → Bool) (xs : List X) (x : X) → find p xs ≡ Some x → IsFound p xs x
found_first p [] x found = absurd (none-some x found)
found_first {X} p (y ∷ ys) x found = by (p y) refl found (found_first p ys x)
  where
    by : (b : Bool) → p y ≡ b → cond b (Some y) (find p ys) ≡ Some x → (find p ys ≡ Some x → IsFound p ys x) → IsFound p (y ∷ ys) x
    by true e found rest =
        let is : y ≡ x = cc in
        record { before = []; after = ys; split = ap (λ z. z ∷ ys) is; passes = ap p (sym is) ∙ e; none_before = All-from_recursion (λ z. p z ≡ false) [] tt }
    by false e found rest =
        let r = rest found in
        record { before = y ∷ r.before; after = r.after; split = ap (λ l. y ∷ l) r.split; passes = r.passes; none_before = All-cons (λ z. p z ≡ false) y r.before e r.none_before }

-- the right end that is shown is that of the first row in the ranges of both
pub is_first_shared : (image : Image) (s q : SeqRow) (right : RightEnd) → first_shared image s q ≡ Some right → IsFirstShared image s q right
is_first_shared image s q right some = by (find (is_shared image s q) (rows_between (cuts image))) refl some
  where
    by : (o : Option TokenRange) → find (is_shared image s q) (rows_between (cuts image)) ≡ o → option_map (λ (row : TokenRange). row.right) o ≡ Some right → IsFirstShared image s q right
    by None found is = absurd (none-some right is)
    by (Some row) found is =
        let f = found_first (is_shared image s q) (rows_between (cuts image)) row found in
        record { before = f.before; row = row; after = f.after; rows = f.split; ends = cc; shared = f.passes; none_before = f.none_before }

-- a refusal that shows the node of a movement and a right end, for the first of some movements with a row in the ranges of
-- both
module _ (image : Image) (s : SeqRow) (shows : ℕ → RightEnd → Refusal) (tells : (m k : ℕ) (e f : RightEnd) → shows m e ≡ shows k f → (m ≡ k) × (e ≡ f)) (n : ℕ) (right : RightEnd) where
  abbrev shown : SeqRow → Option Refusal
  shown q = option_map (shows q.node) (first_shared image s q)

  -- the movement is of the node that is shown, and the row is the first of both
  pub first_shown : (movements : List SeqRow) → first_of (map shown movements) ≡ Some (shows n right) → Any (λ q. (q.node ≡ n) × (first_shared image s q ≡ Some right)) movements
  first_shown [] is = absurd (none-some (shows n right) is)
  first_shown (q ∷ movements) is = by (first_shared image s q) refl is (first_shown movements)
    where
      by : (o : Option RightEnd) → first_shared image s q ≡ o → first_of (option_map (shows q.node) o ∷ map shown movements) ≡ Some (shows n right)
          → (first_of (map shown movements) ≡ Some (shows n right) → Any (λ q. (q.node ≡ n) × (first_shared image s q ≡ Some right)) movements)
          → Any (λ q. (q.node ≡ n) × (first_shared image s q ≡ Some right)) (q ∷ movements)
      by None found is rest = (let r = rest is in (suc r.0, r.1, omega (arith, r.2), r.3, r.4))
      by (Some end) found is rest =
          let same : shows q.node end ≡ shows n right = cc in
          let parts = tells q.node n end right same in
          (0, q, omega arith, refl, (parts.0, found ∙ ap (λ e. Some e) parts.1))

  -- where movements ascend by node, those of lesser nodes share no row
  pub lesser_free : (movements : List SeqRow) → IsStrictlySortedBy by_node movements → first_of (map shown movements) ≡ Some (shows n right)
      → AllByRecursion (λ q. q.node < n → first_shared image s q ≡ None) movements
  unfolding IsStrictlySortedBy
  lesser_free [] up is = tt
  lesser_free (q ∷ movements) up is = by (first_shared image s q) refl is (lesser_free movements up.1)
    where
      later : (m k : ℕ) → nat_cmp m k ≡ Less → m ≡ n → k < n → ⊥
      later m k above node less = grind (arith, nat_tests)

      by : (o : Option RightEnd) → first_shared image s q ≡ o → first_of (option_map (shows q.node) o ∷ map shown movements) ≡ Some (shows n right)
          → (first_of (map shown movements) ≡ Some (shows n right) → AllByRecursion (λ q. q.node < n → first_shared image s q ≡ None) movements)
          → (q.node < n → first_shared image s q ≡ None) × AllByRecursion (λ q. q.node < n → first_shared image s q ≡ None) movements
      by None found is rest = (λ less. found, rest is)
      by (Some end) found is rest =
          let same : shows q.node end ≡ shows n right = cc in
          let node : q.node ≡ n = (tells q.node n end right same).0 in (
            λ less. absurd (omega arith),
            all_weaker (λ (r : SeqRow). by_node q r ≡ Less) (λ (r : SeqRow). r.node < n → first_shared image s r ≡ None) (λ r above less. absurd (later q.node r.node above node less)) movements up.0,
          )

-- ---- LOCKED

tells_locked : (m k : ℕ) (e f : RightEnd) → Locked m e ≡ Locked k f → (m ≡ k) × (e ≡ f)
tells_locked m k e f same = (let nodes : m ≡ k = cc in let ends : e ≡ f = cc in (nodes, ends))

module _ (image : Image) (s : SeqRow) (n : ℕ) (right : RightEnd) where
  -- a movement that is locked overlaps one of the others, that of the node that is shown
  locked_first : locked image s ≡ Some (Locked n right) → Any (λ q. (q.node ≡ n) × (first_shared image s q ≡ Some right)) (others image.sequences s.node)
  unfolding locked
  locked_first is = first_shown image s Locked tells_locked n right (others image.sequences s.node) is

  pub locked_overlaps : locked image s ≡ Some (Locked n right) → Any (λ q. (q.node ≡ n) × (in_both image s q (last_token right) ≡ true)) (others image.sequences s.node)
  locked_overlaps is = (let a = locked_first is in (a.0, a.1, a.2, a.3, (a.4.0, shared_found image s a.1 right a.4.1)))

  -- and none of a lesser node
  locked_least : IsSound image → Contains image.sequences s → locked image s ≡ Some (Locked n right) → (x : ℤ) → IsToken x
      → All (λ q. q.node < n → in_both image s q x ≡ false) (others image.sequences s.node)
  unfolding locked
  locked_least h there is x token =
      let rest : List SeqRow = others image.sequences s.node in
      All-from_recursion (λ (q : SeqRow). q.node < n → in_both image s q x ≡ false) rest
      (all_both (IsWithinWidest image) (λ (q : SeqRow). q.node < n → first_shared image s q ≡ None) (λ (q : SeqRow). q.node < n → in_both image s q x ≡ false)
      (λ q other free less. none_shared image s q (within_of image s h there) other (free less) x token) rest (within_others image s h)
      (lesser_free image s Locked tells_locked n right rest (part_sorted by_node (part_filter (λ (q : SeqRow). not (q.node == s.node)) image.sequences) h.movements) is))

  pub is_locked_by : IsSound image → Contains image.sequences s → locked image s ≡ Some (Locked n right) → IsLockedBy image s n right
  is_locked_by h there is = record {
    least = locked_least h there is;
    first = (let a = locked_first is in (a.0, a.1, a.2, a.3, (a.4.0, is_first_shared image s a.1 right a.4.1)));
  }
