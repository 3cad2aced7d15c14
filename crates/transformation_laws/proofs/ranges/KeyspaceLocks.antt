-- What KEYSPACE-LOCKED shows: the first two movements that would overlap, and the first row in the ranges of both.
use Rattle.std.proofs.Common.{◌≡◌, ℕ, ◌<◌, Bool, true, false, cond, ◌&&◌, ◌||◌, ◌==◌, ℤ, List, [], ◌∷◌, map, find, get_or, Option, Some, None, option_map, refl, sym, ap, ◌∙◌, subst, arith}
use Rattle.std.proofs.Math.Bool.{or-false}
use Rattle.std.proofs.lemmas.Bool.Decides.{nat_tests}
use Rattle.std.proofs.lemmas.List.Elements.{All-from_recursion, Contains-get_or}
use Rattle.std.proofs.lemmas.List.Kept.{AllPairs-cons}
use Rattle.std.proofs.lemmas.Option.{none-some}
use Rattle.std.specs.List.{AllByRecursion, AllPairs, Contains, list_any}
use Rattle.std.specs.List.Sorted.{IsStrictlySortedBy}
use Rattle.std.specs.Ordering.{match_ordering, nat_cmp}
use Rattle.std.specs.declared.cmp.Ordering.{Ordering}
use Rattle.std.specs.declared.cmp.Ordering.TheVariants.{Less, Equal, Greater}
use Rattle.cluster_terms.proofs.rows.RowLemmas.{rows_have_last}
use Rattle.cluster_terms.specs.Arc.{IsToken}
use Rattle.cluster_terms.specs.Ascending.{put}
use Rattle.cluster_terms.specs.Row.{is_within, last_token, rows_between}
use Rattle.cluster_terms.specs.declared.row.TokenRange.{TokenRange}
use Rattle.cluster_terms.specs.declared.token.RightEnd.{RightEnd}
use Rattle.transformation_laws.proofs.ranges.LockedLemmas.{first_shown, is_first_shared, lesser_free}
use Rattle.transformations.proofs.lists.ContainsLemmas.{first_contained, holds_of, later_contained}
use Rattle.transformations.proofs.lists.ListLemmas.{all_both, all_false, all_weaker, any_false}
use Rattle.transformations.proofs.movements.SoleLemmas.{found_own}
use Rattle.transformations.proofs.ranges.KeyspacesApart.{overlaps_none}
use Rattle.transformations.proofs.ranges.MovementRanges.{IsWithinWidest, moved_within, none_shared}
use Rattle.transformations.proofs.ranges.MovementsApart.{both_at, both_flips, found_apart}
use Rattle.transformations.proofs.ranges.RangesKept.{apart_at}
use Rattle.transformations.proofs.ranges.RowsServed.{cuts_ascend}
use Rattle.transformations.specs.Movements.{movement_of}
use Rattle.transformations.specs.Orders.{by_name, by_node}
use Rattle.transformations.specs.Ranges.{first_shared, in_both, in_ranges, is_shared}
use Rattle.transformations.specs.Refusals.{IsKeyspaceLocked, alone, first_of, first_overlap, keyspace_locked, overlap_of, with_keyspace}
use Rattle.transformations.specs.Rings.{cuts}
use Rattle.transformations.specs.Valid.{IsValid}
use Rattle.transformations.specs.declared.image.Image.{Image}
use Rattle.transformations.specs.declared.keyspace.KeyspaceRow.{KeyspaceRow}
use Rattle.transformations.specs.declared.refusal.Refusal.{Refusal}
use Rattle.transformations.specs.declared.refusal.Refusal.TheVariants.{KeyspaceLocked}
use Rattle.transformations.specs.declared.sequence.SeqRow.{SeqRow}

-- ---- under the replication of the keyspace

-- items of which none passes a test pass it together with one more exactly where this does
any_put : {X : Type 0} (p : X → Bool) (r : X → X → Ordering) (x : X) (ys : List X) → AllByRecursion (λ y. p y ≡ false) ys → list_any p (put r x ys) ≡ p x
any_put p r x [] all = or-false (p x)
any_put p r x (y ∷ ys) all = by (r x y) (any_put p r x ys all.1)
  where
    by : (o : Ordering) → list_any p (put r x ys) ≡ p x → list_any p (match_ordering o (x ∷ (y ∷ ys)) (x ∷ ys) (y ∷ put r x ys)) ≡ p x
    by Less rest = ap (λ b. p x || b) (any_false p (y ∷ ys) all) ∙ or-false (p x)
    by Equal rest = ap (λ b. p x || b) (any_false p ys all.1) ∙ or-false (p x)
    by Greater rest = ap (λ b. b || list_any p (put r x ys)) all.0 ∙ rest

-- what is in the ranges of two movements under no keyspace of an image is so once a keyspace is set exactly where it is
-- so under this keyspace alone
both_alone : (image : Image) (k : KeyspaceRow) (s q : SeqRow) (x : ℤ) → in_both image s q x ≡ false → in_both (with_keyspace image k) s q x ≡ in_both (alone image k) s q x
unfolding in_ranges
both_alone image k s q x none =
    any_put (λ (l : KeyspaceRow). in_ranges image l.replication s x && in_ranges image l.replication q x) by_name k image.keyspaces
    (all_false (λ (l : KeyspaceRow). in_ranges image l.replication s x && in_ranges image l.replication q x) image.keyspaces none)
    ∙ sym (or-false (in_ranges image k.replication s x && in_ranges image k.replication q x))

-- tests that agree at each item find the same
find_alike : {X : Type 0} (f g : X → Bool) (xs : List X) → AllByRecursion (λ x. f x ≡ g x) xs → find f xs ≡ find g xs
find_alike f g [] all = refl
find_alike f g (x ∷ xs) all = λ i. cond (all.0 i) (Some x) (find_alike f g xs all.1 i)

-- so the first row of both is the same, where the cuts are tokens and no token is in the ranges of both yet
first_alone : (image : Image) (k : KeyspaceRow) (s q : SeqRow) → AllByRecursion IsToken (cuts image) → ((x : ℤ) → IsToken x → in_both image s q x ≡ false)
    → first_shared (with_keyspace image k) s q ≡ first_shared (alone image k) s q
first_alone image k s q tokens apart =
    ap (option_map (λ (row : TokenRange). row.right))
    (find_alike (is_shared (with_keyspace image k) s q) (is_shared (alone image k) s q) (rows_between (cuts image))
    (all_weaker (λ (row : TokenRange). (is_within (last_token row.right) row ≡ true) × IsToken (last_token row.right)) (λ (row : TokenRange). is_shared (with_keyspace image k) s q row ≡ is_shared (alone image k) s q row)
    (λ row last. both_alone image k s q (last_token row.right) (apart (last_token row.right) last.1)) (rows_between (cuts image))
    (rows_have_last (cuts image) (cuts_ascend image) tokens)))

-- ---- the movements that are shown

-- a right end is that of the first row of the movements of two nodes, the first of some movements that share a row
record IsShown (image : Image) (sequences : List SeqRow) (n o : ℕ) (right : RightEnd) : Type 0 where
  one : SeqRow
  other : SeqRow
  first : one.node ≡ n
  second : other.node ≡ o
  there : Contains sequences one
  there_too : Contains sequences other
  greater : one.node < other.node
  shared : first_shared image one other ≡ Some right
  least : AllPairs (λ s q. s.node < n → first_shared image s q ≡ None) sequences
  next : AllByRecursion (λ q. n < q.node → q.node < o → first_shared image one q ≡ None) sequences

tells_others : (n m k : ℕ) (e f : RightEnd) → KeyspaceLocked n m e ≡ KeyspaceLocked n k f → (m ≡ k) × (e ≡ f)
tells_others n m k e f same = (let nodes : m ≡ k = cc in let ends : e ≡ f = cc in (nodes, ends))

module _ (image : Image) (n o : ℕ) (right : RightEnd) where
  -- the node of the first movement is shown
  node_shown : (s : SeqRow) (later : List SeqRow) → first_of (map (overlap_of image s) later) ≡ Some (KeyspaceLocked n o right) → s.node ≡ n
  node_shown s [] is = absurd (none-some (KeyspaceLocked n o right) is)
  node_shown s (q ∷ later) is = by (first_shared image s q) is (node_shown s later)
    where
      by : (found : Option RightEnd) → first_of (option_map (KeyspaceLocked s.node q.node) found ∷ map (overlap_of image s) later) ≡ Some (KeyspaceLocked n o right)
          → (first_of (map (overlap_of image s) later) ≡ Some (KeyspaceLocked n o right) → s.node ≡ n) → s.node ≡ n
      by None is rest = rest is
      by (Some end) is rest = cc

  -- movements ascend by node
  below : (s q : SeqRow) → by_node s q ≡ Less → s.node < q.node
  below s q less = by s.node q.node less
    where
      by : (a b : ℕ) → nat_cmp a b ≡ Less → a < b
      by a b less = grind (arith, nat_tests)

  -- the first movement shares a row with a later one
  shown_first : (s : SeqRow) (later : List SeqRow) → IsStrictlySortedBy by_node later → AllByRecursion (λ (q : SeqRow). by_node s q ≡ Less) later
      → first_of (map (overlap_of image s) later) ≡ Some (KeyspaceLocked n o right) → IsShown image (s ∷ later) n o right
  shown_first s later up above is =
      let node : s.node ≡ n = node_shown s later is in
      let own : first_of (map (overlap_of image s) later) ≡ Some (KeyspaceLocked s.node o right) = is ∙ ap (λ m. Some (KeyspaceLocked m o right)) (sym node) in
      let a = first_shown image s (KeyspaceLocked s.node) (tells_others s.node) o right later own in
      let there : Contains later a.1 = (a.0, a.2, a.3) in
      record {
        one = s;
        other = a.1;
        first = node;
        second = a.4.0;
        there = first_contained s later s refl;
        there_too = later_contained s later a.1 there;
        greater = below s a.1 (holds_of (λ (q : SeqRow). by_node s q ≡ Less) later a.1 above there);
        shared = a.4.1;
        least =
            AllPairs-cons (λ p q. p.node < n → first_shared image p q ≡ None) s later
            (All-from_recursion (λ (q : SeqRow). s.node < n → first_shared image s q ≡ None) later (all_weaker (λ (q : SeqRow). by_node s q ≡ Less) (λ (q : SeqRow). s.node < n → first_shared image s q ≡ None) (λ q more less. absurd (omega (arith, node))) later above))
            (λ i j d before within less. absurd (past node (below s (get_or later i d) (holds_of (λ (q : SeqRow). by_node s q ≡ Less) later (get_or later i d) above (Contains-get_or later i d (omega (arith, before, within))))) less));
        next = (
          λ more less. absurd (omega (arith, node)),
          all_weaker (λ (q : SeqRow). q.node < o → first_shared image s q ≡ None) (λ (q : SeqRow). n < q.node → q.node < o → first_shared image s q ≡ None) (λ q free more. free) later
              (lesser_free image s (KeyspaceLocked s.node) (tells_others s.node) o right later up own),
        );
      }
    where
      past : {a b : ℕ} → a ≡ n → a < b → b < n → ⊥
      past is more less = omega arith

  -- it shares none, so the movements are among the later ones
  shown_later : (s : SeqRow) (later : List SeqRow) → AllByRecursion (λ (q : SeqRow). by_node s q ≡ Less) later → first_of (map (overlap_of image s) later) ≡ None
      → IsShown image later n o right → IsShown image (s ∷ later) n o right
  shown_later s later above none is =
      let less : s.node < is.one.node = below s is.one (holds_of (λ (q : SeqRow). by_node s q ≡ Less) later is.one above is.there) in
      let first = is.first in
      record {
        one = is.one;
        other = is.other;
        first = is.first;
        second = is.second;
        there = later_contained s later is.one is.there;
        there_too = later_contained s later is.other is.there_too;
        greater = is.greater;
        shared = is.shared;
        least =
            AllPairs-cons (λ p q. p.node < n → first_shared image p q ≡ None) s later
            (All-from_recursion (λ (q : SeqRow). s.node < n → first_shared image s q ≡ None) later (all_weaker (λ (q : SeqRow). first_shared image s q ≡ None) (λ (q : SeqRow). s.node < n → first_shared image s q ≡ None) (λ q free lesser. free) later (overlaps_none image s later none)))
            is.least;
        next = (λ more upto. absurd (omega (arith, less, first)), is.next);
      }

  shown_among : (sequences : List SeqRow) → IsStrictlySortedBy by_node sequences → first_overlap image sequences ≡ Some (KeyspaceLocked n o right) → IsShown image sequences n o right
  unfolding IsStrictlySortedBy
  shown_among [] up is = absurd (none-some (KeyspaceLocked n o right) is)
  shown_among (s ∷ later) up is = by (first_of (map (overlap_of image s) later)) refl is (shown_among later up.1)
    where
      only : (r : Option Refusal) → first_of (r ∷ []) ≡ r
      only None = refl
      only (Some r) = refl

      by : (found : Option Refusal) → first_of (map (overlap_of image s) later) ≡ found → first_of (found ∷ first_overlap image later ∷ []) ≡ Some (KeyspaceLocked n o right)
          → (first_overlap image later ≡ Some (KeyspaceLocked n o right) → IsShown image later n o right) → IsShown image (s ∷ later) n o right
      by None none is rest = shown_later s later up.0 none (rest (sym (only (first_overlap image later)) ∙ is))
      by (Some r) found is rest = shown_first s later up.1 up.0 (found ∙ is)

-- ---- the law

module _ (image : Image) (k : KeyspaceRow) (n o : ℕ) (right : RightEnd) (h : IsValid image) (tokens : AllByRecursion IsToken (cuts image)) where
  abbrev wide : Image
  wide = with_keyspace image k

  within : (s : SeqRow) → Contains image.sequences s → IsWithinWidest wide s
  within s there = holds_of (IsWithinWidest wide) image.sequences s (moved_within image h.sound) there

  -- no two movements of the image overlap before
  apart_before : (s q : SeqRow) → Contains image.sequences s → Contains image.sequences q → s.node < q.node → (x : ℤ) → IsToken x → in_both image s q x ≡ false
  apart_before s q one other less x token =
      holds_of (λ (r : SeqRow). (r.node == s.node) ≡ false → both_at image x s r ≡ false) image.sequences q
      (found_apart (both_at image x) (both_flips image x) s.node image.sequences s (found_own image.sequences s h.sound.movements one) (apart_at image h x token)) other (apart s.node q.node less)
    where
      apart : (a b : ℕ) → a < b → (b == a) ≡ false
      apart a b less = grind (arith, nat_tests)

  from_shown : IsShown wide image.sequences n o right → IsKeyspaceLocked image k n o right
  from_shown is = record {
    one = is.one;
    other = is.other;
    first = subst (λ m. movement_of image m ≡ Some is.one) is.first (found_own image.sequences is.one h.sound.movements is.there);
    second = subst (λ m. movement_of image m ≡ Some is.other) is.second (found_own image.sequences is.other h.sound.movements is.there_too);
    greater = nodes is.first is.second is.greater;
    shared = is_first_shared (alone image k) is.one is.other right (sym (first_alone image k is.one is.other tokens (apart_before is.one is.other is.there is.there_too is.greater)) ∙ is.shared);
    least = λ x token i j d before inside less.
        none_shared wide (get_or image.sequences i d) (get_or image.sequences j d) (within (get_or image.sequences i d) (Contains-get_or image.sequences i d (omega (arith, before, inside))))
        (within (get_or image.sequences j d) (Contains-get_or image.sequences j d inside)) (is.least i j d before inside less) x token;
    next = λ x token.
        All-from_recursion (λ (q : SeqRow). n < q.node → q.node < o → in_both wide is.one q x ≡ false) image.sequences
        (all_both (IsWithinWidest wide) (λ (q : SeqRow). n < q.node → q.node < o → first_shared wide is.one q ≡ None) (λ (q : SeqRow). n < q.node → q.node < o → in_both wide is.one q x ≡ false)
        (λ q other free more less. none_shared wide is.one q (within is.one is.there) other (free more less) x token) image.sequences (moved_within image h.sound) is.next);
  }
    where
      nodes : {a b : ℕ} → a ≡ n → b ≡ o → a < b → n < o
      nodes first second less = omega arith

  pub is_keyspace_locked : keyspace_locked image k ≡ Some (KeyspaceLocked n o right) → IsKeyspaceLocked image k n o right
  unfolding keyspace_locked
  is_keyspace_locked is = from_shown (shown_among wide n o right image.sequences h.sound.movements is)
