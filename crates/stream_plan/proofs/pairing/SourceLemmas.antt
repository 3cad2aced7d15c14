-- The nodes of a placement after a movement are moved to different nodes: each node that has a strict source is moved to
-- its source, and every other node stays. In each group they are moved among no more nodes than the group asks for.
use Rattle.std.proofs.Common.{◌≡◌, ℕ, ◌≤◌, Bool, true, false, not, ◌&&◌, ◌||◌, cond, nat_eq, List, [], ◌∷◌, ◌++◌, filter, flat_map, length, Option, Some, None, is_some, sum_by, refl, sym, ap, ◌∙◌, arith, length-append}
use Rattle.std.proofs.lemmas.Bool.{and_parts, false≢true, or_left, or_right}
use Rattle.std.proofs.lemmas.List.Filters.{length-filter_both}
use Rattle.std.proofs.lemmas.List.Folds.{list_any-append}
use Rattle.std.proofs.lemmas.List.Kept.{IsStrictlySortedBy-filter}
use Rattle.std.proofs.lemmas.List.Sums.{sum_by-cons}
use Rattle.std.proofs.lemmas.Map.Made.{length-le_from_is_member}
use Rattle.std.specs.Cmp.{nat_eq_equiv}
use Rattle.std.specs.List.{AllByRecursion, list_any}
use Rattle.std.specs.Ordering.{nat_cmp}
use Rattle.cluster_terms.proofs.placement.GroupLemmas.{has, or_elim}
use Rattle.cluster_terms.proofs.quorums.QuorumLemmas.{Ascend, ascend_distinct, has_filter}
use Rattle.cluster_terms.specs.Group.{Group}
use Rattle.cluster_terms.specs.Quorum.{AreSome, quorum_of}
use Rattle.transformations.specs.MovementDeltas.{newcomers}
use Rattle.stream_plan.proofs.coverage.CoveredLemmas.{moved_common}
use Rattle.stream_plan.proofs.pairing.PairedLemmas.{paired_gained, paired_lost, paired_none, paired_once, unpaired, unpaired_count}
use Rattle.stream_plan.specs.Sources.{from_source, is_strictly_from, nodes_in, paired, streams_from, strict_source}

-- whether a node is in a group, and whether it is in any of some groups
abbrev pub is_in : Group → ℕ → Bool
is_in g n = is_some (g.rack_of n)

abbrev pub in_any : List Group → ℕ → Bool
in_any gs n = list_any (λ g. is_in g n) gs

-- no node is in two of the groups
abbrev pub AreDisjoint : List Group → Type 0
AreDisjoint [] = Unit
AreDisjoint (g ∷ gs) = ((n : ℕ) → is_in g n ≡ true → in_any gs n ≡ false) × AreDisjoint gs

-- where a node is moved to
abbrev pub moved : Option ℕ → ℕ → ℕ
moved None n = n
moved (Some source) n = source

pub has_new : (after before : List ℕ) (n : ℕ) → has (newcomers after before) n ≡ (has after n && not (has before n))
has_new after before n = has_filter (λ m. not (has before m)) after n

not_both : (a : Bool) → a ≡ true → not a ≡ true → ⊥
not_both true h k = false≢true k
not_both false h k = false≢true h

pub any_weaker : (p q : ℕ → Bool) (ns : List ℕ) → ((n : ℕ) → p n ≡ true → q n ≡ true) → list_any p ns ≡ true → list_any q ns ≡ true
any_weaker p q [] more h = h
any_weaker p q (n ∷ ns) more h =
    or_elim (p n) (list_any p ns) h (λ here. or_left (q n) (list_any q ns) (more n here)) (λ there. or_right (q n) (list_any q ns) (any_weaker p q ns more there))

-- a group has no more nodes before and after than it asks for
pub record AreFew (before after : List ℕ) (g : Group) : Type 0 where
  pub olds : length (nodes_in g before) ≤ g.rf
  pub news : length (nodes_in g after) ≤ g.rf

module _ (before after : List ℕ) (low : Ascend before) (high : Ascend after) where
  abbrev gained : List ℕ
  gained = newcomers after before

  abbrev lost : List ℕ
  lost = newcomers before after

  gained_ascend : Ascend gained
  gained_ascend = IsStrictlySortedBy-filter nat_cmp (λ n. not (has before n)) after high

  lost_ascend : Ascend lost
  lost_ascend = IsStrictlySortedBy-filter nat_cmp (λ n. not (has after n)) before low

  pub was_lost : (s : ℕ) → has lost s ≡ true → (has before s ≡ true) × (not (has after s) ≡ true)
  was_lost s there = and_parts (has before s) (not (has after s)) (sym (has_new before after s) ∙ there)

  -- ---- in one group

  module _ (g : Group) where
    abbrev here : List ℕ → List ℕ
    here ns = nodes_in g ns

    here_ascend : (ns : List ℕ) → Ascend ns → Ascend (here ns)
    here_ascend ns up = IsStrictlySortedBy-filter nat_cmp (is_in g) ns up

    has_here : (ns : List ℕ) (n : ℕ) → has (here ns) n ≡ (has ns n && is_in g n)
    has_here ns n = has_filter (is_in g) ns n

    of_here : (ns : List ℕ) (n : ℕ) → has (here ns) n ≡ true → (has ns n ≡ true) × (is_in g n ≡ true)
    of_here ns n there = and_parts (has ns n) (is_in g n) (sym (has_here ns n) ∙ there)

    to_here : (ns : List ℕ) (n : ℕ) → has ns n ≡ true → is_in g n ≡ true → has (here ns) n ≡ true
    to_here ns n there within = has_here ns n ∙ (λ i. there i && within i)

    abbrev source : ℕ → Option ℕ
    source n = paired (here gained) (here lost) n

    source_lost : (n s : ℕ) → source n ≡ Some s → (has lost s ≡ true) × (is_in g s ≡ true)
    source_lost n s e = of_here lost s (paired_lost (here gained) (here lost) n s e)

    source_gained : (n s : ℕ) → source n ≡ Some s → (has gained n ≡ true) × (is_in g n ≡ true)
    source_gained n s e = of_here gained n (paired_gained (here gained) (here lost) n s e)

    source_differs : (n m s : ℕ) → source n ≡ Some s → source m ≡ Some s → n ≡ m
    source_differs n m s e f = paired_once (here gained) (here lost) n m s (ascend_distinct (here lost) (here_ascend lost lost_ascend)) e f

    -- the nodes of the group before, and the gained ones without a source
    abbrev pub held : List ℕ
    held = here before ++ unpaired (here gained) (here lost)

    has_held : (n : ℕ) → has held n ≡ (has (here before) n || has (unpaired (here gained) (here lost)) n)
    has_held n = list_any-append (nat_eq n) (here before) (unpaired (here gained) (here lost))

    before_held : (n : ℕ) → has before n ≡ true → is_in g n ≡ true → has held n ≡ true
    before_held n there within = has_held n ∙ or_left (has (here before) n) (has (unpaired (here gained) (here lost)) n) (to_here before n there within)

    -- a node after is moved to one of these
    after_held : (n : ℕ) → has after n ≡ true → is_in g n ≡ true → has held (moved (source n) n) ≡ true
    after_held n there within = by (source n) refl
      where
        stays : (b : Bool) → has before n ≡ b → source n ≡ None → has held n ≡ true
        stays true e none = before_held n e within
        stays false e none =
            let new : has gained n ≡ true = has_new after before n ∙ (λ i. there i && not (e i)) in
            has_held n ∙ or_right (has (here before) n) (has (unpaired (here gained) (here lost)) n)
            (paired_none (here gained) (here lost) n none (to_here gained n new within))

        by : (o : Option ℕ) → source n ≡ o → has held (moved o n) ≡ true
        by None e = stays (has before n) refl e
        by (Some s) e = let l = source_lost n s e in before_held s (was_lost s l.0).0 l.1

    -- these are no more than the nodes of the group before, or those after
    held_few : (most : ℕ) → length (here before) ≤ most → length (here after) ≤ most → length held ≤ most
    held_few most few grown =
        let olds = length-filter_both (has after) (λ n. not (has after n)) (λ n. refl) (here before) in
        let news = length-filter_both (has before) (λ n. not (has before n)) (λ n. refl) (here after) in
        let gone = length-le_from_is_member nat_eq_equiv (filter (λ n. not (has after n)) (here before)) (here lost)
        (ascend_distinct (filter (λ n. not (has after n)) (here before)) (IsStrictlySortedBy-filter nat_cmp (λ n. not (has after n)) (here before) (here_ascend before low)))
        (λ v m. (let p = and_parts (has (here before) v) (not (has after v)) (sym (has_filter (λ n. not (has after n)) (here before) v) ∙ m) in
        let q = of_here before v p.0 in
        to_here lost v (has_new before after v ∙ (λ i. q.0 i && p.1 i)) q.1)) in
        let come = length-le_from_is_member nat_eq_equiv (here gained) (filter (λ n. not (has before n)) (here after))
        (ascend_distinct (here gained) (here_ascend gained gained_ascend))
        (λ v m. (let p = of_here gained v m in
        let q = and_parts (has after v) (not (has before v)) (sym (has_new after before v) ∙ p.0) in
        has_filter (λ n. not (has before n)) (here after) v ∙ (λ i. to_here after v q.0 p.1 i && q.1 i))) in
        let stay = length-le_from_is_member nat_eq_equiv (filter (has after) (here before)) (filter (has before) (here after))
        (ascend_distinct (filter (has after) (here before)) (IsStrictlySortedBy-filter nat_cmp (has after) (here before) (here_ascend before low)))
        (λ v m. (let p = and_parts (has (here before) v) (has after v) (sym (has_filter (has after) (here before) v) ∙ m) in
        let q = of_here before v p.0 in
        has_filter (has before) (here after) v ∙ (λ i. to_here after v p.1 q.1 i && q.0 i))) in
        let rest = unpaired_count (here gained) (here lost) in
        let all = length-append (here before) (unpaired (here gained) (here lost)) in
        omega (arith, few, grown, olds, news, gone, come, stay, rest, all)

  -- ---- in all groups

  abbrev source_in : List Group → ℕ → Option ℕ
  source_in gs n = strict_source gs gained lost n

  abbrev move : List Group → ℕ → ℕ
  move gs n = moved (source_in gs n) n

  pub any_source : (gs : List Group) (n s : ℕ) → source_in gs n ≡ Some s → (has lost s ≡ true) × (in_any gs s ≡ true)
  any_source [] n s e = absurd (cc)
  any_source (g ∷ gs) n s e = by (is_in g n) e (any_source gs n s)
    where
      by : (b : Bool) → cond b (source g n) (source_in gs n) ≡ Some s → (source_in gs n ≡ Some s → (has lost s ≡ true) × (in_any gs s ≡ true)) → (has lost s ≡ true) × ((is_in g s || in_any gs s) ≡ true)
      by true e more = let l = source_lost g n s e in (l.0, or_left (is_in g s) (in_any gs s) l.1)
      by false e more = let l = more e in (l.0, or_right (is_in g s) (in_any gs s) l.1)

  pub any_gained : (gs : List Group) (n s : ℕ) → source_in gs n ≡ Some s → has gained n ≡ true
  any_gained [] n s e = absurd (cc)
  any_gained (g ∷ gs) n s e = by (is_in g n) e (any_gained gs n s)
    where
      by : (b : Bool) → cond b (source g n) (source_in gs n) ≡ Some s → (source_in gs n ≡ Some s → has gained n ≡ true) → has gained n ≡ true
      by true e more = (source_gained g n s e).0
      by false e more = more e

  pub sources_differ : (gs : List Group) → AreDisjoint gs → (n m s : ℕ) → source_in gs n ≡ Some s → source_in gs m ≡ Some s → n ≡ m
  sources_differ [] apart n m s e f = absurd (cc)
  sources_differ (g ∷ gs) apart n m s e f = by (is_in g n) (is_in g m) e f (sources_differ gs apart.1 n m s)
    where
      twice : (k l : ℕ) → source g k ≡ Some s → source_in gs l ≡ Some s → ⊥
      twice k l here there = false≢true (sym (apart.0 s (source_lost g k s here).1) ∙ (any_source gs l s there).1)

      by : (b c : Bool) → cond b (source g n) (source_in gs n) ≡ Some s → cond c (source g m) (source_in gs m) ≡ Some s
          → (source_in gs n ≡ Some s → source_in gs m ≡ Some s → n ≡ m) → n ≡ m
      by true true e f more = source_differs g n m s e f
      by true false e f more = absurd (twice n m e f)
      by false true e f more = absurd (twice m n f e)
      by false false e f more = more e f

  -- nodes after are moved to different nodes
  moved_apart : (gs : List Group) → AreDisjoint gs → (n m : ℕ) → has after n ≡ true → has after m ≡ true → move gs n ≡ move gs m → n ≡ m
  moved_apart gs apart n m one other = by (source_in gs n) (source_in gs m) refl refl
    where
      stays : (k l s : ℕ) → has after k ≡ true → source_in gs l ≡ Some s → k ≡ s → ⊥
      stays k l s there e same = not_both (has after s) (ap (has after) (sym same) ∙ there) (was_lost s (any_source gs l s e).0).1

      by : (o p : Option ℕ) → source_in gs n ≡ o → source_in gs m ≡ p → moved o n ≡ moved p m → n ≡ m
      by None None e f same = same
      by None (Some s) e f same = absurd (stays n m s one f same)
      by (Some s) None e f same = absurd (stays m n s other e (sym same))
      by (Some s) (Some t) e f same = sources_differ gs apart n m s e (f ∙ ap Some (sym same))

  -- the nodes that all groups hold
  abbrev all_held : List Group → List ℕ
  all_held gs = flat_map (λ g. held g) gs

  has_all : (g : Group) (gs : List Group) (n : ℕ) → has (all_held (g ∷ gs)) n ≡ (has (held g) n || has (all_held gs) n)
  has_all g gs n = list_any-append (nat_eq n) (held g) (all_held gs)

  before_all : (gs : List Group) (n : ℕ) → has before n ≡ true → in_any gs n ≡ true → has (all_held gs) n ≡ true
  before_all [] n there any = absurd (false≢true any)
  before_all (g ∷ gs) n there any =
      has_all g gs n
      ∙ or_elim (is_in g n) (in_any gs n) any
      (λ within. or_left (has (held g) n) (has (all_held gs) n) (before_held g n there within))
      (λ later. or_right (has (held g) n) (has (all_held gs) n) (before_all gs n there later))

  after_all : (gs : List Group) (n : ℕ) → has after n ≡ true → in_any gs n ≡ true → has (all_held gs) (move gs n) ≡ true
  after_all [] n there any = absurd (false≢true any)
  after_all (g ∷ gs) n there any = by (is_in g n) refl any (after_all gs n there)
    where
      by : (b : Bool) → is_in g n ≡ b → (b || in_any gs n) ≡ true → (in_any gs n ≡ true → has (all_held gs) (move gs n) ≡ true)
          → has (all_held (g ∷ gs)) (moved (cond b (source g n) (source_in gs n)) n) ≡ true
      by true e any more =
          has_all g gs (moved (source g n) n) ∙ or_left (has (held g) (moved (source g n) n)) (has (all_held gs) (moved (source g n) n)) (after_held g n there e)
      by false e any more =
          has_all g gs (move gs n) ∙ or_right (has (held g) (move gs n)) (has (all_held gs) (move gs n)) (more any)

  all_few : (gs : List Group) → AllByRecursion (AreFew before after) gs → length (all_held gs) ≤ sum_by (λ g. g.rf) gs
  all_few [] few = omega arith
  all_few (g ∷ gs) few =
      let own = held_few g g.rf few.0.olds few.0.news in
      let rest = all_few gs few.1 in
      omega (arith, own, rest, length-append (held g) (all_held gs), sum_by-cons (λ (h : Group). h.rf) g gs)

  -- ---- quorums

  abbrev pub reaches : List Group → List ℕ → ℕ → Bool
  reaches gs taken n = has taken n || is_strictly_from taken (streams_from gs before gained lost n)

  covered : (taken : List ℕ) (n : ℕ) (o : Option ℕ) → has taken (moved o n) ≡ true → (has taken n || is_strictly_from taken (from_source before o)) ≡ true
  covered taken n None h = or_left (has taken n) false h
  covered taken n (Some s) h = or_right (has taken n) (has taken s) h

  module _ (gs : List Group) (apart : AreDisjoint gs) where
    reached_by : (total : ℕ) (few ns taken asked : List ℕ) → length few ≤ total → AreSome (quorum_of total) few taken → AreSome (quorum_of total) ns asked
        → ((n : ℕ) → has ns n ≡ true → has after n ≡ true) → ((n : ℕ) → has ns n ≡ true → has few (move gs n) ≡ true) → list_any (reaches gs taken) asked ≡ true
    reached_by total few ns taken asked most one other among into =
        any_weaker (λ n. has taken (move gs n)) (reaches gs taken) asked (λ n h. covered taken n (source_in gs n) h)
        (moved_common (move gs) total few most ns taken asked one other
        (λ v w a b. moved_apart gs apart v w (among v (other.among v a)) (among w (other.among w b)))
        (λ v a. into v (other.among v a)))

    -- quorums of all nodes
    pub quorum_reached : (total : ℕ) → AllByRecursion (AreFew before after) gs → sum_by (λ g. g.rf) gs ≤ total
        → ((n : ℕ) → has before n ≡ true → in_any gs n ≡ true) → ((n : ℕ) → has after n ≡ true → in_any gs n ≡ true)
        → (taken asked : List ℕ) → AreSome (quorum_of total) before taken → AreSome (quorum_of total) after asked → list_any (reaches gs taken) asked ≡ true
    quorum_reached total few sum lows highs taken asked one other =
        let most = all_few gs few in
        let held_taken : AreSome (quorum_of total) (all_held gs) taken = record {
          distinct = one.distinct;
          among = λ n m. (let there = one.among n m in before_all gs n there (lows n there));
          enough = one.enough;
        } in
        reached_by total (all_held gs) after taken asked (omega (arith, most, sum)) held_taken other (λ n there. there) (λ n there. after_all gs n there (highs n there))

    -- quorums of one group, in which the source of a node is that in the group
    abbrev IsOwn : Group → Type 0
    IsOwn g = (n : ℕ) → is_in g n ≡ true → source_in gs n ≡ source g n

    pub local_reached : (g : Group) → IsOwn g → AreFew before after g → (taken asked : List ℕ) → AreSome (quorum_of g.rf) (nodes_in g before) taken → AreSome (quorum_of g.rf) (nodes_in g after) asked
        → list_any (reaches gs taken) asked ≡ true
    local_reached g own few taken asked one other =
        let held_taken : AreSome (quorum_of g.rf) (held g) taken = record {
          distinct = one.distinct;
          among = λ n m. (let p = of_here g before n (one.among n m) in before_held g n p.0 p.1);
          enough = one.enough;
        } in
        reached_by g.rf (held g) (nodes_in g after) taken asked (held_few g g.rf few.olds few.news) held_taken other
        (λ n there. (of_here g after n there).0)
        (λ n there. (let p = of_here g after n there in ap (λ o. has (held g) (moved o n)) (own n p.1) ∙ after_held g n p.0 p.1))

  -- in disjoint groups each node has the source that it has in its group
  abbrev pub IsOwnIn : List Group → Group → Type 0
  IsOwnIn gs g = (n : ℕ) → is_in g n ≡ true → (in_any gs n ≡ true) × (source_in gs n ≡ source g n)

  pub own_sources : (gs : List Group) → AreDisjoint gs → AllByRecursion (IsOwnIn gs) gs
  own_sources [] apart = tt
  own_sources (g ∷ gs) apart = (
    λ n within. (or_left (is_in g n) (in_any gs n) within, (λ i. cond (within i) (source g n) (source_in gs n))),
    later gs (own_sources gs apart.1),
  )
    where
      later : (hs : List Group) → AllByRecursion (IsOwnIn gs) hs → AllByRecursion (IsOwnIn (g ∷ gs)) hs
      later [] all = tt
      later (h ∷ hs) all = (λ n within. by n (is_in g n) refl (all.0 n within), later hs all.1)
        where
          by : (n : ℕ) (b : Bool) → is_in g n ≡ b → (in_any gs n ≡ true) × (source_in gs n ≡ source h n) → ((is_in g n || in_any gs n) ≡ true) × (cond (is_in g n) (source g n) (source_in gs n) ≡ source h n)
          by n true e own = absurd (false≢true (sym (apart.0 n e) ∙ own.0))
          by n false e own = (or_right (is_in g n) (in_any gs n) own.0, (λ i. cond (e i) (source g n) (source_in gs n)) ∙ own.1)
