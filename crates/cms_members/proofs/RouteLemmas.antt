-- The changes of a route are accepted, and lead from the one set to the other.
use Rattle.std.proofs.Common.{◌≡◌, ℕ, ◌+◌, ◌<◌, ◌≤◌, ◌==◌, Bool, true, false, not, ◌&&◌, ◌||◌, List, [], ◌∷◌, ◌++◌, length, map, flat_map, min, nat_eq, nat_lt, if◌then◌else◌, Option, Some, None, IfSome, is_none, option_and_then, refl, sym, ap, ◌∙◌, arith, subst}
use Rattle.std.proofs.lemmas.Bool.{and_parts, false≢true, true≢false, or_right}
use Rattle.std.proofs.lemmas.Bool.Decides.{Decides-eqb, nat_tests}
use Rattle.std.proofs.lemmas.Map.Made.{length-le_from_is_member}
use Rattle.std.specs.Cmp.{nat_eq_equiv}
use Rattle.std.specs.List.{AllByRecursion, IsDistinct}
use Rattle.std.specs.Ordering.{nat_cmp}
use Rattle.cluster_terms.proofs.lists.AscendingNumbers.{ascending_from_same_members, ascending_same_numbers}
use Rattle.cluster_terms.proofs.lists.DistinctCounts.{distinct_cons}
use Rattle.cluster_terms.proofs.placement.GroupLemmas.{or_elim}
use Rattle.cluster_terms.proofs.quorums.QuorumLemmas.{AreAmong}
use Rattle.cluster_terms.specs.Ascending.{put}
use Rattle.node_sets.proofs.SetLemmas.{has-without, without_increases}
use Rattle.node_sets.specs.NodeSets.{IsNodeSet, has_node, without}
use Rattle.cms_members.proofs.SetSteps.{all_from, apart, fewer, has-less, has-put, less_increases, other_node, put_increases, same_node, set_distinct, put_length}
use Rattle.cms_members.specs.Route.{changes_to_join, route_of}
use Rattle.cms_members.specs.Service.{Service, growing_service, service_after, service_of}
use Rattle.cms_members.specs.Accepted.{Arrives, NeverFewer, service_after_all}
use Rattle.cms_members.specs.declared.change.Change.{Change}
use Rattle.cms_members.specs.declared.change.Change.TheVariants.{Start, Finish, Remove}
use Rattle.cms_members.specs.declared.fault.MemberFault.TheVariants.{NotMember, Last}
use Rattle.cms_members.specs.declared.fault.StartFault.TheVariants.{Member, Full}

-- ---- one change

after_start : (S : List ℕ) (n : ℕ) → has_node S n ≡ false → length S < 32 → service_after (service_of S) (Start n) ≡ Some (growing_service (record { voting = S; node = n }))
after_start S n new few = by (has_node S n) (nat_lt (length S) 32) new (let e : nat_lt (length S) 32 ≡ true = grind (arith, nat_tests) in e)
  where
    by : (b c : Bool) → b ≡ false → c ≡ true
        → (if is_none (if b then Some Member else (if c then None else Some (Full 32))) then Some (growing_service (record { voting = S; node = n })) else None) ≡ Some (growing_service (record { voting = S; node = n }))
    by true c e f = absurd (true≢false e)
    by false true e f = refl
    by false false e f = absurd (false≢true f)

after_finish : (S : List ℕ) (n : ℕ) → service_after (growing_service (record { voting = S; node = n })) (Finish n) ≡ Some (service_of (put nat_cmp n S))
after_finish S n = ap (λ b. if b then Some (service_of (put nat_cmp n S)) else None) (same_node n)

after_remove : (S : List ℕ) (n : ℕ) → has_node S n ≡ true → (length S == 1) ≡ false → service_after (service_of S) (Remove n) ≡ Some (service_of (without S (n ∷ [])))
after_remove S n member more = by (has_node S n) (length S == 1) member more
  where
    by : (b c : Bool) → b ≡ true → c ≡ false
        → (if is_none (if b then (if c then Some Last else None) else Some NotMember) then Some (service_of (without S (n ∷ []))) else None) ≡ Some (service_of (without S (n ∷ [])))
    by false c e f = absurd (false≢true e)
    by true false e f = refl
    by true true e f = absurd (true≢false f)

-- ---- a list of changes

-- all changes are accepted and lead to this end, with never fewer voting members than these
record Goes (least : ℕ) (s : Service) (cs : List Change) (end : Service) : Type 0 where
  leads : service_after_all s cs ≡ Some end
  many : NeverFewer least s cs

goes_step : (least : ℕ) (s : Service) (c : Change) (t : Service) (cs : List Change) (end : Service) → service_after s c ≡ Some t → least ≤ length s.voting → Goes least t cs end → Goes least s (c ∷ cs) end
goes_step least s c t cs end is le rest = record {
  leads = ap (option_and_then (λ (u : Service). service_after_all u cs)) is ∙ rest.leads;
  many = (le, subst (λ (o : Option Service). IfSome o (λ u. NeverFewer least u cs)) (sym is) rest.many);
}

-- the nodes with others put into them, and with others taken away, one after another
abbrev grown : List ℕ → List ℕ → List ℕ
grown S [] = S
grown S (n ∷ ns) = grown (put nat_cmp n S) ns

abbrev shrunk : List ℕ → List ℕ → List ℕ
shrunk S [] = S
shrunk S (n ∷ ns) = shrunk (without S (n ∷ [])) ns

-- some nodes that are there all the time
module _ (least : ℕ) (kept : List ℕ) (up : IsNodeSet kept) (enough : least ≤ length kept) where
  joins_go : (S ns : List ℕ) (rest : List Change) (end : Service) → AreAmong kept S → IsDistinct nat_eq ns → AllByRecursion (λ n. has_node S n ≡ false) ns → length S + length ns ≤ 32
      → Goes least (service_of (grown S ns)) rest end → Goes least (service_of S) (flat_map changes_to_join ns ++ rest) end
  unfolding IsDistinct
  joins_go S [] rest end among distinct new few goes = goes
  joins_go S (n ∷ ns) rest end among distinct new few goes =
      let many : least ≤ length S = (let most = fewer kept S up among in omega (arith, enough)) in
      let longer : length (put nat_cmp n S) ≤ length S + 1 = put_length n S in
      goes_step least (service_of S) (Start n) (growing_service (record { voting = S; node = n })) (Finish n ∷ (flat_map changes_to_join ns ++ rest)) end (after_start S n new.0 (omega arith)) many
      (goes_step least (growing_service (record { voting = S; node = n })) (Finish n) (service_of (put nat_cmp n S)) (flat_map changes_to_join ns ++ rest) end (after_finish S n) many
      (joins_go (put nat_cmp n S) ns rest end (λ v here. has-put n S v ∙ or_right (nat_eq v n) (has_node S v) (among v here)) distinct.1 (still_new ns distinct.0 new.1) (omega arith) goes))
    where
      still_new : (ms : List ℕ) → AllByRecursion (λ m. nat_eq n m ≡ false) ms → AllByRecursion (λ m. has_node S m ≡ false) ms → AllByRecursion (λ m. has_node (put nat_cmp n S) m ≡ false) ms
      still_new [] others none = tt
      still_new (m ∷ ms) others none = (has-put n S m ∙ (λ i. other_node n m others.0 i || none.0 i), still_new ms others.1 none.1)

  removals_go : (S ns : List ℕ) → 1 ≤ length kept → AreAmong kept S → IsDistinct nat_eq ns → AllByRecursion (λ n. has_node S n ≡ true) ns → AllByRecursion (λ n. has_node kept n ≡ false) ns
      → Goes least (service_of S) (map Remove ns) (service_of (shrunk S ns))
  unfolding IsDistinct
  removals_go S [] some among distinct there none = record { leads = refl; many = (let most = fewer kept S up among in omega (arith, enough)) }
  removals_go S (n ∷ ns) some among distinct there none =
      let more : length kept + 1 ≤ length S = (let most = length-le_from_is_member nat_eq_equiv (n ∷ kept) S (distinct_cons nat_eq_equiv n kept (set_distinct kept up) none.0) one_more in omega arith) in
      let not_one : (length S == 1) ≡ false = grind (arith, nat_tests) in
      goes_step least (service_of S) (Remove n) (service_of (without S (n ∷ []))) (map Remove ns) (service_of (shrunk (without S (n ∷ [])) ns)) (after_remove S n there.0 not_one) (omega (arith, enough))
      (removals_go (without S (n ∷ [])) ns some (λ v here. has-less n S v ∙ (λ i. among v here i && not (apart v n kept here none.0 i))) distinct.1 (still_there ns distinct.0 there.1) none.1)
    where
      one_more : (v : ℕ) → has_node (n ∷ kept) v ≡ true → has_node S v ≡ true
      one_more v here = or_elim (nat_eq v n) (has_node kept v) here (λ e. ap (has_node S) ((Decides-eqb v n).0 e) ∙ there.0) (among v)

      still_there : (ms : List ℕ) → AllByRecursion (λ m. nat_eq n m ≡ false) ms → AllByRecursion (λ m. has_node S m ≡ true) ms → AllByRecursion (λ m. has_node (without S (n ∷ [])) m ≡ true) ms
      still_there [] others there = tt
      still_there (m ∷ ms) others there = (has-less n S m ∙ (λ i. there.0 i && not (other_node n m others.0 i)), still_there ms others.1 there.1)

-- ---- the end of a route

has-grown : (S ns : List ℕ) (v : ℕ) → has_node (grown S ns) v ≡ (has_node ns v || has_node S v)
has-grown S [] v = refl
has-grown S (n ∷ ns) v = has-grown (put nat_cmp n S) ns v ∙ ap (λ b. has_node ns v || b) (has-put n S v) ∙ moved (has_node ns v) (nat_eq v n) (has_node S v)
  where
    moved : (a b c : Bool) → (a || (b || c)) ≡ ((b || a) || c)
    moved true true c = refl
    moved true false c = refl
    moved false true c = refl
    moved false false c = refl

has-shrunk : (S ns : List ℕ) (v : ℕ) → has_node (shrunk S ns) v ≡ (has_node S v && not (has_node ns v))
has-shrunk S [] v = kept (has_node S v)
  where
    kept : (a : Bool) → a ≡ (a && true)
    kept true = refl
    kept false = refl
has-shrunk S (n ∷ ns) v = has-shrunk (without S (n ∷ [])) ns v ∙ ap (λ b. b && not (has_node ns v)) (has-less n S v) ∙ moved (has_node S v) (nat_eq v n) (has_node ns v)
  where
    moved : (a b c : Bool) → ((a && not b) && not c) ≡ (a && not (b || c))
    moved true true c = refl
    moved true false c = refl
    moved false b c = refl

grown_increases : (S ns : List ℕ) → IsNodeSet S → IsNodeSet (grown S ns)
grown_increases S [] up = up
grown_increases S (n ∷ ns) up = grown_increases (put nat_cmp n S) ns (put_increases n S up)

shrunk_increases : (S ns : List ℕ) → IsNodeSet S → IsNodeSet (shrunk S ns)
shrunk_increases S [] up = up
shrunk_increases S (n ∷ ns) up = shrunk_increases (without S (n ∷ [])) ns (less_increases n S up)

not_true : (a : Bool) → not a ≡ true → a ≡ false
not_true true e = absurd (false≢true e)
not_true false e = refl

module _ (from to : List ℕ) (from_up : IsNodeSet from) (to_up : IsNodeSet to) where
  abbrev joining : List ℕ
  joining = without to from

  abbrev leaving : List ℕ
  leaving = without from to

  abbrev both : List ℕ
  both = grown from joining

  end_is : shrunk both leaving ≡ to
  end_is = ascending_from_same_members (shrunk both leaving) to (shrunk_increases both leaving (grown_increases from joining from_up)) members ∙ ascending_same_numbers to to_up
    where
      settle : (a b : Bool) → (((b && not a) || a) && not (a && not b)) ≡ b
      settle true true = refl
      settle true false = refl
      settle false true = refl
      settle false false = refl

      members : (v : ℕ) → has_node (shrunk both leaving) v ≡ has_node to v
      members v =
          has-shrunk both leaving v
          ∙ (λ i. has-grown from joining v i && not (has-without from to v i))
          ∙ (λ i. (has-without to from v i || has_node from v) && not (has_node from v && not (has_node to v)))
          ∙ settle (has_node from v) (has_node to v)

  -- what is in one set and not in the other
  parts_of : (S T : List ℕ) (v : ℕ) → has_node (without S T) v ≡ true → (has_node S v ≡ true) × (has_node T v ≡ false)
  parts_of S T v here = (let parts = and_parts (has_node S v) (not (has_node T v)) (sym (has-without S T v) ∙ here) in (parts.0, not_true (has_node T v) parts.1))

  to_among : AreAmong to both
  to_among v here = has-grown from joining v ∙ ap (λ b. b || has_node from v) (has-without to from v) ∙ either (has_node to v) (has_node from v) here
    where
      either : (a b : Bool) → a ≡ true → ((a && not b) || b) ≡ true
      either true true e = refl
      either true false e = refl
      either false b e = absurd (false≢true e)

  route_goes : 1 ≤ length from → length from ≤ 16 → 1 ≤ length to → length to ≤ 16 → Goes (min (length from) (length to)) (service_of from) (route_of from to) (service_of to)
  route_goes from_some from_few to_some to_few =
      let short : length joining ≤ length to = fewer joining to (without_increases to from to_up) (λ v here. (parts_of to from v here).0) in
      joins_go (min (length from) (length to)) from from_up (omega arith) from joining (map Remove leaving) (service_of to) (λ v here. here) (set_distinct joining (without_increases to from to_up))
      (all_from (λ n. has_node from n ≡ false) joining (λ v here. (parts_of to from v here).1)) (omega arith)
      (subst (λ (end : List ℕ). Goes (min (length from) (length to)) (service_of both) (map Remove leaving) (service_of end)) end_is
      (removals_go (min (length from) (length to)) to to_up (omega arith) both leaving to_some to_among (set_distinct leaving (without_increases from to from_up))
      (all_from (λ n. has_node both n ≡ true) leaving (λ v here. has-grown from joining v ∙ or_right (has_node joining v) (has_node from v) (parts_of from to v here).0))
      (all_from (λ n. has_node to n ≡ false) leaving (λ v here. (parts_of from to v here).1))))

pub route_arrives : (from to : List ℕ) → IsNodeSet from → IsNodeSet to → 1 ≤ length from → length from ≤ 16 → 1 ≤ length to → length to ≤ 16 → Arrives from (route_of from to) to
route_arrives from to from_up to_up from_some from_few to_some to_few = (route_goes from to from_up to_up from_some from_few to_some to_few).leads

pub route_never_fewer : (from to : List ℕ) → IsNodeSet from → IsNodeSet to → 1 ≤ length from → length from ≤ 16 → 1 ≤ length to → length to ≤ 16 → NeverFewer (min (length from) (length to)) (service_of from) (route_of from to)
route_never_fewer from to from_up to_up from_some from_few to_some to_few = (route_goes from to from_up to_up from_some from_few to_some to_few).many
