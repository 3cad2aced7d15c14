-- No accepted list of changes is shorter than the route. The measure of what is left to do falls by at most one at each
-- change: twice the nodes that still have to join, less one if one of them takes commits already, and the members that
-- still have to leave.
use Rattle.std.proofs.Common.{◌≡◌, ℕ, ◌+◌, ◌*◌, ◌≤◌, Bool, true, false, not, ◌&&◌, ◌||◌, List, [], ◌∷◌, length, map, flat_map, nat_eq, if◌then◌else◌, Option, Some, None, IfSome, is_none, option_and_then, refl, sym, ap, ◌∙◌, arith, length-append}
use Rattle.std.proofs.lemmas.Bool.{false≢true, true≢false}
use Rattle.std.proofs.lemmas.Bool.Decides.{Decides-eqb}
use Rattle.std.proofs.lemmas.List.{length-map}
use Rattle.std.specs.Ordering.{nat_cmp}
use Rattle.cluster_terms.proofs.quorums.QuorumLemmas.{AreAmong}
use Rattle.cluster_terms.specs.Ascending.{put}
use Rattle.node_sets.proofs.SetLemmas.{has-without, without_increases}
use Rattle.node_sets.specs.NodeSets.{IsNodeSet, has_node, without}
use Rattle.cms_members.proofs.MajorityLemmas.{if_some}
use Rattle.cms_members.proofs.SetSteps.{fewer, has-less, has-put, less_increases, put_increases}
use Rattle.cms_members.specs.Route.{changes_to_join, route_of}
use Rattle.cms_members.specs.Service.{Service, has_started, remove_fault, service_after, service_of, start_fault}
use Rattle.cms_members.specs.Accepted.{IsShortest, service_after_all}
use Rattle.cms_members.specs.declared.change.Change.{Change}
use Rattle.cms_members.specs.declared.change.Change.TheVariants.{Start, Finish, Stop, Remove}

abbrev one_if : Bool → ℕ
one_if b = if b then 1 else 0

one_at_most : (b : Bool) → one_if b ≤ 1
one_at_most true = omega arith
one_at_most false = omega arith

-- a node that still has to join
abbrev has_to_join : List ℕ → List ℕ → ℕ → Bool
has_to_join to S n = has_node to n && not (has_node S n)

-- what is left to do between two sets, and what is done of it where a node takes commits
abbrev left_to_do : List ℕ → List ℕ → ℕ
left_to_do to S = 2 * length (without to S) + length (without S to)

abbrev done : List ℕ → List ℕ → Option ℕ → ℕ
done to S None = 0
done to S (Some n) = one_if (has_to_join to S n)

done_for : (to S : List ℕ) (o : Option ℕ) (n : ℕ) → has_started o n ≡ true → done to S o ≡ one_if (has_to_join to S n)
done_for to S None n e = absurd (false≢true e)
done_for to S (Some m) n e = ap (λ (k : ℕ). one_if (has_to_join to S k)) ((Decides-eqb m n).0 e)

-- a list within another and one more node is at most one longer
module _ (to : List ℕ) (to_up : IsNodeSet to) (S : List ℕ) (up : IsNodeSet S) (n : ℕ) where
  -- members that have to leave, after a node has joined
  leave_put : length (without S to) ≤ length (without (put nat_cmp n S) to)
  leave_put = fewer (without S to) (without (put nat_cmp n S) to) (without_increases S to up) among
    where
      either : (a b c : Bool) → (a && not b) ≡ true → ((c || a) && not b) ≡ true
      either true b true e = e
      either true b false e = e
      either false b c e = absurd (false≢true e)

      among : AreAmong (without S to) (without (put nat_cmp n S) to)
      among v here =
          has-without (put nat_cmp n S) to v ∙ ap (λ b. b && not (has_node to v)) (has-put n S v)
          ∙ either (has_node S v) (has_node to v) (nat_eq v n) (sym (has-without S to v) ∙ here)

  -- nodes that have to join, after a node has joined
  join_put : length (without to S) ≤ length (without to (put nat_cmp n S)) + one_if (has_to_join to S n)
  join_put = by (has_to_join to S n) refl
    where
      either : (a b c : Bool) → (a && not b) ≡ true → (c || (a && not (c || b))) ≡ true
      either a b true e = refl
      either a b false e = e

      among_more : AreAmong (without to S) (n ∷ without to (put nat_cmp n S))
      among_more v here =
          ap (λ b. nat_eq v n || b) (has-without to (put nat_cmp n S) v ∙ ap (λ b. has_node to v && not b) (has-put n S v))
          ∙ either (has_node to v) (has_node S v) (nat_eq v n) (sym (has-without to S v) ∙ here)

      another : (v : ℕ) → has_to_join to S n ≡ false → has_to_join to S v ≡ true → nat_eq v n ≡ false
      another v none here = at (nat_eq v n) refl
        where
          at : (b : Bool) → nat_eq v n ≡ b → nat_eq v n ≡ false
          at true e = absurd (true≢false (sym here ∙ ap (has_to_join to S) ((Decides-eqb v n).0 e) ∙ none))
          at false e = e

      among : has_to_join to S n ≡ false → AreAmong (without to S) (without to (put nat_cmp n S))
      among none v here =
          let is : has_to_join to S v ≡ true = sym (has-without to S v) ∙ here in
          has-without to (put nat_cmp n S) v ∙ ap (λ b. has_node to v && not b) (has-put n S v)
          ∙ ap (λ b. has_node to v && not (b || has_node S v)) (another v none is) ∙ is

      by : (b : Bool) → has_to_join to S n ≡ b → length (without to S) ≤ length (without to (put nat_cmp n S)) + one_if b
      by true e = (let most = fewer (without to S) (n ∷ without to (put nat_cmp n S)) (without_increases to S to_up) among_more in omega arith)
      by false e = (let most = fewer (without to S) (without to (put nat_cmp n S)) (without_increases to S to_up) (among e) in omega arith)

  -- members that have to leave, after a member has left
  leave_less : length (without S to) ≤ length (without (without S (n ∷ [])) to) + 1
  leave_less = let most = fewer (without S to) (n ∷ without (without S (n ∷ [])) to) (without_increases S to up) among in omega arith
    where
      either : (a b c : Bool) → (a && not b) ≡ true → (c || ((a && not c) && not b)) ≡ true
      either a b true e = refl
      either true b false e = e
      either false b false e = absurd (false≢true e)

      among : AreAmong (without S to) (n ∷ without (without S (n ∷ [])) to)
      among v here =
          ap (λ b. nat_eq v n || b) (has-without (without S (n ∷ [])) to v ∙ ap (λ b. b && not (has_node to v)) (has-less n S v))
          ∙ either (has_node S v) (has_node to v) (nat_eq v n) (sym (has-without S to v) ∙ here)

  -- nodes that have to join, after a member has left
  join_less : length (without to S) ≤ length (without to (without S (n ∷ [])))
  join_less = fewer (without to S) (without to (without S (n ∷ []))) (without_increases to S to_up) among
    where
      either : (a b c : Bool) → (a && not b) ≡ true → (a && not (b && not c)) ≡ true
      either true false c e = refl
      either true true c e = absurd (false≢true e)
      either false b c e = absurd (false≢true e)

      among : AreAmong (without to S) (without to (without S (n ∷ [])))
      among v here =
          has-without to (without S (n ∷ [])) v ∙ ap (λ b. has_node to v && not b) (has-less n S v)
          ∙ either (has_node to v) (has_node S v) (nat_eq v n) (sym (has-without to S v) ∙ here)

-- ---- any change

module _ (to : List ℕ) (to_up : IsNodeSet to) where
  record IsStep (s t : Service) : Type 0 where
    less : left_to_do to s.voting + done to t.voting t.started ≤ (left_to_do to t.voting + 1) + done to s.voting s.started
    up : IsNodeSet t.voting

  change_does : (s : Service) (c : Change) → IsNodeSet s.voting → IfSome (service_after s c) (IsStep s)
  change_does s (Start n) up =
      if_some (IsStep s) (is_none s.started && is_none (start_fault s.voting n)) (record { voting = s.voting; started = Some n })
      (λ e. record { less = (let most = one_at_most (has_to_join to s.voting n) in omega arith); up = up })
  change_does s (Finish n) up =
      if_some (IsStep s) (has_started s.started n) (service_of (put nat_cmp n s.voting))
      (λ e. record {
        less =
            let had = done_for to s.voting s.started n e in
            let most = one_at_most (has_to_join to s.voting n) in
            let leave = leave_put to to_up s.voting up n in
            let join = join_put to to_up s.voting up n in
            omega arith;
        up = put_increases n s.voting up;
      })
  change_does s (Stop n) up =
      if_some (IsStep s) (has_started s.started n) (service_of s.voting)
      (λ e. record { less = omega arith; up = up })
  change_does s (Remove n) up =
      if_some (IsStep s) (is_none s.started && is_none (remove_fault s.voting n)) (service_of (without s.voting (n ∷ [])))
      (λ e. record {
        less =
            let leave = leave_less to to_up s.voting up n in
            let join = join_less to to_up s.voting up n in
            omega arith;
        up = less_increases n s.voting up;
      })

  nothing_left : left_to_do to to ≡ 0
  nothing_left = let none = fewer (without to to) [] (without_increases to to to_up) among in omega arith
    where
      never : (a : Bool) → (a && not a) ≡ true → false ≡ true
      never true e = e
      never false e = e

      among : AreAmong (without to to) []
      among v here = never (has_node to v) (sym (has-without to to v) ∙ here)

  none_shorter : (s : Service) (cs : List Change) → IsNodeSet s.voting → service_after_all s cs ≡ Some (service_of to) → left_to_do to s.voting ≤ length cs + done to s.voting s.started
  none_shorter s [] up leads =
      let is : s ≡ service_of to = cc in
      let same : s.voting ≡ to = ap (λ (u : Service). u.voting) is in
      let none : left_to_do to s.voting ≡ 0 = ap (left_to_do to) same ∙ nothing_left in
      omega arith
  none_shorter s (c ∷ cs) up leads = by (service_after s c) (change_does s c up) leads (λ t more end. none_shorter t cs more end)
    where
      by : (o : Option Service) → IfSome o (IsStep s) → option_and_then (λ (t : Service). service_after_all t cs) o ≡ Some (service_of to)
          → ((t : Service) → IsNodeSet t.voting → service_after_all t cs ≡ Some (service_of to) → left_to_do to t.voting ≤ length cs + done to t.voting t.started)
          → left_to_do to s.voting ≤ length (c ∷ cs) + done to s.voting s.started
      by None step leads rest = absurd cc
      by (Some t) step leads rest = (let more = rest t step.up leads in let less = step.less in omega arith)

joins_length : (ns : List ℕ) → length (flat_map changes_to_join ns) ≡ 2 * length ns
joins_length [] = refl
joins_length (n ∷ ns) = let rest = joins_length ns in omega arith

route_length : (from to : List ℕ) → length (route_of from to) ≡ left_to_do to from
route_length from to =
    let joins = joins_length (without to from) in
    let removals = length-map (without from to) Remove in
    let all = length-append (flat_map changes_to_join (without to from)) (map Remove (without from to)) in
    omega arith

pub route_shortest : (from to : List ℕ) → IsNodeSet from → IsNodeSet to → IsShortest from (route_of from to) to
route_shortest from to from_up to_up others leads =
    let least = none_shorter to to_up (service_of from) others from_up leads in
    let long = route_length from to in
    omega arith
