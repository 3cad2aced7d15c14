-- Majorities before and after a change meet.
use Rattle.std.proofs.Common.{◌≡◌, ℕ, ◌+◌, ◌<◌, ◌≤◌, ◌/◌, Bool, true, false, ◌&&◌, ◌||◌, List, [], ◌∷◌, ◌++◌, length, nat_eq, nat_lt, if◌then◌else◌, Option, Some, None, IfSome, is_none, refl, sym, ◌∙◌, arith}
use Rattle.std.proofs.lemmas.Bool.{or_right}
use Rattle.std.proofs.lemmas.Bool.Decides.{nat_tests}
use Rattle.std.proofs.lemmas.List.Folds.{list_any-append}
use Rattle.std.proofs.lemmas.Map.Made.{distinct_count-le}
use Rattle.std.specs.Cmp.{nat_eq_equiv}
use Rattle.std.specs.Ordering.{nat_cmp}
use Rattle.std.specs.Set.{distinct_count}
use Rattle.cluster_terms.proofs.lists.CommonLemmas.{some_common}
use Rattle.cluster_terms.proofs.lists.DistinctCounts.{distinct_count-within}
use Rattle.cluster_terms.proofs.placement.GroupLemmas.{or_elim}
use Rattle.cluster_terms.proofs.quorums.QuorumLemmas.{AreAmong}
use Rattle.cluster_terms.specs.Ascending.{put}
use Rattle.cluster_terms.specs.Quorum.{have_common}
use Rattle.node_sets.specs.NodeSets.{IsNodeSet, has_node, without}
use Rattle.cms_members.proofs.SetSteps.{less_among, less_increases, less_length, put_among, put_increases, put_length}
use Rattle.cms_members.specs.Majority.{MajoritiesMeet, majority_of}
use Rattle.cms_members.specs.Service.{Service, has_started, remove_fault, service_after, service_of, start_fault}
use Rattle.cms_members.specs.Accepted.{AllMeet}
use Rattle.cms_members.specs.declared.change.Change.{Change}
use Rattle.cms_members.specs.declared.change.Change.TheVariants.{Start, Finish, Stop, Remove}

less_test : (k m : ℕ) → k < m → nat_lt k m ≡ true
less_test k m lt = grind (arith, nat_tests)

-- two sets inside a third that has fewer nodes than two majorities have
meet_within : (S T W : List ℕ) → AreAmong S W → AreAmong T W → length W < majority_of S + majority_of T → MajoritiesMeet S T
meet_within S T W some more few = λ one other is_one is_other. some_common (majority_of S) (majority_of T) S T one other is_one is_other counted
  where
    together : distinct_count nat_eq (S ++ T) ≤ length W
    together =
        let within = distinct_count-within nat_eq_equiv (S ++ T) W
        (λ v there. or_elim (has_node S v) (has_node T v) (sym (list_any-append (nat_eq v) S T) ∙ there) (some v) (more v)) in
        let most = distinct_count-le nat_eq W in
        omega arith

    counted : have_common (majority_of S) S (majority_of T) T ≡ true
    counted =
        let lt : distinct_count nat_eq (S ++ T) < majority_of S + majority_of T = (let within = together in omega (arith, few)) in
        or_right (nat_lt (length S) (majority_of S)) (nat_lt (length T) (majority_of T) || nat_lt (distinct_count nat_eq (S ++ T)) (majority_of S + majority_of T))
        (or_right (nat_lt (length T) (majority_of T)) (nat_lt (distinct_count nat_eq (S ++ T)) (majority_of S + majority_of T))
        (less_test (distinct_count nat_eq (S ++ T)) (majority_of S + majority_of T) lt))

-- of two numbers that differ by at most one, the halves and two are more than the greater
two_majorities : (n m : ℕ) → m ≤ n + 1 → m < (n / 2 + 1) + (m / 2 + 1)
two_majorities n m le = omega arith

two_back : (n m : ℕ) → n ≤ m + 1 → n < (n / 2 + 1) + (m / 2 + 1)
two_back n m le = omega arith

pub meet_same : (S : List ℕ) → MajoritiesMeet S S
meet_same S = meet_within S S S (λ v here. here) (λ v here. here) (two_back (length S) (length S) (omega arith))

pub meet_put : (n : ℕ) (S : List ℕ) → MajoritiesMeet S (put nat_cmp n S)
meet_put n S = meet_within S (put nat_cmp n S) (put nat_cmp n S) (put_among n S) (λ v here. here) (two_majorities (length S) (length (put nat_cmp n S)) (put_length n S))

pub meet_less : (n : ℕ) (S : List ℕ) → IsNodeSet S → MajoritiesMeet S (without S (n ∷ []))
meet_less n S up = meet_within S (without S (n ∷ [])) S (λ v here. here) (less_among n S) (two_back (length S) (length (without S (n ∷ []))) (less_length n S up))

-- ---- any change

-- what a test shows of a value holds wherever the test lets the value through
pub if_some : {X : Type 0} (P : X → Type 0) (b : Bool) (x : X) → (b ≡ true → P x) → IfSome (if b then Some x else None) P
if_some P true x holds = holds refl
if_some P false x holds = tt

-- the majorities of two services meet, and the members of the second ascend
record IsNear (s t : Service) : Type 0 where
  meet : MajoritiesMeet s.voting t.voting
  up : IsNodeSet t.voting

change_meets : (s : Service) (c : Change) → IsNodeSet s.voting → IfSome (service_after s c) (IsNear s)
change_meets s (Start n) up =
    if_some (IsNear s) (is_none s.started && is_none (start_fault s.voting n)) (record { voting = s.voting; started = Some n }) (λ e. record { meet = meet_same s.voting; up = up })
change_meets s (Finish n) up =
    if_some (IsNear s) (has_started s.started n) (service_of (put nat_cmp n s.voting)) (λ e. record { meet = meet_put n s.voting; up = put_increases n s.voting up })
change_meets s (Stop n) up =
    if_some (IsNear s) (has_started s.started n) (service_of s.voting) (λ e. record { meet = meet_same s.voting; up = up })
change_meets s (Remove n) up =
    if_some (IsNear s) (is_none s.started && is_none (remove_fault s.voting n)) (service_of (without s.voting (n ∷ []))) (λ e. record { meet = meet_less n s.voting up; up = less_increases n s.voting up })

pub all_meet : (s : Service) (cs : List Change) → IsNodeSet s.voting → AllMeet s cs
all_meet s [] up = tt
all_meet s (c ∷ cs) up = by (service_after s c) (change_meets s c up) (λ t more. all_meet t cs more)
  where
    by : (o : Option Service) → IfSome o (IsNear s) → ((t : Service) → IsNodeSet t.voting → AllMeet t cs) → IfSome o (λ t. MajoritiesMeet s.voting t.voting × AllMeet t cs)
    by None one rest = tt
    by (Some t) one rest = (one.meet, rest t one.up)
