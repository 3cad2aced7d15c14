-- Quorums of replicas: when they exist, and when they meet.
use Rattle.std.proofs.Common.{◌≡◌, ℕ, ◌+◌, ◌/◌, ◌<◌, ◌≤◌, Bool, true, false, not, ◌&&◌, ◌||◌, nat_eq, nat_lt, nat_le, List, [], ◌∷◌, ◌++◌, filter, length, refl, sym, ap, ◌∙◌, arith}
use Rattle.std.proofs.lemmas.Bool.{and_parts, or_right}
use Rattle.std.proofs.lemmas.Bool.Decides.{nat_tests}
use Rattle.std.proofs.lemmas.List.Filters.{length-filter_both}
use Rattle.std.proofs.lemmas.List.Folds.{list_any-append}
use Rattle.std.proofs.lemmas.List.Kept.{IsStrictlySortedBy-filter}
use Rattle.std.proofs.lemmas.Map.Keys.{IsDistinct-from_sorted}
use Rattle.std.proofs.lemmas.Map.Made.{distinct_count-le, is_member-filter, length-le_from_is_member}
use Rattle.std.proofs.lemmas.Map.Views.{exact_unsigned_eq}
use Rattle.std.specs.Cmp.{nat_eq_equiv, unsigned_tied}
use Rattle.std.specs.List.{IsDistinct}
use Rattle.std.specs.List.Sorted.{IsStrictlySortedBy}
use Rattle.std.specs.Ordering.{nat_cmp, eq_by_cmp}
use Rattle.std.specs.Set.{distinct_count}
use Rattle.cluster_terms.proofs.lists.AscendingLemmas.{weaker}
use Rattle.cluster_terms.proofs.lists.DistinctCounts.{distinct_count-within}
use Rattle.cluster_terms.proofs.placement.GroupLemmas.{has, or_elim}
use Rattle.cluster_terms.specs.Quorum.{Sets, pending, quorum_of, read_need, write_need, writes_meet_reads}

-- some nodes are among others
abbrev pub AreAmong : List ℕ → List ℕ → Type 0
AreAmong ns ms = (v : ℕ) → has ns v ≡ true → has ms v ≡ true

abbrev pub Ascend : List ℕ → Type 0
Ascend ns = IsStrictlySortedBy nat_cmp ns

distinct_alike : (ms : List ℕ) → IsDistinct (eq_by_cmp nat_cmp) ms → IsDistinct nat_eq ms
unfolding IsDistinct
distinct_alike [] d = tt
distinct_alike (m ∷ ms) d = (weaker (λ y. eq_by_cmp nat_cmp m y ≡ false) (λ y. nat_eq m y ≡ false) (λ y apart. sym (unsigned_tied m y) ∙ apart) ms d.0, distinct_alike ms d.1)

-- nodes that ascend are different
pub ascend_distinct : (ns : List ℕ) → Ascend ns → IsDistinct nat_eq ns
ascend_distinct ns up = distinct_alike ns (IsDistinct-from_sorted nat_cmp ns up)

pub has_filter : (test : ℕ → Bool) (ns : List ℕ) (v : ℕ) → has (filter test ns) v ≡ (has ns v && test v)
has_filter test ns v = is_member-filter nat_eq_equiv test v (λ q e. ap test (exact_unsigned_eq v q e)) ns

-- ---- which of the writes are pending

-- the writes that are read, and those that are pending
writes_split : (reads writes : List ℕ) → length (filter (has reads) writes) + length (pending reads writes) ≡ length writes
writes_split reads writes = length-filter_both (has reads) (λ n. not (has reads n)) (λ n. refl) writes

-- the writes that are read are no more than the reads
read_few : (reads writes : List ℕ) → Ascend writes → length (filter (has reads) writes) ≤ length reads
read_few reads writes up =
    length-le_from_is_member nat_eq_equiv (filter (has reads) writes) reads (ascend_distinct (filter (has reads) writes) (IsStrictlySortedBy-filter nat_cmp (has reads) writes up))
    (λ v m. (and_parts (has writes v) (has reads v) (sym (has_filter (has reads) writes v) ∙ m)).1)

-- and as many, where the reads are among the writes
read_all : (reads writes : List ℕ) → Ascend reads → AreAmong reads writes → length reads ≤ length (filter (has reads) writes)
read_all reads writes up among =
    length-le_from_is_member nat_eq_equiv reads (filter (has reads) writes) (ascend_distinct reads up) (λ v m. has_filter (has reads) writes v ∙ (λ i. among v m i && m i))

-- ---- quorums exist

needed : (q r w a p : ℕ) → a + p ≡ w → a ≤ r → r ≤ a → nat_le (q + p) w ≡ nat_le q r
needed q r w a p split few all = grind (arith, nat_tests)

-- a write quorum exists exactly where a read quorum does
pub quorums_exist : (total : ℕ) (reads writes : List ℕ) → Ascend reads → Ascend writes → AreAmong reads writes
    → (let s : Sets = record { total = total; reads = reads; writes = writes } in nat_le (write_need s) (length writes) ≡ nat_le (read_need s) (length reads))
quorums_exist total reads writes up grown among =
    needed (quorum_of total) (length reads) (length writes) (length (filter (has reads) writes)) (length (pending reads writes))
    (writes_split reads writes) (read_few reads writes grown) (read_all reads writes up among)

-- ---- quorums meet

-- no more nodes than are written, where the others are among them
together : (writes others : List ℕ) → AreAmong others writes → distinct_count nat_eq (writes ++ others) ≤ length writes
together writes others among =
    let within = distinct_count-within nat_eq_equiv (writes ++ others) writes
    (λ v m. or_elim (has writes v) (has others v) (sym (list_any-append (nat_eq v) writes others) ∙ m) (λ here. here) (among v)) in
    let most = distinct_count-le nat_eq writes in
    omega arith

exceeded : (total r w a p c : ℕ) → a + p ≡ w → a ≤ r → r ≤ total → c ≤ w → nat_lt c ((total / 2 + 1 + p) + (total / 2 + 1)) ≡ true
exceeded total r w a p c split few most below =
    let less : c < (total / 2 + 1 + p) + (total / 2 + 1) = omega arith in
    grind (arith, nat_tests)

pub quorums_meet : (total : ℕ) (reads writes others theirs : List ℕ) → length reads ≤ total → Ascend writes → AreAmong others writes
    → writes_meet_reads (record { total = total; reads = reads; writes = writes }) (record { total = total; reads = others; writes = theirs }) ≡ true
quorums_meet total reads writes others theirs few up among =
    let q : ℕ = quorum_of total in
    let p : ℕ = length (pending reads writes) in
    let c : ℕ = distinct_count nat_eq (writes ++ others) in
    let last : nat_lt c ((q + p) + q) ≡ true =
    exceeded total (length reads) (length writes) (length (filter (has reads) writes)) p c (writes_split reads writes) (read_few reads writes up) few (together writes others among) in
    or_right (nat_lt (length writes) (q + p)) (nat_lt (length others) q || nat_lt c ((q + p) + q)) (or_right (nat_lt (length others) q) (nat_lt c ((q + p) + q)) last)
