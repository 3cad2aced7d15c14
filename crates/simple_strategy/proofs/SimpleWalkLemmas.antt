-- The walk takes the nodes that the counting rule chooses.
use Rattle.std.proofs.Common.{◌≡◌, ℕ, ◌<◌, ◌≤◌, min, Bool, true, false, cond, not, ◌&&◌, ◌||◌, nat_eq, nat_lt, List, [], ◌∷◌, ◌++◌, length, refl, sym, ap, ◌∙◌, arith}
use Rattle.std.proofs.Math.Bool.{or-false, or_assoc}
use Rattle.std.proofs.lemmas.Bool.{false≢true, and_from, le-ltb, lt-ltb, ltb-false, ltb-true, or_left, or_right}
use Rattle.std.proofs.lemmas.List.{length_push}
use Rattle.std.specs.Cmp.{nat_eq_equiv}
use Rattle.std.specs.Set.{distinct_count}
use Rattle.cluster_terms.proofs.lists.DistinctCounts.{is_member-alike, is_member-push, distinct_count-new, distinct_count-old}
use Rattle.cluster_terms.proofs.placement.GroupLemmas.{has, or_elim}
use Rattle.simple_strategy.specs.SimpleWalk.{taken_with, taken_after}

-- ---- what the fold takes, by what was met

abbrev count : List ℕ → ℕ
count ns = distinct_count nat_eq ns

-- whether a node is taken when n is met, where `ahead` was met before
abbrev pub takes_at : ℕ → List ℕ → ℕ → ℕ → Bool
takes_at rf ahead n v = nat_eq v n && (not (has ahead v) && nat_lt (count ahead) rf)

-- whether a node is taken from what is met on, where `ahead` was met before
abbrev pub takes : ℕ → List ℕ → List ℕ → ℕ → Bool
takes rf ahead [] v = false
takes rf ahead (n ∷ ns) v = takes_at rf ahead n v || takes rf (ahead ++ n ∷ []) ns v

-- of the nodes that were met, the first rf distinct ones are taken
record Walked (rf : ℕ) (ahead taken : List ℕ) : Type 0 where
  size : length taken ≡ min rf (count ahead)
  some : (v : ℕ) → has taken v ≡ true → has ahead v ≡ true
  all : count ahead < rf → (v : ℕ) → has ahead v ≡ true → has taken v ≡ true

-- ---- one node is met

module _ (rf : ℕ) (ahead taken : List ℕ) (w : Walked rf ahead taken) (n : ℕ) where
  -- the node is new, and there is room: it is taken
  walked_taken : has ahead n ≡ false → count ahead < rf → has taken n ≡ false → Walked rf (ahead ++ n ∷ []) (taken ++ n ∷ [])
  walked_taken new room out =
      let more = distinct_count-new nat_eq_equiv ahead n new in
      record {
        size = let size = w.size in let push = length_push taken n in omega arith;
        some = λ v h. is_member-push nat_eq_equiv ahead n v
            ∙ or_elim (has taken v) (nat_eq v n) (sym (is_member-push nat_eq_equiv taken n v) ∙ h) (λ e. or_left _ _ (w.some v e)) (λ e. or_right _ _ e);
        all = λ less v h. is_member-push nat_eq_equiv taken n v
            ∙ or_elim (has ahead v) (nat_eq v n) (sym (is_member-push nat_eq_equiv ahead n v) ∙ h) (λ e. or_left _ _ (w.all room v e)) (λ e. or_right _ _ e);
      }

  -- the node was met before
  walked_again : has ahead n ≡ true → Walked rf (ahead ++ n ∷ []) taken
  walked_again old =
      let same = distinct_count-old nat_eq_equiv ahead n old in
      record {
        size = let size = w.size in omega arith;
        some = λ v h. is_member-push nat_eq_equiv ahead n v ∙ or_left _ _ (w.some v h);
        all = λ less v h. or_elim (has ahead v) (nat_eq v n) (sym (is_member-push nat_eq_equiv ahead n v) ∙ h)
            (w.all (omega arith) v) (λ e. w.all (omega arith) v (is_member-alike nat_eq_equiv ahead v n e ∙ old));
      }

  -- there is no room
  walked_full : has ahead n ≡ false → rf ≤ count ahead → Walked rf (ahead ++ n ∷ []) taken
  walked_full new full =
      let more = distinct_count-new nat_eq_equiv ahead n new in
      record {
        size = let size = w.size in omega arith;
        some = λ v h. is_member-push nat_eq_equiv ahead n v ∙ or_left _ _ (w.some v h);
        all = λ less v h. absurd (omega arith);
      }

-- what meeting a node does to those that are taken
record Met (rf : ℕ) (ahead taken : List ℕ) (n : ℕ) : Type 0 where
  next : Walked rf (ahead ++ n ∷ []) (taken_with rf taken n)
  members : (v : ℕ) → has (taken_with rf taken n) v ≡ (has taken v || takes_at rf ahead n v)

-- takes_at where the test of the node has a value
here_old : (rf : ℕ) (ahead : List ℕ) (n v : ℕ) → has ahead n ≡ true → takes_at rf ahead n v ≡ false
here_old rf ahead n v old = by (nat_eq v n) refl
  where
    by : (b : Bool) → nat_eq v n ≡ b → (b && (not (has ahead v) && nat_lt (count ahead) rf)) ≡ false
    by false e = refl
    by true e = ap (λ b. not b && nat_lt (count ahead) rf) (is_member-alike nat_eq_equiv ahead v n e ∙ old)

here_full : (rf : ℕ) (ahead : List ℕ) (n v : ℕ) → rf ≤ count ahead → takes_at rf ahead n v ≡ false
here_full rf ahead n v full = by (nat_eq v n) (not (has ahead v)) (le-ltb (count ahead) rf full)
  where
    by : (a b : Bool) → nat_lt (count ahead) rf ≡ false → (a && (b && nat_lt (count ahead) rf)) ≡ false
    by false b e = refl
    by true false e = refl
    by true true e = e

here_new : (rf : ℕ) (ahead : List ℕ) (n v : ℕ) → has ahead n ≡ false → count ahead < rf → takes_at rf ahead n v ≡ nat_eq v n
here_new rf ahead n v new room = by (nat_eq v n) refl
  where
    by : (b : Bool) → nat_eq v n ≡ b → (b && (not (has ahead v) && nat_lt (count ahead) rf)) ≡ b
    by false e = refl
    by true e = ap (λ b. not b && nat_lt (count ahead) rf) (is_member-alike nat_eq_equiv ahead v n e ∙ new) ∙ lt-ltb (count ahead) rf room

module _ (rf : ℕ) (ahead taken : List ℕ) (n : ℕ) where
  abbrev choice : Bool → List ℕ
  choice b = cond b (taken ++ n ∷ []) taken

  met_taken : (nat_lt (length taken) rf && not (has taken n)) ≡ true → Walked rf (ahead ++ n ∷ []) (taken ++ n ∷ [])
      → ((v : ℕ) → takes_at rf ahead n v ≡ nat_eq v n) → Met rf ahead taken n
  met_taken test next here =
      let e : taken_with rf taken n ≡ taken ++ n ∷ [] = ap choice test in
      record {
        next = rw e next;
        members = λ v. ap (λ l. has l v) e ∙ is_member-push nat_eq_equiv taken n v ∙ ap (λ b. has taken v || b) (sym (here v));
      }

  met_passed : (nat_lt (length taken) rf && not (has taken n)) ≡ false → Walked rf (ahead ++ n ∷ []) taken
      → ((v : ℕ) → takes_at rf ahead n v ≡ false) → Met rf ahead taken n
  met_passed test next here =
      let e : taken_with rf taken n ≡ taken = ap choice test in
      record {
        next = rw e next;
        members = λ v. ap (λ l. has l v) e ∙ sym (or-false (has taken v)) ∙ ap (λ b. has taken v || b) (sym (here v));
      }

  met : Walked rf ahead taken → Met rf ahead taken n
  met w = by (has ahead n) (nat_lt (count ahead) rf) refl refl
    where
      passed : (a b : Bool) → (a ≡ true → b ≡ true) → (a && not b) ≡ false
      passed false b f = refl
      passed true true f = refl
      passed true false f = sym (f refl)

      by : (old room : Bool) → has ahead n ≡ old → nat_lt (count ahead) rf ≡ room → Met rf ahead taken n
      by true room e r =
          met_passed (passed (nat_lt (length taken) rf) (has taken n) (λ less. let size = w.size in let below = ltb-true (length taken) rf less in w.all (omega arith) n e))
          (walked_again rf ahead taken w n e) (λ v. here_old rf ahead n v e)
      by false true e r =
          let room = ltb-true (count ahead) rf r in
          let size = w.size in
          let out : has taken n ≡ false = out_by (has taken n) refl e in
          met_taken (and_from _ _ (lt-ltb (length taken) rf (omega arith)) (ap not out)) (walked_taken rf ahead taken w n e room out) (λ v. here_new rf ahead n v e room)
        where
          out_by : (b : Bool) → has taken n ≡ b → has ahead n ≡ false → b ≡ false
          out_by false h new = refl
          out_by true h new = absurd (false≢true (sym new ∙ w.some n h))
      by false false e r =
          let full = ltb-false (count ahead) rf r in
          let size = w.size in
          met_passed (ap (λ b. b && not (has taken n)) (le-ltb (length taken) rf (omega arith))) (walked_full rf ahead taken w n e full) (λ v. here_full rf ahead n v full)

-- ---- all nodes are met

has-taken_after : (rf : ℕ) (ahead taken ns : List ℕ) → Walked rf ahead taken → (v : ℕ) → has (taken_after rf taken ns) v ≡ (has taken v || takes rf ahead ns v)
has-taken_after rf ahead taken [] w v = sym (or-false (has taken v))
has-taken_after rf ahead taken (n ∷ ns) w v =
    let m = met rf ahead taken n w in
    has-taken_after rf (ahead ++ n ∷ []) (taken_with rf taken n) ns m.next v
    ∙ ap (λ b. b || takes rf (ahead ++ n ∷ []) ns v) (m.members v)
    ∙ or_assoc (has taken v) (takes_at rf ahead n v) (takes rf (ahead ++ n ∷ []) ns v)

-- at first nothing is met and nothing taken
walked_none : (rf : ℕ) → Walked rf [] []
walked_none rf = record { size = omega arith; some = λ v h. h; all = λ less v h. h }

pub has-walked : (rf : ℕ) (ns : List ℕ) (v : ℕ) → has (taken_after rf [] ns) v ≡ takes rf [] ns v
has-walked rf ns v = has-taken_after rf [] [] ns (walked_none rf) v

-- ---- the walk in parts

-- once as many as wanted are taken, no other is
pub taken_full : (rf : ℕ) (taken ns : List ℕ) → rf ≤ length taken → taken_after rf taken ns ≡ taken
taken_full rf taken [] full = refl
taken_full rf taken (n ∷ ns) full =
    let choice : Bool → List ℕ = λ b. cond (b && not (has taken n)) (taken ++ n ∷ []) taken in
    let none : taken_with rf taken n ≡ taken = ap choice (le-ltb (length taken) rf full) in
    ap (λ l. taken_after rf l ns) none ∙ taken_full rf taken ns full

pub taken_after-append : (rf : ℕ) (taken ms ns : List ℕ) → taken_after rf taken (ms ++ ns) ≡ taken_after rf (taken_after rf taken ms) ns
taken_after-append rf taken [] ns = refl
taken_after-append rf taken (m ∷ ms) ns = taken_after-append rf (taken_with rf taken m) ms ns
