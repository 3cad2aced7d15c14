-- A walk back from a token ends where that token's reach does.
use Rattle.std.proofs.Common.{◌≡◌, ℕ, ◌+◌, ◌<◌, ◌≤◌, Bool, true, false, cond, not, ◌&&◌, ◌||◌, nat_lt, ℤ, List, [], ◌∷◌, ◌++◌, length, get_or, take, drop, Option, Some, None, refl, sym, ap, ◌∙◌, ◌⊎◌, inl, inr, subst, arith, take-append-drop}
use Rattle.std.proofs.lemmas.Bool.{and_parts, not-false, not-true, true≢false, false≢true, or_right}
use Rattle.std.proofs.lemmas.Bool.Decides.{nat_tests}
use Rattle.std.proofs.lemmas.Int.{ints}
use Rattle.std.proofs.lemmas.List.{drop_more}
use Rattle.std.proofs.lemmas.Map.Made.{is_member-filter}
use Rattle.std.specs.Cmp.{IsEquivalence, int_eq_equiv, nat_eq_equiv}
use Rattle.std.specs.List.{AllByRecursion}
use Rattle.cluster_terms.proofs.placement.CountLemmas.{IsWithin, node_count-within, rack_count-within}
use Rattle.cluster_terms.proofs.placement.GroupLemmas.{or_elim}
use Rattle.cluster_terms.proofs.rows.PairLemmas.{same_pair-tells, same_pair-refl, nodes-within}
use Rattle.cluster_terms.specs.Arc.{in_arc}
use Rattle.cluster_terms.specs.Group.{nodes_of, node_count, rack_count, ahead_of}
use Rattle.cluster_terms.specs.Pair.{same_pair, has_pair}
use Rattle.cluster_terms.specs.declared.token.Pair.{Pair}
use Rattle.node_directory.proofs.TallyLemmas.{tally_of, tally_of-met, lacks-tally_of}
use Rattle.node_directory.specs.Tally.{Tallied, nothing, met_with, met, lacks}
use Rattle.ring_reach.specs.code.WalkBack.{Course, leaves, met_back, stop_at, first_some, back, AskSame}
use Rattle.ring_reach.specs.code.Windows.{is_inside}
use Rattle.ring_reach.specs.declared.windows.Window.{Window}

-- ---- tallies

met_with-asks : (n : ℕ) (o : Option (List ℕ)) (tally : Tallied) → AskSame tally (met_with n o tally)
met_with-asks n None tally = record { nodes = refl; racks = refl }
met_with-asks n (Some rack) tally = record { nodes = refl; racks = refl }

-- a tally asks for as much after nodes are met
pub met_back-asks : (c : Course) (ps : List Pair) (tally : Tallied) → AskSame tally (met_back c ps tally)
met_back-asks c [] tally = record { nodes = refl; racks = refl }
met_back-asks c (p ∷ ps) tally =
    let rest = met_back-asks c ps tally in
    let here = met_with-asks p.node (c.group.rack_of p.node) (met_back c ps tally) in
    record { nodes = rest.nodes ∙ here.nodes; racks = rest.racks ∙ here.racks }

abbrev pub none_yet : Course → Tallied
none_yet c = nothing c.nodes c.racks

met_back-tally_of : (c : Course) (ps : List Pair) → met_back c ps (none_yet c) ≡ tally_of c.group c.nodes c.racks (nodes_of ps)
met_back-tally_of c [] = refl
met_back-tally_of c (p ∷ ps) = ap (met c.group p.node) (met_back-tally_of c ps) ∙ tally_of-met c.group c.nodes c.racks p.node (nodes_of ps)

-- whether too few nodes or racks are met
abbrev few : Course → List ℕ → Bool
few c ns = nat_lt (node_count c.group ns) c.nodes || nat_lt (rack_count c.group ns) c.racks

lacks-few : (c : Course) (ps : List Pair) → lacks (met_back c ps (none_yet c)) ≡ few c (nodes_of ps)
lacks-few c ps = ap lacks (met_back-tally_of c ps) ∙ lacks-tally_of c.group c.nodes c.racks (nodes_of ps)

fewer : (d p w r d' p' : ℕ) → d ≤ d' → p ≤ p' → (nat_lt d' w || nat_lt p' r) ≡ true → (nat_lt d w || nat_lt p r) ≡ true
fewer d p w r d' p' dd pp h = grind (arith, nat_tests)

-- too few stay too few where fewer are met
pub few-within : (c : Course) (ns ms : List ℕ) → IsWithin c.group ns ms → few c ms ≡ true → few c ns ≡ true
few-within c ns ms within =
    fewer (node_count c.group ns) (rack_count c.group ns) c.nodes c.racks (node_count c.group ms) (rack_count c.group ms) (node_count-within c.group ns ms within) (rack_count-within c.group ns ms within)

enough-within : (c : Course) (ns ms : List ℕ) → IsWithin c.group ns ms → few c ns ≡ false → few c ms ≡ false
enough-within c ns ms within enough = by (few c ms) refl
  where
    by : (b : Bool) → few c ms ≡ b → b ≡ false
    by false e = refl
    by true e = absurd (true≢false (sym (few-within c ns ms within e) ∙ enough))

-- ---- where a walk ends

-- it goes on over further pairs where it did not end before, and else ends where it did
first_some-some : (o other : Option ℤ) (t : ℤ) → o ≡ Some t → first_some o other ≡ Some t
first_some-some o other t e = ap (λ (q : Option ℤ). first_some q other) e

pub back-ended : (c : Course) (span : Window) (ps qs : List Pair) (tally : Tallied) (t : ℤ) → back c span qs tally ≡ Some t → back c span (ps ++ qs) tally ≡ Some t
back-ended c span [] qs tally t e = e
back-ended c span (p ∷ ps) qs tally t e = first_some-some _ _ t (back-ended c span ps qs tally t e)

met_back-append : (c : Course) (ps qs : List Pair) (tally : Tallied) → met_back c (ps ++ qs) tally ≡ met_back c ps (met_back c qs tally)
met_back-append c [] qs tally = refl
met_back-append c (p ∷ ps) qs tally = ap (met c.group p.node) (met_back-append c ps qs tally)

pub back-more : (c : Course) (span : Window) (ps qs : List Pair) (tally : Tallied) → back c span qs tally ≡ None → back c span (ps ++ qs) tally ≡ back c span ps (met_back c qs tally)
back-more c span [] qs tally e = e
back-more c span (p ∷ ps) qs tally e =
    λ i. first_some (back-more c span ps qs tally e i) (stop_at span p (met c.group p.node (met_back-append c ps qs tally i)))

-- a turn of a walk over the pairs from the last to the first
pub back-turn : (c : Course) (span : Window) (ps : List Pair) (i at : ℕ) (p : Pair) (tally : Tallied) → i + 1 ≡ at → i < length ps → p ≡ get_or ps i p → back c span (drop at ps) tally ≡ None
    → back c span (drop i ps) tally ≡ stop_at span p (met c.group p.node (met_back c (drop at ps) tally))
back-turn c span ps i at p tally n in_i here none =
    let front : drop i ps ≡ p ∷ drop at ps = drop_more ps i p in_i ∙ (λ j. sym here j ∷ drop (n j) ps) in
    ap (λ (qs : List Pair). back c span qs tally) front
    ∙ ap (λ (o : Option ℤ). first_some o (stop_at span p (met c.group p.node (met_back c (drop at ps) tally)))) none

pub back-stopped : (c : Course) (span : Window) (ps : List Pair) (i : ℕ) (tally : Tallied) (t : ℤ) → back c span (drop i ps) tally ≡ Some t → back c span ps tally ≡ Some t
back-stopped c span ps i tally t e = ap (λ (qs : List Pair). back c span qs tally) (sym (take-append-drop i ps)) ∙ back-ended c span (take i ps) (drop i ps) tally t e

-- ---- pairs in ring order from a token on

-- each pair comes before all later ones, from y clockwise
abbrev pub comes_before : ℤ → Pair → List Pair → Type 0
comes_before y p qs = AllByRecursion (λ q. in_arc y q.token p.token ≡ true) qs

abbrev pub IsRound : ℤ → List Pair → Type 0
IsRound y [] = Unit {0}
IsRound y (p ∷ ps) = comes_before y p ps × IsRound y ps

-- of the fixed pairs, those that are not among these pairs come before them all
record IsLast (y : ℤ) (fixed ps : List Pair) : Type 0 where
  among : (q : Pair) → has_pair ps q ≡ true → has_pair fixed q ≡ true
  rest : (q : Pair) → has_pair fixed q ≡ true → (has_pair ps q ≡ true) ⊎ comes_before y q ps

last_tail : (y : ℤ) (fixed : List Pair) (p : Pair) (ps : List Pair) → comes_before y p ps → IsLast y fixed (p ∷ ps) → IsLast y fixed ps
last_tail y fixed p ps first last = record {
  among = λ q h. last.among q (or_right (same_pair q p) (has_pair ps q) h);
  rest = λ q h. by q (last.rest q h);
}
  where
    by : (q : Pair) → (has_pair (p ∷ ps) q ≡ true) ⊎ comes_before y q (p ∷ ps) → (has_pair ps q ≡ true) ⊎ comes_before y q ps
    by q (inr before) = inr before.1
    by q (inl there) =
        or_elim (same_pair q p) (has_pair ps q) there
        (λ same. inr (subst (λ (r : Pair). comes_before y r ps) (sym (same_pair-tells q p same)) first)) (λ h. inl h)

-- what x has before y, if it has one pair before y, are that pair and all later ones
later : (x y p q : ℤ) → in_arc y q p ≡ true → in_arc x y p ≡ true → in_arc x y q ≡ true
later x y p q order here = grind (arith, ints)

pair_equiv : IsEquivalence same_pair
pair_equiv = record {
  refl = same_pair-refl;
  symm = λ p q. λ i. int_eq_equiv.symm p.token q.token i && nat_eq_equiv.symm p.node q.node i;
  congr = λ p q r same. ap (λ t. same_pair t r) (same_pair-tells p q same);
}

-- the pairs that are met from x before y
has_ahead : (x y : ℤ) (ps : List Pair) (q : Pair) → has_pair (ahead_of x y ps) q ≡ (has_pair ps q && in_arc x y q.token)
has_ahead x y ps q = is_member-filter pair_equiv (λ (p : Pair). in_arc x y p.token) q (λ p same. ap (λ (r : Pair). in_arc x y r.token) (same_pair-tells q p same)) ps

module _ (c : Course) (x y : ℤ) where
  -- where no pair but the last ones can be before y, and these are too few, x leaves replicas to find at y
  open-outside : (ps : List Pair) → ((q : Pair) → has_pair c.fixed q ≡ true → in_arc x y q.token ≡ true → has_pair ps q ≡ true) → few c (nodes_of ps) ≡ true → leaves c x y ≡ true
  open-outside ps only =
      few-within c (nodes_of (ahead_of x y c.fixed)) (nodes_of ps)
      (nodes-within c.group (ahead_of x y c.fixed) ps (λ q of h. let at = and_parts (has_pair c.fixed q) (in_arc x y q.token) (sym (has_ahead x y c.fixed q) ∙ h) in only q at.0 at.1))

  -- where all the last ones are before y, and these are enough, it doesn't
  closed-inside : (ps : List Pair) → ((q : Pair) → has_pair ps q ≡ true → (has_pair c.fixed q ≡ true) × (in_arc x y q.token ≡ true)) → few c (nodes_of ps) ≡ false → leaves c x y ≡ false
  closed-inside ps all =
      enough-within c (nodes_of ps) (nodes_of (ahead_of x y c.fixed))
      (nodes-within c.group ps (ahead_of x y c.fixed) (λ q of h. let at = all q h in has_ahead x y c.fixed q ∙ (λ i. at.0 i && at.1 i)))

  -- a pair that isn't before y leaves only later ones there
  only_later : (p : Pair) (ps : List Pair) → IsLast y c.fixed (p ∷ ps) → in_arc x y p.token ≡ false → (q : Pair) → has_pair c.fixed q ≡ true → in_arc x y q.token ≡ true → has_pair ps q ≡ true
  only_later p ps last out q there in_q = by (last.rest q there)
    where
      by : (has_pair (p ∷ ps) q ≡ true) ⊎ comes_before y q (p ∷ ps) → has_pair ps q ≡ true
      by (inr before) = absurd (true≢false (sym (later x y q.token p.token before.0 in_q) ∙ out))
      by (inl h) =
          or_elim (same_pair q p) (has_pair ps q) h
          (λ same. absurd (true≢false (sym in_q ∙ ap (λ (r : Pair). in_arc x y r.token) (same_pair-tells q p same) ∙ out))) (λ k. k)

  -- a pair that is before y has all later ones there
  all_later : (p : Pair) (ps : List Pair) → IsLast y c.fixed (p ∷ ps) → comes_before y p ps → in_arc x y p.token ≡ true → (q : Pair) → has_pair (p ∷ ps) q ≡ true → (has_pair c.fixed q ≡ true) × (in_arc x y q.token ≡ true)
  all_later p ps last first in_p q h =
      (last.among q h, or_elim (same_pair q p) (has_pair ps q) h (λ same. ap (λ (r : Pair). in_arc x y r.token) (same_pair-tells q p same) ∙ in_p) (among ps first))
    where
      among : (rs : List Pair) → comes_before y p rs → has_pair rs q ≡ true → in_arc x y q.token ≡ true
      among [] first h = absurd (false≢true h)
      among (r ∷ rs) first h =
          or_elim (same_pair q r) (has_pair rs q) h
          (λ same. ap (λ (s : Pair). in_arc x y s.token) (same_pair-tells q r same) ∙ later x y p.token r.token first.0 in_p) (among rs first.1)

-- from a token of the span no pair is met that is past the span
past : (x y prev p : ℤ) → in_arc p y prev ≡ true → in_arc x y prev ≡ false → in_arc x y p ≡ false
past x y prev p order out = grind (arith, ints)

module _ (c : Course) (span : Window) (some : lacks (none_yet c) ≡ true) where
  abbrev y : ℤ
  y = span.right

  -- the tokens of the span that leave replicas are those after t
  abbrev EndsAt : ℤ → Type 0
  EndsAt t = (x : ℤ) → is_inside x span ≡ true → leaves c x y ≡ not (in_arc x y t)

  -- what a walk over the last pairs tells: the end of what is reached, or that too few are met
  record Walked (ps : List Pair) : Type 0 where
    ended : (t : ℤ) → back c span ps (none_yet c) ≡ Some t → EndsAt t
    going : back c span ps (none_yet c) ≡ None → lacks (met_back c ps (none_yet c)) ≡ true

  module _ (p : Pair) (ps : List Pair) (first : comes_before y p ps) (last : IsLast y c.fixed (p ∷ ps)) (rest : Walked ps) where
    abbrev tally : Tallied
    tally = met_back c (p ∷ ps) (none_yet c)

    abbrev before : Option ℤ
    before = back c span ps (none_yet c)

    left_over : before ≡ None → few c (nodes_of ps) ≡ true
    left_over e = sym (lacks-few c ps) ∙ rest.going e

    at_prev : before ≡ None → is_inside p.token span ≡ false → EndsAt span.left
    at_prev e out x in_x =
        open-outside c x y ps (only_later c x y p ps last (past x y span.left p.token (not-false (in_arc p.token span.right span.left) out) (not-true (in_arc x span.right span.left) in_x))) (left_over e) ∙ sym in_x

    at_pair : before ≡ None → lacks tally ≡ false → EndsAt p.token
    at_pair e full x in_x = by (in_arc x y p.token) refl
      where
        by : (b : Bool) → in_arc x y p.token ≡ b → leaves c x y ≡ not b
        by true in_p = closed-inside c x y (p ∷ ps) (all_later c x y p ps last first in_p) (sym (lacks-few c (p ∷ ps)) ∙ full)
        by false out = open-outside c x y ps (only_later c x y p ps last out) (left_over e)

    stop : before ≡ None → (a b : Bool) → is_inside p.token span ≡ a → lacks tally ≡ b
        → ((t : ℤ) → cond a (cond b None (Some p.token)) (Some span.left) ≡ Some t → EndsAt t)
        × (cond a (cond b None (Some p.token)) (Some span.left) ≡ None → lacks tally ≡ true)
    stop e false b out is = (λ t same. subst EndsAt (let at : span.left ≡ t = cc in at) (at_prev e out), λ none. absurd (cc))
    stop e true false in_p full = (λ t same. subst EndsAt (let at : p.token ≡ t = cc in at) (at_pair e full), λ none. absurd (cc))
    stop e true true in_p open_yet = (λ t same. absurd (cc), λ none. open_yet)

    walked_more : Walked (p ∷ ps)
    walked_more = by before refl
      where
        here : (o : Option ℤ) → before ≡ o → back c span (p ∷ ps) (none_yet c) ≡ first_some o (stop_at span p tally)
        here o e = ap (λ (q : Option ℤ). first_some q (stop_at span p tally)) e

        by : (o : Option ℤ) → before ≡ o → Walked (p ∷ ps)
        by (Some u) e = record {
          ended = λ t same. rest.ended t (e ∙ sym (here (Some u) e) ∙ same);
          going = λ none. absurd (let clash : Some u ≡ None = sym (here (Some u) e) ∙ none in cc);
        }
        by None e =
            let both = stop e (is_inside p.token span) (lacks tally) refl refl in
            record { ended = λ t same. both.0 t (sym (here None e) ∙ same); going = λ none. both.1 (sym (here None e) ∙ none) }

  walked : (ps : List Pair) → IsRound y ps → IsLast y c.fixed ps → Walked ps
  walked [] round last = record { ended = λ t e. absurd (cc); going = λ e. some }
  walked (p ∷ ps) round last = walked_more p ps round.0 last (walked ps round.1 (last_tail y c.fixed p ps round.0 last))

  -- a walk over all pairs, in ring order from y on, tells what of the span is reached
  whole : (ps : List Pair) → ((q : Pair) → has_pair ps q ≡ has_pair c.fixed q) → IsLast y c.fixed ps
  whole ps same = record { among = λ q h. sym (same q) ∙ h; rest = λ q h. inl (same q ∙ h) }

  pub ended_at : (ps : List Pair) → ((q : Pair) → has_pair ps q ≡ has_pair c.fixed q) → IsRound y ps → (t : ℤ) → back c span ps (none_yet c) ≡ Some t → EndsAt t
  ended_at ps same round = (walked ps round (whole ps same)).ended

  pub never_ended : (ps : List Pair) → ((q : Pair) → has_pair ps q ≡ has_pair c.fixed q) → IsRound y ps → back c span ps (none_yet c) ≡ None → EndsAt span.left
  never_ended ps same round e x in_x =
      open-outside c x y ps (λ q there in_q. same q ∙ there) (sym (lacks-few c ps) ∙ (walked ps round (whole ps same)).going e) ∙ sym in_x
