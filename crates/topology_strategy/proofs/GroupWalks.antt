-- The walk of one group takes the nodes that the counting rule chooses.
use Rattle.std.proofs.Common.{◌≡◌, ℕ, ◌+◌, ◌-◌, ◌<◌, ◌≤◌, min, Bool, true, false, cond, not, ◌&&◌, ◌||◌, nat_eq, nat_lt, List, [], ◌∷◌, ◌++◌, length, Option, Some, None, is_some, refl, sym, ap, ◌∙◌, subst, arith}
use Rattle.std.proofs.Math.Bool.{and-false, and-true, or-false, or-true, or_assoc}
use Rattle.std.proofs.lemmas.Bool.{false≢true, le-ltb, lt-ltb, ltb-false, ltb-true, or_left, or_right}
use Rattle.std.proofs.lemmas.Cmp.{nat_list_eq_equiv}
use Rattle.std.proofs.lemmas.List.{length_push}
use Rattle.std.proofs.lemmas.Map.Views.{exact_unsigned_eq}
use Rattle.std.specs.Cmp.{nat_eq_equiv}
use Rattle.std.specs.Set.{is_member}
use Rattle.std.specs.Str.{bytes_eq}
use Rattle.cluster_terms.proofs.lists.DistinctCounts.{is_member-alike, is_member-push}
use Rattle.cluster_terms.specs.Group.{Group, node_count, rack_count, wanted, spare, is_chosen}
use Rattle.cluster_terms.proofs.placement.GroupLemmas.{has, has_rack, is_chosen_by, is_chosen_rack-by, or_elim, rack_there}
use Rattle.token_ring.proofs.PlaceLemmas.{finds}
use Rattle.topology_strategy.proofs.CountSteps.{node_count-outside, rack_count-outside, has_rack-outside, node_count-again, rack_count-again, has_rack-again, has_rack-push, node_count-new, rack_count-new, rack_count-old}
use Rattle.node_directory.specs.Shape.{shape_of}
use Rattle.topology_strategy.specs.Walk.{Found, found_with, found_after, taken_along}

-- where w nodes are wanted, of which s may be further nodes of a rack
module _ (g : Group) (w s : ℕ) where
  -- how many are found among the nodes ahead
  abbrev found_count : List ℕ → ℕ
  found_count ahead = min (rack_count g ahead + s) (node_count g ahead)

  -- whether the rule takes a node with this rack, where the nodes ahead were met before
  abbrev chosen : List ℕ → Option (List ℕ) → Bool
  chosen ahead None = false
  chosen ahead (Some rack) = is_chosen_by w s (node_count g ahead) (rack_count g ahead) (has_rack g ahead rack)

  -- whether the rule takes v when n is met, and among what is met from there on
  abbrev takes_at : List ℕ → ℕ → ℕ → Bool
  takes_at ahead n v = nat_eq v n && (not (has ahead v) && chosen ahead (g.rack_of v))

  abbrev takes : List ℕ → List ℕ → ℕ → Bool
  takes ahead [] v = false
  takes ahead (n ∷ ns) v = takes_at ahead n v || takes (ahead ++ n ∷ []) ns v

  -- while not all are found: the racks that were seen are those of the nodes ahead, each further node of a rack has
  -- used a repeat, and where one was passed over no repeat is left
  record Going (ahead : List ℕ) (found : Found) : Type 0 where
    racks : (r : List ℕ) → is_member bytes_eq found.racks r ≡ has_rack g ahead r
    repeats : found.repeats ≡ s - (node_count g ahead - rack_count g ahead)
    passed : (v : ℕ) → has ahead v ≡ true → has found.taken v ≡ false → is_some (g.rack_of v) ≡ true → s ≤ node_count g ahead - rack_count g ahead

  -- what the walk has, by the counts of the nodes ahead
  record Walked (ahead : List ℕ) (found : Found) : Type 0 where
    size : length found.taken ≡ min w (found_count ahead)
    below : rack_count g ahead ≤ node_count g ahead
    some : (v : ℕ) → has found.taken v ≡ true → has ahead v ≡ true
    going : found_count ahead < w → Going ahead found

  module _ (ahead : List ℕ) (found : Found) (k : Walked ahead found) (n : ℕ) where
    abbrev next : List ℕ
    next = ahead ++ n ∷ []

    later : (v : ℕ) → has found.taken v ≡ true → has next v ≡ true
    later v h = is_member-push nat_eq_equiv ahead n v ∙ or_left (has ahead v) (nat_eq v n) (k.some v h)

    -- ---- the node is outside the group, or was met before

    walked_alike : node_count g next ≡ node_count g ahead → rack_count g next ≡ rack_count g ahead → ((r : List ℕ) → has_rack g next r ≡ has_rack g ahead r)
        → ((v : ℕ) → has next v ≡ true → is_some (g.rack_of v) ≡ true → has ahead v ≡ true) → Walked next found
    walked_alike nodes racks alike within = record {
      size = let size = k.size in omega arith;
      below = let below = k.below in omega arith;
      some = later;
      going = λ less. let going = k.going (omega arith) in record {
        racks = λ r. going.racks r ∙ sym (alike r);
        repeats = let repeats = going.repeats in omega arith;
        passed = λ v there out of. let passed = going.passed v (within v there of) out of in omega arith;
      };
    }

    walked_outside : g.rack_of n ≡ None → Walked next found
    walked_outside outside =
        walked_alike (node_count-outside g ahead n outside) (rack_count-outside g ahead n outside) (has_rack-outside g ahead n outside)
        (λ v there of. or_elim (has ahead v) (nat_eq v n) (sym (is_member-push nat_eq_equiv ahead n v) ∙ there) (λ e. e)
        (λ e. absurd (false≢true (ap (λ o. is_some o) (sym outside ∙ ap g.rack_of (sym (exact_unsigned_eq v n e))) ∙ of))))

    walked_again : has ahead n ≡ true → Walked next found
    walked_again old =
        walked_alike (node_count-again g ahead n old) (rack_count-again g ahead n old) (has_rack-again g ahead n old)
        (λ v there of. or_elim (has ahead v) (nat_eq v n) (sym (is_member-push nat_eq_equiv ahead n v) ∙ there) (λ e. e)
        (λ e. is_member-alike nat_eq_equiv ahead v n e ∙ old))

    -- ---- the node is new, and of the group

    module _ (rack : List ℕ) (is : g.rack_of n ≡ Some rack) (new : has ahead n ≡ false) where
      more_nodes : node_count g next ≡ node_count g ahead + 1
      more_nodes = node_count-new g ahead n rack is new

      -- all were found before it
      walked_full : w ≤ found_count ahead → Walked next found
      walked_full full = by (has_rack g ahead rack) refl
        where
          full_with : (p : ℕ) → rack_count g next ≡ p → rack_count g ahead ≤ p → p ≤ rack_count g ahead + 1 → Walked next found
          full_with p racks low high =
              let nodes = more_nodes in
              record {
                size = let size = k.size in omega arith;
                below = let below = k.below in omega arith;
                some = later;
                going = λ less. absurd (omega arith);
              }

          by : (b : Bool) → has_rack g ahead rack ≡ b → Walked next found
          by true seen = full_with (rack_count g ahead) (rack_count-old g ahead n rack is seen) (omega arith) (omega arith)
          by false fresh = full_with (rack_count g ahead + 1) (rack_count-new g ahead n rack is fresh) (omega arith) (omega arith)

      taken_more : (taken : List ℕ) (v : ℕ) → has (taken ++ n ∷ []) v ≡ true → (has taken v ≡ true → has ahead v ≡ true) → has next v ≡ true
      taken_more taken v h some =
          is_member-push nat_eq_equiv ahead n v
          ∙ or_elim (has taken v) (nat_eq v n) (sym (is_member-push nat_eq_equiv taken n v) ∙ h) (λ e. or_left (has ahead v) (nat_eq v n) (some e)) (λ e. or_right (has ahead v) (nat_eq v n) e)

      -- once n is taken, a node that was met and isn't taken was met before n
      passed_before : (v : ℕ) → has next v ≡ true → has (found.taken ++ n ∷ []) v ≡ false → (has ahead v ≡ true) × (has found.taken v ≡ false)
      passed_before v there out = by (has found.taken v) (nat_eq v n) (sym (is_member-push nat_eq_equiv found.taken n v) ∙ out) (sym (is_member-push nat_eq_equiv ahead n v) ∙ there)
        where
          by : (a b : Bool) → (a || b) ≡ false → (has ahead v || b) ≡ true → (has ahead v ≡ true) × (a ≡ false)
          by true b none some = absurd (false≢true (sym none))
          by false true none some = absurd (false≢true (sym none))
          by false false none some = (sym (or-false (has ahead v)) ∙ some, refl)

      module _ (room : found_count ahead < w) where
        going : Going ahead found
        going = k.going room

        -- its rack is new: it is taken
        walked_fresh : has_rack g ahead rack ≡ false → Walked next (record { taken = found.taken ++ n ∷ []; racks = found.racks ++ rack ∷ []; repeats = found.repeats })
        walked_fresh fresh =
            let nodes = more_nodes in
            let racks = rack_count-new g ahead n rack is fresh in
            record {
              size = let size = k.size in let push = length_push found.taken n in omega arith;
              below = let below = k.below in omega arith;
              some = λ v h. taken_more found.taken v h (k.some v);
              going = λ less. record {
                racks = λ r. is_member-push nat_list_eq_equiv found.racks rack r ∙ ap (λ b. b || bytes_eq r rack) (going.racks r) ∙ sym (has_rack-push g ahead n rack is r);
                repeats = let repeats = going.repeats in let below = k.below in omega arith;
                passed = λ v there out of. let p = passed_before v there out in let passed = going.passed v p.0 p.1 of in omega arith;
              };
            }

        -- its rack was seen
        seen_racks : has_rack g ahead rack ≡ true → (r : List ℕ) → is_member bytes_eq found.racks r ≡ has_rack g next r
        seen_racks seen r = going.racks r ∙ sym (has_rack-push g ahead n rack is r ∙ by (bytes_eq r rack) refl)
          where
            by : (b : Bool) → bytes_eq r rack ≡ b → (has_rack g ahead r || b) ≡ has_rack g ahead r
            by true e = or-true (has_rack g ahead r) ∙ sym (is_member-alike nat_list_eq_equiv _ r rack e ∙ seen)
            by false e = or-false (has_rack g ahead r)

        -- a repeat is left: it is taken, and uses one
        walked_repeat : has_rack g ahead rack ≡ true → 0 < found.repeats → Walked next (record { taken = found.taken ++ n ∷ []; racks = found.racks; repeats = found.repeats - 1 })
        walked_repeat seen left =
            let nodes = more_nodes in
            let racks = rack_count-old g ahead n rack is seen in
            let repeats = going.repeats in
            let below = k.below in
            record {
              size = let size = k.size in let push = length_push found.taken n in omega arith;
              below = omega arith;
              some = λ v h. taken_more found.taken v h (k.some v);
              going = λ less. record {
                racks = seen_racks seen;
                repeats = omega arith;
                passed = λ v there out of. let p = passed_before v there out in let passed = going.passed v p.0 p.1 of in omega arith;
              };
            }

        -- none is left: it is passed over
        walked_past : has_rack g ahead rack ≡ true → found.repeats ≤ 0 → Walked next found
        walked_past seen none =
            let nodes = more_nodes in
            let racks = rack_count-old g ahead n rack is seen in
            let repeats = going.repeats in
            let below = k.below in
            record {
              size = let size = k.size in omega arith;
              below = omega arith;
              some = later;
              going = λ less. record {
                racks = seen_racks seen;
                repeats = omega arith;
                passed = λ v there out of. omega arith;
              };
            }

  -- ---- what one node that is met adds

  -- what meeting a node does to what the walk has
  record Met (ahead : List ℕ) (found : Found) (n : ℕ) : Type 0 where
    walked : Walked (ahead ++ n ∷ []) (found_with w n (g.rack_of n) found)
    members : (v : ℕ) → has (found_with w n (g.rack_of n) found).taken v ≡ (has found.taken v || takes_at ahead n v)

  -- whether the rule takes the node that is met
  abbrev takes_it : List ℕ → ℕ → Bool
  takes_it ahead n = not (has ahead n) && chosen ahead (g.rack_of n)

  takes_at-it : (ahead : List ℕ) (n v : ℕ) → takes_at ahead n v ≡ (nat_eq v n && takes_it ahead n)
  takes_at-it ahead n v = by (nat_eq v n) refl
    where
      by : (b : Bool) → nat_eq v n ≡ b → (b && takes_it ahead v) ≡ (b && takes_it ahead n)
      by false e = refl
      by true e = ap (takes_it ahead) (exact_unsigned_eq v n e)

  module _ (ahead : List ℕ) (found : Found) (n : ℕ) where
    met_passed : found_with w n (g.rack_of n) found ≡ found → Walked (ahead ++ n ∷ []) found → takes_it ahead n ≡ false → Met ahead found n
    met_passed is walked rule = record {
      walked = subst (Walked (ahead ++ n ∷ [])) (sym is) walked;
      members = λ v. ap (λ (t : Found). has t.taken v) is ∙ sym (or-false (has found.taken v))
          ∙ ap (λ b. has found.taken v || b) (sym (takes_at-it ahead n v ∙ ap (λ b. nat_eq v n && b) rule ∙ and-false (nat_eq v n)));
    }

    met_taken : (later : Found) → found_with w n (g.rack_of n) found ≡ later → later.taken ≡ found.taken ++ n ∷ [] → Walked (ahead ++ n ∷ []) later
        → takes_it ahead n ≡ true → Met ahead found n
    met_taken later is taken walked rule = record {
      walked = subst (Walked (ahead ++ n ∷ [])) (sym is) walked;
      members = λ v. ap (λ (t : Found). has t.taken v) is ∙ ap (λ l. has l v) taken ∙ is_member-push nat_eq_equiv found.taken n v
          ∙ ap (λ b. has found.taken v || b) (sym (takes_at-it ahead n v ∙ ap (λ b. nat_eq v n && b) rule ∙ and-true (nat_eq v n)));
    }

    module _ (k : Walked ahead found) (rack : List ℕ) (is : g.rack_of n ≡ Some rack) where
      abbrev with_rack : Found
      with_rack = record { taken = found.taken ++ n ∷ []; racks = found.racks ++ rack ∷ []; repeats = found.repeats }

      abbrev with_repeat : Found
      with_repeat = record { taken = found.taken ++ n ∷ []; racks = found.racks; repeats = found.repeats - 1 }

      -- by whether there is room, the node is taken already, its rack was seen, and a repeat is left
      abbrev choice : Bool → Bool → Bool → Bool → Found
      choice room old seen left = cond room (cond old found (cond seen (cond left with_repeat found) with_rack)) found

      choose : found_with w n (g.rack_of n) found ≡ choice (nat_lt (length found.taken) w) (has found.taken n) (is_member bytes_eq found.racks rack) (nat_lt 0 found.repeats)
      choose = ap (λ o. found_with w n o found) is

      passed_where : (room old seen left : Bool) → (room ≡ true → old ≡ false → (seen ≡ true) × (left ≡ false)) → choice room old seen left ≡ found
      passed_where false old seen left f = refl
      passed_where true true seen left f = refl
      passed_where true false seen left f = let p = f refl refl in (λ i. choice true false (p.0 i) (p.1 i))

      rule : (old room seen left : Bool) → has ahead n ≡ old → nat_lt (found_count ahead) w ≡ room → has_rack g ahead rack ≡ seen
          → nat_lt (node_count g ahead - rack_count g ahead) s ≡ left → takes_it ahead n ≡ (not old && (room && (not seen || left)))
      rule old room seen left a b c d = ap (λ o. not (has ahead n) && chosen ahead o) is ∙ (λ i. not (a i) && (b i && (not (c i) || d i)))

      met_again : has ahead n ≡ true → Met ahead found n
      met_again old =
          met_passed (choose ∙ passed_where _ _ _ _ none) (walked_again ahead found k n old)
          (ap (λ b. not b && chosen ahead (g.rack_of n)) old)
        where
          none : nat_lt (length found.taken) w ≡ true → has found.taken n ≡ false → (is_member bytes_eq found.racks rack ≡ true) × (nat_lt 0 found.repeats ≡ false)
          none less out =
              let below = ltb-true (length found.taken) w less in
              let size = k.size in
              let going = k.going (omega arith) in
              let passed = going.passed n old out (ap (λ o. is_some o) is) in
              let repeats = going.repeats in
              (going.racks rack ∙ rack_there g ahead n rack rack old is (nat_list_eq_equiv.refl rack), le-ltb 0 found.repeats (omega arith))

      met_full : has ahead n ≡ false → nat_lt (found_count ahead) w ≡ false → Met ahead found n
      met_full new full =
          let all = ltb-false (found_count ahead) w full in
          let size = k.size in
          let none : nat_lt (length found.taken) w ≡ false = le-ltb (length found.taken) w (omega arith) in
          met_passed (choose ∙ ap (λ b. choice b (has found.taken n) (is_member bytes_eq found.racks rack) (nat_lt 0 found.repeats)) none)
          (walked_full ahead found k n rack is new all) (rule false false _ _ new full refl refl)

      module _ (new : has ahead n ≡ false) (room : nat_lt (found_count ahead) w ≡ true) where
        abbrev going_on : Going ahead found
        going_on = k.going (ltb-true (found_count ahead) w room)

        less : nat_lt (length found.taken) w ≡ true
        less = let size = k.size in let below = ltb-true (found_count ahead) w room in lt-ltb (length found.taken) w (omega arith)

        out : has found.taken n ≡ false
        out = by (has found.taken n) refl
          where
            by : (b : Bool) → has found.taken n ≡ b → b ≡ false
            by false e = refl
            by true e = absurd (false≢true (sym new ∙ k.some n e))

        chosen_as : (seen left : Bool) → has_rack g ahead rack ≡ seen → nat_lt 0 found.repeats ≡ left → found_with w n (g.rack_of n) found ≡ choice true false seen left
        chosen_as seen left a b = choose ∙ (λ i. choice (less i) (out i) ((going_on.racks rack ∙ a) i) (b i))

        met_room : (seen left : Bool) → has_rack g ahead rack ≡ seen → nat_lt 0 found.repeats ≡ left → Met ahead found n
        met_room false left fresh b =
            met_taken with_rack (chosen_as false left fresh b) refl (walked_fresh ahead found k n rack is new (ltb-true (found_count ahead) w room) fresh)
            (rule false true false _ new room fresh refl)
        met_room true true seen some =
            let repeats = going_on.repeats in
            let more = ltb-true 0 found.repeats some in
            let left : nat_lt (node_count g ahead - rack_count g ahead) s ≡ true = lt-ltb (node_count g ahead - rack_count g ahead) s (omega arith) in
            met_taken with_repeat (chosen_as true true seen some) refl (walked_repeat ahead found k n rack is new (ltb-true (found_count ahead) w room) seen more)
            (rule false true true true new room seen left)
        met_room true false seen none =
            let repeats = going_on.repeats in
            let no_more = ltb-false 0 found.repeats none in
            let left : nat_lt (node_count g ahead - rack_count g ahead) s ≡ false = le-ltb (node_count g ahead - rack_count g ahead) s (omega arith) in
            met_passed (chosen_as true false seen none) (walked_past ahead found k n rack is new (ltb-true (found_count ahead) w room) seen no_more)
            (rule false true true false new room seen left)

      met_of_group : (old room : Bool) → has ahead n ≡ old → nat_lt (found_count ahead) w ≡ room → Met ahead found n
      met_of_group true room old r = met_again old
      met_of_group false false new full = met_full new full
      met_of_group false true new room = met_room new room (has_rack g ahead rack) (nat_lt 0 found.repeats) refl refl

    met : Walked ahead found → Met ahead found n
    met k = by (g.rack_of n) refl
      where
        by : (o : Option (List ℕ)) → g.rack_of n ≡ o → Met ahead found n
        by None outside =
            met_passed (ap (λ o. found_with w n o found) outside) (walked_outside ahead found k n outside)
            (ap (λ o. not (has ahead n) && chosen ahead o) outside ∙ and-false (not (has ahead n)))
        by (Some rack) is = met_of_group k rack is (has ahead n) (nat_lt (found_count ahead) w) refl refl

  -- ---- all nodes are met

  has-found_after : (ahead : List ℕ) (found : Found) (ns : List ℕ) → Walked ahead found → (v : ℕ) → has (found_after g w ns found).taken v ≡ (has found.taken v || takes ahead ns v)
  has-found_after ahead found [] k v = sym (or-false (has found.taken v))
  has-found_after ahead found (n ∷ ns) k v =
      let m = met ahead found n k in
      has-found_after (ahead ++ n ∷ []) (found_with w n (g.rack_of n) found) ns m.walked v
      ∙ ap (λ b. b || takes (ahead ++ n ∷ []) ns v) (m.members v)
      ∙ or_assoc (has found.taken v) (takes_at ahead n v) (takes (ahead ++ n ∷ []) ns v)

  -- at first nothing is met, and nothing is taken
  abbrev pub found_none : Found
  found_none = record { taken = []; racks = []; repeats = s }

  walked_none : Walked [] found_none
  walked_none = record {
    size = omega arith;
    below = omega arith;
    some = λ v h. h;
    going = λ less. record { racks = λ r. refl; repeats = omega arith; passed = λ v there out of. absurd (false≢true there) };
  }

  has-walked : (ns : List ℕ) (v : ℕ) → has (found_after g w ns found_none).taken v ≡ takes [] ns v
  has-walked ns v = has-found_after [] found_none ns walked_none v

-- a walk in two parts
pub found_after-append : (g : Group) (w : ℕ) (ms ns : List ℕ) (found : Found) → found_after g w (ms ++ ns) found ≡ found_after g w ns (found_after g w ms found)
found_after-append g w [] ns found = refl
found_after-append g w (m ∷ ms) ns found = found_after-append g w ms ns (found_with w m (g.rack_of m) found)

-- ---- the rule of a ring

module _ (g : Group) (ns : List ℕ) where
  chosen-is : (ahead : List ℕ) (o : Option (List ℕ)) → chosen g (wanted g ns) (spare g ns) ahead o ≡ is_chosen g ns ahead o
  chosen-is ahead None = refl
  chosen-is ahead (Some rack) = sym (is_chosen_rack-by g ns ahead rack)

  takes-is : (ahead rest : List ℕ) (v : ℕ) → takes g (wanted g ns) (spare g ns) ahead rest v ≡ finds g ns ahead rest v
  takes-is ahead [] v = refl
  takes-is ahead (n ∷ rest) v = λ i. (nat_eq v n && (not (has ahead v) && chosen-is ahead (g.rack_of v) i)) || takes-is (ahead ++ n ∷ []) rest v i

  -- a walk in a group with its shape takes what the rule finds
  pub has-taken_along : (walk : List ℕ) (v : ℕ) → has (taken_along walk g (shape_of ns g)) v ≡ finds g ns [] walk v
  has-taken_along walk v = has-walked g (wanted g ns) (spare g ns) walk v ∙ takes-is [] walk v
