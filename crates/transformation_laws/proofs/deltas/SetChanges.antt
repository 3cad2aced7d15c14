-- Sets of nodes that ascend, and what a delta makes of them.
use Rattle.std.proofs.Common.{◌≡◌, ℕ, Bool, true, false, cond, not, ◌&&◌, ◌||◌, nat_eq, List, [], refl, sym, ap, ◌∙◌, arith}
use Rattle.std.proofs.lemmas.List.Kept.{IsStrictlySortedBy-filter}
use Rattle.std.proofs.lemmas.Map.Views.{exact_unsigned_eq}
use Rattle.std.specs.Cmp.{nat_cmp_total, unsigned_tied}
use Rattle.std.specs.Ordering.{is_eq, nat_cmp}
use Rattle.std.specs.Set.{is_member}
use Rattle.std.specs.declared.cmp.Ordering.TheVariants.{Equal}
use Rattle.cluster_terms.proofs.lists.AscendingLemmas.{member-put_all, put_all_sorted, same_sorted}
use Rattle.cluster_terms.proofs.placement.GroupLemmas.{has}
use Rattle.cluster_terms.proofs.placement.PlacementLemmas.{tied}
use Rattle.cluster_terms.proofs.quorums.QuorumLemmas.{Ascend, has_filter}
use Rattle.cluster_terms.specs.Ascending.{put_all}
use Rattle.transformations.proofs.lists.ListLemmas.{all_each, filter_all}
use Rattle.transformations.specs.DeltaSteps.{PlacementDelta, SetDelta, cancel_delta, with_delta, no_change, step_delta}
use Rattle.transformations.specs.MovementDeltas.{newcomers}
use Rattle.transformations.specs.declared.sequence.Goal.TheVariants as goal
use Rattle.transformations.specs.declared.sequence.Phase.TheVariants.{Prepared, Started, Mid}

-- ---- members

equal_nodes : (n m : ℕ) → nat_cmp n m ≡ Equal → n ≡ m
equal_nodes n m e = exact_unsigned_eq n m (sym (unsigned_tied n m) ∙ ap is_eq e)

-- sets with the same members are the same
same_sets : (ns ms : List ℕ) → Ascend ns → Ascend ms → ((v : ℕ) → has ns v ≡ has ms v) → ns ≡ ms
same_sets ns ms up grown same = same_sorted nat_cmp nat_cmp_total equal_nodes ns ms up grown (λ v. tied ns v ∙ same v ∙ sym (tied ms v))

has_put : (ns ms : List ℕ) (v : ℕ) → has (put_all nat_cmp ns ms) v ≡ (has ns v || has ms v)
has_put ns ms v = sym (tied (put_all nat_cmp ns ms) v) ∙ member-put_all nat_cmp nat_cmp_total ns ms v ∙ (λ i. tied ns v i || tied ms v i)

has_newcomers : (after before : List ℕ) (v : ℕ) → has (newcomers after before) v ≡ (has after v && not (has before v))
has_newcomers after before v = has_filter (λ n. not (is_member nat_eq before n)) after v

has_changed : (nodes : List ℕ) (d : SetDelta) (v : ℕ) → has (with_delta nodes d) v ≡ (has d.gained v || (has nodes v && not (has d.lost v)))
has_changed nodes d v = has_put d.gained (newcomers nodes d.lost) v ∙ ap (λ b. has d.gained v || b) (has_newcomers nodes d.lost v)

changed_ascends : (nodes : List ℕ) (d : SetDelta) → Ascend nodes → Ascend (with_delta nodes d)
changed_ascends nodes d up =
    put_all_sorted nat_cmp nat_cmp_total d.gained (newcomers nodes d.lost) (IsStrictlySortedBy-filter nat_cmp (λ n. not (is_member nat_eq d.lost n)) nodes up)

-- a delta without nodes changes nothing
pub changed_none : (nodes : List ℕ) → nodes ≡ with_delta nodes no_change
changed_none nodes = sym (filter_all (λ n. not (is_member nat_eq [] n)) nodes (all_each (λ n. not (is_member nat_eq [] n) ≡ true) (λ n. refl) nodes))

-- ---- the placements before a movement and with it

-- the one with the movement if it is applied, and the one before it otherwise
abbrev pub picked : List ℕ → List ℕ → Bool → List ℕ
picked low high applied = cond applied high low

-- a delta turns reads and writes before a command into those after it. Reads are one of the two placements, as the
-- movement is applied or not. Writes have two placements; in the first of them it is not applied before the command
pub record Turns (delta : List ℕ → List ℕ → PlacementDelta) (mid started low_after mid_after started_after : Bool) (low high : List ℕ) : Type 0 where
  pub reads : picked low high mid_after ≡ with_delta (picked low high mid) (delta (newcomers high low) (newcomers low high)).reads
  pub writes : put_all nat_cmp (picked low high low_after) (picked low high started_after)
      ≡ with_delta (put_all nat_cmp low (picked low high started)) (delta (newcomers high low) (newcomers low high)).writes

by_members : (ns nodes : List ℕ) (d : SetDelta) → Ascend ns → Ascend nodes → ((v : ℕ) → has ns v ≡ (has d.gained v || (has nodes v && not (has d.lost v)))) → ns ≡ with_delta nodes d
by_members ns nodes d up grown same = same_sets ns (with_delta nodes d) up (changed_ascends nodes d grown) (λ v. same v ∙ sym (has_changed nodes d v))

module _ (low high : List ℕ) (up : Ascend low) (grown : Ascend high) where
  -- the writes where the movement is applied in neither placement, in one of them, and in both
  abbrev doubled : List ℕ
  doubled = put_all nat_cmp low low

  abbrev both : List ℕ
  both = put_all nat_cmp low high

  abbrev replaced : List ℕ
  replaced = put_all nat_cmp high high

  swapped : high ≡ with_delta low (record { gained = newcomers high low; lost = newcomers low high })
  swapped =
      by_members high low (record { gained = newcomers high low; lost = newcomers low high }) grown up
      (λ v. table (has low v) (has high v) ∙ sym (λ i. has_newcomers high low v i || (has low v && not (has_newcomers low high v i))))
    where
      table : (p f : Bool) → f ≡ ((f && not p) || (p && not (p && not f)))
      table p f = grind arith

  added : both ≡ with_delta doubled (record { gained = newcomers high low; lost = [] })
  added =
      by_members both doubled (record { gained = newcomers high low; lost = [] }) (put_all_sorted nat_cmp nat_cmp_total low high grown) (put_all_sorted nat_cmp nat_cmp_total low low up)
      (λ v. has_put low high v ∙ table (has low v) (has high v) ∙ sym (λ i. has_newcomers high low v i || (has_put low low v i && true)))
    where
      table : (p f : Bool) → (p || f) ≡ ((f && not p) || ((p || p) && true))
      table p f = grind arith

  removed : replaced ≡ with_delta both (record { gained = []; lost = newcomers low high })
  removed =
      by_members replaced both (record { gained = []; lost = newcomers low high }) (put_all_sorted nat_cmp nat_cmp_total high high grown) (put_all_sorted nat_cmp nat_cmp_total low high grown)
      (λ v. has_put high high v ∙ table (has low v) (has high v) ∙ sym (λ i. has_put low high v i && not (has_newcomers low high v i)))
    where
      table : (p f : Bool) → (f || f) ≡ ((p || f) && not (p && not f))
      table p f = grind arith

  taken_back : doubled ≡ with_delta both (record { gained = []; lost = newcomers high low })
  taken_back =
      by_members doubled both (record { gained = []; lost = newcomers high low }) (put_all_sorted nat_cmp nat_cmp_total low low up) (put_all_sorted nat_cmp nat_cmp_total low high grown)
      (λ v. has_put low low v ∙ table (has low v) (has high v) ∙ sym (λ i. has_put low high v i && not (has_newcomers high low v i)))
    where
      table : (p f : Bool) → (p || p) ≡ ((p || f) && not (f && not p))
      table p f = grind arith

  -- ---- steps and cancels

  pub start_turns : Turns (step_delta goal.Start) false false false false true low high
  start_turns = record { reads = changed_none low; writes = added }

  pub mid_turns : Turns (step_delta goal.Mid) false true false true true low high
  mid_turns = record { reads = swapped; writes = changed_none both }

  pub finish_turns : Turns (step_delta goal.Finish) true true true true true low high
  finish_turns = record { reads = changed_none high; writes = removed }

  pub prepared_turns : Turns (cancel_delta Prepared) false false false false false low high
  prepared_turns = record { reads = changed_none low; writes = changed_none doubled }

  pub started_turns : Turns (cancel_delta Started) false true false false false low high
  started_turns = record { reads = changed_none low; writes = taken_back }

module _ (low high : List ℕ) (up : Ascend low) (grown : Ascend high) where
  pub half_way_turns : Turns (cancel_delta Mid) true true false false true low high
  half_way_turns = record { reads = swapped high low grown up; writes = changed_none (put_all nat_cmp low high) }
