-- The cuts follow the movements that begin and end.
use Rattle.std.proofs.Common.{◌≡◌, ℕ, ◌+◌, Bool, true, false, true≢false, ◌&&◌, ◌||◌, if◌then◌else◌, ◌==◌, ℤ, pos, ◌+ℤ◌, ◌≤ℤ◌, List, ◌++◌, filter, find, map, Some, None, refl, sym, ap, ◌∙◌, subst, arith}
use Rattle.std.proofs.lemmas.Cmp.{int_cmp_total}
use Rattle.std.proofs.lemmas.Int.{ints}
use Rattle.std.proofs.lemmas.List.Kept.{IsStrictlySortedBy-filter}
use Rattle.std.specs.List.{AllByRecursion}
use Rattle.std.specs.Ordering.{int_cmp, int_eq}
use Rattle.cluster_terms.proofs.lists.AscendingLemmas.{put_all_sorted}
use Rattle.cluster_terms.specs.Arc.{in_arc}
use Rattle.cluster_terms.specs.Ascending.{ascending, put, put_all}
use Rattle.cluster_terms.specs.Pair.{tokens_of, without_pairs}
use Rattle.cluster_terms.specs.declared.replication.Replication.{Replication}
use Rattle.transformations.proofs.commands.AcceptedLemmas.{early_accepted}
use Rattle.transformation_laws.proofs.cut_changes.CutMembers.{among, among_filter, among_put, has_both, has_moved, has_ring_after, has_token, is_cut, only_ring, same_tokens, stays_or_goes}
use Rattle.transformations.proofs.lists.ListLemmas.{all_false, all_weaker}
use Rattle.transformations.proofs.movements.DoneLemmas.{done}
use Rattle.transformations.proofs.movements.MovementLemmas.{flat_put, flat_without, phase_incoming}
use Rattle.transformations.proofs.quorums.AdjacentLemmas.{cancel_moves, step_moves}
use Rattle.transformations.proofs.ranges.PreparedLemmas.{new_movement}
use Rattle.transformations.proofs.ranges.RangesKept.{own_found}
use Rattle.transformations.proofs.ranges.RowsServed.{cuts_ascend, reads-between, writes-between}
use Rattle.transformations.specs.CutSteps.{CutsChange, CutsFollow, LosesCuts, SameAcross, unless_mid}
use Rattle.transformations.specs.History.{begun, is_command, next_image}
use Rattle.transformations.specs.Meeting.{is_unsafe_join}
use Rattle.transformations.specs.Orders.{by_node}
use Rattle.transformations.specs.Ranges.{moved_by}
use Rattle.transformations.specs.Refusals.{prepared_by, refusal_of}
use Rattle.transformations.specs.Rings.{cuts, incoming}
use Rattle.transformations.specs.Movements.{at_phase, finished, join_of, leave_of, move_of, movement_of, others, replace_of, same_phase, sequences_after_cancel}
use Rattle.transformations.specs.Valid.{IsSound}
use Rattle.transformations.specs.declared.command.Command.{Command}
use Rattle.transformations.specs.declared.command.Command.TheVariants.{Register, Unregister, UnsafeJoin, Keyspace, DropKeyspace, PrepareJoin, PrepareMove, PrepareLeave, PrepareReplace, Step, Cancel}
use Rattle.transformations.specs.declared.image.Image.{Image}
use Rattle.transformations.specs.declared.sequence.Goal.TheVariants as goal
use Rattle.transformations.specs.declared.sequence.Phase.{Phase}
use Rattle.transformations.specs.declared.sequence.Phase.TheVariants.{Started, Mid}
use Rattle.transformations.specs.declared.sequence.SeqRow.{SeqRow}

-- ---- a movement begins

module _ (image : Image) (j : SeqRow) (new : AllByRecursion (λ (s : SeqRow). (s.node == j.node) ≡ false) image.sequences) where
  begun_tokens : (t : ℤ) → has_token (incoming (put by_node j image.sequences)) t ≡ (has_token j.in_pairs t || has_token (incoming image.sequences) t)
  begun_tokens t =
      sym (has_moved (j.in_pairs ++ incoming image.sequences) (incoming (put by_node j image.sequences)) (flat_put (λ (q : SeqRow). q.in_pairs) j image.sequences new) t)
      ∙ has_both j.in_pairs (incoming image.sequences) t

  pub cuts_begun : cuts (begun image j) ≡ put_all int_cmp (tokens_of j.in_pairs) (cuts image)
  cuts_begun =
      same_tokens (cuts (begun image j)) (put_all int_cmp (tokens_of j.in_pairs) (cuts image)) (cuts_ascend (begun image j))
      (put_all_sorted int_cmp int_cmp_total (tokens_of j.in_pairs) (cuts image) (cuts_ascend image))
      (λ t. is_cut (begun image j) t ∙ ap (λ b. has_token image.tokens t || b) (begun_tokens t)
      ∙ out_first (has_token image.tokens t) (has_token j.in_pairs t) (has_token (incoming image.sequences) t)
      ∙ sym (among_put (tokens_of j.in_pairs) (cuts image) t ∙ ap (λ b. has_token j.in_pairs t || b) (is_cut image t)))
    where
      out_first : (a b c : Bool) → (a || (b || c)) ≡ (b || (a || c))
      out_first a b c = grind arith

-- ---- a movement ends

-- cuts are lost if each cut after is a cut before, and each other cut before is a token of the movement
loses : (before after : Image) (s : SeqRow) → ((t : ℤ) → among (cuts after) t ≡ true → among (cuts before) t ≡ true)
    → ((t : ℤ) → among (cuts before) t ≡ true → (among (cuts after) t || has_token (moved_by s) t) ≡ true) → LosesCuts before after s
loses before after s fewer rest = record {
  kept =
      same_tokens (cuts after) (filter (among (cuts after)) (cuts before)) (cuts_ascend after) (IsStrictlySortedBy-filter int_cmp (among (cuts after)) (cuts before) (cuts_ascend before))
      (λ t. both (among (cuts after) t) (among (cuts before) t) (fewer t) ∙ sym (among_filter (among (cuts after)) (cuts before) t));
  gone = λ t was isnt. sym (ap (λ b. b || has_token (moved_by s) t) isnt) ∙ rest t was;
}
  where
    both : (a b : Bool) → (a ≡ true → b ≡ true) → a ≡ (b && a)
    both true b is = sym (ap (λ c. c && true) (is refl))
    both false true is = refl
    both false false is = refl

module _ (image : Image) (h : IsSound image) (s : SeqRow) (found : find (λ (q : SeqRow). q.node == s.node) image.sequences ≡ Some s) (epoch : ℕ) where
  abbrev rest : List SeqRow
  rest = others image.sequences s.node

  abbrev without_it : Image
  without_it = record image { epoch = epoch; sequences = rest }

  -- a token that movements put in is put in by this movement or by another
  split : (t : ℤ) → has_token (incoming image.sequences) t ≡ (has_token s.in_pairs t || has_token (incoming rest) t)
  split t =
      has_moved (incoming image.sequences) (s.in_pairs ++ incoming rest) (flat_without (λ (q : SeqRow). q.in_pairs) s.node image.sequences s h.movements found) t
      ∙ has_both s.in_pairs (incoming rest) t

  was_cut : (t : ℤ) → among (cuts image) t ≡ (has_token image.tokens t || (has_token s.in_pairs t || has_token (incoming rest) t))
  was_cut t = is_cut image t ∙ ap (λ b. has_token image.tokens t || b) (split t)

  given_up_cuts : LosesCuts image without_it s
  given_up_cuts = loses image without_it s
      (λ t is. was_cut t ∙ fewer (has_token image.tokens t) (has_token s.in_pairs t) (has_token (incoming rest) t) (sym (is_cut without_it t) ∙ is))
      (λ t was. (λ i. is_cut without_it t i || has_both s.out_pairs s.in_pairs t i)
      ∙ more (has_token image.tokens t) (has_token s.in_pairs t) (has_token (incoming rest) t) (has_token s.out_pairs t) (sym (was_cut t) ∙ was))
    where
      fewer : (a b c : Bool) → (a || c) ≡ true → (a || (b || c)) ≡ true
      fewer a b c h = grind arith

      more : (a b c o : Bool) → (a || (b || c)) ≡ true → ((a || c) || (o || b)) ≡ true
      more a b c o h = grind arith

  done_cut : (t : ℤ) → among (cuts (done image s epoch)) t ≡ ((has_token s.in_pairs t || has_token (without_pairs image.tokens s.out_pairs) t) || has_token (incoming rest) t)
  done_cut t = is_cut (done image s epoch) t ∙ ap (λ b. b || has_token (incoming rest) t) (has_ring_after image.tokens s t)

  done_cuts : LosesCuts image (done image s epoch) s
  done_cuts = loses image (done image s epoch) s
      (λ t is. was_cut t ∙ fewer (has_token image.tokens t) (has_token s.in_pairs t) (has_token (incoming rest) t) (has_token (without_pairs image.tokens s.out_pairs) t)
      (only_ring image.tokens s.out_pairs t) (sym (done_cut t) ∙ is))
      (λ t was. (λ i. done_cut t i || has_both s.out_pairs s.in_pairs t i)
      ∙ more (has_token image.tokens t) (has_token s.in_pairs t) (has_token (incoming rest) t) (has_token (without_pairs image.tokens s.out_pairs) t) (has_token s.out_pairs t)
      (stays_or_goes image.tokens s.out_pairs t) (sym (was_cut t) ∙ was))
    where
      fewer : (a b c k : Bool) → (k ≡ true → a ≡ true) → ((b || k) || c) ≡ true → (a || (b || c)) ≡ true
      fewer a b c true is h = ap (λ d. d || (b || c)) (is refl)
      fewer a b c false is h = grind arith

      more : (a b c k o : Bool) → (a ≡ true → (k || o) ≡ true) → (a || (b || c)) ≡ true → (((b || k) || c) || (o || b)) ≡ true
      more true b c k o is h = (let or = is refl in grind arith)
      more false b c k o is h = grind arith

-- ---- commands

begins : (image : Image) (c : Command) (j : SeqRow) → IsSound image → is_command c ≡ true → refusal_of image c ≡ None → prepared_by image.tokens c ≡ Some j
    → cuts (begun image j) ≡ put_all int_cmp (tokens_of j.in_pairs) (cuts image)
begins image c j h right none is = cuts_begun image j (new_movement image c j h right none is)

-- a movement in another phase
pub cuts_at_phase : (image : Image) (phase : Phase) (n epoch : ℕ) → cuts (record image { epoch = epoch; sequences = map (at_phase phase n) image.sequences }) ≡ cuts image
cuts_at_phase image phase n epoch = ap (λ l. ascending int_cmp (tokens_of (image.tokens ++ l))) (phase_incoming phase n image.sequences)

finishes : (image : Image) (n : ℕ) → IsSound image → (s : SeqRow) → movement_of image n ≡ Some s
    → CutsChange image (let after : Image = finished image (movement_of image n) in record after { epoch = image.epoch + 1 }) None (movement_of image n)
finishes image n h s moves =
    subst (λ o. CutsChange image (let after : Image = finished image o in record after { epoch = image.epoch + 1 }) None o) (sym moves)
    (done_cuts image h s (own_found image n s moves).1 (image.epoch + 1))

cancels : (image : Image) (n : ℕ) → IsSound image → (s : SeqRow) → movement_of image n ≡ Some s
    → CutsChange image (record image { epoch = image.epoch + 1; sequences = sequences_after_cancel image.sequences n (movement_of image n) }) None (unless_mid (movement_of image n))
cancels image n h s moves =
    let own = own_found image n s moves in
    subst (λ o. CutsChange image (record image { epoch = image.epoch + 1; sequences = sequences_after_cancel image.sequences n o }) None (unless_mid o)) (sym moves)
    (subst (λ k. CutsChange image (record image { epoch = image.epoch + 1; sequences = sequences_after_cancel image.sequences k (Some s) }) None (unless_mid (Some s))) own.0 (by own.1 (same_phase s.phase Mid)))
  where
    by : find (λ (q : SeqRow). q.node == s.node) image.sequences ≡ Some s → (b : Bool)
        → CutsChange image (record image { epoch = image.epoch + 1; sequences = if b then map (at_phase Started s.node) image.sequences else others image.sequences s.node }) None (if b then None else Some s)
    by found true = cuts_at_phase image Started s.node (image.epoch + 1)
    by found false = given_up_cuts image h s found (image.epoch + 1)

pub cuts_followed : (image : Image) (c : Command) → IsSound image → is_command c ≡ true → refusal_of image c ≡ None → is_unsafe_join c ≡ false → CutsFollow image c
unfolding next_image
cuts_followed image (Register name dc rack) h right none is = refl
cuts_followed image (Unregister n) h right none is = refl
cuts_followed image (UnsafeJoin n tokens) h right none is = absurd (true≢false is)
cuts_followed image (Keyspace name replication) h right none is = refl
cuts_followed image (DropKeyspace name) h right none is = refl
cuts_followed image (PrepareJoin n tokens) h right none is = begins image (PrepareJoin n tokens) (join_of n tokens) h right none refl
cuts_followed image (PrepareMove n t) h right none is = begins image (PrepareMove n t) (move_of image.tokens n t) h right none refl
cuts_followed image (PrepareLeave n) h right none is = begins image (PrepareLeave n) (leave_of image.tokens n) h right none refl
cuts_followed image (PrepareReplace n gone) h right none is = begins image (PrepareReplace n gone) (replace_of image.tokens n gone) h right none refl
cuts_followed image (Step goal.Start kind n) h right none is = cuts_at_phase image Started n (image.epoch + 1)
cuts_followed image (Step goal.Mid kind n) h right none is = cuts_at_phase image Mid n (image.epoch + 1)
cuts_followed image (Step goal.Finish kind n) h right none is =
    let m = step_moves image goal.Finish kind n (early_accepted image (Step goal.Finish kind n) none) in
    finishes image n h m.row m.found
cuts_followed image (Cancel n) h right none is =
    let m = cancel_moves image n (early_accepted image (Cancel n) none) in
    cancels image n h m.row m.found

-- ---- no cut

pub same_across : (image : Image) (r : Replication) (t : ℤ) → among (cuts image) t ≡ false → SameAcross image r t
same_across image r t none = record { reads = reads-between image t (t +ℤ pos 1) up clear r; writes = writes-between image t (t +ℤ pos 1) up clear r }
  where
    up : t ≤ℤ (t +ℤ pos 1)
    up = grind (arith, ints)

    other : (u : ℤ) → int_eq t u ≡ false → in_arc t (t +ℤ pos 1) u ≡ false
    other u apart = grind (arith, ints)

    clear : AllByRecursion (λ u. in_arc t (t +ℤ pos 1) u ≡ false) (cuts image)
    clear = all_weaker (λ u. int_eq t u ≡ false) (λ u. in_arc t (t +ℤ pos 1) u ≡ false) other (cuts image) (all_false (int_eq t) (cuts image) none)
