-- Movements that may begin: each command that prepares one and isn't refused prepares one that fits.
use Rattle.std.proofs.Common.{◌≡◌, ℕ, true, false, ◌||◌, ◌==◌, ℤ, List, [], ◌∷◌, ◌++◌, Some, None, refl, sym, ◌∙◌, subst, arith}
use Rattle.std.proofs.lemmas.Bool.{false≢true}
use Rattle.std.proofs.lemmas.List.{length-map}
use Rattle.std.proofs.lemmas.List.Kept.{IsStrictlySortedBy-filter}
use Rattle.std.proofs.lemmas.Option.{none-some}
use Rattle.std.specs.List.{list_any}
use Rattle.std.specs.List.Sorted.{IsStrictlySortedBy}
use Rattle.std.specs.Ordering.{int_cmp}
use Rattle.std.specs.declared.cmp.Ordering.TheVariants.{Less}
use Rattle.cluster_terms.proofs.placement.GroupLemmas.{or_elim}
use Rattle.cluster_terms.specs.Pair.{tokens_of}
use Rattle.cluster_terms.specs.declared.token.Pair.{Pair}
use Rattle.transformations.proofs.commands.AcceptedLemmas.{AreNew, HasJoined, IsApart, IsFree, IsIdle, MayMove, MayReplace, apart, prepare_join_accepted, prepare_leave_accepted, prepare_move_accepted, prepare_replace_accepted, same_id}
use Rattle.transformations.proofs.movements.ExchangeLemmas.{all_owned, own_takes}
use Rattle.transformations.proofs.lists.ListLemmas.{IsPart, all_map, any_holds, part_all, part_append}
use Rattle.transformations.proofs.movements.MovementLemmas.{AreTokens, part_brought, tokens_are}
use Rattle.transformations.proofs.pairs.OwnedLemmas.{owned_joined}
use Rattle.transformations.proofs.pairs.RingPairs.{AreFew, length-pairs, new_pairs, pairs_own, pairs_sorted, tokens_sorted}
use Rattle.transformations.specs.History.{is_command}
use Rattle.transformations.specs.Orders.{by_token}
use Rattle.transformations.specs.Refusals.{early_refusal_of, prepared_by}
use Rattle.transformations.specs.Rings.{widest}
use Rattle.transformations.specs.Movements.{join_of, leave_of, move_of, owned, pairs_of, replace_of, takes_part}
use Rattle.transformations.specs.Valid.{IsMovement, IsSound, brought, brought_by}
use Rattle.transformations.specs.declared.command.Command.{Command}
use Rattle.transformations.specs.declared.command.Command.TheVariants.{Register, Unregister, UnsafeJoin, Keyspace, DropKeyspace, PrepareJoin, PrepareMove, PrepareLeave, PrepareReplace, Step, Cancel}
use Rattle.transformations.specs.declared.image.Image.{Image}
use Rattle.transformations.specs.declared.sequence.SeqRow.{SeqRow}

-- a movement that fits, whose nodes take part in no other one and whose new tokens are new
pub record MayBegin (image : Image) (j : SeqRow) : Type 0 where
  pub fits : IsMovement image j
  pub free : (n : ℕ) → takes_part n j ≡ true → IsFree image n
  pub few : AreFew (brought_by j.kind j.in_pairs ++ (image.tokens ++ brought image.sequences))

-- no movement is of its node
pub begin_new : (image : Image) (j : SeqRow) → MayBegin image j → IsApart image j.node
begin_new image j may = apart image j.node (may.free j.node (own_takes j))

-- ---- tokens

-- what stands, and what movements bring to tokens of their own
abbrev pub ring_and_brought : Image → List Pair
ring_and_brought image = image.tokens ++ brought image.sequences

pub ring_and_brought_few : (image : Image) → IsSound image → AreFew (ring_and_brought image)
ring_and_brought_few image h = record { fresh = h.fresh; few = h.few_tokens }

pub ring_and_brought_part : (image : Image) → IsPart (ring_and_brought image) (widest image)
ring_and_brought_part image = part_append (part_all image.tokens) (part_brought image.sequences)

-- the pairs of new tokens are new
pub few_new : (image : Image) (n : ℕ) (tokens : List ℤ) → IsSound image → AreTokens tokens → AreNew image tokens → AreFew (pairs_of n tokens ++ ring_and_brought image)
few_new image n tokens h t new = new_pairs image n tokens (ring_and_brought image) t.ascending new (ring_and_brought_part image) h.fresh

-- ---- nodes

-- of the pairs of a node
of_owned : (ring : List Pair) (n m : ℕ) → list_any (λ (p : Pair). p.node == m) (owned ring n) ≡ true → n ≡ m
of_owned ring n m there = any_holds (λ (p : Pair). p.node == m) (λ (p : Pair). p.node ≡ n) (n ≡ m) (owned ring n) (all_owned ring n) (λ p is same. sym is ∙ same_id p.node m same) there

-- of a movement that takes the pairs of its own node, that node alone takes part
own_part : (ring : List Pair) (n m : ℕ) → ((n == m) || list_any (λ (p : Pair). p.node == m) (owned ring n)) ≡ true → n ≡ m
own_part ring n m h = or_elim (n == m) (list_any (λ (p : Pair). p.node == m) (owned ring n)) h (same_id n m) (of_owned ring n m)

tokens_ascend : (pairs : List Pair) → IsStrictlySortedBy by_token pairs → IsStrictlySortedBy int_cmp (tokens_of pairs)
unfolding IsStrictlySortedBy
tokens_ascend [] up = tt
tokens_ascend (p ∷ pairs) up = (all_map (λ t. int_cmp p.token t ≡ Less) (λ (q : Pair). q.token) pairs up.0, tokens_ascend pairs up.1)

-- ---- each kind

may_join : (image : Image) (n : ℕ) (tokens : List ℤ) → IsSound image → AreTokens tokens → IsIdle image n × AreNew image tokens → MayBegin image (join_of n tokens)
may_join image n tokens h t a = record {
  fits = record {
    stands = a.0.stands;
    ascending = pairs_sorted n tokens (tokens_sorted tokens t.ascending);
    fits = record { out = refl; some = omega (arith, t.some, length-pairs n tokens); few = omega (arith, t.few, length-pairs n tokens); own = pairs_own n tokens; bare = a.0.bare };
  };
  free = λ m takes. subst (IsFree image) (or_elim (n == m) false takes (same_id n m) (λ none. absurd (false≢true none))) a.0.free;
  few = few_new image n tokens h t a.1;
}

may_move : (image : Image) (n : ℕ) (t : ℤ) → IsSound image → MayMove image n t → MayBegin image (move_of image.tokens n t)
may_move image n t h a =
    let tokens : List ℤ = t ∷ [] in
    record {
      fits = record {
        stands = a.node.stands;
        ascending = pairs_sorted n tokens (tokens_sorted tokens refl);
        fits = record { out = refl; one = sym (length-map (owned image.tokens n) (λ (p : Pair). p.token)) ∙ a.one; new = refl; own = pairs_own n tokens };
      };
      free = λ m takes. subst (IsFree image) (own_part image.tokens n m takes) a.node.free;
      few = few_new image n tokens h (record { some = omega arith; few = omega arith; ascending = refl }) a.new;
    }

no_pairs : IsStrictlySortedBy by_token []
unfolding IsStrictlySortedBy
no_pairs = tt

may_leave : (image : Image) (n : ℕ) → IsSound image → HasJoined image n → MayBegin image (leave_of image.tokens n)
may_leave image n h a = record {
  fits = record { stands = a.stands; ascending = no_pairs; fits = record { out = refl; some = owned_joined image.tokens n a.joined; in_none = refl } };
  free = λ m takes. subst (IsFree image) (own_part image.tokens n m takes) a.free;
  few = ring_and_brought_few image h;
}

may_replace : (image : Image) (n gone : ℕ) → IsSound image → MayReplace image n gone → MayBegin image (replace_of image.tokens n gone)
may_replace image n gone h a =
    let out : List Pair = owned image.tokens gone in
    record {
      fits = record {
        stands = a.node.stands;
        ascending = pairs_sorted n (tokens_of out) (tokens_ascend out (IsStrictlySortedBy-filter by_token (λ (p : Pair). p.node == gone) image.tokens h.ring.ascending));
        fits = record { gone = gone; out = refl; some = owned_joined image.tokens gone a.joined; same = refl; bare = a.node.bare; near = a.near };
      };
      free = λ m takes.
          or_elim (n == m) (list_any (λ (p : Pair). p.node == m) out) takes (λ here. subst (IsFree image) (same_id n m here) a.node.free)
          (λ there. subst (IsFree image) (of_owned image.tokens gone m there) a.free);
      few = ring_and_brought_few image h;
    }

-- ---- each command

prepared : (image : Image) (s j : SeqRow) → Some s ≡ Some j → MayBegin image s → MayBegin image j
prepared image s j is may = (let same : s ≡ j = cc in subst (MayBegin image) same may)

pub may_begin : (image : Image) (c : Command) (j : SeqRow) → IsSound image → is_command c ≡ true → early_refusal_of image c ≡ None → prepared_by image.tokens c ≡ Some j → MayBegin image j
may_begin image (PrepareJoin n tokens) j h right none is = prepared image (join_of n tokens) j is (may_join image n tokens h (tokens_are tokens right) (prepare_join_accepted image n tokens none))
may_begin image (PrepareMove n t) j h right none is = prepared image (move_of image.tokens n t) j is (may_move image n t h (prepare_move_accepted image n t none))
may_begin image (PrepareLeave n) j h right none is = prepared image (leave_of image.tokens n) j is (may_leave image n h (prepare_leave_accepted image n none))
may_begin image (PrepareReplace n gone) j h right none is = prepared image (replace_of image.tokens n gone) j is (may_replace image n gone h (prepare_replace_accepted image n gone none))
may_begin image (Register name dc rack) j h right none is = absurd (none-some j is)
may_begin image (Unregister n) j h right none is = absurd (none-some j is)
may_begin image (UnsafeJoin n tokens) j h right none is = absurd (none-some j is)
may_begin image (Keyspace name replication) j h right none is = absurd (none-some j is)
may_begin image (DropKeyspace name) j h right none is = absurd (none-some j is)
may_begin image (Step g kind n) j h right none is = absurd (none-some j is)
may_begin image (Cancel n) j h right none is = absurd (none-some j is)
