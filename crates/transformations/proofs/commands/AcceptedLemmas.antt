-- What the commands that are accepted tell of an image.
use Rattle.std.proofs.Common.{◌≡◌, ℕ, ◌<◌, ◌≤◌, Bool, true, false, not, true≢false, ◌&&◌, ◌||◌, ◌==◌, ℤ, List, [], ◌∷◌, length, find, Option, Some, None, is_some, option_map, option_and_then, nat_le, nat_lt, if◌then◌else◌, ◌⊎◌, inl, inr, refl, sym, ap, ◌∙◌, arith}
use Rattle.std.proofs.lemmas.Bool.Decides.{Decides-eqb, nat_tests}
use Rattle.std.proofs.lemmas.Option.{none-some}
use Rattle.std.specs.List.{AllByRecursion, list_any}
use Rattle.std.specs.Str.{bytes_eq}
use Rattle.cluster_terms.specs.NodeRow.{row_of}
use Rattle.cluster_terms.specs.declared.node.NodeRow.{NodeRow}
use Rattle.cluster_terms.specs.declared.token.Pair.{Pair}
use Rattle.transformations.proofs.lists.ListLemmas.{all_weaker, any_false, found_passes, none_found}
use Rattle.transformations.specs.Refusals.{first_of, may_move_or_leave, has_keyspace, may_join, may_be_removed, is_taken, keyspace_locked, keyspace_row, keyspaces_full, in_sequence, locks_overlap, most_keyspaces, most_nodes, most_tokens, name_taken, no_node, nodes_full, no_tokens, not_idle, not_one_token, other_rack, ranges_locked, early_refusal_of, refusal_of, refused_if, token_taken, tokens_full, tokens_with, too_few_left, too_few_nodes, unless_allowed, wrong_state}
use Rattle.transformations.specs.States.{owns_tokens, node_tokens, started_of, state_by, state_in, state_of_row}
use Rattle.transformations.specs.Movements.{takes_part}
use Rattle.transformations.specs.Valid.{IsOwned, is_standing, stands}
use Rattle.transformations.specs.declared.command.Command.{Command}
use Rattle.transformations.specs.declared.command.Command.TheVariants.{Register, Unregister, UnsafeJoin, Keyspace, PrepareJoin, PrepareMove, PrepareLeave, PrepareReplace}
use Rattle.transformations.specs.declared.image.Image.{Image}
use Rattle.transformations.specs.declared.refusal.Refusal.{Refusal}
use Rattle.transformations.specs.declared.refusal.Refusal.TheVariants.{InSequence, KeyspacesFull, NameTaken, NoNode, NodesFull, NoTokens, NotIdle, NotOneToken, TokensFull, TokenTaken, WrongState}
use Rattle.cluster_terms.specs.declared.replication.Replication.{Replication}
use Rattle.transformations.specs.declared.sequence.Kind.{Kind}
use Rattle.transformations.specs.declared.sequence.Kind.TheVariants.{Join, Move, Leave, Replace}
use Rattle.transformations.specs.declared.sequence.SeqRow.{SeqRow}
use Rattle.transformations.specs.declared.state.NodeState.{NodeState}
use Rattle.transformations.specs.declared.state.NodeState.TheVariants.{Left, Joined, Registered}

-- ---- where no refusal comes

-- none of some refusals comes where their first does not
pub first_none : (a : Option Refusal) (later : List (Option Refusal)) → first_of (a ∷ later) ≡ None → (a ≡ None) × (first_of later ≡ None)
first_none None later h = (refl, h)
first_none (Some r) later h = absurd (none-some r (sym h))

-- so none of them comes
pub none_of : (refusals : List (Option Refusal)) → first_of refusals ≡ None → AllByRecursion (λ r. r ≡ None) refusals
none_of [] none = tt
none_of (r ∷ refusals) none = (let a = first_none r refusals none in (a.0, none_of refusals a.1))

pub test_false : (b : Bool) (r : Refusal) → refused_if b r ≡ None → b ≡ false
test_false true r h = absurd (none-some r (sym h))
test_false false r h = refl

pub mapped_none : {X Y : Type 0} (f : X → Y) (o : Option X) → option_map f o ≡ None → o ≡ None
mapped_none f None h = refl
mapped_none f (Some x) h = absurd (none-some (f x) (sym h))

-- ---- nodes

-- ids that are the same by the test are the same
pub same_id : (a b : ℕ) → (a == b) ≡ true → a ≡ b
same_id a b h = (Decides-eqb a b).0 h

-- a node that is registered, in a state that is allowed
record HasRow (allowed : NodeState → Bool) (image : Image) (n : ℕ) : Type 0 where
  row : NodeRow
  found : row_of image.nodes n ≡ Some row
  is : row.id ≡ n
  state : allowed (state_of_row image row) ≡ true

negated : (b : Bool) → not b ≡ false → b ≡ true
negated true h = refl
negated false h = absurd (true≢false h)

has_row : (allowed : NodeState → Bool) (image : Image) (n : ℕ) → no_node image n ≡ None → wrong_state allowed image n ≡ None → HasRow allowed image n
has_row allowed image n some right = by (row_of image.nodes n) refl some right
  where
    by : (o : Option NodeRow) → row_of image.nodes n ≡ o → refused_if (not (is_some o)) NoNode ≡ None
        → option_and_then (unless_allowed allowed) (option_map (state_of_row image) o) ≡ None → HasRow allowed image n
    by None e some right = absurd (none-some NoNode (sym some))
    by (Some row) e some right = record {
      row = row;
      found = e;
      is = same_id row.id n (found_passes (λ (r : NodeRow). r.id == n) image.nodes row e);
      state = negated (allowed (state_of_row image row)) (test_false (not (allowed (state_of_row image row))) (WrongState (state_of_row image row)) right);
    }

-- the node of a movement is at work
kind_works : (k : Kind) → (may_join (state_in k) ≡ false) × (may_be_removed (state_in k) ≡ false)
kind_works Join = (refl, refl)
kind_works Move = (refl, refl)
kind_works Leave = (refl, refl)
kind_works Replace = (refl, refl)

idle_row : (image : Image) (row : NodeRow) → may_join (state_of_row image row) ≡ true → (row.left ≡ false) × (owns_tokens image row.id ≡ false)
unfolding state_of_row
idle_row image row h = by row.left refl (started_of image row.id) h
  where
    unjoined : (j : Bool) → may_join (if j then Joined else Registered) ≡ true → j ≡ false
    unjoined true h = absurd (true≢false (sym h))
    unjoined false h = refl

    by : (l : Bool) → row.left ≡ l → (o : Option SeqRow) → may_join (if l then Left else state_by image row.id o) ≡ true → (row.left ≡ false) × (owns_tokens image row.id ≡ false)
    by true e o h = absurd (true≢false (sym h))
    by false e (Some s) h = absurd (true≢false (sym h ∙ (kind_works s.kind).0))
    by false e None h = (e, unjoined (owns_tokens image row.id) h)

-- a node that has joined stands and has a token
kind_moves : (k : Kind) → may_move_or_leave (state_in k) ≡ false
kind_moves Join = refl
kind_moves Move = refl
kind_moves Leave = refl
kind_moves Replace = refl

joined_row : (image : Image) (row : NodeRow) → may_move_or_leave (state_of_row image row) ≡ true → (row.left ≡ false) × (owns_tokens image row.id ≡ true)
unfolding state_of_row
joined_row image row h = by row.left refl (started_of image row.id) h
  where
    joined : (j : Bool) → may_move_or_leave (if j then Joined else Registered) ≡ true → j ≡ true
    joined true h = refl
    joined false h = absurd (true≢false (sym h))

    by : (l : Bool) → row.left ≡ l → (o : Option SeqRow) → may_move_or_leave (if l then Left else state_by image row.id o) ≡ true → (row.left ≡ false) × (owns_tokens image row.id ≡ true)
    by true e o h = absurd (true≢false (sym h))
    by false e (Some s) h = absurd (true≢false (sym h ∙ kind_moves s.kind))
    by false e None h = (e, joined (owns_tokens image row.id) h)

left_row : (image : Image) (row : NodeRow) → may_be_removed (state_of_row image row) ≡ true → (row.left ≡ true) ⊎ (owns_tokens image row.id ≡ false)
unfolding state_of_row
left_row image row h = by row.left refl (started_of image row.id) h
  where
    unjoined : (j : Bool) → may_be_removed (if j then Joined else Registered) ≡ true → j ≡ false
    unjoined true h = absurd (true≢false (sym h))
    unjoined false h = refl

    by : (l : Bool) → row.left ≡ l → (o : Option SeqRow) → may_be_removed (if l then Left else state_by image row.id o) ≡ true → (row.left ≡ true) ⊎ (owns_tokens image row.id ≡ false)
    by true e o h = inl e
    by false e (Some s) h = absurd (true≢false (sym h ∙ (kind_works s.kind).1))
    by false e None h = inr (unjoined (owns_tokens image row.id) h)

-- no pair of the ring is of a node that doesn't stand
pub bare_unless_standing : (image : Image) (n : ℕ) → IsOwned image → is_standing image.nodes n ≡ false → owns_tokens image n ≡ false
bare_unless_standing image n owned down =
    any_false (λ (p : Pair). p.node == n) image.tokens
    (all_weaker (λ (p : Pair). is_standing image.nodes p.node ≡ true) (λ (p : Pair). (p.node == n) ≡ false) (λ p up. by p up (p.node == n) refl) image.tokens owned.owners)
  where
    by : (p : Pair) → is_standing image.nodes p.node ≡ true → (b : Bool) → (p.node == n) ≡ b → (p.node == n) ≡ false
    by p up false e = e
    by p up true e = absurd (true≢false (sym up ∙ ap (is_standing image.nodes) (same_id p.node n e) ∙ down))

-- no movement is of the node, and it takes part in none
abbrev pub IsApart : Image → ℕ → Type 0
IsApart image n = AllByRecursion (λ (s : SeqRow). (s.node == n) ≡ false) image.sequences

abbrev pub IsFree : Image → ℕ → Type 0
IsFree image n = AllByRecursion (λ (s : SeqRow). takes_part n s ≡ false) image.sequences

free : (image : Image) (n : ℕ) → in_sequence image n ≡ None → IsFree image n
free image n h = none_found (takes_part n) image.sequences (mapped_none (λ (s : SeqRow). InSequence s.node) (find (takes_part n) image.sequences) h)

pub apart : (image : Image) (n : ℕ) → IsFree image n → IsApart image n
apart image n =
    all_weaker (λ (s : SeqRow). takes_part n s ≡ false) (λ (s : SeqRow). (s.node == n) ≡ false)
    (λ s none. or_first (s.node == n) (list_any (λ (p : Pair). p.node == n) s.out_pairs) none) image.sequences
  where
    or_first : (a b : Bool) → (a || b) ≡ false → a ≡ false
    or_first a b h = grind arith

-- a node that may be given tokens: it stands, has none, and takes part in no movement
pub record IsIdle (image : Image) (n : ℕ) : Type 0 where
  pub free : IsFree image n
  pub apart : IsApart image n
  pub stands : is_standing image.nodes n ≡ true
  pub bare : owns_tokens image n ≡ false

idle : (image : Image) (n : ℕ) → no_node image n ≡ None → in_sequence image n ≡ None → wrong_state may_join image n ≡ None → IsIdle image n
idle image n some none right =
    let r = has_row may_join image n some right in
    let i = idle_row image r.row r.state in
    let up : stands (row_of image.nodes n) ≡ true = rw (r.found, i.0) refl in
    record { free = free image n none; apart = apart image n (free image n none); stands = up; bare = rw r.is at i.1 }

-- a node that may move or leave: it stands, has a token, and takes part in no movement
pub record HasJoined (image : Image) (n : ℕ) : Type 0 where
  pub free : IsFree image n
  pub stands : is_standing image.nodes n ≡ true
  pub joined : owns_tokens image n ≡ true

joined_node : (image : Image) (n : ℕ) → no_node image n ≡ None → in_sequence image n ≡ None → wrong_state may_move_or_leave image n ≡ None → HasJoined image n
joined_node image n some none right =
    let r = has_row may_move_or_leave image n some right in
    let i = joined_row image r.row r.state in
    let up : stands (row_of image.nodes n) ≡ true = rw (r.found, i.0) refl in
    record { free = free image n none; stands = up; joined = rw r.is at i.1 }

-- ---- tokens

-- tokens that aren't taken, and with which there are not too many
pub record AreNew (image : Image) (tokens : List ℤ) : Type 0 where
  pub untaken : AllByRecursion (λ t. is_taken image t ≡ false) tokens
  pub few : tokens_with image tokens ≤ most_tokens

new : (image : Image) (tokens : List ℤ) → token_taken image tokens ≡ None → tokens_full image tokens ≡ None → AreNew image tokens
new image tokens free below_limit =
    let test = test_false (nat_lt most_tokens (tokens_with image tokens)) TokensFull below_limit in
    record {
      untaken = none_found (is_taken image) tokens (mapped_none TokenTaken (find (is_taken image) tokens) free);
      few = grind (arith, nat_tests);
    }

-- ---- commands

-- a command that isn't refused has no early refusal, the ranges of the movement that it prepares aren't locked, and with
-- the keyspace that it sets no movements overlap
none_refused : (image : Image) (c : Command) → refusal_of image c ≡ None → AllByRecursion (λ (r : Option Refusal). r ≡ None) (early_refusal_of image c ∷ ranges_locked image c ∷ locks_overlap image c ∷ [])
unfolding refusal_of
none_refused image c h = none_of (early_refusal_of image c ∷ ranges_locked image c ∷ locks_overlap image c ∷ []) h

pub early_accepted : (image : Image) (c : Command) → refusal_of image c ≡ None → early_refusal_of image c ≡ None
early_accepted image c h = (none_refused image c h).0

pub ranges_accepted : (image : Image) (c : Command) → refusal_of image c ≡ None → ranges_locked image c ≡ None
ranges_accepted image c h = (none_refused image c h).1.0

pub keyspace_unlocked : (image : Image) (name : List ℕ) (replication : Replication) → refusal_of image (Keyspace name replication) ≡ None → keyspace_locked image (keyspace_row name replication) ≡ None
keyspace_unlocked image name replication h = (none_refused image (Keyspace name replication) h).1.1.0

pub register_accepted : (image : Image) (name dc rack : List ℕ) → early_refusal_of image (Register name dc rack) ≡ None
    → AllByRecursion (λ (row : NodeRow). bytes_eq row.name name ≡ false) image.nodes × (length image.nodes < most_nodes)
unfolding early_refusal_of
register_accepted image name dc rack h =
    let a = first_none (name_taken image name) (nodes_full image ∷ []) h in
    let b = first_none (nodes_full image) [] a.1 in
    let test = test_false (nat_le most_nodes (length image.nodes)) NodesFull b.0 in
    let below_limit : length image.nodes < most_nodes = grind (arith, nat_tests) in
    let none = mapped_none (λ (row : NodeRow). NameTaken row.id) (find (λ (row : NodeRow). bytes_eq row.name name) image.nodes) a.0 in
    (none_found (λ (row : NodeRow). bytes_eq row.name name) image.nodes none, below_limit)

pub unregister_accepted : (image : Image) (n : ℕ) → IsOwned image → early_refusal_of image (Unregister n) ≡ None → IsFree image n × (owns_tokens image n ≡ false)
unfolding early_refusal_of
unregister_accepted image n owned h =
    let a = none_of (no_node image n ∷ in_sequence image n ∷ wrong_state may_be_removed image n ∷ []) h in
    let r = has_row may_be_removed image n a.0 a.1.1.0 in
    (free image n a.1.0, by r (left_row image r.row r.state))
  where
    by : (r : HasRow may_be_removed image n) → (r.row.left ≡ true) ⊎ (owns_tokens image r.row.id ≡ false) → owns_tokens image n ≡ false
    by r (inl left) = (let down : stands (row_of image.nodes n) ≡ false = rw (r.found, left) refl in bare_unless_standing image n owned down)
    by r (inr bare) = rw r.is at bare

pub unsafe_join_accepted : (image : Image) (n : ℕ) (tokens : List ℤ) → early_refusal_of image (UnsafeJoin n tokens) ≡ None → IsIdle image n × AreNew image tokens
unfolding early_refusal_of
unsafe_join_accepted image n tokens h =
    let a = none_of (no_node image n ∷ in_sequence image n ∷ wrong_state may_join image n ∷ not_idle image.sequences ∷ token_taken image tokens ∷ tokens_full image tokens ∷ []) h in
    (idle image n a.0 a.1.0 a.1.1.0, new image tokens a.1.1.1.1.0 a.1.1.1.1.1.0)

-- no movement is in flight
idle_sequences : (sequences : List SeqRow) → not_idle sequences ≡ None → sequences ≡ []
idle_sequences [] h = refl
idle_sequences (s ∷ later) h = absurd (none-some (NotIdle s.node) (sym h))

pub unsafe_join_idle : (image : Image) (n : ℕ) (tokens : List ℤ) → early_refusal_of image (UnsafeJoin n tokens) ≡ None → image.sequences ≡ []
unfolding early_refusal_of
unsafe_join_idle image n tokens h =
    let a = none_of (no_node image n ∷ in_sequence image n ∷ wrong_state may_join image n ∷ not_idle image.sequences ∷ token_taken image tokens ∷ tokens_full image tokens ∷ []) h in
    idle_sequences image.sequences a.1.1.1.0

pub keyspace_accepted : (image : Image) (name : List ℕ) (replication : Replication) → early_refusal_of image (Keyspace name replication) ≡ None
    → (length image.keyspaces < most_keyspaces) ⊎ (has_keyspace image name ≡ true)
unfolding early_refusal_of
keyspace_accepted image name replication h =
    let a = first_none (keyspaces_full image name) (too_few_left image (keyspace_row name replication) ∷ []) h in
    let test = test_false (nat_le most_keyspaces (length image.keyspaces) && not (has_keyspace image name)) KeyspacesFull a.0 in
    by (has_keyspace image name) refl test
  where
    by : (b : Bool) → has_keyspace image name ≡ b → (nat_le most_keyspaces (length image.keyspaces) && not b) ≡ false → (length image.keyspaces < most_keyspaces) ⊎ (has_keyspace image name ≡ true)
    by true e t = inr e
    by false e t = inl (grind (arith, nat_tests))

-- ---- movements that are prepared

pub prepare_join_accepted : (image : Image) (n : ℕ) (tokens : List ℤ) → early_refusal_of image (PrepareJoin n tokens) ≡ None → IsIdle image n × AreNew image tokens
unfolding early_refusal_of
prepare_join_accepted image n tokens h =
    let a = none_of (no_node image n ∷ in_sequence image n ∷ wrong_state may_join image n ∷ token_taken image tokens ∷ tokens_full image tokens ∷ []) h in
    (idle image n a.0 a.1.0 a.1.1.0, new image tokens a.1.1.1.0 a.1.1.1.1.0)

-- a node that may move to a token
pub record MayMove (image : Image) (n : ℕ) (t : ℤ) : Type 0 where
  pub node : HasJoined image n
  pub one : length (node_tokens image n) ≡ 1
  pub new : AreNew image (t ∷ [])

pub prepare_move_accepted : (image : Image) (n : ℕ) (t : ℤ) → early_refusal_of image (PrepareMove n t) ≡ None → MayMove image n t
unfolding early_refusal_of
prepare_move_accepted image n t h =
    let a = none_of (no_node image n ∷ in_sequence image n ∷ wrong_state may_move_or_leave image n ∷ not_one_token image n ∷ token_taken image (t ∷ []) ∷ tokens_full image (t ∷ []) ∷ []) h in
    let count = length (node_tokens image n) in
    let same : (count == 1) ≡ true = negated (count == 1) (test_false (not (count == 1)) (NotOneToken count) a.1.1.1.0) in
    record {
      node = joined_node image n a.0 a.1.0 a.1.1.0;
      one = same_id count 1 same;
      new = new image (t ∷ []) a.1.1.1.1.0 a.1.1.1.1.1.0;
    }

pub prepare_leave_accepted : (image : Image) (n : ℕ) → early_refusal_of image (PrepareLeave n) ≡ None → HasJoined image n
unfolding early_refusal_of
prepare_leave_accepted image n h =
    let a = none_of (no_node image n ∷ in_sequence image n ∷ wrong_state may_move_or_leave image n ∷ too_few_nodes image n ∷ []) h in
    joined_node image n a.0 a.1.0 a.1.1.0

-- a node that may replace another one
pub record MayReplace (image : Image) (n gone : ℕ) : Type 0 where
  pub node : IsIdle image n
  pub free : IsFree image gone
  pub joined : owns_tokens image gone ≡ true
  pub near : other_rack image n gone ≡ None

pub prepare_replace_accepted : (image : Image) (n gone : ℕ) → early_refusal_of image (PrepareReplace n gone) ≡ None → MayReplace image n gone
unfolding early_refusal_of
prepare_replace_accepted image n gone h =
    let a = none_of (no_node image n ∷ no_node image gone ∷ in_sequence image n ∷ in_sequence image gone ∷ wrong_state may_join image n ∷ no_tokens image gone ∷ other_rack image n gone ∷ []) h in
    record {
      node = idle image n a.0 a.1.1.0 a.1.1.1.1.0;
      free = free image gone a.1.1.1.0;
      joined = negated (owns_tokens image gone) (test_false (not (owns_tokens image gone)) NoTokens a.1.1.1.1.1.0);
      near = a.1.1.1.1.1.1.0;
    }
