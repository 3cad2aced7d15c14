-- The names of the images that lines lead to hold no line feed, and neither do the refusals that show them.
use Rattle.std.proofs.Common.{◌≡◌, ℕ, zero, suc, Bool, true, false, not, ◌&&◌, ◌==◌, ℤ, is_some, nat_lt, List, [], ◌∷◌, map, find, take, length, Option, Some, None, option_map, option_and_then, if◌then◌else◌, nat_le, refl}
use Rattle.std.specs.List.{AllByRecursion, list_any}
use Rattle.std.specs.Option.{IfSome}
use Rattle.std.specs.Str.{bytes_eq}
use Rattle.cluster_terms.proofs.lists.AscendingLemmas.{All-put}
use Rattle.cluster_terms.specs.NodeRow.{marked, row_of}
use Rattle.cluster_terms.specs.declared.node.NodeRow.{NodeRow}
use Rattle.transformations.proofs.lists.ListLemmas.{all_append, all_each, all_found, all_map, all_weaker, part_all_of, part_filter}
use Rattle.transformations.specs.History.{commit_refusal, empty_image, image_after, most_epochs, next_image, state_after}
use Rattle.transformations.specs.Orders.{by_name}
use Rattle.transformations.specs.Refusals as spec
use Rattle.transformations.specs.Ranges.{first_shared}
use Rattle.transformations.specs.States.{node_state, node_tokens, owns_tokens}
use Rattle.transformations.specs.declared.state.NodeState.{NodeState}
use Rattle.transformations.specs.Movements.{finished, is_next_step, leaver, movement_of, others, takes_part, with_left}
use Rattle.transformations.specs.declared.command.Command.{Command}
use Rattle.transformations.specs.declared.command.Command.TheVariants.{Register, Unregister, UnsafeJoin, Keyspace, DropKeyspace, PrepareJoin, PrepareMove, PrepareLeave, PrepareReplace, Step, Cancel}
use Rattle.transformations.specs.declared.image.Image.{Image}
use Rattle.transformations.specs.declared.keyspace.KeyspaceRow.{KeyspaceRow}
use Rattle.transformations.specs.declared.refusal.Refusal.{Refusal}
use Rattle.transformations.specs.declared.refusal.Refusal.TheVariants.{NameTaken, InSequence, TokenTaken, TooFewNodes, Locked, EpochsFull, KeyspaceLocked}
use Rattle.transformations.specs.declared.sequence.Goal.{Goal}
use Rattle.transformations.specs.declared.sequence.Goal.TheVariants as goal
use Rattle.transformations.specs.declared.sequence.Kind.{Kind}
use Rattle.transformations.specs.declared.sequence.SeqRow.{SeqRow}
use Rattle.script_lang.proofs.OptionValues.{each_chained, each_mapped, either}
use Rattle.script_lang.proofs.SaidLemmas.{IsFormed}
use Rattle.session_laws.proofs.texts.PlainTexts.{HasPlainNames, is_plain, plain_name}

-- ---- images

-- the names of a node, and that of a keyspace
pub record IsPlainRow (row : NodeRow) : Type 0 where
  pub name : is_plain row.name ≡ true
  pub dc : is_plain row.dc ≡ true
  pub rack : is_plain row.rack ≡ true

pub record IsPlainImage (image : Image) : Type 0 where
  pub nodes : AllByRecursion IsPlainRow image.nodes
  pub keyspaces : AllByRecursion (λ k. is_plain k.name ≡ true) image.keyspaces

pub plain_empty : IsPlainImage empty_image
plain_empty = record { nodes = tt; keyspaces = tt }

-- a node that has left keeps its names
plain_marked : (n : ℕ) (row : NodeRow) → IsPlainRow row → IsPlainRow (marked n row)
plain_marked n row is = by (row.id == n)
  where
    by : (b : Bool) → IsPlainRow (let left : NodeRow = record row { left = true } in if b then left else row)
    by true = record { name = is.name; dc = is.dc; rack = is.rack }
    by false = is

plain_left : (nodes : List NodeRow) (o : Option ℕ) → AllByRecursion IsPlainRow nodes → AllByRecursion IsPlainRow (with_left nodes o)
plain_left nodes None all = all
plain_left nodes (Some n) all = all_map IsPlainRow (marked n) nodes (all_weaker IsPlainRow (λ row. IsPlainRow (marked n row)) (plain_marked n) nodes all)

plain_finished : (image : Image) (o : Option SeqRow) → IsPlainImage image → IsPlainImage (finished image o)
plain_finished image None is = is
plain_finished image (Some s) is = record { nodes = plain_left image.nodes (leaver s) is.nodes; keyspaces = is.keyspaces }

pub next_plain : (image : Image) (c : Command) → IsFormed c → IsPlainImage image → IsPlainImage (next_image image c)
unfolding next_image
next_plain image (Register name dc rack) formed is =
    let row : IsPlainRow (record { id = image.next; name = name; dc = dc; rack = rack; left = false }) =
    record { name = plain_name name formed.0; dc = plain_name dc formed.1; rack = plain_name rack formed.2 } in
    record { nodes = all_append IsPlainRow image.nodes _ is.nodes (row, tt); keyspaces = is.keyspaces }
next_plain image (Unregister node) formed is =
    record { nodes = part_all_of IsPlainRow (part_filter (λ (row : NodeRow). not (row.id == node)) image.nodes) is.nodes; keyspaces = is.keyspaces }
next_plain image (UnsafeJoin node tokens) formed is = record { nodes = is.nodes; keyspaces = is.keyspaces }
next_plain image (Keyspace name r) formed is =
    let row : KeyspaceRow = record { name = name; replication = r } in
    record { nodes = is.nodes; keyspaces = All-put by_name (λ (k : KeyspaceRow). is_plain k.name ≡ true) row image.keyspaces (plain_name name formed.0) is.keyspaces }
next_plain image (DropKeyspace name) formed is =
    record {
      nodes = is.nodes;
      keyspaces = part_all_of (λ (k : KeyspaceRow). is_plain k.name ≡ true) (part_filter (λ (row : KeyspaceRow). not (bytes_eq row.name name)) image.keyspaces) is.keyspaces;
    }
next_plain image (PrepareJoin node tokens) formed is = record { nodes = is.nodes; keyspaces = is.keyspaces }
next_plain image (PrepareMove node t) formed is = record { nodes = is.nodes; keyspaces = is.keyspaces }
next_plain image (PrepareLeave node) formed is = record { nodes = is.nodes; keyspaces = is.keyspaces }
next_plain image (PrepareReplace node gone) formed is = record { nodes = is.nodes; keyspaces = is.keyspaces }
next_plain image (Step goal.Start k node) formed is = record { nodes = is.nodes; keyspaces = is.keyspaces }
next_plain image (Step goal.Mid k node) formed is = record { nodes = is.nodes; keyspaces = is.keyspaces }
next_plain image (Step goal.Finish k node) formed is =
    let done = plain_finished image (movement_of image node) is in
    record { nodes = done.nodes; keyspaces = done.keyspaces }
next_plain image (Cancel node) formed is = record { nodes = is.nodes; keyspaces = is.keyspaces }

plain_after : (image : Image) (h : List Command) (e : ℕ) → AllByRecursion IsFormed h → IsPlainImage image → IsPlainImage (image_after image (take e h))
plain_after image h zero all is = is
plain_after image [] (suc e) all is = is
plain_after image (c ∷ h) (suc e) all is = plain_after (next_image image c) h e all.1 (next_plain image c all.0 is)

pub plain_at : (h : List Command) (e : ℕ) → AllByRecursion IsFormed h → IsPlainImage (state_after h e)
plain_at h e all = plain_after empty_image h e all plain_empty

plain_last : (image : Image) (h : List Command) → AllByRecursion IsFormed h → IsPlainImage image → IsPlainImage (image_after image h)
plain_last image [] all is = is
plain_last image (c ∷ h) all is = plain_last (next_image image c) h all.1 (next_plain image c all.0 is)

-- ---- refusals

-- the first of some refusals
first_plain : (os : List (Option Refusal)) → AllByRecursion (λ o. IfSome o HasPlainNames) os → IfSome (spec.first_of os) HasPlainNames
first_plain [] all = tt
first_plain (Some r ∷ os) all = all.0
first_plain (None ∷ os) all = first_plain os all.1

refused : (b : Bool) (r : Refusal) → HasPlainNames r → IfSome (spec.refused_if b r) HasPlainNames
refused true r h = h
refused false r h = tt

module _ (image : Image) (is : IsPlainImage image) where
  of_name : (name : List ℕ) → IfSome (spec.name_taken image name) HasPlainNames
  of_name name = each_mapped (λ (row : NodeRow). NameTaken row.id) HasPlainNames (λ row. tt) (find (λ row. bytes_eq row.name name) image.nodes)

  of_sequence : (n : ℕ) → IfSome (spec.in_sequence image n) HasPlainNames
  of_sequence n = each_mapped (λ (s : SeqRow). InSequence s.node) HasPlainNames (λ s. tt) (find (takes_part n) image.sequences)

  of_idle : (ss : List SeqRow) → IfSome (spec.not_idle ss) HasPlainNames
  of_idle [] = tt
  of_idle (s ∷ ss) = tt

  of_tokens : (ts : List ℤ) → IfSome (spec.token_taken image ts) HasPlainNames
  of_tokens ts = each_mapped TokenTaken HasPlainNames (λ t. tt) (find (spec.is_taken image) ts)

  of_node : (n : ℕ) → IfSome (spec.no_node image n) HasPlainNames
  of_node n = refused (not (spec.is_registered image n)) _ tt

  of_state : (allowed : NodeState → Bool) (n : ℕ) → IfSome (spec.wrong_state allowed image n) HasPlainNames
  of_state allowed n = each_chained (spec.unless_allowed allowed) HasPlainNames (λ s. refused (not (allowed s)) _ tt) (node_state image n)

  of_full : (ts : List ℤ) → IfSome (spec.tokens_full image ts) HasPlainNames
  of_full ts = refused (nat_lt spec.most_tokens (spec.tokens_with image ts)) _ tt

  of_movement : (n : ℕ) → IfSome (spec.no_sequence image n) HasPlainNames
  of_movement n = refused (not (is_some (movement_of image n))) _ tt

  of_step : (g : Goal) (k : Kind) (n : ℕ) → IfSome (spec.wrong_step g k image n) HasPlainNames
  of_step g k n = each_chained (spec.unless_next g k) HasPlainNames (λ s. refused (not (is_next_step g k s)) _ tt) (movement_of image n)

  -- the datacenter and the rack of a node, and the name of a keyspace
  of_rack : (n gone : ℕ) → IfSome (spec.other_rack image n gone) HasPlainNames
  of_rack n gone = by (row_of image.nodes gone) refl
    where
      by : (o : Option NodeRow) → row_of image.nodes gone ≡ o → IfSome (option_and_then (λ left. option_and_then (spec.unless_near left) (row_of image.nodes n)) o) HasPlainNames
      by None e = tt
      by (Some left) e =
          let row : IsPlainRow left = all_found IsPlainRow (λ row. row.id == gone) image.nodes left e is.nodes in
          each_chained (spec.unless_near left) HasPlainNames (λ near. refused (not (spec.same_place near left)) _ (row.dc, row.rack)) (row_of image.nodes n)

  of_few : (n : ℕ) → IfSome (spec.too_few_nodes image n) HasPlainNames
  of_few n = by (find (λ (k : KeyspaceRow). spec.is_too_few image n k.replication) image.keyspaces) refl
    where
      by : (o : Option KeyspaceRow) → find (λ (k : KeyspaceRow). spec.is_too_few image n k.replication) image.keyspaces ≡ o → IfSome (option_map (λ (k : KeyspaceRow). TooFewNodes k.name) o) HasPlainNames
      by None e = tt
      by (Some k) e = all_found (λ (k : KeyspaceRow). is_plain k.name ≡ true) (λ (k : KeyspaceRow). spec.is_too_few image n k.replication) image.keyspaces k e is.keyspaces

  early_plain : (c : Command) → IsFormed c → IfSome (spec.early_refusal_of image c) HasPlainNames
  unfolding spec.early_refusal_of
  early_plain (Register name dc rack) formed =
      first_plain (spec.name_taken image name ∷ spec.nodes_full image ∷ []) (of_name name, (refused (nat_le spec.most_nodes (length image.nodes)) _ tt, tt))
  early_plain (Unregister n) formed = first_plain (spec.no_node image n ∷ spec.in_sequence image n ∷ spec.wrong_state spec.may_be_removed image n ∷ []) (of_node n, (of_sequence n, (of_state spec.may_be_removed n, tt)))
  early_plain (UnsafeJoin n ts) formed =
      first_plain (spec.no_node image n ∷ spec.in_sequence image n ∷ spec.wrong_state spec.may_join image n ∷ spec.not_idle image.sequences ∷ spec.token_taken image ts ∷ spec.tokens_full image ts ∷ [])
      (of_node n, (of_sequence n, (of_state spec.may_join n, (of_idle image.sequences, (of_tokens ts, (of_full ts, tt))))))
  early_plain (Keyspace name r) formed =
      first_plain (spec.keyspaces_full image name ∷ spec.too_few_left image (spec.keyspace_row name r) ∷ [])
      (refused (nat_le spec.most_keyspaces (length image.keyspaces) && not (spec.has_keyspace image name)) _ tt, (refused (list_any (spec.is_left_short image r) image.sequences) _ (plain_name name formed.0), tt))
  early_plain (DropKeyspace name) formed = refused (not (spec.has_keyspace image name)) _ tt
  early_plain (PrepareJoin n ts) formed =
      first_plain (spec.no_node image n ∷ spec.in_sequence image n ∷ spec.wrong_state spec.may_join image n ∷ spec.token_taken image ts ∷ spec.tokens_full image ts ∷ [])
      (of_node n, (of_sequence n, (of_state spec.may_join n, (of_tokens ts, (of_full ts, tt)))))
  early_plain (PrepareMove n t) formed =
      first_plain (spec.no_node image n ∷ spec.in_sequence image n ∷ spec.wrong_state spec.may_move_or_leave image n ∷ spec.not_one_token image n ∷ spec.token_taken image (t ∷ []) ∷ spec.tokens_full image (t ∷ []) ∷ [])
      (of_node n, (of_sequence n, (of_state spec.may_move_or_leave n, (refused (not (length (node_tokens image n) == 1)) _ tt, (of_tokens (t ∷ []), (of_full (t ∷ []), tt))))))
  early_plain (PrepareLeave n) formed =
      first_plain (spec.no_node image n ∷ spec.in_sequence image n ∷ spec.wrong_state spec.may_move_or_leave image n ∷ spec.too_few_nodes image n ∷ [])
      (of_node n, (of_sequence n, (of_state spec.may_move_or_leave n, (of_few n, tt))))
  early_plain (PrepareReplace n gone) formed =
      first_plain (spec.no_node image n ∷ spec.no_node image gone ∷ spec.in_sequence image n ∷ spec.in_sequence image gone ∷ spec.wrong_state spec.may_join image n ∷ spec.no_tokens image gone ∷ spec.other_rack image n gone ∷ [])
      (of_node n, (of_node gone, (of_sequence n, (of_sequence gone, (of_state spec.may_join n, (refused (not (owns_tokens image gone)) _ tt, (of_rack n gone, tt)))))))
  early_plain (Cancel n) formed = first_plain (spec.no_node image n ∷ spec.no_sequence image n ∷ []) (of_node n, (of_movement n, tt))
  early_plain (Step g k n) formed = first_plain (spec.no_node image n ∷ spec.no_sequence image n ∷ spec.wrong_step g k image n ∷ []) (of_node n, (of_movement n, (of_step g k n, tt)))

  of_locked : (ring : Image) (s : SeqRow) → IfSome (spec.locked ring s) HasPlainNames
  unfolding spec.locked
  of_locked ring s =
      first_plain (map (spec.locked_by ring s) (others ring.sequences s.node))
      (all_map (λ (o : Option Refusal). IfSome o HasPlainNames) (spec.locked_by ring s) (others ring.sequences s.node)
      (all_each (λ (q : SeqRow). IfSome (spec.locked_by ring s q) HasPlainNames) (λ q. each_mapped (Locked q.node) HasPlainNames (λ end. tt) (first_shared ring s q)) (others ring.sequences s.node)))

  locked_plain : (c : Command) → IfSome (spec.ranges_locked image c) HasPlainNames
  locked_plain c = each_chained (λ s. spec.locked (spec.with_movement image s) s) HasPlainNames (λ s. of_locked (spec.with_movement image s) s) (spec.prepared_by image.tokens c)

  -- the movements that would overlap are shown by their nodes
  of_overlap : (later : Image) (ss : List SeqRow) → IfSome (spec.first_overlap later ss) HasPlainNames
  of_overlap later [] = tt
  of_overlap later (s ∷ ss) =
      first_plain (spec.first_of (map (spec.overlap_of later s) ss) ∷ spec.first_overlap later ss ∷ []) (
        first_plain (map (spec.overlap_of later s) ss)
            (all_map (λ (o : Option Refusal). IfSome o HasPlainNames) (spec.overlap_of later s) ss
            (all_each (λ (q : SeqRow). IfSome (spec.overlap_of later s q) HasPlainNames) (λ q. each_mapped (KeyspaceLocked s.node q.node) HasPlainNames (λ end. tt) (first_shared later s q)) ss)),
        (of_overlap later ss, tt),
      )

  overlap_plain : (c : Command) → IfSome (spec.locks_overlap image c) HasPlainNames
  unfolding spec.keyspace_locked
  overlap_plain (Keyspace name r) = of_overlap (spec.with_keyspace image (spec.keyspace_row name r)) image.sequences
  overlap_plain (Register name dc rack) = tt
  overlap_plain (Unregister n) = tt
  overlap_plain (UnsafeJoin n ts) = tt
  overlap_plain (DropKeyspace name) = tt
  overlap_plain (PrepareJoin n ts) = tt
  overlap_plain (PrepareMove n t) = tt
  overlap_plain (PrepareLeave n) = tt
  overlap_plain (PrepareReplace n gone) = tt
  overlap_plain (Step g k n) = tt
  overlap_plain (Cancel n) = tt

  pub refusal_plain : (c : Command) → IsFormed c → IfSome (spec.refusal_of image c) HasPlainNames
  unfolding spec.refusal_of
  refusal_plain c formed = first_plain (spec.early_refusal_of image c ∷ spec.ranges_locked image c ∷ spec.locks_overlap image c ∷ []) (early_plain c formed, (locked_plain c, (overlap_plain c, tt)))

-- of a commit after a history
pub commit_plain : (h : List Command) (c : Command) → AllByRecursion IsFormed h → IsFormed c → IfSome (commit_refusal h c) HasPlainNames
commit_plain h c all formed =
    either HasPlainNames (nat_le most_epochs (length h)) (Some EpochsFull) (spec.refusal_of (image_after empty_image h) c) tt (refusal_plain (image_after empty_image h) (plain_last empty_image h all plain_empty) c formed)
