-- The quorums of a history meet at each epoch and at the next one, where that is a movement epoch.
use Rattle.std.proofs.Common.{◌≡◌, ℕ, zero, suc, ◌+◌, true, not, List, [], ◌∷◌, take, Some, get_or, sym, subst}
use Rattle.std.specs.List.{AllByRecursion, Contains, slice_get}
use Rattle.std.specs.Str.{bytes_eq}
use Rattle.std.proofs.lemmas.Option.{get_or_from_slice_get, slice_get_within}
use Rattle.cluster_terms.proofs.lists.AscendingLemmas.{All-put}
use Rattle.cluster_terms.specs.Replication.{IsReplication}
use Rattle.transformations.proofs.commands.KeyspacesAfter.{keyspaces_stepped}
use Rattle.transformations.proofs.quorums.AdjacentLemmas.{meet_itself, meet_next}
use Rattle.transformations.proofs.histories.HistoryLemmas.{next_at, state-more, valid_at}
use Rattle.transformations.proofs.lists.ListLemmas.{part_all_of, part_filter}
use Rattle.transformations.specs.History.{IsHistory, empty_image, image_after, next_image, state_after}
use Rattle.transformations.specs.Meeting.{HasReplication, HaveReplications, MeetsAfter, QuorumsMeet, makes_movement_epoch}
use Rattle.transformations.specs.Orders.{by_name}
use Rattle.transformations.specs.Refusals.{keyspace_row}
use Rattle.transformations.specs.declared.command.Command.{Command}
use Rattle.transformations.specs.declared.command.Command.TheVariants.{Register, Unregister, UnsafeJoin, Keyspace, DropKeyspace, PrepareJoin, PrepareMove, PrepareLeave, PrepareReplace, Step, Cancel}
use Rattle.transformations.specs.declared.image.Image.{Image}
use Rattle.transformations.specs.declared.keyspace.KeyspaceRow.{KeyspaceRow}

-- ---- the replications of keyspaces

pub next_replications : (image : Image) (c : Command) → HasReplication c → HaveReplications image → HaveReplications (next_image image c)
unfolding next_image
next_replications image (UnsafeJoin node tokens) has have = have
next_replications image (Keyspace name r) has have =
    All-put by_name (λ (k : KeyspaceRow). IsReplication k.replication) (keyspace_row name r) image.keyspaces has have
next_replications image (DropKeyspace name) has have =
    part_all_of (λ (k : KeyspaceRow). IsReplication k.replication) (part_filter (λ (row : KeyspaceRow). not (bytes_eq row.name name)) image.keyspaces) have
next_replications image (Register name dc rack) has have = have
next_replications image (Unregister node) has have = have
next_replications image (PrepareJoin node tokens) has have = have
next_replications image (PrepareMove node t) has have = have
next_replications image (PrepareLeave node) has have = have
next_replications image (PrepareReplace node gone) has have = have
next_replications image (Step g kind node) has have = subst (λ ks. AllByRecursion (λ (k : KeyspaceRow). IsReplication k.replication) ks) (sym (keyspaces_stepped image g node)) have
next_replications image (Cancel node) has have = have

pub replications_after : (image : Image) (commands : List Command) → AllByRecursion HasReplication commands → HaveReplications image → HaveReplications (image_after image commands)
replications_after image [] all have = have
replications_after image (c ∷ commands) all have = replications_after (next_image image c) commands all.1 (next_replications image c all.0 have)

all_take : {X : Type 0} (P : X → Type 0) (xs : List X) (n : ℕ) → AllByRecursion P xs → AllByRecursion P (take n xs)
all_take P xs zero all = tt
all_take P [] (suc n) all = tt
all_take P (x ∷ xs) (suc n) all = (all.0, all_take P xs n all.1)

pub replications_at : (h : List Command) (e : ℕ) → AllByRecursion HasReplication h → HaveReplications (state_after h e)
replications_at h e all = replications_after empty_image (take e h) (all_take HasReplication h e all) tt

-- ---- quorums that meet

pub meet_at_epoch : (h : List Command) (e : ℕ) → IsHistory h → AllByRecursion HasReplication h → QuorumsMeet (state_after h e) (state_after h e)
meet_at_epoch h e is all = meet_itself (state_after h e) (valid_at h e is) (replications_at h e all)

-- the next epoch is a movement epoch for a keyspace: its quorums meet those before
pub meet_at_next : (h : List Command) (e : ℕ) (c : Command) → IsHistory h → AllByRecursion HasReplication h → slice_get h e ≡ Some c → (k : KeyspaceRow) → Contains (state_after h e).keyspaces k → makes_movement_epoch k.name c ≡ true
    → MeetsAfter (state_after h e) (state_after h (e + 1)) k
meet_at_next h e c is all at k there moves =
    let within = slice_get_within h e c at in
    let here : c ≡ get_or h e c = sym (get_or_from_slice_get h e c c at) in
    let next = next_at h e c is within here in
    let meets = meet_next (state_after h e) c (valid_at h e is) (replications_at h e all) next.formed next.accepted next.below_limit k there moves in
    subst (λ after. MeetsAfter (state_after h e) after k) (state-more h e c within here) meets
