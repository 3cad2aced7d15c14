-- Quorums that are shown meet where they are asked for alike at adjacent epochs.
use Rattle.std.proofs.Common.{◌≡◌, ℕ, ◌+◌, ◌≤◌, true, inl, inr, ℤ, List, [], ◌∷◌, take, length, Option, Some, None, option_map, option_and_then, refl, sym, ap, ◌∙◌, subst, arith, length-append}
use Rattle.std.specs.List.{AllByRecursion, Contains, slice_get}
use Rattle.std.specs.Str.{bytes_eq}
use Rattle.std.proofs.lemmas.List.{take-append-le}
use Rattle.std.proofs.lemmas.List.Elements.{All-contains, All-from_recursion}
use Rattle.std.proofs.lemmas.Option.{none-some}
use Rattle.std.proofs.lemmas.Slice.Eq.{bytes_eq-Decides}
use Rattle.cluster_terms.specs.Arc.{IsToken}
use Rattle.cluster_terms.specs.Quorum.{Meet, Sets, datacenter_of}
use Rattle.transformation_laws.proofs.histories.HistoryMeetings.{meet_at_epoch, meet_at_next}
use Rattle.transformations.proofs.histories.HistoryLemmas.{valid_at}
use Rattle.transformations.proofs.lists.ListLemmas.{all_found, all_weaker, found_passes}
use Rattle.transformations.specs.History.{empty_image, image_after, state_after}
use Rattle.transformations.specs.Log.{commands_of}
use Rattle.transformations.specs.Meeting.{HasReplication, MeetAt, QuorumsMeet, datacenters_of, makes_movement_epoch, local_sets_at, sets_at}
use Rattle.transformations.specs.declared.command.Command.{Command}
use Rattle.transformations.specs.declared.image.Image.{Image}
use Rattle.transformations.specs.declared.keyspace.KeyspaceRow.{KeyspaceRow}
use Rattle.placement_maps.specs.Served.{keyspace_of}
use Rattle.script_lang.proofs.SaidLemmas.{IsFormed, formed_replication, said_by}
use Rattle.script_lang.specs.Grammar.{line_of}
use Rattle.script_session.proofs.steps.SessionLemmas.{GoesOnAs, IsFormedHistory, IsSession, after_lines, after_reply}
use Rattle.session_laws.proofs.quorums.NamedKeyspaces.{contained_found, found_named}
use Rattle.session_laws.proofs.quorums.ShownAnswers.{IsShownIn, found_sets, is_shown}
use Rattle.script_session.specs.Machine.{SessionState, session_after, session_next}
use Rattle.session_laws.specs.Shown.{AreAdjacent, AskAlike, Shown, ShownMeet, and_shown, sets_in, shown, shown_by}

pub replications : (h : List Command) → IsFormedHistory h → AllByRecursion HasReplication h
replications h is = all_weaker IsFormed HasReplication formed_replication h is.formed

-- ---- what the history at the end shows

-- the images of the epochs that have come stay
state_later : (h later : List Command) (e : ℕ) → GoesOnAs h later → e ≤ length h → state_after later e ≡ state_after h e
state_later h later e on within = ap (image_after empty_image) (ap (take e) on.is ∙ take-append-le e h on.more within)

pub shown_later : (h later : List Command) (s : Shown) → GoesOnAs h later → IsShownIn h s → IsShownIn later s
shown_later h later s on is = record {
  within = subst (λ l. s.epoch ≤ length l) (sym on.is) (omega (arith, is.within, length-append h on.more));
  token = is.token;
  sets = ap (λ image. found_sets image s.keyspace s.token s.datacenter) (state_later h later s.epoch on is.within) ∙ is.sets;
}

all_shown : (session : SessionState) (lines : List (List ℕ)) → IsSession session → AllByRecursion (IsShownIn (commands_of (session_after session lines).log)) (shown session lines)
all_shown session [] is = tt
all_shown session (bytes ∷ lines) is =
    let one = after_reply session bytes is in
    let whole = after_lines session (bytes ∷ lines) is in
    by whole.goes_on (all_shown (session_next session bytes) lines one.is) (shown_by session (line_of bytes)) refl
  where
    later : List Command
    later = commands_of (session_after session (bytes ∷ lines)).log

    by : GoesOnAs (commands_of session.log) later → AllByRecursion (IsShownIn later) (shown (session_next session bytes) lines)
        → (o : Option Shown) → shown_by session (line_of bytes) ≡ o → AllByRecursion (IsShownIn later) (and_shown o (shown (session_next session bytes) lines))
    by on rest None e = rest
    by on rest (Some s) e = (shown_later (commands_of session.log) later s on (is_shown session (line_of bytes) is (said_by bytes) s e), rest)

-- ---- sets that meet

-- the sets that are found are those that meet
same_sets : (c d a b : Sets) → Meet c d → Some c ≡ Some a → Some d ≡ Some b → Meet a b
same_sets c d a b m e f = (let first : c ≡ a = cc in let second : d ≡ b = cc in subst (λ x. Meet x b) first (subst (Meet c) second m))

-- those of a keyspace whose quorums meet
keyspace_sets : (one other : Image) (k : KeyspaceRow) (t : ℤ) → MeetAt one other k.replication t → (dc : Option (List ℕ)) (a b : Sets)
    → sets_in one t dc k ≡ Some a → sets_in other t dc k ≡ Some b → Meet a b
keyspace_sets one other k t meet None a b e f = same_sets (sets_at one k.replication t) (sets_at other k.replication t) a b meet.quorums e f
keyspace_sets one other k t meet (Some dc) a b e f = by (datacenter_of (datacenters_of k.replication) dc) refl e f
  where
    by : (o : Option (List ℕ × ℕ)) → datacenter_of (datacenters_of k.replication) dc ≡ o → option_map (λ f. local_sets_at one k.replication f t) o ≡ Some a
        → option_map (λ f. local_sets_at other k.replication f t) o ≡ Some b → Meet a b
    by None found e f = absurd (none-some a e)
    by (Some g) found e f =
        same_sets (local_sets_at one k.replication g t) (local_sets_at other k.replication g t) a b
        (all_found (λ (f : List ℕ × ℕ). Meet (local_sets_at one k.replication f t) (local_sets_at other k.replication f t)) (λ f. bytes_eq f.0 dc) (datacenters_of k.replication) g found meet.local_quorums) e f

-- those of one image, at the same question
image_sets : (image : Image) (name : List ℕ) (t : ℤ) (dc : Option (List ℕ)) (a b : Sets) → QuorumsMeet image image → IsToken t → found_sets image name t dc ≡ Some a → found_sets image name t dc ≡ Some b → Meet a b
image_sets image name t dc a b meet token e f = by (keyspace_of image name) refl e f
  where
    by : (o : Option KeyspaceRow) → keyspace_of image name ≡ o → option_and_then (sets_in image t dc) o ≡ Some a → option_and_then (sets_in image t dc) o ≡ Some b → Meet a b
    by None found e f = absurd (none-some a e)
    by (Some k) found e f =
        keyspace_sets image image k t (all_found (λ (k : KeyspaceRow). MeetAt image image k.replication t) (λ row. bytes_eq row.name name) image.keyspaces k found (meet t token)) dc a b e f

-- those of two images, if the quorums of both meet under the keyspace of this name
next_sets : (one other : Image) (name : List ℕ) (t : ℤ) (dc : Option (List ℕ)) (a b : Sets) → ((k : KeyspaceRow) → keyspace_of one name ≡ Some k → (keyspace_of other name ≡ Some k) × MeetAt one other k.replication t)
    → found_sets one name t dc ≡ Some a → found_sets other name t dc ≡ Some b → Meet a b
next_sets one other name t dc a b meets e f = by (keyspace_of one name) refl e
  where
    by : (o : Option KeyspaceRow) → keyspace_of one name ≡ o → option_and_then (sets_in one t dc) o ≡ Some a → Meet a b
    by None found e = absurd (none-some a e)
    by (Some k) found e =
        let there = meets k found in
        keyspace_sets one other k t there.1 dc a b e (ap (option_and_then (sets_in other t dc)) (sym there.0) ∙ f)

-- ---- the law

-- the epochs of two answers to the same question, and their sets
pub record IsAsked (h : List Command) (p q : Shown) : Type 0 where
  pub token : IsToken p.token
  pub first : found_sets (state_after h p.epoch) p.keyspace p.token p.datacenter ≡ Some p.sets
  pub second : found_sets (state_after h q.epoch) p.keyspace p.token p.datacenter ≡ Some q.sets

pub asked : (h : List Command) (p q : Shown) → IsShownIn h p → IsShownIn h q → AskAlike p q → IsAsked h p q
asked h p q one other alike = record {
  token = one.token;
  first = one.sets;
  second = (λ i. found_sets (state_after h q.epoch) (alike.keyspace i) (alike.token i) (alike.datacenter i)) ∙ other.sets;
}

-- under a keyspace for which the next epoch is a movement epoch, its quorums meet those before
named_meets : (h : List Command) (e : ℕ) (c : Command) (name : List ℕ) → IsFormedHistory h → slice_get h e ≡ Some c → makes_movement_epoch name c ≡ true → (t : ℤ) → IsToken t → (k : KeyspaceRow) → keyspace_of (state_after h e) name ≡ Some k
    → (keyspace_of (state_after h (e + 1)) name ≡ Some k) × MeetAt (state_after h e) (state_after h (e + 1)) k.replication t
named_meets h e c name is at moves t token k found =
    let named : k.name ≡ name = (bytes_eq-Decides k.name name).0 (found_passes (λ (row : KeyspaceRow). bytes_eq row.name name) (state_after h e).keyspaces k found) in
    let there : Contains (state_after h e).keyspaces k = contained_found (λ (row : KeyspaceRow). bytes_eq row.name name) (state_after h e).keyspaces k found in
    let after = meet_at_next h e c is.history (replications h is) at k there (subst (λ n. makes_movement_epoch n c ≡ true) (sym named) moves) in
    (found_named (state_after h (e + 1)) (valid_at h (e + 1) is.history).sound k after.stays name named, after.meet t token)

pub meet_shown : (h : List Command) (p q : Shown) → IsFormedHistory h → IsAsked h p q → AreAdjacent h p q → Meet p.sets q.sets
meet_shown h p q is a (inl same) =
    image_sets (state_after h p.epoch) p.keyspace p.token p.datacenter p.sets q.sets (meet_at_epoch h p.epoch is.history (replications h is)) a.token a.first
    (ap (λ e. found_sets (state_after h e) p.keyspace p.token p.datacenter) same ∙ a.second)
meet_shown h p q is a (inr next) = by (slice_get h p.epoch) refl next.1
  where
    by : (o : Option Command) → slice_get h p.epoch ≡ o → option_map (makes_movement_epoch p.keyspace) o ≡ Some true → Meet p.sets q.sets
    by None at movement = absurd (none-some true movement)
    by (Some c) at movement =
        let movement_true : makes_movement_epoch p.keyspace c ≡ true = cc in
        next_sets (state_after h p.epoch) (state_after h (p.epoch + 1)) p.keyspace p.token p.datacenter p.sets q.sets
        (named_meets h p.epoch c p.keyspace is at movement_true p.token a.token) a.first
        (ap (λ e. found_sets (state_after h e) p.keyspace p.token p.datacenter) (sym next.0) ∙ a.second)

pub shown_meet : (session : SessionState) → IsSession session → (lines : List (List ℕ)) → ShownMeet (commands_of (session_after session lines).log) (shown session lines)
shown_meet session is lines p q there here alike near =
    let h : List Command = commands_of (session_after session lines).log in
    let later = (after_lines session lines is).is in
    let all = All-from_recursion (IsShownIn h) (shown session lines) (all_shown session lines is) in
    meet_shown h p q later.history
    (asked h p q (All-contains (IsShownIn h) (shown session lines) p all there) (All-contains (IsShownIn h) (shown session lines) q all here) alike) near
