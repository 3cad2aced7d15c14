-- What an answer shows: its text, and where its sets come from.
use Rattle.std.proofs.Common.{◌≡◌, ◌≢◌, ℕ, suc, ◌+◌, ◌≤◌, inl, inr, ℤ, Bool, true, false, if◌then◌else◌, List, [], ◌∷◌, ◌++◌, get_or, take, length, Option, Some, None, Result, Ok, Err, option_map, option_and_then, nat_le, codes, decimal, refl, sym, ap, ◌∙◌, subst, arith}
use Rattle.std.specs.Option.{IfSome}
use Rattle.std.proofs.lemmas.Option.{none-some}
use Rattle.cluster_terms.specs.Arc.{IsToken}
use Rattle.cluster_terms.specs.Quorum.{Sets, datacenter_of}
use Rattle.transformations.proofs.histories.LogLemmas.{length-commands_of}
use Rattle.transformations.specs.History.{state_after}
use Rattle.transformations.specs.Log.{commands_of, commit_of}
use Rattle.transformations.specs.Meeting.{datacenters_of, local_sets_at, sets_at}
use Rattle.transformations.specs.declared.command.Command.{Command}
use Rattle.transformations.specs.declared.entry.Entry.{Entry}
use Rattle.transformations.specs.declared.image.Image.{Image}
use Rattle.transformations.specs.declared.keyspace.KeyspaceRow.{KeyspaceRow}
use Rattle.transformations.specs.declared.refusal.Refusal.{Refusal}
use Rattle.placement_maps.specs.Served.{keyspace_of}
use Rattle.script_lang.proofs.SaidLemmas.{IsSaid}
use Rattle.script_lang.specs.Grammar.{line_of}
use Rattle.catch_up.specs.Replies.{catch_up_reply}
use Rattle.catch_up.specs.declared.message.Reply.{Reply as CatchUpReply}
use Rattle.catch_up_laws.specs.Given.{given_reply}
use Rattle.epoch_log.specs.Epochs.{entry_at}
use Rattle.follower_log.specs.Follower.{FollowerState, hand_entry, hand_valid}
use Rattle.follower_log.specs.Prefix.{IsImageOf}
use Rattle.follower_log.specs.declared.fault.FollowerFault.{FollowerFault}
use Rattle.follower_log.specs.declared.took.Took.{Took}
use Rattle.follower_log.specs.declared.took.Took.TheVariants.{At, Old, Held, Full}
use Rattle.script_session.specs.Machine.{Reply, SessionState, ask_of, asked_reply, asked_text, commit_text, deliver_to, give_to, most_replies, only_answers, reply_numbered, follower_named, follower_reply, handed_text, image_at, image_of, local_quorums, local_quorums_in, no_epoch, placements, query_text, quorums, reply, reply_of, reply_to, snapshot_to}
use Rattle.script_session.specs.declared.session.followers.NamedFollower.{NamedFollower}
use Rattle.script_session.specs.declared.session.query.Query.TheVariants as query
use Rattle.session_laws.specs.Shown.{IsOfNoQuorum, Shown, sets_in, shown_by, shown_from, shown_text}
use Rattle.script_lang.specs.AnswerTexts.{epoch_text, no_text, nodes_text, ok_text, place_text, quorum_text, refusal_text}
use Rattle.script_lang.specs.declared.script_line.ScriptLine.{ScriptLine}
use Rattle.script_lang.specs.declared.script_line.Target.{Target}
use Rattle.script_lang.specs.declared.script_line.ScriptLine.TheVariants.{Commit, Follower, Deliver, Snapshot, Ask, Give, Place, Nodes, Quorum, Local}
use Rattle.script_session.proofs.steps.SessionLemmas.{IsSession, image_of_target}
use Rattle.script_session.proofs.followers.TakenLemmas.{follower_cases}

-- what an image shows of some sets
abbrev pub shown_as : Image → List ℕ → Option (List ℕ) → ℤ → Sets → Shown
shown_as image name dc t sets = record { datacenter = dc; keyspace = name; token = t; epoch = image.epoch; sets = sets }

-- the sets that are shown to a query: those of the keyspace that is found
abbrev pub found_sets : Image → List ℕ → ℤ → Option (List ℕ) → Option Sets
found_sets image name t dc = option_and_then (sets_in image t dc) (keyspace_of image name)

-- what a history shows: at an epoch that has come, to a token, the sets of its image
pub record IsShownIn (h : List Command) (s : Shown) : Type 0 where
  pub within : s.epoch ≤ length h
  pub token : IsToken s.token
  pub sets : found_sets (state_after h s.epoch) s.keyspace s.token s.datacenter ≡ Some s.sets

-- the parts of what an image shows
record AreParts (image : Image) (name : List ℕ) (dc : Option (List ℕ)) (t : ℤ) (s : Shown) : Type 0 where
  sets : Sets
  found : found_sets image name t dc ≡ Some sets
  is : s ≡ shown_as image name dc t sets

parts : (image : Image) (name : List ℕ) (dc : Option (List ℕ)) (t : ℤ) (s : Shown) → shown_from (Ok image) name dc t ≡ Some s → AreParts image name dc t s
parts image name dc t s shows = by (found_sets image name t dc) refl shows
  where
    by : (o : Option Sets) → found_sets image name t dc ≡ o
        → option_map (shown_as image name dc t) o ≡ Some s → AreParts image name dc t s
    by None found is = absurd (none-some s is)
    by (Some sets) found is = record { sets = sets; found = found; is = cc }

-- a reason shows nothing
from_image : (r : Result Image (List ℕ)) (name : List ℕ) (dc : Option (List ℕ)) (t : ℤ) (s : Shown) (P : Type 0) → shown_from r name dc t ≡ Some s
    → ((image : Image) → r ≡ Ok image → shown_from (Ok image) name dc t ≡ Some s → P) → P
from_image (Err reason) name dc t s P shows of_image = absurd (none-some s shows)
from_image (Ok image) name dc t s P shows of_image = of_image image refl shows

shown_of : (log : List Entry) (image : Image) (name : List ℕ) (dc : Option (List ℕ)) (t : ℤ) (s : Shown) → IsToken t → IsImageOf log image → shown_from (Ok image) name dc t ≡ Some s → IsShownIn (commands_of log) s
shown_of log image name dc t s token of shows =
    let p = parts image name dc t s shows in
    subst (IsShownIn (commands_of log)) (sym p.is)
    (record {
      within = omega (arith, of.within, length-commands_of log);
      token = token;
      sets = ap (λ i. found_sets i name t dc) (sym of.state) ∙ p.found;
    })

shown_in : (session : SessionState) (target : Target) (name : List ℕ) (dc : Option (List ℕ)) (t : ℤ) (s : Shown) → IsSession session → IsToken t → shown_from (image_of session target) name dc t ≡ Some s
    → IsShownIn (commands_of session.log) s
shown_in session target name dc t s is token shows =
    from_image (image_of session target) name dc t s (IsShownIn (commands_of session.log) s) shows
    (λ image found shows. shown_of session.log image name dc t s token (image_of_target session target image is found) shows)

pub is_shown : (session : SessionState) (said : Option ScriptLine) → IsSession session → IfSome said IsSaid → (s : Shown) → shown_by session said ≡ Some s → IsShownIn (commands_of session.log) s
is_shown session None is said s shows = absurd (none-some s shows)
is_shown session (Some (Commit id c)) is said s shows = absurd (none-some s shows)
is_shown session (Some (Follower name)) is said s shows = absurd (none-some s shows)
is_shown session (Some (Deliver name e)) is said s shows = absurd (none-some s shows)
is_shown session (Some (Snapshot name e)) is said s shows = absurd (none-some s shows)
is_shown session (Some (Ask name max)) is said s shows = absurd (none-some s shows)
is_shown session (Some (Give name number)) is said s shows = absurd (none-some s shows)
is_shown session (Some (Place target name)) is said s shows = absurd (none-some s shows)
is_shown session (Some (Nodes target)) is said s shows = absurd (none-some s shows)
is_shown session (Some (Quorum target name t)) is said s shows = shown_in session target name None t s is said shows
is_shown session (Some (Local target name dc t)) is said s shows = shown_in session target name (Some dc) t s is said shows

-- ---- texts

-- the text at an image
quorum_shown : (image : Image) (name : List ℕ) (t : ℤ) (sets : Sets) → found_sets image name t None ≡ Some sets
    → quorums image t (keyspace_of image name) ≡ quorum_text (codes "QUORUM") image.epoch sets
quorum_shown image name t sets found = by (keyspace_of image name) found
  where
    by : (o : Option KeyspaceRow) → option_and_then (sets_in image t None) o ≡ Some sets → quorums image t o ≡ quorum_text (codes "QUORUM") image.epoch sets
    by None e = absurd (none-some sets e)
    by (Some k) e = let same : sets_at image k.replication t ≡ sets = cc in ap (quorum_text (codes "QUORUM") image.epoch) same

local_shown : (image : Image) (name dc : List ℕ) (t : ℤ) (sets : Sets) → found_sets image name t (Some dc) ≡ Some sets
    → local_quorums image dc t (keyspace_of image name) ≡ quorum_text (codes "LOCAL") image.epoch sets
local_shown image name dc t sets found = by (keyspace_of image name) found
  where
    within : (k : KeyspaceRow) (o : Option (List ℕ × ℕ)) → option_map (λ f. local_sets_at image k.replication f t) o ≡ Some sets
        → local_quorums_in image t k.replication o ≡ quorum_text (codes "LOCAL") image.epoch sets
    within k None e = absurd (none-some sets e)
    within k (Some f) e = let same : local_sets_at image k.replication f t ≡ sets = cc in ap (quorum_text (codes "LOCAL") image.epoch) same

    by : (o : Option KeyspaceRow) → option_and_then (sets_in image t (Some dc)) o ≡ Some sets → local_quorums image dc t o ≡ quorum_text (codes "LOCAL") image.epoch sets
    by None e = absurd (none-some sets e)
    by (Some k) e = within k (datacenter_of (datacenters_of k.replication) dc) e

quorum_texts : (r : Result Image (List ℕ)) (name : List ℕ) (t : ℤ) (s : Shown) → shown_from r name None t ≡ Some s → query_text r (query.Quorum name t) ≡ shown_text s
quorum_texts (Err reason) name t s shows = absurd (none-some s shows)
quorum_texts (Ok image) name t s shows =
    let p = parts image name None t s shows in
    quorum_shown image name t p.sets p.found ∙ ap shown_text (sym p.is)

local_texts : (r : Result Image (List ℕ)) (name dc : List ℕ) (t : ℤ) (s : Shown) → shown_from r name (Some dc) t ≡ Some s → query_text r (query.Local name dc t) ≡ shown_text s
local_texts (Err reason) name dc t s shows = absurd (none-some s shows)
local_texts (Ok image) name dc t s shows =
    let p = parts image name (Some dc) t s shows in
    local_shown image name dc t p.sets p.found ∙ ap shown_text (sym p.is)

texts_said : (session : SessionState) (said : Option ScriptLine) (s : Shown) → shown_by session said ≡ Some s → (reply_to session said).text ≡ shown_text s
texts_said session None s shows = absurd (none-some s shows)
texts_said session (Some (Commit id c)) s shows = absurd (none-some s shows)
texts_said session (Some (Follower name)) s shows = absurd (none-some s shows)
texts_said session (Some (Deliver name e)) s shows = absurd (none-some s shows)
texts_said session (Some (Snapshot name e)) s shows = absurd (none-some s shows)
texts_said session (Some (Ask name max)) s shows = absurd (none-some s shows)
texts_said session (Some (Give name number)) s shows = absurd (none-some s shows)
texts_said session (Some (Place target name)) s shows = absurd (none-some s shows)
texts_said session (Some (Nodes target)) s shows = absurd (none-some s shows)
texts_said session (Some (Quorum target name t)) s shows = quorum_texts (image_of session target) name t s shows
texts_said session (Some (Local target name dc t)) s shows = local_texts (image_of session target) name dc t s shows

pub texts : (session : SessionState) (bytes : List ℕ) (s : Shown) → shown_by session (line_of bytes) ≡ Some s → (reply session bytes).text ≡ shown_text s
unfolding reply
texts session bytes s shows = texts_said session (line_of bytes) s shows

-- ---- answers that show nothing

-- the first byte tells: it is neither a Q nor an L
first_taken : (n : ℕ) (text : List ℕ) → get_or (take (suc n) text) 0 0 ≡ get_or text 0 0
first_taken n [] = refl
first_taken n (c ∷ text) = refl

pub by_first : (text : List ℕ) → get_or text 0 0 ≢ 81 → get_or text 0 0 ≢ 76 → IsOfNoQuorum text
by_first text q l (inl e) = q (sym (first_taken 5 text) ∙ ap (λ x. get_or x 0 0) e)
by_first text q l (inr e) = l (sym (first_taken 4 text) ∙ ap (λ x. get_or x 0 0) e)

no_answer : (reason : List ℕ) → IsOfNoQuorum (no_text reason)
no_answer reason = by_first (no_text reason) (λ e. omega arith) (λ e. omega arith)

place_others : (image : Image) (o : Option KeyspaceRow) → IsOfNoQuorum (placements image o)
unfolding place_text
place_others image None = no_answer (codes "KEYSPACE")
place_others image (Some k) = by_first (place_text image k) (λ e. omega arith) (λ e. omega arith)

nodes_others : (image : Image) → IsOfNoQuorum (nodes_text image)
unfolding nodes_text
nodes_others image = by_first (nodes_text image) (λ e. omega arith) (λ e. omega arith)

commit_others : (answer : Result ℕ Refusal) → IsOfNoQuorum (commit_text answer)
commit_others (Ok epoch) = by_first (ok_text epoch) (λ e. omega arith) (λ e. omega arith)
commit_others (Err r) = no_answer (refusal_text r)

-- a line on a follower
nothing_shown : IsOfNoQuorum []
nothing_shown = by_first [] (λ e. omega arith) (λ e. omega arith)

handed_others : (answer : Result Took FollowerFault) → IsOfNoQuorum (handed_text answer)
handed_others (Ok (At e)) = by_first (epoch_text (codes "AT") e) (λ e. omega arith) (λ e. omega arith)
handed_others (Ok (Old e)) = by_first (epoch_text (codes "OLD") e) (λ e. omega arith) (λ e. omega arith)
handed_others (Ok (Held e)) = by_first (epoch_text (codes "HELD") e) (λ e. omega arith) (λ e. omega arith)
handed_others (Ok (Full e)) = by_first (epoch_text (codes "FULL") e) (λ e. omega arith) (λ e. omega arith)
handed_others (Err fault) = nothing_shown

follower_others : (session : SessionState) (name : List ℕ) → IsOfNoQuorum (follower_reply session name).text
follower_others session name =
    follower_cases session name (λ r. IsOfNoQuorum r.text) (no_answer (codes "FOLLOWER-TAKEN")) (no_answer (codes "FOLLOWERS-FULL")) (by_first (epoch_text (codes "AT") 0) (λ e. omega arith) (λ e. omega arith))

named_others : (session : SessionState) (o : Option NamedFollower) (hand : FollowerState → Reply) → ((f : FollowerState) → IsOfNoQuorum (hand f).text) → IsOfNoQuorum (reply_of session o hand).text
named_others session None hand each = no_answer (codes "FOLLOWER")
named_others session (Some f) hand each = each f.follower

deliver_others : (session : SessionState) (name : List ℕ) (f : FollowerState) (o : Option Entry) → IsOfNoQuorum (deliver_to session name f o).text
deliver_others session name f None = no_answer (no_epoch (commands_of session.log))
deliver_others session name f (Some entry) = handed_others (hand_entry f entry).answer

snapshot_others : (session : SessionState) (name : List ℕ) (f : FollowerState) (r : Result Image (List ℕ)) → IsOfNoQuorum (snapshot_to session name f r).text
snapshot_others session name f (Err reason) = no_answer reason
snapshot_others session name f (Ok image) = handed_others (hand_valid f image).answer

ask_others : (session : SessionState) (max : ℕ) (f : FollowerState) → IsOfNoQuorum (ask_of session max f).text
ask_others session max f = by (nat_le most_replies (length session.replies))
  where
    made : CatchUpReply
    made = catch_up_reply session.log f.image.epoch max

    by : (b : Bool) → IsOfNoQuorum (if b then only_answers session (no_text (codes "REPLIES-FULL")) else asked_reply session made).text
    by true = no_answer (codes "REPLIES-FULL")
    by false = by_first (asked_text (length session.replies + 1) made) (λ e. omega arith) (λ e. omega arith)

give_others : (session : SessionState) (name : List ℕ) (f : FollowerState) (o : Option CatchUpReply) → IsOfNoQuorum (give_to session name f o).text
give_others session name f None = no_answer (codes "REPLY " ++ decimal (length session.replies))
give_others session name f (Some given) = by_first (epoch_text (codes "AT") (given_reply f given).image.epoch) (λ e. omega arith) (λ e. omega arith)

-- a query from an image, or refused
placed_others : (r : Result Image (List ℕ)) (name : List ℕ) → IsOfNoQuorum (query_text r (query.Place name))
placed_others (Err reason) name = no_answer reason
placed_others (Ok image) name = place_others image (keyspace_of image name)

of_nodes_others : (r : Result Image (List ℕ)) → IsOfNoQuorum (query_text r query.Nodes)
of_nodes_others (Err reason) = no_answer reason
of_nodes_others (Ok image) = nodes_others image

-- a query of quorums that is refused
quorum_others : (r : Result Image (List ℕ)) (name : List ℕ) (t : ℤ) → shown_from r name None t ≡ None → IsOfNoQuorum (query_text r (query.Quorum name t))
quorum_others (Err reason) name t none = no_answer reason
quorum_others (Ok image) name t none = by (keyspace_of image name) none
  where
    by : (o : Option KeyspaceRow) → option_map (shown_as image name None t) (option_and_then (sets_in image t None) o) ≡ None → IsOfNoQuorum (quorums image t o)
    by None none = no_answer (codes "KEYSPACE")
    by (Some k) none = absurd (none-some _ (sym none))

local_others : (r : Result Image (List ℕ)) (name dc : List ℕ) (t : ℤ) → shown_from r name (Some dc) t ≡ None → IsOfNoQuorum (query_text r (query.Local name dc t))
local_others (Err reason) name dc t none = no_answer reason
local_others (Ok image) name dc t none = by (keyspace_of image name) none
  where
    within : (k : KeyspaceRow) (f : Option (List ℕ × ℕ)) → option_map (shown_as image name (Some dc) t) (option_map (λ f. local_sets_at image k.replication f t) f) ≡ None
        → IsOfNoQuorum (local_quorums_in image t k.replication f)
    within k None none = no_answer (codes "DC")
    within k (Some f) none = absurd (none-some _ (sym none))

    by : (o : Option KeyspaceRow) → option_map (shown_as image name (Some dc) t) (option_and_then (sets_in image t (Some dc)) o) ≡ None → IsOfNoQuorum (local_quorums image dc t o)
    by None none = no_answer (codes "KEYSPACE")
    by (Some k) none = within k (datacenter_of (datacenters_of k.replication) dc) none

others_said : (session : SessionState) (said : Option ScriptLine) → shown_by session said ≡ None → IsOfNoQuorum (reply_to session said).text
others_said session None none = no_answer (codes "BAD-LINE")
others_said session (Some (Commit id c)) none = commit_others (commit_of session.log id c).answer
others_said session (Some (Follower name)) none = follower_others session name
others_said session (Some (Deliver name e)) none =
    named_others session (follower_named session.followers name) (λ f. deliver_to session name f (entry_at session.log e)) (λ f. deliver_others session name f (entry_at session.log e))
others_said session (Some (Snapshot name e)) none =
    named_others session (follower_named session.followers name) (λ f. snapshot_to session name f (image_at (commands_of session.log) e)) (λ f. snapshot_others session name f (image_at (commands_of session.log) e))
others_said session (Some (Ask name max)) none = named_others session (follower_named session.followers name) (ask_of session max) (ask_others session max)
others_said session (Some (Give name number)) none =
    named_others session (follower_named session.followers name) (λ f. give_to session name f (reply_numbered session.replies number)) (λ f. give_others session name f (reply_numbered session.replies number))
others_said session (Some (Place target name)) none = placed_others (image_of session target) name
others_said session (Some (Nodes target)) none = of_nodes_others (image_of session target)
others_said session (Some (Quorum target name t)) none = quorum_others (image_of session target) name t none
others_said session (Some (Local target name dc t)) none = local_others (image_of session target) name dc t none

pub others : (session : SessionState) (bytes : List ℕ) → shown_by session (line_of bytes) ≡ None → IsOfNoQuorum (reply session bytes).text
unfolding reply
others session bytes none = others_said session (line_of bytes) none
