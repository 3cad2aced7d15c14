-- Each line of a session is answered by at least one byte.
use Rattle.std.proofs.Common.{◌≡◌, ◌≢◌, ℕ, ℤ, Bool, true, false, if◌then◌else◌, List, [], ◌∷◌, length, Option, Some, None, Result, Ok, Err, IsOk, nat_le, codes, true≢false, refl, sym, ap, ◌∙◌}
use Rattle.cluster_terms.specs.Quorum.{datacenter_of}
use Rattle.cluster_terms.specs.declared.replication.Replication.{Replication}
use Rattle.transformations.specs.Log.{commands_of, commit_of}
use Rattle.transformations.specs.Meeting.{datacenters_of}
use Rattle.transformations.specs.declared.entry.Entry.{Entry}
use Rattle.transformations.specs.declared.image.Image.{Image}
use Rattle.transformations.specs.declared.keyspace.KeyspaceRow.{KeyspaceRow}
use Rattle.transformations.specs.declared.refusal.Refusal.{Refusal}
use Rattle.placement_maps.specs.Served.{keyspace_of}
use Rattle.catch_up.specs.Replies.{catch_up_reply}
use Rattle.catch_up.specs.declared.message.Reply.{Reply as CatchUpReply}
use Rattle.epoch_log.specs.Epochs.{entry_at}
use Rattle.follower_log.specs.Follower.{FollowerState, hand_entry, hand_valid}
use Rattle.follower_log.specs.declared.fault.FollowerFault.{FollowerFault}
use Rattle.follower_log.specs.declared.took.Took.{Took}
use Rattle.follower_log.specs.declared.took.Took.TheVariants.{At, Old, Held, Full}
use Rattle.script_lang.specs.AnswerTexts.{no_text, nodes_text, place_text, sets_text}
use Rattle.script_lang.specs.Grammar.{line_of}
use Rattle.script_lang.specs.declared.script_line.ScriptLine.{ScriptLine}
use Rattle.script_lang.specs.declared.script_line.ScriptLine.TheVariants.{Commit, Follower, Deliver, Snapshot, Ask, Give, Place, Nodes, Quorum, Local}
use Rattle.script_session.specs.Machine.{Reply, SessionState, answer_from, ask_of, asked_reply, commit_text, deliver_to, follower_named, give_to, handed_text, image_at, image_of, local_quorums, local_quorums_in, most_replies, only_answers, placements, query_text, quorums, reply, reply_numbered, reply_of, reply_to, snapshot_to}
use Rattle.script_session.specs.StepEnds.{FollowsLog}
use Rattle.script_session.specs.declared.session.followers.NamedFollower.{NamedFollower}
use Rattle.script_session.specs.declared.session.query.Query.{Query}
use Rattle.script_session.specs.declared.session.query.Query.TheVariants as query
use Rattle.script_session.proofs.followers.FollowerLemmas.{named_follows}
use Rattle.script_session.proofs.followers.TakenLemmas.{entry_ok, entry_there, follower_cases, image_ok, image_there}
use Rattle.script_session.proofs.steps.SessionLemmas.{IsSession}

-- whether a text has a byte
abbrev has_byte : List ℕ → Bool
has_byte [] = false
has_byte (c ∷ text) = true

abbrev HasByte : List ℕ → Type 0
HasByte text = has_byte text ≡ true

-- ---- texts

committed : (answer : Result ℕ Refusal) → HasByte (commit_text answer)
committed (Ok epoch) = refl
committed (Err refusal) = refl

handed : (answer : Result Took FollowerFault) → IsOk answer → HasByte (handed_text answer)
handed (Ok (At epoch)) ok = refl
handed (Ok (Old epoch)) ok = refl
handed (Ok (Held epoch)) ok = refl
handed (Ok (Full epoch)) ok = refl
handed (Err fault) ok = absurd (true≢false (sym ok))

placed : (image : Image) (o : Option KeyspaceRow) → HasByte (placements image o)
unfolding place_text
placed image None = refl
placed image (Some keyspace) = refl

shown_nodes : (image : Image) → HasByte (nodes_text image)
unfolding nodes_text
shown_nodes image = refl

quorums_shown : (image : Image) (t : ℤ) (o : Option KeyspaceRow) → HasByte (quorums image t o)
unfolding sets_text
quorums_shown image t None = refl
quorums_shown image t (Some keyspace) = refl

local_shown_in : (image : Image) (t : ℤ) (replication : Replication) (o : Option (List ℕ × ℕ)) → HasByte (local_quorums_in image t replication o)
unfolding sets_text
local_shown_in image t replication None = refl
local_shown_in image t replication (Some f) = refl

local_shown : (image : Image) (dc : List ℕ) (t : ℤ) (o : Option KeyspaceRow) → HasByte (local_quorums image dc t o)
local_shown image dc t None = refl
local_shown image dc t (Some keyspace) = local_shown_in image t keyspace.replication (datacenter_of (datacenters_of keyspace.replication) dc)

answered_from : (asked : Query) (image : Image) → HasByte (answer_from asked image)
answered_from (query.Place name) image = placed image (keyspace_of image name)
answered_from query.Nodes image = shown_nodes image
answered_from (query.Quorum name t) image = quorums_shown image t (keyspace_of image name)
answered_from (query.Local name dc t) image = local_shown image dc t (keyspace_of image name)

queried : (r : Result Image (List ℕ)) (asked : Query) → HasByte (query_text r asked)
queried (Ok image) asked = answered_from asked image
queried (Err reason) asked = refl

-- ---- lines on a follower: it takes entries and images of the log, which lead to no fault

module _ (session : SessionState) (is : IsSession session) where
  on_named : (name : List ℕ) (hand : FollowerState → Reply) → ((f : FollowerState) → FollowsLog session.log f → HasByte (hand f).text) → HasByte (reply_of session (follower_named session.followers name) hand).text
  on_named name hand each = by (follower_named session.followers name) refl
    where
      by : (o : Option NamedFollower) → follower_named session.followers name ≡ o → HasByte (reply_of session o hand).text
      by None found = refl
      by (Some f) found = each f.follower (named_follows session.log session.followers name f is.follow found)

  on_deliver : (name : List ℕ) (epoch : ℕ) (f : FollowerState) → FollowsLog session.log f → HasByte (deliver_to session name f (entry_at session.log epoch)).text
  on_deliver name epoch f follows = by (entry_at session.log epoch) refl
    where
      by : (o : Option Entry) → entry_at session.log epoch ≡ o → HasByte (deliver_to session name f o).text
      by None at = refl
      by (Some entry) at = handed (hand_entry f entry).answer (entry_ok session.log follows.taken f entry is.is_log (entry_there session.log epoch entry at) follows.stands)

  on_snapshot : (name : List ℕ) (epoch : ℕ) (f : FollowerState) → FollowsLog session.log f → HasByte (snapshot_to session name f (image_at (commands_of session.log) epoch)).text
  on_snapshot name epoch f follows = by (image_at (commands_of session.log) epoch) refl
    where
      by : (r : Result Image (List ℕ)) → image_at (commands_of session.log) epoch ≡ r → HasByte (snapshot_to session name f r).text
      by (Err reason) at = refl
      by (Ok image) at = handed (hand_valid f image).answer (image_ok session.log follows.taken f image is.is_log (image_there session.log epoch image at) follows.stands)

  on_ask : (max : ℕ) (f : FollowerState) → HasByte (ask_of session max f).text
  on_ask max f = by (nat_le most_replies (length session.replies))
    where
      by : (b : Bool) → HasByte (if b then only_answers session (no_text (codes "REPLIES-FULL")) else asked_reply session (catch_up_reply session.log f.image.epoch max)).text
      by true = refl
      by false = refl

  on_give : (name : List ℕ) (f : FollowerState) (o : Option CatchUpReply) → HasByte (give_to session name f o).text
  on_give name f None = refl
  on_give name f (Some given) = refl

  -- ---- lines

  on_said : (said : Option ScriptLine) → HasByte (reply_to session said).text
  on_said None = refl
  on_said (Some (Commit id c)) = committed (commit_of session.log id c).answer
  on_said (Some (Follower name)) = follower_cases session name (λ r. HasByte r.text) refl refl refl
  on_said (Some (Deliver name epoch)) = on_named name (λ f. deliver_to session name f (entry_at session.log epoch)) (on_deliver name epoch)
  on_said (Some (Snapshot name epoch)) = on_named name (λ f. snapshot_to session name f (image_at (commands_of session.log) epoch)) (on_snapshot name epoch)
  on_said (Some (Ask name max)) = on_named name (ask_of session max) (λ f follows. on_ask max f)
  on_said (Some (Give name number)) = on_named name (λ f. give_to session name f (reply_numbered session.replies number)) (λ f follows. on_give name f (reply_numbered session.replies number))
  on_said (Some (Place target name)) = queried (image_of session target) (query.Place name)
  on_said (Some (Nodes target)) = queried (image_of session target) query.Nodes
  on_said (Some (Quorum target name t)) = queried (image_of session target) (query.Quorum name t)
  on_said (Some (Local target name dc t)) = queried (image_of session target) (query.Local name dc t)

pub line_answered : (session : SessionState) (bytes : List ℕ) → IsSession session → (reply session bytes).text ≢ []
unfolding reply
line_answered session bytes is none = true≢false (sym (on_said session is (line_of bytes)) ∙ ap has_byte none)
