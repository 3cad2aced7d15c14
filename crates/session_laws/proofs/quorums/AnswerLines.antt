-- The lines of answers: those of an answer without quorums begin with neither of their words.
use Rattle.std.proofs.Common.{◌≡◌, ◌≢◌, ℕ, ◌+◌, ◌≤◌, ℤ, Bool, true, false, if◌then◌else◌, List, ◌++◌, flat_map, get_or, length, Option, Some, None, Result, Ok, Err, IfErr, option_map, option_and_then, nat_le, codes, decimal, refl, sym, subst, append_assoc, arith}
use Rattle.std.specs.List.{AllByRecursion}
use Rattle.std.specs.Option.{IfSome}
use Rattle.std.specs.Str.{bytes_eq}
use Rattle.std.proofs.lemmas.Option.{none-some}
use Rattle.cluster_terms.specs.Quorum.{datacenter_of, read_need, write_need}
use Rattle.cluster_terms.specs.Row.{last_token, rows_between}
use Rattle.cluster_terms.specs.declared.node.NodeRow.{NodeRow}
use Rattle.cluster_terms.specs.declared.row.TokenRange.{TokenRange}
use Rattle.transformations.proofs.lists.ListLemmas.{all_each, all_found, all_weaker}
use Rattle.transformations.specs.History.{commit_refusal, state_after}
use Rattle.transformations.specs.Log.{commands_of, commit_by, commit_of, decided, entry_with_id}
use Rattle.transformations.specs.Same.{same_command}
use Rattle.transformations.specs.Meeting.{datacenters_of, local_sets_at}
use Rattle.transformations.specs.Rings.{cuts, reads_at, writes_at}
use Rattle.transformations.specs.States.{node_tokens, state_of_row}
use Rattle.transformations.specs.Words.{movement_word, phase_word}
use Rattle.transformations.specs.declared.command.Command.{Command}
use Rattle.transformations.specs.declared.entry.Entry.{Entry}
use Rattle.transformations.specs.declared.image.Image.{Image}
use Rattle.transformations.specs.declared.keyspace.KeyspaceRow.{KeyspaceRow}
use Rattle.transformations.specs.declared.refusal.Refusal.{Refusal}
use Rattle.transformations.specs.declared.refusal.Refusal.TheVariants.{IdReused}
use Rattle.transformations.specs.declared.sequence.SeqRow.{SeqRow}
use Rattle.placement_maps.specs.Served.{keyspace_of}
use Rattle.script_lang.proofs.SaidLemmas.{IsFormed, IsSaid, said_by}
use Rattle.script_lang.specs.Grammar.{line_of}
use Rattle.script_lang.specs.AnswerTexts.{epoch_text, left_text, line, list_text, named_text, no_text, node_text, nodes_head, nodes_text, ok_text, pairs_text, place_head, place_text, placed_text, refusal_text, right_text, placed_row_text, sequence_text, sets_text, state_text, tokens_text}
use Rattle.script_lang.specs.declared.script_line.ScriptLine.{ScriptLine}
use Rattle.script_lang.specs.declared.script_line.ScriptLine.TheVariants.{Commit, Follower, Deliver, Snapshot, Ask, Give, Place, Nodes, Quorum, Local}
use Rattle.script_lang.specs.declared.script_line.Target.{Target}
use Rattle.script_lang.specs.declared.script_line.Target.TheVariants.{Epoch, Named}
use Rattle.catch_up.specs.Replies.{catch_up_reply, start_epoch}
use Rattle.catch_up.specs.declared.message.Reply.{Reply as CatchUpReply}
use Rattle.catch_up_laws.specs.Given.{given_reply}
use Rattle.epoch_log.specs.Epochs.{entry_at}
use Rattle.follower_log.specs.Follower.{FollowerState, hand_entry, hand_valid}
use Rattle.follower_log.specs.declared.fault.FollowerFault.{FollowerFault}
use Rattle.follower_log.specs.declared.took.Took.{Took}
use Rattle.follower_log.specs.declared.took.Took.TheVariants.{At, Old, Held, Full}
use Rattle.script_session.specs.Machine.{Reply, SessionState, ask_of, asked_reply, asked_text, commit_text, deliver_to, give_to, most_replies, only_answers, reply_numbered, start_word, follower_named, follower_reply, handed_text, image_at, image_named, image_of, local_quorums, local_quorums_in, no_epoch, placements, query_text, quorums, reply, reply_of, reply_to, snapshot_to}
use Rattle.script_session.specs.declared.session.followers.NamedFollower.{NamedFollower}
use Rattle.script_session.specs.declared.session.query.Query.TheVariants as query
use Rattle.session_laws.specs.Shown.{IsOfNoQuorum, Shown, sets_in, shown_by, shown_from, shown_text, word_of}
use Rattle.session_laws.proofs.texts.PlainImages.{IsPlainImage, IsPlainRow, commit_plain, plain_at}
use Rattle.session_laws.proofs.texts.PlainTexts.{HasPlainNames, decimal_all, first_digit, is_plain, plain_decimal, plain_joined, plain_kind, plain_left, plain_list, plain_pairs, plain_phase, plain_refusal, plain_right, plain_state, plain_tokens}
use Rattle.script_session.proofs.steps.SessionLemmas.{IsSession, image_of_target}
use Rattle.script_session.proofs.followers.TakenLemmas.{follower_cases}
use Rattle.session_laws.proofs.quorums.ShownAnswers.{by_first, shown_as}
use Rattle.session_laws.proofs.texts.WholeLines.{AreLines, AreLines-append, AreLines-flat_map, AreLines-line, AreLines-nil}

-- a line that begins with neither a Q nor an L
pub other_line : (text : List ℕ) → is_plain text ≡ true → get_or text 0 0 ≢ 81 → get_or text 0 0 ≢ 76 → AreLines IsOfNoQuorum (line text)
other_line text plain q l = AreLines-line IsOfNoQuorum text plain (by_first text q l)

no_lines : (reason : List ℕ) → is_plain reason ≡ true → AreLines IsOfNoQuorum (no_text reason)
no_lines reason plain = other_line (codes "NO " ++ reason) plain (λ e. omega arith) (λ e. omega arith)

ok_lines : (epoch : ℕ) → AreLines IsOfNoQuorum (ok_text epoch)
ok_lines epoch = other_line (codes "OK " ++ decimal epoch) (plain_decimal epoch) (λ e. omega arith) (λ e. omega arith)

-- ---- placements

placed_lines : (row : TokenRange) (reads writes : List ℕ) → AreLines IsOfNoQuorum (placed_text row reads writes)
unfolding placed_text
placed_lines row reads writes =
    let ends : is_plain (left_text row.left ++ codes "," ++ right_text row.right) ≡ true =
    plain_joined (left_text row.left) (codes ",") (right_text row.right) (plain_left row.left) refl (plain_right row.right) in
    let read : is_plain (left_text row.left ++ codes "," ++ right_text row.right ++ codes "] read " ++ list_text reads) ≡ true =
    plain_joined (left_text row.left ++ codes "," ++ right_text row.right) (codes "] read ") (list_text reads) ends refl (plain_list reads) in
    other_line (codes "(" ++ left_text row.left ++ codes "," ++ right_text row.right ++ codes "] read " ++ list_text reads ++ codes " write " ++ list_text writes)
    (plain_joined (left_text row.left ++ codes "," ++ right_text row.right ++ codes "] read " ++ list_text reads) (codes " write ") (list_text writes) read refl (plain_list writes))
    (λ e. omega arith) (λ e. omega arith)

head_lines : (epoch : ℕ) (name : List ℕ) (rows : ℕ) → is_plain name ≡ true → AreLines IsOfNoQuorum (place_head epoch name rows)
head_lines epoch name rows plain =
    other_line (codes "PLACE " ++ decimal epoch ++ codes " " ++ name ++ codes " " ++ decimal rows)
    (plain_joined (decimal epoch ++ codes " " ++ name) (codes " ") (decimal rows) (plain_joined (decimal epoch) (codes " ") name (plain_decimal epoch) refl plain) refl (plain_decimal rows))
    (λ e. omega arith) (λ e. omega arith)

pub place_lines : (image : Image) (k : KeyspaceRow) → is_plain k.name ≡ true → AreLines IsOfNoQuorum (place_text image k)
unfolding place_text
place_lines image k plain =
    let rows = rows_between (cuts image) in
    AreLines-append IsOfNoQuorum (place_head image.epoch k.name (length rows)) (flat_map (placed_row_text image k.replication) rows) (head_lines image.epoch k.name (length rows) plain)
    (AreLines-flat_map IsOfNoQuorum (placed_row_text image k.replication) rows
    (all_each (λ (row : TokenRange). AreLines IsOfNoQuorum (placed_row_text image k.replication row))
    (λ row. placed_lines row (reads_at image k.replication (last_token row.right)) (writes_at image k.replication (last_token row.right))) rows))

-- ---- nodes

named_plain : (row : NodeRow) → IsPlainRow row → is_plain (named_text row) ≡ true
named_plain row is =
    plain_joined (decimal row.id ++ codes " " ++ row.name ++ codes " " ++ row.dc) (codes " ") row.rack
    (plain_joined (decimal row.id ++ codes " " ++ row.name) (codes " ") row.dc (plain_joined (decimal row.id) (codes " ") row.name (plain_decimal row.id) refl is.name) refl is.dc) refl is.rack

node_lines : (image : Image) (row : NodeRow) → IsPlainRow row → AreLines IsOfNoQuorum (node_text image row)
unfolding node_text
node_lines image row is =
    let state = state_text (state_of_row image row) in
    let tokens = tokens_text (node_tokens image row.id) in
    let plain : is_plain (named_text row ++ codes " " ++ state) ≡ true = plain_joined (named_text row) (codes " ") state (named_plain row is) refl (plain_state (state_of_row image row)) in
    let small : get_or (named_text row ++ codes " " ++ state ++ codes " " ++ tokens) 0 0 ≤ 57 = simp append_assoc (first_digit (decimal row.id) _ (decimal_all row.id)) in
    other_line (named_text row ++ codes " " ++ state ++ codes " " ++ tokens)
    (plain_joined (named_text row ++ codes " " ++ state) (codes " ") tokens plain refl (plain_tokens (node_tokens image row.id)))
    (λ e. omega (arith, small, e)) (λ e. omega (arith, small, e))

sequence_lines : (s : SeqRow) → AreLines IsOfNoQuorum (sequence_text s)
unfolding sequence_text
sequence_lines s =
    let progress : is_plain (decimal s.node ++ codes " " ++ movement_word s.kind ++ codes " " ++ phase_word s.phase) ≡ true =
    plain_joined (decimal s.node ++ codes " " ++ movement_word s.kind) (codes " ") (phase_word s.phase)
    (plain_joined (decimal s.node) (codes " ") (movement_word s.kind) (plain_decimal s.node) refl (plain_kind s.kind)) refl (plain_phase s.phase) in
    let out : is_plain (decimal s.node ++ codes " " ++ movement_word s.kind ++ codes " " ++ phase_word s.phase ++ codes " out " ++ pairs_text s.out_pairs) ≡ true =
    plain_joined (decimal s.node ++ codes " " ++ movement_word s.kind ++ codes " " ++ phase_word s.phase) (codes " out ") (pairs_text s.out_pairs) progress refl (plain_pairs s.out_pairs) in
    other_line (codes "SEQ " ++ decimal s.node ++ codes " " ++ movement_word s.kind ++ codes " " ++ phase_word s.phase ++ codes " out " ++ pairs_text s.out_pairs ++ codes " in " ++ pairs_text s.in_pairs)
    (plain_joined (decimal s.node ++ codes " " ++ movement_word s.kind ++ codes " " ++ phase_word s.phase ++ codes " out " ++ pairs_text s.out_pairs) (codes " in ") (pairs_text s.in_pairs) out refl (plain_pairs s.in_pairs))
    (λ e. omega arith) (λ e. omega arith)

pub nodes_lines : (image : Image) → IsPlainImage image → AreLines IsOfNoQuorum (nodes_text image)
unfolding nodes_text
nodes_lines image is =
    let nodes = decimal (length image.nodes) in
    let head : AreLines IsOfNoQuorum (nodes_head image) =
    other_line (codes "NODES " ++ decimal image.epoch ++ codes " " ++ nodes ++ codes " " ++ decimal (length image.sequences))
    (plain_joined (decimal image.epoch ++ codes " " ++ nodes) (codes " ") (decimal (length image.sequences))
    (plain_joined (decimal image.epoch) (codes " ") nodes (plain_decimal image.epoch) refl (plain_decimal (length image.nodes))) refl (plain_decimal (length image.sequences)))
    (λ e. omega arith) (λ e. omega arith) in
    AreLines-append IsOfNoQuorum (nodes_head image ++ flat_map (node_text image) image.nodes) (flat_map sequence_text image.sequences)
    (AreLines-append IsOfNoQuorum (nodes_head image) (flat_map (node_text image) image.nodes) head
    (AreLines-flat_map IsOfNoQuorum (node_text image) image.nodes (all_weaker IsPlainRow (λ row. AreLines IsOfNoQuorum (node_text image row)) (node_lines image) image.nodes is.nodes)))
    (AreLines-flat_map IsOfNoQuorum sequence_text image.sequences (all_each (λ (s : SeqRow). AreLines IsOfNoQuorum (sequence_text s)) sequence_lines image.sequences))

-- ---- answers that show nothing

commit_lines : (answer : Result ℕ Refusal) → IfErr answer HasPlainNames → AreLines IsOfNoQuorum (commit_text answer)
commit_lines (Ok epoch) names = ok_lines epoch
commit_lines (Err r) names = no_lines (refusal_text r) (plain_refusal r names)

-- the names that a refused commit shows
committed_plain : (log : List Entry) (id : ℕ) (c : Command) → AllByRecursion IsFormed (commands_of log) → IsFormed c → IfErr (commit_of log id c).answer HasPlainNames
committed_plain log id c all formed = by (entry_with_id log id)
  where
    again : (e : Entry) (b : Bool) → IfErr (if b then Ok e.epoch else Err (IdReused e.epoch)) HasPlainNames
    again e true = tt
    again e false = tt

    decide : (o : Option Refusal) → IfSome o HasPlainNames → IfErr (decided log id c o).answer HasPlainNames
    decide (Some r) names = names
    decide None names = tt

    by : (o : Option Entry) → IfErr (commit_by log id c o).answer HasPlainNames
    by (Some e) = again e (same_command e.cmd c)
    by None = decide (commit_refusal (commands_of log) c) (commit_plain (commands_of log) c all formed)

-- the reason that there is no image
epoch_plain : (h : List Command) → is_plain (no_epoch h) ≡ true
epoch_plain h = plain_decimal (length h)

-- a line on a follower
told_lines : (word : List ℕ) (epoch : ℕ) → is_plain word ≡ true → get_or (word ++ codes " " ++ decimal epoch) 0 0 ≢ 81 → get_or (word ++ codes " " ++ decimal epoch) 0 0 ≢ 76 → AreLines IsOfNoQuorum (epoch_text word epoch)
told_lines word epoch plain q l = other_line (word ++ codes " " ++ decimal epoch) (plain_joined word (codes " ") (decimal epoch) plain refl (plain_decimal epoch)) q l

handed_lines : (answer : Result Took FollowerFault) → AreLines IsOfNoQuorum (handed_text answer)
handed_lines (Ok (At e)) = told_lines (codes "AT") e refl (λ e. omega arith) (λ e. omega arith)
handed_lines (Ok (Old e)) = told_lines (codes "OLD") e refl (λ e. omega arith) (λ e. omega arith)
handed_lines (Ok (Held e)) = told_lines (codes "HELD") e refl (λ e. omega arith) (λ e. omega arith)
handed_lines (Ok (Full e)) = told_lines (codes "FULL") e refl (λ e. omega arith) (λ e. omega arith)
handed_lines (Err fault) = AreLines-nil IsOfNoQuorum

follower_lines : (session : SessionState) (name : List ℕ) → AreLines IsOfNoQuorum (follower_reply session name).text
follower_lines session name =
    follower_cases session name (λ r. AreLines IsOfNoQuorum r.text) (no_lines (codes "FOLLOWER-TAKEN") refl) (no_lines (codes "FOLLOWERS-FULL") refl) (told_lines (codes "AT") 0 refl (λ e. omega arith) (λ e. omega arith))

named_lines : (session : SessionState) (o : Option NamedFollower) (hand : FollowerState → Reply) → ((f : FollowerState) → AreLines IsOfNoQuorum (hand f).text) → AreLines IsOfNoQuorum (reply_of session o hand).text
named_lines session None hand each = no_lines (codes "FOLLOWER") refl
named_lines session (Some f) hand each = each f.follower

deliver_lines : (session : SessionState) (name : List ℕ) (f : FollowerState) (o : Option Entry) → AreLines IsOfNoQuorum (deliver_to session name f o).text
deliver_lines session name f None = no_lines (no_epoch (commands_of session.log)) (epoch_plain (commands_of session.log))
deliver_lines session name f (Some entry) = handed_lines (hand_entry f entry).answer

snapshot_lines : (session : SessionState) (name : List ℕ) (f : FollowerState) (e : ℕ) → AreLines IsOfNoQuorum (snapshot_to session name f (image_at (commands_of session.log) e)).text
snapshot_lines session name f e = by (nat_le e (length (commands_of session.log)))
  where
    by : (b : Bool) → AreLines IsOfNoQuorum (snapshot_to session name f (if b then Ok (state_after (commands_of session.log) e) else Err (no_epoch (commands_of session.log)))).text
    by true = handed_lines (hand_valid f (state_after (commands_of session.log) e)).answer
    by false = no_lines (no_epoch (commands_of session.log)) (epoch_plain (commands_of session.log))

ask_lines : (session : SessionState) (max : ℕ) (f : FollowerState) → AreLines IsOfNoQuorum (ask_of session max f).text
ask_lines session max f = by (nat_le most_replies (length session.replies))
  where
    made : CatchUpReply
    made = catch_up_reply session.log f.image.epoch max

    word_plain : (o : Option Image) → is_plain (start_word o) ≡ true
    word_plain None = refl
    word_plain (Some image) = refl

    number : List ℕ
    number = decimal (length session.replies + 1)

    asked : AreLines IsOfNoQuorum (asked_text (length session.replies + 1) made)
    asked =
        let word : is_plain (number ++ codes " " ++ start_word made.image) ≡ true = plain_joined number (codes " ") (start_word made.image) (plain_decimal (length session.replies + 1)) refl (word_plain made.image) in
        let start : is_plain (number ++ codes " " ++ start_word made.image ++ codes " " ++ decimal (start_epoch made)) ≡ true =
        plain_joined (number ++ codes " " ++ start_word made.image) (codes " ") (decimal (start_epoch made)) word refl (plain_decimal (start_epoch made)) in
        other_line (codes "REPLY " ++ number ++ codes " " ++ start_word made.image ++ codes " " ++ decimal (start_epoch made) ++ codes " entries " ++ decimal (length made.entries))
        (plain_joined (number ++ codes " " ++ start_word made.image ++ codes " " ++ decimal (start_epoch made)) (codes " entries ") (decimal (length made.entries)) start refl (plain_decimal (length made.entries)))
        (λ e. omega arith) (λ e. omega arith)

    by : (b : Bool) → AreLines IsOfNoQuorum (if b then only_answers session (no_text (codes "REPLIES-FULL")) else asked_reply session made).text
    by true = no_lines (codes "REPLIES-FULL") refl
    by false = asked

give_lines : (session : SessionState) (name : List ℕ) (f : FollowerState) (o : Option CatchUpReply) → AreLines IsOfNoQuorum (give_to session name f o).text
give_lines session name f None = no_lines (codes "REPLY " ++ decimal (length session.replies)) (plain_decimal (length session.replies))
give_lines session name f (Some given) = told_lines (codes "AT") (given_reply f given).image.epoch refl (λ e. omega arith) (λ e. omega arith)

-- an image of a target has plain names, and a reason that there is none is plain
abbrev IsPlainTarget : Result Image (List ℕ) → Type 0
IsPlainTarget (Ok image) = IsPlainImage image
IsPlainTarget (Err reason) = is_plain reason ≡ true

target_plain : (session : SessionState) (target : Target) → IsSession session → IsPlainTarget (image_of session target)
target_plain session target is = by (image_of session target) refl
  where
    reason_plain : (target : Target) (reason : List ℕ) → image_of session target ≡ Err reason → is_plain reason ≡ true
    reason_plain (Epoch e) reason none = at (nat_le e (length (commands_of session.log))) none
      where
        at : (b : Bool) → (if b then Ok (state_after (commands_of session.log) e) else Err (no_epoch (commands_of session.log))) ≡ Err reason → is_plain reason ≡ true
        at true none = absurd (cc)
        at false none = (let same : no_epoch (commands_of session.log) ≡ reason = cc in subst (λ text. is_plain text ≡ true) same (epoch_plain (commands_of session.log)))
    reason_plain (Named name) reason none = of (follower_named session.followers name) none
      where
        of : (o : Option NamedFollower) → image_named o ≡ Err reason → is_plain reason ≡ true
        of None none = (let same : codes "FOLLOWER" ≡ reason = cc in subst (λ text. is_plain text ≡ true) same refl)
        of (Some f) none = absurd (cc)

    by : (r : Result Image (List ℕ)) → image_of session target ≡ r → IsPlainTarget r
    by (Ok image) there = subst IsPlainImage (sym (image_of_target session target image is there).state) (plain_at (commands_of session.log) image.epoch is.history.formed)
    by (Err reason) there = reason_plain target reason there

placements_lines : (image : Image) → IsPlainImage image → (name : List ℕ) → AreLines IsOfNoQuorum (placements image (keyspace_of image name))
placements_lines image is name = by (keyspace_of image name) refl
  where
    by : (o : Option KeyspaceRow) → keyspace_of image name ≡ o → AreLines IsOfNoQuorum (placements image o)
    by None e = no_lines (codes "KEYSPACE") refl
    by (Some k) e = place_lines image k (all_found (λ (k : KeyspaceRow). is_plain k.name ≡ true) (λ row. bytes_eq row.name name) image.keyspaces k e is.keyspaces)

-- a query from an image, or refused
placed_query : (r : Result Image (List ℕ)) (name : List ℕ) → IsPlainTarget r → AreLines IsOfNoQuorum (query_text r (query.Place name))
placed_query (Err reason) name plain = no_lines reason plain
placed_query (Ok image) name plain = placements_lines image plain name

nodes_query : (r : Result Image (List ℕ)) → IsPlainTarget r → AreLines IsOfNoQuorum (query_text r query.Nodes)
nodes_query (Err reason) plain = no_lines reason plain
nodes_query (Ok image) plain = nodes_lines image plain

-- a query of quorums that is refused
quorum_query : (r : Result Image (List ℕ)) (name : List ℕ) (t : ℤ) → IsPlainTarget r → shown_from r name None t ≡ None → AreLines IsOfNoQuorum (query_text r (query.Quorum name t))
quorum_query (Err reason) name t plain none = no_lines reason plain
quorum_query (Ok image) name t plain none = by (keyspace_of image name) none
  where
    by : (o : Option KeyspaceRow) → option_map (shown_as image name None t) (option_and_then (sets_in image t None) o) ≡ None → AreLines IsOfNoQuorum (quorums image t o)
    by None none = no_lines (codes "KEYSPACE") refl
    by (Some k) none = absurd (none-some _ (sym none))

local_query : (r : Result Image (List ℕ)) (name dc : List ℕ) (t : ℤ) → IsPlainTarget r → shown_from r name (Some dc) t ≡ None → AreLines IsOfNoQuorum (query_text r (query.Local name dc t))
local_query (Err reason) name dc t plain none = no_lines reason plain
local_query (Ok image) name dc t plain none = by (keyspace_of image name) none
  where
    within : (k : KeyspaceRow) (f : Option (List ℕ × ℕ)) → option_map (shown_as image name (Some dc) t) (option_map (λ f. local_sets_at image k.replication f t) f) ≡ None
        → AreLines IsOfNoQuorum (local_quorums_in image t k.replication f)
    within k None none = no_lines (codes "DC") refl
    within k (Some f) none = absurd (none-some _ (sym none))

    by : (o : Option KeyspaceRow) → option_map (shown_as image name (Some dc) t) (option_and_then (sets_in image t (Some dc)) o) ≡ None → AreLines IsOfNoQuorum (local_quorums image dc t o)
    by None none = no_lines (codes "KEYSPACE") refl
    by (Some k) none = within k (datacenter_of (datacenters_of k.replication) dc) none

other_said : (session : SessionState) → IsSession session → (said : Option ScriptLine) → IfSome said IsSaid → shown_by session said ≡ None → AreLines IsOfNoQuorum (reply_to session said).text
other_said session is None formed none = no_lines (codes "BAD-LINE") refl
other_said session is (Some (Commit id c)) formed none = commit_lines (commit_of session.log id c).answer (committed_plain session.log id c is.history.formed formed.1)
other_said session is (Some (Follower name)) formed none = follower_lines session name
other_said session is (Some (Deliver name e)) formed none =
    named_lines session (follower_named session.followers name) (λ f. deliver_to session name f (entry_at session.log e)) (λ f. deliver_lines session name f (entry_at session.log e))
other_said session is (Some (Snapshot name e)) formed none =
    named_lines session (follower_named session.followers name) (λ f. snapshot_to session name f (image_at (commands_of session.log) e)) (λ f. snapshot_lines session name f e)
other_said session is (Some (Ask name max)) formed none = named_lines session (follower_named session.followers name) (ask_of session max) (ask_lines session max)
other_said session is (Some (Give name number)) formed none =
    named_lines session (follower_named session.followers name) (λ f. give_to session name f (reply_numbered session.replies number)) (λ f. give_lines session name f (reply_numbered session.replies number))
other_said session is (Some (Place target name)) formed none = placed_query (image_of session target) name (target_plain session target is)
other_said session is (Some (Nodes target)) formed none = nodes_query (image_of session target) (target_plain session target is)
other_said session is (Some (Quorum target name t)) formed none = quorum_query (image_of session target) name t (target_plain session target is) none
other_said session is (Some (Local target name dc t)) formed none = local_query (image_of session target) name dc t (target_plain session target is) none

pub other_lines : (session : SessionState) (bytes : List ℕ) → IsSession session → shown_by session (line_of bytes) ≡ None → AreLines IsOfNoQuorum (reply session bytes).text
unfolding reply
other_lines session bytes is none = other_said session is (line_of bytes) (said_by bytes) none

-- ---- answers that show quorums

sets_lines : (word : List ℕ) (epoch : ℕ) (reads writes : ℕ × List ℕ) → is_plain word ≡ true → AreLines (λ l. line l ≡ sets_text word epoch reads writes) (sets_text word epoch reads writes)
unfolding sets_text
sets_lines word epoch reads writes plain =
    let begun = word ++ codes " " ++ decimal epoch ++ codes " read " ++ decimal reads.0 in
    let first : is_plain (word ++ codes " " ++ decimal epoch) ≡ true = plain_joined word (codes " ") (decimal epoch) plain refl (plain_decimal epoch) in
    let second : is_plain begun ≡ true = plain_joined (word ++ codes " " ++ decimal epoch) (codes " read ") (decimal reads.0) first refl (plain_decimal reads.0) in
    let third : is_plain (begun ++ codes " of " ++ list_text reads.1) ≡ true = plain_joined begun (codes " of ") (list_text reads.1) second refl (plain_list reads.1) in
    let fourth : is_plain (begun ++ codes " of " ++ list_text reads.1 ++ codes " write " ++ decimal writes.0) ≡ true =
    plain_joined (begun ++ codes " of " ++ list_text reads.1) (codes " write ") (decimal writes.0) third refl (plain_decimal writes.0) in
    AreLines-line (λ l. line l ≡ sets_text word epoch reads writes) (begun ++ codes " of " ++ list_text reads.1 ++ codes " write " ++ decimal writes.0 ++ codes " of " ++ list_text writes.1)
    (plain_joined (begun ++ codes " of " ++ list_text reads.1 ++ codes " write " ++ decimal writes.0) (codes " of ") (list_text writes.1) fourth refl (plain_list writes.1)) refl

word_plain : (dc : Option (List ℕ)) → is_plain (word_of dc) ≡ true
word_plain None = refl
word_plain (Some dc) = refl

pub shown_lines : (s : Shown) → AreLines (λ l. line l ≡ shown_text s) (shown_text s)
shown_lines s = sets_lines (word_of s.datacenter) s.epoch (read_need s.sets, s.sets.reads) (write_need s.sets, s.sets.writes) (word_plain s.datacenter)
