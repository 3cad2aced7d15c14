-- The sessions of all processes are over fronts of one log.
use Rattle.std.proofs.Common.{◌≡◌, ℕ, ◌≤◌, inl, inr, List, length, take, Some, IsTrue, sym, ap, ◌∙◌, subst, arith}
use Rattle.std.proofs.lemmas.List.{map-append, take-append-le}
use Rattle.std.specs.List.{Contains}
use Rattle.cluster_terms.specs.Name.{is_name}
use Rattle.transformations.proofs.histories.LogLemmas.{length-commands_of}
use Rattle.transformations.proofs.lists.ContainsLemmas.{holds_of}
use Rattle.transformations.specs.History.{empty_image, image_after, state_after}
use Rattle.transformations.specs.Log.{commands_of}
use Rattle.transformations.specs.declared.entry.Entry.{Entry}
use Rattle.script_lang.proofs.SaidLemmas.{said_by}
use Rattle.script_lang.specs.Grammar.{line_of}
use Rattle.script_session.proofs.steps.SessionLemmas.{GoesOnAs, IsSession}
use Rattle.script_session.specs.Machine.{SessionState}
use Rattle.script_session.specs.StepEnds.{FollowsLog}
use Rattle.script_session.specs.declared.session.followers.NamedFollower.{NamedFollower}
use Rattle.session_laws.proofs.quorums.ShownAnswers.{IsShownIn, is_shown}
use Rattle.session_laws.proofs.quorums.ShownLemmas.{asked, meet_shown, shown_later}
use Rattle.session_laws.specs.Shown.{Shown, shown_by}
use Rattle.shared_log_laws.specs.SharedLog.{FollowersAgree, HasLog, IsIn, SharedQuorumsMeet}
use Rattle.shared_log_laws.specs.System.{Event, System, system_of}
use Rattle.shared_log_laws.proofs.Answered.{log_front}
use Rattle.shared_log_laws.proofs.Fronts.{Front}
use Rattle.shared_log_laws.proofs.KnownLogs.{session_lines}
use Rattle.shared_log_laws.proofs.Systems.{IsAnswer, IsSystem, system_well}

-- a session over a front of a log
record IsOver (log : List Entry) (session : SessionState) : Type 0 where
  is : IsSession session
  front : Front session.log log

over_in : (cluster : List ℕ) (s : System) (log : List Entry) (session : SessionState) → IsSystem cluster s → HasLog cluster s.store log → IsIn s session → IsOver log session
over_in cluster s log session is has (inl (number, same)) =
    let p = is.processes number in
    subst (IsOver log) same (record { is = p.knows.is; front = log_front cluster (s.processes number).told s.store (s.processes number).sharing.session.log log p.front p.knows.log has })
over_in cluster s log session is has (inr (a, (among, same))) =
    let one = holds_of (IsAnswer cluster s.store) s.answers a is.answers among in
    subst (IsOver log) same (record { is = one.is; front = log_front cluster a.process.told s.store a.session.log log one.front one.log has })

goes_on_as : (log end : List Entry) → Front log end → GoesOnAs (commands_of log) (commands_of end)
goes_on_as log end front = record { more = commands_of front.more; is = ap commands_of front.is ∙ map-append (λ (e : Entry). e.cmd) log front.more }

-- ---- quorums

shown_over : (log : List Entry) (session : SessionState) (bytes : List ℕ) (p : Shown) → IsOver log session → shown_by session (line_of bytes) ≡ Some p → IsShownIn (commands_of log) p
shown_over log session bytes p over shows =
    shown_later (commands_of session.log) (commands_of log) p (goes_on_as session.log log over.front) (is_shown session (line_of bytes) over.is (said_by bytes) p shows)

pub quorums_meet : (cluster : List ℕ) (events : List Event) (log : List Entry) → IsTrue (is_name cluster) → HasLog cluster (system_of cluster events).store log → SharedQuorumsMeet (system_of cluster events) (commands_of log)
quorums_meet cluster events log named has one other bytes bytes' p q in_one in_other shows shows' alike near =
    let s : System = system_of cluster events in
    let is = system_well cluster named events in
    let history = (session_lines cluster s.store log is.store.plain has).history in
    let first = shown_over log one bytes p (over_in cluster s log one is has in_one) shows in
    let second = shown_over log other bytes' q (over_in cluster s log other is has in_other) shows' in
    meet_shown (commands_of log) p q history (asked (commands_of log) p q first second alike) near

-- ---- followers

-- a follower shows the log's state at its epoch
follower_over : (log : List Entry) (session : SessionState) (f : NamedFollower) → IsOver log session → Contains session.followers f → f.follower.image ≡ state_after (commands_of log) f.follower.image.epoch
follower_over log session f over among =
    let follows = holds_of (λ (g : NamedFollower). FollowsLog session.log g.follower) session.followers f over.is.follow among in
    let on = goes_on_as session.log log over.front in
    let epoch : ℕ = f.follower.image.epoch in
    let within : epoch ≤ length (commands_of session.log) = omega (arith, follows.stands.within, length-commands_of session.log) in
    follows.stands.image ∙ sym (ap (image_after empty_image) (ap (take epoch) on.is ∙ take-append-le epoch (commands_of session.log) on.more within))

pub followers_agree : (cluster : List ℕ) (events : List Event) → IsTrue (is_name cluster) → FollowersAgree (system_of cluster events)
followers_agree cluster events named one other f g in_one in_other among among' same =
    let s : System = system_of cluster events in
    let is = system_well cluster named events in
    let log : List Entry = is.store.log in
    let first = follower_over log one f (over_in cluster s log one is is.store.has in_one) among in
    let second = follower_over log other g (over_in cluster s log other is is.store.has in_other) among' in
    first ∙ ap (state_after (commands_of log)) same ∙ sym second
