-- The lines that a run prints, and the quorums in them.
use Rattle.std.proofs.Common.{◌≡◌, ◌≢◌, ℕ, Bool, true, false, List, [], ◌++◌, Option, Some, None, Result, Ok, Err, length, nat_le, codes, decimal, refl, subst, drop, arith, cond}
use Rattle.std.proofs.KnownBytes.{starts_with_rest}
use Rattle.tcm_edges.specs.Files.{Files, file_of, loaded_of}
use Rattle.tcm_edges.specs.declared.store.Loaded.{Loaded}
use Rattle.tcm_edges.specs.declared.store.Loaded.TheVariants as loaded
use Rattle.transformations.specs.declared.entry.Entry.{Entry}
use Rattle.tcm_session.specs.declared.ending.Ending.{Ending}
use Rattle.script_session.specs.LogFiles.{base_of, log_for, old_log_of, refused_line_text}
use Rattle.script_session.specs.Machine.{answers, session_over}
use Rattle.tcm_session.specs.Commit.{Start, large_outcome, outcome_from, outcome_loaded, script_outcome, whole_outcome}
use Rattle.tcm_session.specs.Gen.{gen_ending}
use Rattle.tcm_session.specs.Mend.{mended_end, mending, mending_from, mending_loaded, mending_to, with_made}
use Rattle.tcm_session.specs.Outcome.{Outcome, ended_outcome, input_limit, printed_by, too_large_text, unread_outcome}
use Rattle.tcm_session.specs.Outcomes.{outcome}
use Rattle.tcm_session.specs.Usage.{usage_end, usage_text}
use Rattle.tcm_session.specs.Request.{Cms, Commit, CommitTo, Gen, Mend, Plan, Replay, Request, Snapshot}
use Rattle.std.specs.Io.{StartsWith}
use Rattle.script_session.specs.Taken.{FollowersShow}
use Rattle.session_laws.specs.CatchUp.{RepliesSkipNothing}
use Rattle.session_laws.specs.Shown.{IsOfNoQuorum, PrintsMeeting, shown}
use Rattle.script_session.specs.declared.refused_line.RefusedLine.{RefusedLine}
use Rattle.session_laws.proofs.quorums.AnswerLines.{other_line}
use Rattle.session_laws.proofs.FileLogs.{old_refused_lines, refused_lines, session_for}
use Rattle.script_session.proofs.steps.SessionLemmas.{IsSession, session_empty}
use Rattle.tcm_session.specs.files.MemberRoute.{IsSafeRoute, route_ending}
use Rattle.tcm_session.specs.files.Replay.{replay_ending}
use Rattle.tcm_session.specs.files.StateLine.{snapshot_ending}
use Rattle.tcm_session.specs.files.StreamPlan.{plan_ending}
use Rattle.tcm_session.proofs.printed.GeneratedTexts.{summary_lines}
use Rattle.session_laws.proofs.texts.PlainTexts.{plain_decimal, plain_name}
use Rattle.cluster_terms.specs.Name.{is_name}
use Rattle.std.specs.FinMap as map
use Rattle.tcm_session.proofs.members.ListedNodes.{listed_route}
use Rattle.tcm_session.proofs.log_files.LookedRuns.{snapshot_lines}
use Rattle.tcm_session.proofs.members.RouteTexts.{route_lines}
use Rattle.tcm_session.proofs.printed.PlanTexts.{plan_lines}
use Rattle.tcm_session.proofs.printed.RequestForms.{HasForms}
use Rattle.tcm_session.proofs.printed.PlainReplays.{replay_lines, too_large_lines}
use Rattle.session_laws.proofs.quorums.ShownLemmas.{shown_meet}
use Rattle.session_laws.proofs.AskedReplies.{replies_skip_nothing}
use Rattle.session_laws.proofs.TakenLines.{followers_show}
use Rattle.session_laws.proofs.texts.WholeLines.{AreLines, AreLines-append, AreLines-front, AreLines-nil, AreLines-weaker}
use Rattle.session_laws.proofs.quorums.AnswersShown.{lines_of, IsTold}

-- ---- what is printed after the answers shows none

-- the text after the answers, unless the name of an absent file is printed, and the log from which lines are answered
record IsPlainOutcome (o : Outcome) : Type 0 where
  last : o.status ≢ 7 → AreLines IsOfNoQuorum o.last
  is : IsSession (session_over o.log)

of_script : (start : Start) (input : List ℕ) → IsSession (session_over start.log) → IsPlainOutcome (script_outcome start input)
unfolding script_outcome
of_script start input is = by (nat_le (length input) input_limit)
  where
    by : (b : Bool) → IsPlainOutcome (cond b (whole_outcome start input) (large_outcome start input))
    by true = record { last = λ _. AreLines-nil IsOfNoQuorum; is = is }
    by false = record { last = λ _. too_large_lines; is = is }

of_unread : (status : ℕ) (last : List ℕ) (all : Files) → (status ≢ 7 → AreLines IsOfNoQuorum last) → IsPlainOutcome (unread_outcome status last all)
of_unread status last all lines = record { last = lines; is = session_empty }

module _ (name cluster : List ℕ) (named : is_name cluster ≡ true) (all : Files) where
  of_file : (file : List ℕ) (r : Result (List Entry) RefusedLine) → log_for (Some cluster) file ≡ r → (input : List ℕ) → IsPlainOutcome (outcome_from name cluster all file r input)
  of_file file (Ok log) is input = of_script (record { log = log; file = Some name; files = map.insert all name (base_of cluster file) }) input (session_for (Some cluster) file log is)
  of_file file (Err refused) is input = of_unread 3 (refused_line_text refused) all (λ _. refused_lines (Some cluster) file refused (plain_name cluster named) is)

  of_loaded : (it : Loaded) (input : List ℕ) → IsPlainOutcome (outcome_loaded name cluster all it input)
  of_loaded loaded.Absent input = of_file [] (log_for (Some cluster) []) refl input
  of_loaded (loaded.TooLarge size) input = of_unread 8 too_large_text all (λ _. too_large_lines)
  of_loaded (loaded.Bytes file) input = of_file file (log_for (Some cluster) file) refl input

usage_lines : AreLines IsOfNoQuorum usage_end.text
usage_lines = other_line usage_text refl (λ e. omega arith) (λ e. omega arith)

mended_lines : (n : ℕ) → AreLines IsOfNoQuorum (mended_end n).text
mended_lines n = other_line (codes "MENDED " ++ decimal n) (plain_decimal n) (λ e. omega arith) (λ e. omega arith)

to_lines : (new cluster : List ℕ) (log : List Entry) (found : Option (List ℕ)) → (mending_to new cluster log found).ending.status ≢ 7 → AreLines IsOfNoQuorum (mending_to new cluster log found).ending.text
to_lines new cluster log None other = mended_lines (length log)
to_lines new cluster log (Some file) other = absurd (other refl)

from_lines : (new cluster file : List ℕ) (r : Result (List Entry) RefusedLine) → old_log_of file ≡ r → (found : Option (List ℕ)) → (mending_from new cluster r found).ending.status ≢ 7 → AreLines IsOfNoQuorum (mending_from new cluster r found).ending.text
from_lines new cluster file (Ok log) is found other = to_lines new cluster log found other
from_lines new cluster file (Err refused) is found other = old_refused_lines file refused is

-- the text of a log file that is made, unless the name of a file is printed
mend_lines : (old new cluster : List ℕ) (seen : ℕ → Files) → (mending old new cluster seen).ending.status ≢ 7 → AreLines IsOfNoQuorum (mending old new cluster seen).ending.text
mend_lines old new cluster seen = by (loaded_of (file_of (seen 0) old) input_limit)
  where
    found : Option (List ℕ)
    found = file_of (seen 1) new

    by : (it : Loaded) → (mending_loaded old new cluster it found).ending.status ≢ 7 → AreLines IsOfNoQuorum (mending_loaded old new cluster it found).ending.text
    by loaded.Absent other = absurd (other refl)
    by (loaded.TooLarge size) other = too_large_lines
    by (loaded.Bytes file) other = from_lines new cluster file (old_log_of file) refl found other

of_ended : (ending : Ending) (all : Files) → (ending.status ≢ 7 → AreLines IsOfNoQuorum ending.text) → IsPlainOutcome (ended_outcome ending all)
of_ended ending all lines = of_unread ending.status ending.text all lines

plain_outcome : (request : Option Request) → HasForms request → (seen : ℕ → Files) (input : List ℕ) → IsPlainOutcome (outcome request seen input)
unfolding outcome
plain_outcome (Some Commit) named seen input = of_script (record { log = []; file = None; files = seen 0 }) input session_empty
plain_outcome (Some (CommitTo log cluster)) named seen input = of_loaded log cluster named (seen 0) (loaded_of (file_of (seen 0) log) input_limit) input
plain_outcome (Some (Replay files)) named seen input = of_ended (replay_ending files seen) (seen 0) (replay_lines files seen)
plain_outcome (Some (Snapshot log epoch)) named seen input = of_ended (snapshot_ending log epoch seen) (seen 0) (snapshot_lines log epoch seen)
plain_outcome (Some (Gen start rounds)) named seen input = of_ended (gen_ending start rounds) (seen 0) (λ _. summary_lines start rounds)
plain_outcome (Some (Mend old new cluster)) named seen input =
    let made = mending old new cluster seen in of_ended made.ending (with_made new made.made (seen 0)) (mend_lines old new cluster seen)
plain_outcome (Some (Plan log node keyspace)) named seen input = of_ended (plan_ending log node keyspace seen) (seen 0) (plan_lines log node keyspace named seen)
plain_outcome (Some (Cms log from to)) named seen input = of_ended (route_ending log from to seen) (seen 0) (route_lines log from to seen)
plain_outcome None named seen input = of_ended usage_end (seen 0) (λ _. usage_lines)

printed_lines : (o : Outcome) → o.status ≢ 7 → IsPlainOutcome o → AreLines (IsTold (shown (session_over o.log) o.lines)) (printed_by o)
printed_lines o other plain =
    let session = session_over o.log in
    AreLines-append (IsTold (shown session o.lines)) (answers session o.lines) o.last (lines_of session plain.is o.lines)
    (AreLines-weaker IsOfNoQuorum (IsTold (shown session o.lines)) (λ l none begins. absurd (none begins)) o.last (plain.last other))

-- ---- the outcome of a request

module _ (request : Option Request) (named : HasForms request) (seen : ℕ → Files) (input : List ℕ) where
  abbrev o : Outcome
  o = outcome request seen input

  -- the quorums in what is printed of it meet, unless the name of a file may be printed
  pub printed_meet : (printed : List ℕ) → o.status ≢ 7 → StartsWith (printed_by o) printed → PrintsMeeting o.log o.lines printed
  printed_meet printed other front =
      let plain = plain_outcome request named seen input in
      record {
        texts = AreLines-front (IsTold (shown (session_over o.log) o.lines)) (printed_by o) printed (drop (length printed) (printed_by o))
            (starts_with_rest (printed_by o) printed front) (printed_lines o other plain);
        meet = shown_meet (session_over o.log) plain.is o.lines;
      }

  pub outcome_followers : FollowersShow o.log o.lines
  outcome_followers = followers_show o.log o.lines (plain_outcome request named seen input).is

  pub outcome_replies : RepliesSkipNothing o.log o.lines
  outcome_replies = replies_skip_nothing o.log o.lines (plain_outcome request named seen input).is

-- the route of a request for one
pub safe_route : (request : Option Request) → HasForms request → (log from to : List ℕ) → request ≡ Some (Cms log from to) → IsSafeRoute from to
safe_route request named log from to is =
    let are : HasForms (Some (Cms log from to)) = subst HasForms is named in listed_route from to are.0 are.1
