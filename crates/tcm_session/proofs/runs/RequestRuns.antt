-- Runs, by what they are asked for.
use Rattle.std.proofs.Common.{◌≡◌, ℕ, inl, inr, ◌⊎◌, List, Option, Some, None, refl, sym, ap, ◌∙◌, subst}
use Rattle.std.specs.Io.KnownBytes.{Appends}
use Rattle.tcm_edges.specs.Files.{Files}
use Rattle.tcm_session.specs.declared.ending.Ending.{Ending}
use Rattle.tcm_session.specs.Commit.{commit_outcome, commit_to_outcome}
use Rattle.tcm_session.specs.Gen.{gen_ending}
use Rattle.tcm_session.specs.Left.{LeavesFiles}
use Rattle.tcm_session.specs.Mend.{Mending, made_outcome, mending}
use Rattle.tcm_session.specs.Outcome.{Outcome, ended_outcome, printed_by}
use Rattle.tcm_session.specs.Outcomes.{outcome}
use Rattle.tcm_session.specs.Request.{Cms, Commit, CommitTo, Gen, Mend, Plan, Replay, Request, Snapshot}
use Rattle.tcm_session.specs.Run.{ComesSurely, ComesTo, IsFinal, IsRun, Looks, MakesFile, PrintsEnd, RunsScript, Told, told}
use Rattle.tcm_session.specs.Usage.{usage_end}
use Rattle.tcm_session.specs.code.Runs.{RunsSeen}
use Rattle.tcm_session.specs.files.MemberRoute.{route_ending}
use Rattle.tcm_session.specs.files.Replay.{replay_ending}
use Rattle.tcm_session.specs.files.StateLine.{snapshot_ending}
use Rattle.tcm_session.specs.files.StreamPlan.{plan_ending}

-- ---- from the parts of a run

module _ (InputKept : Type 0) (before after : Told) (status : ℕ) where
  of_script : (outcome_of : Files → List ℕ → Outcome) (Left : Outcome → List ℕ → ℕ → Type 0) → RunsSeen (λ seen. outcome_of (seen 0)) Left InputKept before after status
      → RunsScript outcome_of Left InputKept before after status
  of_script outcome_of Left on =
      record { given = record { input = on.runs.given; seen = on.seen; told_input = on.runs.told_input; told_files = on.held }; runs = on.runs.to }

  abbrev prints_end : (ending : Ending) (all all' : Files) → ComesTo (record (ended_outcome ending all) { files = all' }) before.written after.written after.files status
      → PrintsEnd ending before.written after.written status
  prints_end ending all all' comes =
      record { printed = comes.printed; wrote = comes.wrote; prefix = comes.prefix; status = comes.status; whole = comes.whole }

  of_look : (ending_of : (ℕ → Files) → Ending) → RunsSeen (λ seen _. ended_outcome (ending_of seen) (seen 0)) (LeavesFiles None before.files after.files) InputKept before after status
      → Looks ending_of InputKept before after status
  of_look ending_of on =
      record {
        seen = on.seen;
        told_files = on.held;
        prints = prints_end (ending_of on.seen) (on.seen 0) (on.seen 0) on.runs.to.comes;
        unread = on.runs.to.all.unread refl;
        files = on.runs.to.comes.files;
        leaves = on.runs.to.leaves;
      }

  of_making : (old new cluster : List ℕ) → RunsSeen (outcome (Some (Mend old new cluster))) (LeavesFiles (Some (Mend old new cluster)) before.files after.files) InputKept before after status
      → MakesFile new (mending old new cluster) InputKept before after status
  unfolding outcome
  of_making old new cluster on =
      let made = made_outcome new (mending old new cluster on.seen) (on.seen 0) in
      record {
        seen = on.seen;
        told_files = on.held;
        prints = prints_end (mending old new cluster on.seen).ending (on.seen 0) made.files on.runs.to.comes;
        unread = on.runs.to.all.unread refl;
        files = on.runs.to.comes.files;
        leaves = on.runs.to.leaves;
      }

  pub is_run : (request : Option Request) → RunsSeen (outcome request) (LeavesFiles request before.files after.files) InputKept before after status → IsRun request InputKept before after status
  unfolding outcome
  is_run (Some Commit) on = of_script commit_outcome (LeavesFiles (Some Commit) before.files after.files) on
  is_run (Some (CommitTo log cluster)) on = of_script (commit_to_outcome log cluster) (LeavesFiles (Some (CommitTo log cluster)) before.files after.files) on
  is_run (Some (Replay files)) on = of_look (replay_ending files) on
  is_run (Some (Snapshot log epoch)) on = of_look (snapshot_ending log epoch) on
  is_run (Some (Gen start rounds)) on = of_look (λ _. gen_ending start rounds) on
  is_run (Some (Mend old new cluster)) on = of_making old new cluster on
  is_run (Some (Plan log node keyspace)) on = of_look (plan_ending log node keyspace) on
  is_run (Some (Cms log from to)) on = of_look (route_ending log from to) on
  is_run None on = of_look (λ _. usage_end) on

-- ---- for one request

module _ (InputKept : Type 0) (before after : Told) (status : ℕ) where
  pub run_for : (request other : Option Request) → IsRun request InputKept before after status → request ≡ other → IsRun other InputKept before after status
  run_for request other run is = subst (λ r. IsRun r InputKept before after status) is run

  -- from what is said of each request
  pub run_of_each : (request : Option Request)
      → (request ≡ None → Looks (λ _. usage_end) InputKept before after status)
      → (request ≡ Some Commit → RunsScript commit_outcome (λ o printed ended. after.files ≡ before.files) InputKept before after status)
      → ((log cluster : List ℕ) → request ≡ Some (CommitTo log cluster) → RunsScript (commit_to_outcome log cluster) (LeavesFiles (Some (CommitTo log cluster)) before.files after.files) InputKept before after status)
      → ((names : List (List ℕ)) → request ≡ Some (Replay names) → Looks (replay_ending names) InputKept before after status)
      → ((log : List ℕ) (epoch : ℕ) → request ≡ Some (Snapshot log epoch) → Looks (snapshot_ending log epoch) InputKept before after status)
      → ((start rounds : ℕ) → request ≡ Some (Gen start rounds) → Looks (λ _. gen_ending start rounds) InputKept before after status)
      → ((old new cluster : List ℕ) → request ≡ Some (Mend old new cluster) → MakesFile new (mending old new cluster) InputKept before after status)
      → ((log : List ℕ) (node : ℕ) (keyspace : List ℕ) → request ≡ Some (Plan log node keyspace) → Looks (plan_ending log node keyspace) InputKept before after status)
      → ((log from to : List ℕ) → request ≡ Some (Cms log from to) → Looks (route_ending log from to) InputKept before after status)
      → IsRun request InputKept before after status
  run_of_each None usage commit commit_to replay snapshot gen mend plan cms = usage refl
  run_of_each (Some Commit) usage commit commit_to replay snapshot gen mend plan cms = commit refl
  run_of_each (Some (CommitTo log cluster)) usage commit commit_to replay snapshot gen mend plan cms = commit_to log cluster refl
  run_of_each (Some (Replay names)) usage commit commit_to replay snapshot gen mend plan cms = replay names refl
  run_of_each (Some (Snapshot log epoch)) usage commit commit_to replay snapshot gen mend plan cms = snapshot log epoch refl
  run_of_each (Some (Gen start rounds)) usage commit commit_to replay snapshot gen mend plan cms = gen start rounds refl
  run_of_each (Some (Mend old new cluster)) usage commit commit_to replay snapshot gen mend plan cms = mend old new cluster refl
  run_of_each (Some (Plan log node keyspace)) usage commit commit_to replay snapshot gen mend plan cms = plan log node keyspace refl
  run_of_each (Some (Cms log from to)) usage commit commit_to replay snapshot gen mend plan cms = cms log from to refl

-- ---- over objects that never fail

module _ (bytes w w' : List ℕ) (l' : Option (List ℕ)) (all all' : Files) (InputKept : Type 0) (status : ℕ) (final : IsFinal status) where
  abbrev before_sure : Told
  before_sure = told (Some bytes) (Some w) (Some all)

  abbrev after_sure : Told
  after_sure = told l' (Some w') (Some all')

  surely_script : (outcome_of : Files → List ℕ → Outcome) (Left : Outcome → List ℕ → ℕ → Type 0) → RunsScript outcome_of Left InputKept before_sure after_sure status → ComesSurely (outcome_of all bytes) w w' all' status
  surely_script outcome_of Left run =
      let given : bytes ≡ run.given.input = run.given.told_input in
      let same : outcome_of (run.given.seen 0) run.given.input ≡ outcome_of all bytes = (λ i. outcome_of (run.given.told_files 0 i) (sym given i)) in
      record {
        status = run.runs.comes.status final ∙ ap (λ (o : Outcome). o.status) same;
        printed = subst (λ t. Appends (Some w) (Some w') t) (run.runs.comes.whole final ∙ ap printed_by same) run.runs.comes.wrote;
        files = run.runs.comes.files final ∙ ap (λ (o : Outcome). o.files) same;
      }

  surely_look : (ending_of : (ℕ → Files) → Ending) → Looks ending_of InputKept before_sure after_sure status → ComesSurely (ended_outcome (ending_of (λ _. all)) all) w w' all' status
  surely_look ending_of run =
      let same : ending_of run.seen ≡ ending_of (λ _. all) = (λ i. ending_of (λ n. run.told_files n i)) in
      record {
        status = run.prints.status final ∙ ap (λ (e : Ending). e.status) same;
        printed = subst (λ t. Appends (Some w) (Some w') t) (run.prints.whole final ∙ ap (λ (e : Ending). e.text) same) run.prints.wrote;
        files = run.files final ∙ run.told_files 0;
      }

  surely_made : (new : List ℕ) (mending_of : (ℕ → Files) → Mending) → MakesFile new mending_of InputKept before_sure after_sure status
      → ComesSurely (made_outcome new (mending_of (λ _. all)) all) w w' all' status
  surely_made new mending_of run =
      let same : mending_of run.seen ≡ mending_of (λ _. all) = (λ i. mending_of (λ n. run.told_files n i)) in
      record {
        status = run.prints.status final ∙ ap (λ (m : Mending). m.ending.status) same;
        printed = subst (λ t. Appends (Some w) (Some w') t) (run.prints.whole final ∙ ap (λ (m : Mending). m.ending.text) same) run.prints.wrote;
        files = run.files final ∙ (λ i. (made_outcome new (same i) (run.told_files 0 i)).files);
      }

  comes_surely : (request : Option Request) → IsRun request InputKept before_sure after_sure status → ComesSurely (outcome request (λ _. all) bytes) w w' all' status
  unfolding outcome
  comes_surely (Some Commit) run = surely_script commit_outcome (λ o printed ended. Some all' ≡ Some all) run
  comes_surely (Some (CommitTo log cluster)) run = surely_script (commit_to_outcome log cluster) (LeavesFiles (Some (CommitTo log cluster)) (Some all) (Some all')) run
  comes_surely (Some (Replay files)) run = surely_look (replay_ending files) run
  comes_surely (Some (Snapshot log epoch)) run = surely_look (snapshot_ending log epoch) run
  comes_surely (Some (Gen start rounds)) run = surely_look (λ _. gen_ending start rounds) run
  comes_surely (Some (Mend old new cluster)) run = surely_made new (mending old new cluster) run
  comes_surely (Some (Plan log node keyspace)) run = surely_look (plan_ending log node keyspace) run
  comes_surely (Some (Cms log from to)) run = surely_look (route_ending log from to) run
  comes_surely None run = surely_look (λ _. usage_end) run

pub surely : (bytes w w' : List ℕ) (l' : Option (List ℕ)) (all all' : Files) (InputKept : Type 0) (status : ℕ) (request : Option Request)
    → IsRun request InputKept (told (Some bytes) (Some w) (Some all)) (told l' (Some w') (Some all')) status → (status ≡ 1) ⊎ IsFinal status
    → (status ≡ 1) ⊎ ComesSurely (outcome request (λ _. all) bytes) w w' all' status
surely bytes w w' l' all all' InputKept status request run (inl one) = inl one
surely bytes w w' l' all all' InputKept status request run (inr final) = inr (comes_surely bytes w w' l' all all' InputKept status final request run)
