-- The report of a replay of files of one log.
use Rattle.std.proofs.Common.{◌≡◌, ◌≢◌, ℕ, List, Result, Ok, Err, IfErr, IfOk, refl, arith}
use Rattle.tcm_edges.specs.Files.{Files}
use Rattle.transformations.specs.Log.{IsLog}
use Rattle.transformations.specs.declared.entry.Entry.{Entry}
use Rattle.follower_log.specs.Prefix.{Taken}
use Rattle.script_session.specs.Taken.{ShowsPrefix}
use Rattle.tcm_session.specs.files.Replay.{ending_of, files_replayed, nothing_replayed, replay_ending}
use Rattle.tcm_session.specs.files.ReplayPrefix.{AreFilesOf, AreHeadedFiles, ReportsPrefix, taken_of_files}
use Rattle.tcm_session.specs.declared.ending.Ending.{Ending}
use Rattle.tcm_session.specs.declared.files.replay.Replay.{Replay}
use Rattle.tcm_session.proofs.log_files.EndedRuns.{EndsRun, files_ends}
use Rattle.tcm_session.proofs.log_files.ReplayPrefixes.{comes_to_prefix, ends_unrefused}

-- the end of a replay of files of one log is the report, at status 0
reported : (log : List Entry) (taken : Taken) (r : Result Replay Ending) → IfOk r (λ replay. ShowsPrefix log taken replay.follower) → EndsRun r → (ending_of r).status ≡ 0 → ReportsPrefix log taken (ending_of r).text
reported log taken (Ok replay) shows ends zero = record { replay = replay; shows = shows; is = refl }
reported log taken (Err ending) shows ends zero = absurd (ends.1 zero)

unrefused : (r : Result Replay Ending) → IfErr r (λ ending. ending.status ≢ 3) → (ending_of r).status ≢ 3
unrefused (Ok replay) ends three = omega (arith, three)
unrefused (Err ending) ends three = ends three

pub reports_prefix : (names : List (List ℕ)) (seen : ℕ → Files) (log : List Entry) → IsLog log → AreFilesOf log names seen → (replay_ending names seen).status ≡ 0 → ReportsPrefix log (taken_of_files names seen) (replay_ending names seen).text
reports_prefix names seen log of all =
    reported log (taken_of_files names seen) (files_replayed 1 nothing_replayed names seen) (comes_to_prefix log of names seen all) (files_ends names 1 nothing_replayed seen)

pub refuses_no_line : (names : List (List ℕ)) (seen : ℕ → Files) (log : List Entry) → IsLog log → AreFilesOf log names seen → (cluster : List ℕ) → AreHeadedFiles cluster names seen → (replay_ending names seen).status ≢ 3
refuses_no_line names seen log of all cluster headed = unrefused (files_replayed 1 nothing_replayed names seen) (ends_unrefused log of names seen cluster all headed)
