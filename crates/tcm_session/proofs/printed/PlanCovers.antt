-- The plan in the last state of a log covers what its movement adds, and keeps quorums readable.
use Rattle.std.proofs.Common.{◌≡◌, ℕ, List, length, Option, Some, None, Ok, IfSome}
use Rattle.transformations.proofs.histories.HistoryLemmas.{valid_at}
use Rattle.transformation_laws.proofs.histories.HistoryMeetings.{replications_at}
use Rattle.transformations.specs.Log.{commands_of}
use Rattle.transformations.specs.declared.entry.Entry.{Entry}
use Rattle.transformations.specs.declared.image.Image.{Image}
use Rattle.stream_plan.proofs.coverage.StreamedLemmas.{AreStreamed, any_streamed}
use Rattle.stream_plan.specs.Readable.{KeepReadable}
use Rattle.stream_plan.specs.Streams.{CoverGains, OfMovement, streams}
use Rattle.stream_plan.specs.declared.stream_row.StreamRow.{StreamRow}
use Rattle.script_session.specs.LogFiles.{log_of}
use Rattle.session_laws.proofs.FileLogs.{session_file}
use Rattle.session_laws.proofs.quorums.ShownLemmas.{replications}
use Rattle.tcm_session.specs.files.StreamPlan.{IsCoveringPlan, last_state}

covering : (image : Image) (n : ℕ) (keyspace : List ℕ) → IfSome (streams image n keyspace) (AreStreamed image n keyspace) → IsCoveringPlan image n keyspace
covering image n keyspace all = record { covers = covered (streams image n keyspace) all; readable = kept (streams image n keyspace) all }
  where
    covered : (o : Option (List StreamRow)) → IfSome o (AreStreamed image n keyspace) → IfSome o (λ rows. OfMovement image n keyspace (CoverGains image rows))
    covered None are = tt
    covered (Some rows) are = are.covers

    kept : (o : Option (List StreamRow)) → IfSome o (AreStreamed image n keyspace) → IfSome o (λ rows. OfMovement image n keyspace (KeepReadable image rows))
    kept None are = tt
    kept (Some rows) are = are.readable

pub plan_covers : (file : List ℕ) (log : List Entry) → log_of file ≡ Ok log → (n : ℕ) (keyspace : List ℕ) → IsCoveringPlan (last_state log) n keyspace
plan_covers file log is n keyspace =
    let session = session_file file log is in
    let e = length log in
    covering (last_state log) n keyspace
    (any_streamed (last_state log) n keyspace (valid_at (commands_of log) e session.history.history).sound (replications_at (commands_of log) e (replications (commands_of log) session.history)))
