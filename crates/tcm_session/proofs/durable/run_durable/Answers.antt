use Rattle.std.proofs.Common.{map, string_bytes, inl, inr, refl, sym, ◌∙◌, arith}
use Rattle.durable_log.specs.Records.{files}
use Rattle.durable_log.proofs.records.ShownFiles.{only_told}
use Rattle.tcm_session.proofs.runs.DurableRuns.{image_kept, is_shown, told_same, uncounted_6, unopened}
use Rattle.tcm_session.proofs.runs.RequestRuns.{run_of_each}
use Rattle.tcm_session.specs.Request.{request_of}
use Rattle.tcm_session.proofs.durable.run_durable.Goals as goal

pub returns-in-Ok-clause-outcome : goal.returns-in-Ok-clause-outcome
returns-in-Ok-clause-outcome g c =
    let run = c.run-status.ensures in
    rw (c.close.ensures, sym (told_same _ _ c.in-Ok.ensures.files))
    (run_of_each _ _ _ _ (request_of (map string_bytes c.args.words.now))
    (λ is. run.usage is _ (inl refl)) (λ is. run.commit is _ (inl refl)) (λ log cluster is. run.commit_to log cluster is _ (inl refl))
    (λ names is. run.replay names is _ (inl refl)) (λ log epoch is. run.snapshot log epoch is _ (inl refl)) (λ start rounds is. run.generated start rounds is _ (inl refl))
    (λ old new cluster is. run.mend old new cluster is _ (inl refl)) (λ log node keyspace is. run.plan log node keyspace is _ (inl refl)) (λ log from to is. run.cms log from to is _ (inl refl)))

pub returns-in-Ok-clause-crash : goal.returns-in-Ok-clause-crash
returns-in-Ok-clause-crash g c =
    rw (c.close.ensures, sym (told_same _ _ c.in-Ok.ensures.files))
    (λ stood image here.
    let only = only_told _ _ c.in-Ok.ensures.stands in
    let shown = is_shown g.D.Disk.moment g.D.Disk.image c.run-status.new.store (g.D.Disk.content c.run-status.new.store) (g.met.D.Disk.imageless c.run-status.new.store) image here in
    let run = c.run-status.ensures in
    run_of_each _ _ _ _ (request_of (map string_bytes c.args.words.now))
    (λ is. run.usage is _ (inr (only, (files image, shown, refl)))) (λ is. run.commit is _ (inr (only, (files image, shown, refl)))) (λ log cluster is. run.commit_to log cluster is _ (inr (only, (files image, shown, refl))))
    (λ names is. run.replay names is _ (inr (only, (files image, shown, refl)))) (λ log epoch is. run.snapshot log epoch is _ (inr (only, (files image, shown, refl)))) (λ start rounds is. run.generated start rounds is _ (inr (only, (files image, shown, refl))))
    (λ old new cluster is. run.mend old new cluster is _ (inr (only, (files image, shown, refl)))) (λ log node keyspace is. run.plan log node keyspace is _ (inr (only, (files image, shown, refl)))) (λ log from to is. run.cms log from to is _ (inr (only, (files image, shown, refl)))))

pub returns-in-Ok-clause-status : goal.returns-in-Ok-clause-status
returns-in-Ok-clause-status g c = rw (c.close.ensures, sym c.in-Ok.ensures.cause) c.run-status.ensures.status

pub returns-in-Ok-clause-complete : goal.returns-in-Ok-clause-complete
returns-in-Ok-clause-complete g c = rw (c.close.ensures, sym c.in-Ok.ensures.cause) (λ few same. uncounted_6 _ _ _ c.run-status.ensures.status few same)

pub returns-in-Ok-clause-store : goal.returns-in-Ok-clause-store
returns-in-Ok-clause-store g c = λ none six. absurd ((c.run-status.ensures.store none).1 six)

pub returns-in-Ok-clause-unchanged : goal.returns-in-Ok-clause-unchanged
returns-in-Ok-clause-unchanged g c = λ kept. rw c.close.ensures (c.run-status.ensures.unchanged kept ∙ told_same _ _ c.in-Ok.ensures.files)

pub returns-in-Err-clause-outcome : goal.returns-in-Err-clause-outcome
returns-in-Err-clause-outcome g c = unopened (map string_bytes c.args.words.now) _ refl _ _ _ _ (told_same _ _ c.in-Err.ensures.files)

pub returns-in-Err-clause-crash : goal.returns-in-Err-clause-crash
returns-in-Err-clause-crash g c = λ stood image here.
    unopened (map string_bytes c.args.words.now) _ refl _ _ _ _
    (image_kept g.D.Disk.moment g.D.Disk.image c.args.disk c.in-Err.disk (g.D.Disk.content c.args.disk) (g.D.Disk.content c.in-Err.disk) c.in-Err.ensures.files c.in-Err.ensures.images (stood refl refl) (g.met.D.Disk.imageless c.in-Err.disk) image here)

pub returns-in-Err-clause-status : goal.returns-in-Err-clause-status
returns-in-Err-clause-status g c = record { is = omega arith; source = refl; sink = refl; store = c.in-Err.ensures.cause }

pub returns-in-Err-clause-unchanged : goal.returns-in-Err-clause-unchanged
returns-in-Err-clause-unchanged g c = λ kept. told_same _ _ c.in-Err.ensures.files
