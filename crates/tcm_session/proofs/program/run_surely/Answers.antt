use Rattle.std.proofs.Common.{inl, refl, map, string_bytes}
use Rattle.tcm_session.specs.Request.{request_of}
use Rattle.tcm_session.proofs.runs.RequestRuns.{run_of_each, surely}
use Rattle.tcm_session.proofs.runs.RunLemmas.{ends_surely}
use Rattle.tcm_session.proofs.program.run_surely.Goals as goal

pub returns-clause-outcome : goal.returns-clause-outcome
returns-clause-outcome c =
    let run = c.run.ensures in
    run_of_each _ _ _ _ (request_of (map string_bytes c.args.words.now))
    (λ is. run.usage is _ (inl refl)) (λ is. run.commit is _ (inl refl)) (λ log cluster is. run.commit_to log cluster is _ (inl refl))
    (λ names is. run.replay names is _ (inl refl)) (λ log epoch is. run.snapshot log epoch is _ (inl refl)) (λ start rounds is. run.generated start rounds is _ (inl refl))
    (λ old new cluster is. run.mend old new cluster is _ (inl refl)) (λ log node keyspace is. run.plan log node keyspace is _ (inl refl)) (λ log from to is. run.cms log from to is _ (inl refl))

pub returns-clause-surely : goal.returns-clause-surely
returns-clause-surely c = surely _ _ _ _ _ _ _ _ (request_of (map string_bytes c.args.words.now)) (returns-clause-outcome c) (ends_surely _ c.run.ensures.status)
