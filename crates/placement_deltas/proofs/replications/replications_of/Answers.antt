use Rattle.std.proofs.Common.{◌≡◌, List, ◌∷◌, [], ◌++◌, ap, sym, ◌∙◌, take}
use Rattle.std.specs.List.{list_any}
use Rattle.cluster_terms.specs.Replication.{same_replication}
use Rattle.cluster_terms.specs.declared.replication.Replication.{Replication}
use Rattle.placement_deltas.proofs.ReplicationsLemmas.{new, shown}
use Rattle.placement_deltas.specs.Replications.{replications_of}
use Rattle.placement_deltas.proofs.replications.replications_of.Goals as goal
use Rattle.placement_deltas.proofs.replications.replications_of.Goals.{then-not-has+in_ok-copy+in_ok-push, else-not-has}

-- a replication that is among those so far stays out, and another one is the next
pub loop-row-preserved : goal.loop-row-preserved
loop-row-preserved c =
    let ks = c.args.keyspaces.now in
    let i = c.loop-row.row-index in
    let k = c.row-item.result in
    let so_far : c.as_slice.result.now ≡ replications_of (take i ks) = c.as_slice.ensures ∙ c.loop-row.invariant in
    let told : c.has.result ≡ list_any (λ (q : Replication). same_replication q k.replication) (replications_of (take i ks)) =
    c.has.ensures ∙ ap (list_any (λ (q : Replication). same_replication q k.replication)) so_far in
    let added : Replication → List Replication → List Replication = λ r rs. rs ++ r ∷ [] in
    elim c.if-not-has.branch [
      | then-not-has+in_ok-copy+in_ok-push w ↦
          let same : w.in_ok-copy.field-0 ≡ k.replication = w.in_ok-copy.ensures.copied in
          w.list-is ∙ w.in_ok-push.ensures ∙ ap (added w.in_ok-copy.field-0) c.loop-row.invariant
          ∙ ap (λ (r : Replication). added r (replications_of (take i ks))) same
          ∙ new ks i k c.loop-row-test.true c.row-item.is (sym told ∙ w.if-not-has.true)
      | else-not-has w ↦
          w.list-is ∙ c.loop-row.invariant ∙ shown ks i k c.loop-row-test.true c.row-item.is (sym told ∙ w.if-not-has.false)
    ]
