use Rattle.std.proofs.Common.{◌≡◌, ◌+◌, ◌<◌, ℕ, List, [], ◌∷◌, get_or, length, take, ◌++◌, sym, ap, ◌∙◌, subst}
use Rattle.std.proofs.lemmas.List.{take_all, take_more}
use Rattle.std.specs.List.{AllByRecursion}
use Rattle.cluster_terms.specs.Replication.{IsReplication}
use Rattle.transformations.proofs.lists.ListLemmas.{all_append}
use Rattle.transformations.specs.declared.keyspace.KeyspaceRow.{KeyspaceRow}
use Rattle.cluster_metadata.proofs.metadata_parts.have_replications.Goals as goal

abbrev Has : KeyspaceRow → Type 0
Has k = IsReplication k.replication

more : (rows : List KeyspaceRow) (i : ℕ) (k : KeyspaceRow) → i < length rows → k ≡ get_or rows i k → Has k → AllByRecursion Has (take i rows) → AllByRecursion Has (take (i + 1) rows)
more rows i k within here has all =
    subst (λ l. AllByRecursion Has l) (sym (take_more rows i k within ∙ ap (λ (q : KeyspaceRow). take i rows ++ q ∷ []) (sym here))) (all_append Has (take i rows) (k ∷ []) all (has, tt))

pub loop-row-preserved : goal.loop-row-preserved
loop-row-preserved c = more _ _ _ c.loop-row-test.true c.row-item.is c.total.ensures.valid c.loop-row.invariant

pub returns : goal.returns
returns c = subst (λ l. AllByRecursion Has l) (take_all c.loop-row.row-index c.args.keyspaces.now c.loop-row-test.false) c.loop-row.invariant
