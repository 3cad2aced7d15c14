use Rattle.std.proofs.Common.{◌≡◌, false, List, sym, ap, ◌∙◌, ◌++◌, [], ◌∷◌, arith, take}
use Rattle.std.specs.Set.{is_member}
use Rattle.std.specs.Str.{bytes_eq}
use Rattle.std.proofs.lemmas.List.{take_more}
use Rattle.cluster_terms.specs.declared.node.NodeRow.{NodeRow}
use Rattle.node_directory.specs.Directory.{node_names}
use Rattle.node_directory.proofs.NodeRows.{distinct-more}
use Rattle.node_directory.proofs.stored_rows.by_name.Goals as goal

pub loop-row-preserved : goal.loop-row-preserved
loop-row-preserved c =
    let rows = c.args.rows.now in
    let at = c.loop-row.row-index in
    let row = c.row-item.result in
    let done = c.loop-row.invariant in
    let new : is_member bytes_eq (node_names (take at rows)) row.name ≡ false = ap (λ (done : List NodeRow). is_member bytes_eq (node_names done) row.name) (sym done.rows) ∙ sym c.if-has_name.ensures in
    record {
      named = c.in_ok-push_copy.ensures.named;
      rows = c.in_ok-push_copy.ensures.rows ∙ ap (λ (done : List NodeRow). done ++ row ∷ []) done.rows ∙ ap (λ (r : NodeRow). take at rows ++ r ∷ []) c.row-item.is ∙ sym (take_more rows at row (omega arith));
      distinct = distinct-more rows at row (omega arith) c.row-item.is new done.distinct;
      spare = omega (arith, done.spare, c.in_ok-push_copy.ensures.spare);
    }
