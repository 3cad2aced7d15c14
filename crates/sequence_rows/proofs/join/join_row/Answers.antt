use Rattle.std.proofs.Common.{◌≡◌, sym, subst}
use Rattle.std.proofs.lemmas.Result.{IfOk-weaker}
use Rattle.transformations.proofs.histories.SoundLemmas.{sound_with_join}
use Rattle.transformations.specs.Refusals.{with_movement}
use Rattle.transformations.specs.Movements.{join_of}
use Rattle.transformations.specs.Valid.{IsSound}
use Rattle.transformations.specs.declared.sequence.SeqRow.{SeqRow}
use Rattle.sequence_rows.proofs.join.join_row.Goals as goal

-- the row is the join's, with which the image stays sound
pub returns-clause-sound : goal.returns-clause-sound
returns-clause-sound c =
    let image = c.args.image.now in
    let node = c.args.node in
    let tokens = c.args.tokens.now in
    let sound : IsSound (with_movement image (join_of node tokens)) = sound_with_join image node tokens c.requires.sound c.requires.formed c.requires.early in
    let is = c.join_with.ensures in
    IfOk-weaker c.join_with.result (λ (row : SeqRow). row ≡ join_of node c.as_slice.result.now) (λ (row : SeqRow). IsSound (with_movement image row))
    (λ row same. subst (λ (s : SeqRow). IsSound (with_movement image s)) (sym (rw c.as_slice.ensures at same)) sound) is
