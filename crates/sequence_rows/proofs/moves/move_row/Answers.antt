use Rattle.std.proofs.Common.{◌≡◌, refl, sym, subst}
use Rattle.std.proofs.lemmas.Result.{IfOk-weaker}
use Rattle.transformations.proofs.histories.SoundLemmas.{sound_prepared}
use Rattle.transformations.specs.Refusals.{with_movement}
use Rattle.transformations.specs.Movements.{move_of}
use Rattle.transformations.specs.Valid.{IsSound}
use Rattle.transformations.specs.declared.command.Command.TheVariants.{PrepareMove}
use Rattle.transformations.specs.declared.sequence.SeqRow.{SeqRow}
use Rattle.sequence_rows.proofs.moves.move_row.Goals as goal

-- the row is the move's, with which the image stays sound
pub returns-clause-sound : goal.returns-clause-sound
returns-clause-sound c =
    let image = c.args.image.now in
    let row_of : SeqRow = move_of image.tokens c.args.node c.args.token in
    let sound : IsSound (with_movement image row_of) = sound_prepared image (PrepareMove c.args.node c.args.token) row_of c.requires.sound refl c.requires.early refl in
    IfOk-weaker c.move_with.result (λ (row : SeqRow). row ≡ move_of c.as_slice.result.now c.args.node c.args.token) (λ (row : SeqRow). IsSound (with_movement image row))
    (λ row same. subst (λ (s : SeqRow). IsSound (with_movement image s)) (sym (rw c.as_slice.ensures at same)) sound) c.move_with.ensures
