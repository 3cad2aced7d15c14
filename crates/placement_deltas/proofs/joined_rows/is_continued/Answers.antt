use Rattle.std.proofs.Common.{◌≡◌, ◌-◌, length, slice_get, Some, sym, ap, ◌∙◌, arith}
use Rattle.std.proofs.lemmas.Option.{slice_get_within}
use Rattle.std.specs.Option.{option_copied}
use Rattle.placement_deltas.proofs.SoFar.{last_at}
use Rattle.placement_deltas.specs.code.Changes.{is_continued}
use Rattle.placement_deltas.proofs.joined_rows.is_continued.Goals as goal

pub returns-in-Some : goal.returns-in-Some
returns-in-Some c =
    let rows = c.args.rows.now in
    let found : slice_get rows (length rows - 1) ≡ Some c.in-Some.last.now = sym c.last.ensures.value ∙ ap option_copied c.in-Some.is in
    let within = slice_get_within rows (length rows - 1) c.in-Some.last.now found in
    c.same_change.ensures ∙ ap (λ begun. is_continued begun c.args.row.now) (sym found ∙ last_at rows (length rows - 1) (omega arith))
