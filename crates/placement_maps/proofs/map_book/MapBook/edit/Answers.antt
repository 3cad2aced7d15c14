use Rattle.std.proofs.Common.{◌≡◌, ℕ, List, length, get_or, ap, sym, ◌∙◌, subst, arith, rules}
use Rattle.range_placements.specs.Editing.{Edits, edited}
use Rattle.placement_maps.proofs.EditedMaps.{last_held}
use Rattle.placement_maps.proofs.RevisedBooks.{last_revised}
use Rattle.placement_maps.specs.code.MapChanges.{ArePlacementMaps, each_edited, edited_at}
use Rattle.placement_maps.proofs.map_book.MapBook.edit.Goals as goal

pub edit_at-requires : goal.edit_at-requires
edit_at-requires c row within is =
    let left = c.pop.new.self.items in
    let book = c.loop-last.self-inside.rows.items in
    let count : c.len.result ≡ length left = search rules in
    last_held left c.in-Some.last book row (omega (arith, within, count)) (is ∙ ap (λ (n : ℕ). get_or book n row) count)
    (subst (λ (all : List Edits). ArePlacementMaps (each_edited all book)) c.in-Some.ensures.items c.loop-last.invariant.maps)

pub loop-last-preserved : goal.loop-last-preserved
loop-last-preserved c =
    let left = c.pop.new.self.items in
    let book = c.loop-last.self-inside.rows.items in
    let count : c.len.result ≡ length left = search rules in
    let led : each_edited left c.edit_at.new.rows.items ≡ each_edited c.loop-last.edits.items book =
    ap (each_edited left) (c.edit_at.ensures ∙ ap (λ (n : ℕ). edited_at n c.in-Some.last book) count)
    ∙ sym (last_revised edited left c.in-Some.last book)
    ∙ ap (λ (all : List Edits). each_edited all book) (sym c.in-Some.ensures.items) in
    record { same = led ∙ c.loop-last.invariant.same; maps = subst ArePlacementMaps (sym led) c.loop-last.invariant.maps }
