use Rattle.std.proofs.Common.{◌≡◌, ℕ, List, length, ap, sym, ◌∙◌, rules}
use Rattle.range_placements.specs.Exchanging.{with_changes}
use Rattle.range_placements.specs.declared.row_changes.RowChange.{RowChange}
use Rattle.placement_maps.proofs.RevisedBooks.{last_revised}
use Rattle.placement_maps.specs.code.MapChanges.{each_exchanged, exchanged_at}
use Rattle.placement_maps.proofs.map_book.MapBook.exchange.Goals as goal

pub loop-last-preserved : goal.loop-last-preserved
loop-last-preserved c =
    let left = c.pop.new.self.items in
    let book = c.loop-last.self-inside.rows.items in
    let count : c.len.result ≡ length left = search rules in
    ap (each_exchanged left) (c.exchange_at.ensures ∙ ap (λ (n : ℕ). exchanged_at n c.in-Some.last book) count)
    ∙ sym (last_revised with_changes left c.in-Some.last book)
    ∙ ap (λ (all : List (List RowChange)). each_exchanged all book) (sym c.in-Some.ensures.items)
    ∙ c.loop-last.invariant
