use Rattle.std.proofs.Common.{List, ℕ, Bor, sym, ◌∙◌}
use Rattle.std.specs.Str.{bytes_eq}
use Rattle.node_directory.proofs.MetLists.{member_of_mapped}
use Rattle.node_directory.proofs.tally.has_rack.Goals as goal

pub returns : goal.returns
returns c = c.is_one_of.ensures ∙ sym (member_of_mapped bytes_eq (λ (r : Bor (List ℕ)). r.now) c.args.racks.now c.args.rack.now)
