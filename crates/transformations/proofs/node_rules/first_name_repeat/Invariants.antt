use Rattle.std.proofs.Common.{◌≡◌, ℕ, List, [], None, take}
use Rattle.std.specs.BTreeSet.{contains_by}
use Rattle.std.specs.Cmp.Lexicographic.{slice_cmp}
use Rattle.std.specs.List.{list_any}
use Rattle.std.specs.Ordering.{nat_cmp}
use Rattle.std.specs.Str.{bytes_eq}
use Rattle.transformations.specs.ImageRules.{first_bad, name_repeats}
use Rattle.transformations.proofs.node_rules.first_name_repeat.Given as goal

-- the names so far are in the set, each once
abbrev pub invariant-loop-row : goal.invariant-loop-row
invariant-loop-row l = record {
  none : first_bad name_repeats [] (take l.row-index l.nodes) ≡ None;
  names : (q : List ℕ) → contains_by (λ k. slice_cmp nat_cmp q k.now) l.names ≡ list_any (λ row. bytes_eq q row.name) (take l.row-index l.nodes);
}
