use Rattle.std.proofs.Common.{◌≡◌, ℤ, [], None, take}
use Rattle.std.specs.BTreeSet.{contains}
use Rattle.std.specs.List.{list_any}
use Rattle.std.specs.Ordering.{int_cmp}
use Rattle.transformations.proofs.images.TokenLoops.{puts}
use Rattle.transformations.specs.ImageRules.{first_bad, token_repeats}
use Rattle.transformations.proofs.movement_rules.first_token_repeat.Given as goal

-- no token so far is brought twice, and the set has the tokens that are put in
abbrev pub invariant-loop-row : goal.invariant-loop-row
invariant-loop-row l = record {
  none : first_bad (token_repeats l.ring) [] (take l.row-index l.rows) ≡ None;
  seen : (t : ℤ) → contains int_cmp l.seen t ≡ list_any (puts t) (take l.row-index l.rows);
}
