use Rattle.std.proofs.Common.{◌≡◌, false, List, ap, sym, ◌∙◌}
use Rattle.node_directory.specs.Tally.{lacks}
use Rattle.ring_reach.specs.code.WalkBack.{course_of}
use Rattle.ring_reach.specs.code.Windows.{have}
use Rattle.ring_reach.specs.declared.windows.Window.{Window}
use Rattle.ring_reach.proofs.PartLemmas.{leaves-none}
use Rattle.ring_reach.proofs.WalkBackLemmas.{none_yet}
use Rattle.ring_reach.proofs.walk_back.WalkBack.windows.Goals as goal

pub returns-then-not-lacks-clause-reach : goal.returns-then-not-lacks-clause-reach
returns-then-not-lacks-clause-reach c x =
    let course = course_of c.args.self.now in
    let empty : c.new-tally.result ≡ none_yet course = cc (c.new-tally.ensures) in
    let full : lacks (none_yet course) ≡ false = ap lacks (sym empty) ∙ sym c.lacks.ensures ∙ c.if-not-lacks.true in
    ap (λ (l : List Window). have l x) c.empty.ensures ∙ sym (leaves-none course full x c.args.moved.now)
