use Rattle.std.proofs.Common.{◌≡◌, ◌∙◌}
use Rattle.std.proofs.lemmas.Result.{IfOk-weaker}
use Rattle.transformations.specs.Rings.{widest}
use Rattle.sequence_plans.proofs.BasisLemmas.{bounded-ranges, have_tokens-same, reached-ranges}
use Rattle.sequence_plans.proofs.basis.Basis.ranges_of.Goals as goal

-- what is reached on the basis is in the ranges
pub returns-clause-ranges : goal.returns-clause-ranges
returns-clause-ranges c =
    let basis = c.args.self.now in
    let wide : c.as_slice.result.now ≡ widest basis.image.now = c.as_slice.ensures ∙ c.requires.basis.widest in
    IfOk-weaker c.reached.result _ _
    (have_tokens-same _ _
    (reached-ranges basis.image.now c.args.row.now basis.fixed c.args.moved.now c.requires.basis.fixed c.requires.moved c.args.replication.now basis.directory.now.rows c.as_slice.result.now c.requires.basis.nodes wide))
    c.reached.ensures.reach

-- the tokens that bound them are cuts
pub returns-clause-bounds : goal.returns-clause-bounds
returns-clause-bounds c =
    let basis = c.args.self.now in
    IfOk-weaker c.reached.result _ _
    (bounded-ranges basis.image.now c.args.row.now basis.fixed c.args.moved.now c.requires.basis.fixed c.requires.moved c.requires.within)
    c.reached.ensures.bounds
