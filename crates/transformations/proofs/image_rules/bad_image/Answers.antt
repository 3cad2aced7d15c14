use Rattle.std.proofs.Common.{◌≡◌, false, is_some, subst, ◌∙◌}
use Rattle.std.specs.Prelude.{IfOk}
use Rattle.transformations.proofs.images.GroupLaws.{at_keyspaces, at_movements, at_nodes, at_numbers, at_repeats, at_ring, tells}
use Rattle.transformations.specs.code.RuleGroups.{keyspaces_broken, movements_broken, nodes_broken, numbers_broken, ring_broken}
use Rattle.transformations.proofs.image_rules.bad_image.Goals as goal

pub returns-then-is_some : goal.returns-then-is_some
returns-then-is_some c =
    c.in_ok-early.ensures ∙ at_nodes c.args.image.now (tells _ _ _ _ c.in_ok-early.ensures c.is_some.ensures c.if-is_some.true)

pub returns-then-is_some-2 : goal.returns-then-is_some-2
returns-then-is_some-2 c =
    let one : is_some (nodes_broken c.args.image.now) ≡ false = tells _ _ _ _ c.in_ok-early.ensures c.is_some.ensures c.if-is_some.false in
    c.bad_numbers-early.ensures ∙ at_numbers c.args.image.now one (tells _ _ _ _ c.bad_numbers-early.ensures c.is_some-2.ensures c.if-is_some-2.true)

pub returns-then-is_some-3 : goal.returns-then-is_some-3
returns-then-is_some-3 c =
    let one : is_some (nodes_broken c.args.image.now) ≡ false = tells _ _ _ _ c.in_ok-early.ensures c.is_some.ensures c.if-is_some.false in
    let two : is_some (numbers_broken c.args.image.now) ≡ false = tells _ _ _ _ c.bad_numbers-early.ensures c.is_some-2.ensures c.if-is_some-2.false in
    c.in_ok-early-2.ensures ∙ at_ring c.args.image.now one two (tells _ _ _ _ c.in_ok-early-2.ensures c.is_some-3.ensures c.if-is_some-3.true)

pub returns-then-is_some-4 : goal.returns-then-is_some-4
returns-then-is_some-4 c =
    let one : is_some (nodes_broken c.args.image.now) ≡ false = tells _ _ _ _ c.in_ok-early.ensures c.is_some.ensures c.if-is_some.false in
    let two : is_some (numbers_broken c.args.image.now) ≡ false = tells _ _ _ _ c.bad_numbers-early.ensures c.is_some-2.ensures c.if-is_some-2.false in
    let three : is_some (ring_broken c.args.image.now) ≡ false = tells _ _ _ _ c.in_ok-early-2.ensures c.is_some-3.ensures c.if-is_some-3.false in
    c.bad_keyspaces-early.ensures ∙ at_keyspaces c.args.image.now one two three (tells _ _ _ _ c.bad_keyspaces-early.ensures c.is_some-4.ensures c.if-is_some-4.true)

pub returns-then-is_some-5 : goal.returns-then-is_some-5
returns-then-is_some-5 c =
    let one : is_some (nodes_broken c.args.image.now) ≡ false = tells _ _ _ _ c.in_ok-early.ensures c.is_some.ensures c.if-is_some.false in
    let two : is_some (numbers_broken c.args.image.now) ≡ false = tells _ _ _ _ c.bad_numbers-early.ensures c.is_some-2.ensures c.if-is_some-2.false in
    let three : is_some (ring_broken c.args.image.now) ≡ false = tells _ _ _ _ c.in_ok-early-2.ensures c.is_some-3.ensures c.if-is_some-3.false in
    let four : is_some (keyspaces_broken c.args.image.now) ≡ false = tells _ _ _ _ c.bad_keyspaces-early.ensures c.is_some-4.ensures c.if-is_some-4.false in
    c.in_ok-early-3.ensures ∙ at_movements c.args.image.now one two three four (tells _ _ _ _ c.in_ok-early-3.ensures c.is_some-5.ensures c.if-is_some-5.true)

pub returns : goal.returns
returns c =
    let one : is_some (nodes_broken c.args.image.now) ≡ false = tells _ _ _ _ c.in_ok-early.ensures c.is_some.ensures c.if-is_some.false in
    let two : is_some (numbers_broken c.args.image.now) ≡ false = tells _ _ _ _ c.bad_numbers-early.ensures c.is_some-2.ensures c.if-is_some-2.false in
    let three : is_some (ring_broken c.args.image.now) ≡ false = tells _ _ _ _ c.in_ok-early-2.ensures c.is_some-3.ensures c.if-is_some-3.false in
    let four : is_some (keyspaces_broken c.args.image.now) ≡ false = tells _ _ _ _ c.bad_keyspaces-early.ensures c.is_some-4.ensures c.if-is_some-4.false in
    let five : is_some (movements_broken c.args.image.now) ≡ false = tells _ _ _ _ c.in_ok-early-3.ensures c.is_some-5.ensures c.if-is_some-5.false in
    subst (λ bad. IfOk c.bad_repeats.result (λ found. found ≡ bad)) (at_repeats c.args.image.now one two three four five) c.bad_repeats.ensures
