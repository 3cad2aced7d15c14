use Rattle.std.proofs.Common.{◌≡◌, ◌+◌, ◌≤◌, ◌++◌, ◌∷◌, [], nat_eq, filter, length, take, drop, sym, subst, ap, ◌∙◌, arith}
use Rattle.std.proofs.lemmas.Bool.{lt-ltb}
use Rattle.std.proofs.lemmas.List.{length_push}
use Rattle.std.specs.Option.{option_copied}
use Rattle.std.specs.Set.{is_member, distinct_count}
use Rattle.cluster_terms.specs.Group.{nodes_of}
use Rattle.transformations.proofs.commands.DatacenterGroupLemmas.{AreFound, found_among, found_new, found_old, found_other, nodes_after, nodes_up_to}
use Rattle.transformations.specs.code.DatacenterGroups.{is_in_group}
use Rattle.transformations.proofs.prepares.has_more_in.Goals as goal
use Rattle.transformations.proofs.prepares.has_more_in.Goals.{then-has_node-via-then-has_node, then-has_node-via-else-has_node+then-not-is_in}

pub loop-pair-preserved-then-has_node : goal.loop-pair-preserved-then-has_node
loop-pair-preserved-then-has_node c =
    let test = is_in_group c.args.nodes.now (option_copied c.args.dc) in
    let ns = nodes_of (take c.loop-pair.pair-index c.args.pairs.now) in
    let found = c.loop-pair.found in
    let n = c.pair-item.result.node in
    let f = c.loop-pair.invariant.found in
    let up = nodes_up_to c.args.pairs.now c.loop-pair.pair-index c.pair-item.result c.loop-pair-test.true c.pair-item.is in
    let there : is_member nat_eq found n ≡ c.has_node.result = ap (λ l. is_member nat_eq l n) (sym c.as_slice.ensures.items) ∙ sym c.has_node.ensures in
    let found' : AreFound test (ns ++ n ∷ []) found = elim c.then-has_node.branch [
      | then-has_node-via-then-has_node w ↦ found_old test ns found n f (there ∙ w.if-has_node.true)
      | then-has_node-via-else-has_node+then-not-is_in w ↦ found_other test ns found n f (sym w.is_in.ensures ∙ w.if-not-is_in.true)
    ] in
    record { found = subst (λ l. AreFound test l found) (sym up) found'; most = c.loop-pair.invariant.most }

pub returns-then-len-most : goal.returns-then-len-most
returns-then-len-most c =
    let pairs = c.args.pairs.now in
    let test = is_in_group c.args.nodes.now (option_copied c.args.dc) in
    let i = c.loop-pair.pair-index in
    let ns = nodes_of (take i pairs) in
    let rest = nodes_of (drop (i + 1) pairs) in
    let found = c.loop-pair.found in
    let n = c.pair-item.result.node in
    let new : is_member nat_eq found n ≡ c.has_node.result = ap (λ l. is_member nat_eq l n) (sym c.as_slice.ensures.items) ∙ sym c.has_node.ensures in
    let one = found_new test ns found n c.loop-pair.invariant.found (sym c.is_in.ensures ∙ c.if-not-is_in.false) (new ∙ c.if-has_node.false) in
    let all : nodes_of pairs ≡ (ns ++ n ∷ []) ++ rest = nodes_after pairs (i + 1) ∙ ap (λ l. l ++ rest) (nodes_up_to pairs i c.pair-item.result c.loop-pair-test.true c.pair-item.is) in
    let few : length (found ++ n ∷ []) ≤ distinct_count nat_eq (filter test (nodes_of pairs)) = subst (λ l. length (found ++ n ∷ []) ≤ distinct_count nat_eq (filter test l)) (sym all) (found_among test (ns ++ n ∷ []) rest (found ++ n ∷ []) one) in
    let push = length_push found n in
    let len = c.len.ensures.len in
    sym (lt-ltb c.args.most (distinct_count nat_eq (filter test (nodes_of pairs))) (omega arith))

pub loop-pair-preserved : goal.loop-pair-preserved
loop-pair-preserved c =
    let test = is_in_group c.args.nodes.now (option_copied c.args.dc) in
    let ns = nodes_of (take c.loop-pair.pair-index c.args.pairs.now) in
    let found = c.loop-pair.found in
    let n = c.pair-item.result.node in
    let up = nodes_up_to c.args.pairs.now c.loop-pair.pair-index c.pair-item.result c.loop-pair-test.true c.pair-item.is in
    let new : is_member nat_eq found n ≡ c.has_node.result = ap (λ l. is_member nat_eq l n) (sym c.as_slice.ensures.items) ∙ sym c.has_node.ensures in
    let one = found_new test ns found n c.loop-pair.invariant.found (sym c.is_in.ensures ∙ c.if-not-is_in.false) (new ∙ c.if-has_node.false) in
    let push = length_push found n in
    let len = c.len.ensures.len in
    let most = c.loop-pair.invariant.most in
    let grown : length c.push.new.self ≡ length found + 1 = ap length c.push.ensures ∙ push in
    record {
      found = rw (up, c.push.ensures) one;
      most = omega arith;
    }
