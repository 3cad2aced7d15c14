use Rattle.std.proofs.Common.{◌<◌, ◌≤◌, length, ap, sym, ◌∙◌, add-one, arith, rules, drop}
use Rattle.cluster_terms.specs.Group.{nodes_of}
use Rattle.node_directory.specs.Tally.{racks_in}
use Rattle.topology_strategy.specs.code.WalkAmong.{found_among}
use Rattle.topology_strategy.proofs.WithinLemmas.{among_full, among_step}
use Rattle.topology_strategy.proofs.walk.Walk.go_among.Goals as goal

pub returns-then-len-wanted : goal.returns-then-len-wanted
returns-then-len-wanted c =
    let full : c.args.wanted ≤ length c.loop-i.self.taken = search rules in
    sym (among_full c.args.wanted (nodes_of (drop c.loop-i.i c.args.pairs.now)) (drop c.loop-i.i (racks_in c.args.racks.now)) c.loop-i.self full) ∙ c.loop-i.invariant

pub loop-i-preserved : goal.loop-i-preserved
loop-i-preserved c =
    let room : length c.loop-i.self.taken < c.args.wanted = search rules in
    let pairs = c.args.pairs.now in
    let racks = c.args.racks.now in
    let i = c.loop-i.i in
    ap (λ n. found_among c.args.wanted (nodes_of (drop n pairs)) (drop n (racks_in racks)) c.meet.new.self) (add-one i)
    ∙ among_step c.args.wanted pairs racks i _ _ c.loop-i.self c.meet.new.self (omega arith) (omega arith) room c.meet.ensures
    ∙ c.loop-i.invariant
