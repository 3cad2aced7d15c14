use Rattle.std.proofs.Common.{◌≡◌, ◌++◌, ◌∙◌, ap, List, ℤ}
use Rattle.token_ring.specs.Bounds.{bounds_of}
use Rattle.token_ring.proofs.BoundLemmas.{out_of_both}
use Rattle.token_ring.proofs.bounds.bounds_of_both.Goals as goal

both : (c : goal.After-put_in_order) → c.push_bounds-2.new.bounds.items ≡ bounds_of c.args.one.now ++ bounds_of c.args.other.now
both c =
    let first : c.push_bounds.new.bounds.items ≡ c.new-bounds.result.items ++ bounds_of c.args.one.now = c.in_ok-push_bounds.ensures in
    let second : c.push_bounds-2.new.bounds.items ≡ c.push_bounds.new.bounds.items ++ bounds_of c.args.other.now = c.in_ok-push_bounds-2.ensures in
    let none = c.new-bounds.ensures.items in
    second ∙ ap (λ (l : List ℤ). l ++ bounds_of c.args.other.now) (first ∙ ap (λ (l : List ℤ). l ++ bounds_of c.args.one.now) none)

pub returns-clause-one : goal.returns-clause-one
returns-clause-one c = (out_of_both c.args.one.now c.args.other.now _ _ (both c) c.put_in_order.ensures.same).0

pub returns-clause-other : goal.returns-clause-other
returns-clause-other c = (out_of_both c.args.one.now c.args.other.now _ _ (both c) c.put_in_order.ensures.same).1
