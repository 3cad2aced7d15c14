use Rattle.std.proofs.Common.{ℕ, List, [], Bor, false}
use Rattle.wire_json.proofs.json_values.KeysLemmas.{of_object, wrong_key, no_key, no_more}
use Rattle.wire_json.proofs.values.same_keys.Goals as goal

-- what stands past the end of a list
none : Bor (List ℕ)
none = record { ref_ptr = (0, 0); now = [] }

pub returns-in_default : goal.returns-in_default
unfolding none
returns-in_default c =
    let m = c.args.members.now.entries in let ks = c.args.keys.now in let l = c.loop-wanted in
    of_object m c.keys-found.result ks false c.keys-found.ensures.rest
    (wrong_key c.keys-found.result l.found c.next.new.self c.in-Some.key.now c.as_str.result.now ks l.wanted-index none c.eq.result l.invariant c.loop-wanted-test.true c.in-Some.ensures.steps c.as_str.ensures.value c.eq.ensures c.if-eq.false)

pub returns-in_default-2 : goal.returns-in_default-2
returns-in_default-2 c =
    let m = c.args.members.now.entries in let ks = c.args.keys.now in let l = c.loop-wanted in
    of_object m c.keys-found.result ks false c.keys-found.ensures.rest
    (no_key c.keys-found.result l.found c.next.new.self ks l.wanted-index none c.next.result l.invariant c.loop-wanted-test.true c.next.ensures.steps c.in_default.is)

pub returns : goal.returns
returns c =
    let m = c.args.members.now.entries in let ks = c.args.keys.now in let l = c.loop-wanted in
    of_object m c.keys-found.result ks c.is_none.result c.keys-found.ensures.rest
    (no_more c.keys-found.result l.found c.next-2.new.self ks l.wanted-index c.next-2.result c.is_none.result l.invariant c.loop-wanted-test.false c.next-2.ensures.steps c.is_none.ensures)
