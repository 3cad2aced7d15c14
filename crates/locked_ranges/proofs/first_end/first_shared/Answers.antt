use Rattle.std.proofs.Common.{◌≡◌, ◌∙◌, ◌⊎◌, ap, inl, inr, length, sym}
use Rattle.locked_ranges.specs.code.FirstEnd.{first_end}
use Rattle.locked_ranges.proofs.FirstSharedEnds.{apart_done, apart_turn, first_none, shared_done, shared_turn}
use Rattle.locked_ranges.proofs.first_end.first_shared.Goals as goal

pub loop-our-preserved : goal.loop-our-preserved
loop-our-preserved c =
    let rest = rw (c.in-Some.ensures.steps.0, c.in-Some.ensures.steps.1) at c.loop-our.invariant in
    let turn = shared_turn c.loop-our.first c.in-Some.our.now c.in-Some.their.now c.next.new.self.a.rest.now c.next.new.self.b.rest.now _ c.requires.ascending in
    let none = apart_turn c.loop-our.first c.first_common-end.result c.in-Some.our.now c.in-Some.their.now c.next.new.self.a.rest.now c.next.new.self.b.rest.now c.first_common-end.ensures.none in
    record {
      rest = rw (c.first_end-first.ensures, c.first_common-end.ensures.first) (turn ∙ rest.rest);
      none = rw c.first_end-first.ensures (λ h. rest.none.0 (none.0 h), λ apart. none.1 (rest.none.1 apart));
      ours = rest.ours.1;
      theirs = rest.theirs.1;
    }

pub returns-clause-first : goal.returns-clause-first
returns-clause-first c =
    let ours = c.loop-our.our-iterator.a.rest.now in
    let theirs = c.loop-our.our-iterator.b.rest.now in
    let over : (length ours ≡ 0) ⊎ (length theirs ≡ 0) = elim c.in-None.ensures.steps [ inl a ↦ inl a.1.0 | inr b ↦ inr b.1.0 ] in
    sym (first_none c.loop-our.first) ∙ ap (first_end c.loop-our.first) (sym (shared_done ours theirs c.args.cuts.now over)) ∙ c.loop-our.invariant.rest

pub returns-clause-none : goal.returns-clause-none
returns-clause-none c =
    let ours = c.loop-our.our-iterator.a.rest.now in
    let theirs = c.loop-our.our-iterator.b.rest.now in
    let over : (length ours ≡ 0) ⊎ (length theirs ≡ 0) = elim c.in-None.ensures.steps [ inl a ↦ inl a.1.0 | inr b ↦ inr b.1.0 ] in
    (λ none. c.loop-our.invariant.none.0 (none, apart_done ours theirs over), λ apart. (c.loop-our.invariant.none.1 apart).0)
