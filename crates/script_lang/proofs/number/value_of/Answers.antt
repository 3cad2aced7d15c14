use Rattle.std.proofs.Common.{◌≡◌, suc, ◌+◌, ◌∷◌, drop, get_or, sym, subst}
use native.Mathlib.Numerals.{unary_clauses}
use Rattle.std.proofs.Math.Seq.{drop-cons}
use Rattle.std.proofs.lemmas.List.{drop_all}
use Rattle.script_lang.proofs.Numerals.{ReadsDigits, IsRead, reads_start, reads_more, reads_end, reads_none}
use Rattle.script_lang.proofs.number.value_of.Goals as goal

pub loop-byte-init : goal.loop-byte-init
loop-byte-init c = reads_start c.args.digits.now

pub loop-byte-preserved : goal.loop-byte-preserved
loop-byte-preserved c =
    let ds = c.args.digits.now in
    let i = c.loop-byte.byte-index in
    let is = c.in_ok-value.ensures in
    let next : drop i ds ≡ get_or ds i 0 ∷ drop (i + 1) ds = simp unary_clauses (drop-cons ds i 0 c.loop-byte-test.true) in
    subst (λ n. ReadsDigits ds n (drop (i + 1) ds)) (sym is.1)
    (reads_more ds c.loop-byte.value (get_or ds i 0) (drop (i + 1) ds) (drop i ds) next c.loop-byte.invariant is.0)

pub returns-in_err-value : goal.returns-in_err-value
returns-in_err-value c =
    let ds = c.args.digits.now in
    let i = c.loop-byte.byte-index in
    let none = reads_none ds c.loop-byte.value (get_or ds i 0) (drop (suc i) ds) (drop i ds) (drop-cons ds i 0 c.loop-byte-test.true) c.loop-byte.invariant c.in_err-value.ensures in
    subst (IsRead ds) (sym c.from_residual.ensures) none

pub returns : goal.returns
returns c =
    let left = drop_all c.loop-byte.byte-index c.args.digits.now c.loop-byte-test.false in
    reads_end c.args.digits.now c.loop-byte.value _ left c.loop-byte.invariant
