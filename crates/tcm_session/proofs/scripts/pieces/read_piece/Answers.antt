use Rattle.std.proofs.Common.{length-take, refl, arith}
use Rattle.tcm_edges.proofs.ShownLemmas.{left_same}
use Rattle.script_session.proofs.answers.AnswersLemmas.{at_fault}
use Rattle.tcm_session.proofs.inputs.ReadLemmas.{StopsAt-none, StopsAt-piece, StopsAt-told}
use Rattle.tcm_session.proofs.scripts.pieces.read_piece.Goals as goal

pub returns-in_err-count-clause-err : goal.returns-in_err-count-clause-err
returns-in_err-count-clause-err g c =
    at_fault _ c.from_residual.result _ c.from_residual.ensures.1
    (λ left may.
    StopsAt-told _ _ _ _ _ _ _ _ left (left_same g.D.Store.files g.D.Store.shows c.args.store.now c.args.store.now left refl may)
    (StopsAt-none _ _ _ _ _ _ c.in_err-count.ensures.bytes c.requires.begun))

pub returns-in_err-feed-clause-err : goal.returns-in_err-feed-clause-err
returns-in_err-feed-clause-err g c =
    at_fault _ c.from_residual-in_err-feed.result _ c.from_residual-in_err-feed.ensures.1
    (λ left may.
    StopsAt-piece _ _ _ _ _ _ _ _ _ refl refl c.in_ok-count.ensures.bytes.0 (omega (arith, length-take c.in_ok-count.count c.read.new.buf, c.in_ok-count.ensures.bound)) (c.in_err-feed.ensures.stopped left may) c.in_err-feed.ensures.cause)

pub returns-clause-stays : goal.returns-clause-stays
returns-clause-stays g c = c.in_ok-feed.ensures.stays
