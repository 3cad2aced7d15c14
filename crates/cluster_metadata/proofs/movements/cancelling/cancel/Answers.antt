use Rattle.std.proofs.Common.{sym, ◌∙◌}
use Rattle.cluster_metadata.proofs.in_flight.CancelLemmas.{brought_back, ended, some_cancelled}
use Rattle.cluster_metadata.proofs.movements.cancelling.cancel.Goals as goal

pub position_of-at-requires : goal.position_of-at-requires
position_of-at-requires c = rw c.as_slice-sequences.ensures (some_cancelled _ _ c.requires.accepted)

pub returns-then-is_mid : goal.returns-then-is_mid
returns-then-is_mid c =
    let own = rw c.as_slice-sequences.ensures at c.position_of-at.ensures in
    let row = rw c.as_slice-sequences.ensures at c.index-sequences-at.is in
    brought_back _ _ _ c.index-sequences-at.result c.requires.movements own.bound row own.place (sym c.is_mid.ensures ∙ c.if-is_mid.true)

pub returns : goal.returns
returns c =
    let own = rw c.as_slice-sequences.ensures at c.position_of-at.ensures in
    let row = rw c.as_slice-sequences.ensures at c.index-sequences-at.is in
    ended _ _ _ c.index-sequences-at.result c.requires.movements own.bound row own.place (sym c.is_mid.ensures ∙ c.if-is_mid.false)
