use Rattle.cluster_metadata.proofs.in_flight.AcceptedSteps.{done, half_way, started}
use Rattle.cluster_metadata.proofs.movements.stepping.step.Goals as goal

pub returns-in-Start : goal.returns-in-Start
returns-in-Start c =
    let own = rw c.as_slice-sequences.ensures at c.position_of-at.ensures in
    let row = rw c.as_slice-sequences.ensures at c.index-sequences-at.is in
    started _ _ _ _ c.requires.sound.movements own.bound row own.place _ _ c.in-Start.is c.requires.accepted

pub returns-in-Mid : goal.returns-in-Mid
returns-in-Mid c =
    let own = rw c.as_slice-sequences.ensures at c.position_of-at.ensures in
    let row = rw c.as_slice-sequences.ensures at c.index-sequences-at.is in
    half_way _ _ _ _ c.requires.sound.movements own.bound row own.place _ _ c.in-Mid.is c.requires.accepted

pub returns-in_ok-ring_after-in-Finish : goal.returns-in_ok-ring_after-in-Finish
returns-in_ok-ring_after-in-Finish c =
    let own = rw c.as_slice-sequences.ensures at c.position_of-at.ensures in
    let row = rw c.as_slice-sequences.ensures at c.index-sequences-at.is in
    let left = rw c.leaver.ensures at c.in_ok-left_row-in-Finish.ensures in
    done _ _ _ _ c.requires.sound.movements own.bound row own.place _ _ _ _ c.in-Finish.is c.requires.accepted left.nodes left.row c.in_ok-ring_after-in-Finish.ensures
