-- Quorums of a few nodes, and which of them meet. Each fact is computed.
use Rattle.std.specs.Prelude.{◌≡◌, ℕ, false, true, List, [], ◌∷◌, refl}
use Rattle.cluster_terms.specs.Quorum.{Sets, have_common, pending, quorum_of, read_need, write_need, writes_meet_reads}

-- more than half
pub quorums : (quorum_of 1 ≡ 1) × (quorum_of 2 ≡ 2) × (quorum_of 3 ≡ 2) × (quorum_of 4 ≡ 3) × (quorum_of 5 ≡ 3)
quorums = (refl, refl, refl, refl, refl)

-- any two of three nodes and any two of them have one in common, and one and two of them needn't
pub of_three : (have_common 2 (1 ∷ 2 ∷ 3 ∷ []) 2 (1 ∷ 2 ∷ 3 ∷ []) ≡ true)
    × (have_common 1 (1 ∷ 2 ∷ 3 ∷ []) 2 (1 ∷ 2 ∷ 3 ∷ []) ≡ false)
    × (have_common 1 (1 ∷ 2 ∷ 3 ∷ []) 3 (1 ∷ 2 ∷ 3 ∷ []) ≡ true)
of_three = (refl, refl, refl)

-- where there are too few nodes no quorum lacks one
pub of_too_few : (have_common 3 (1 ∷ 2 ∷ []) 1 (3 ∷ []) ≡ true)
    × (have_common 1 (3 ∷ []) 3 (1 ∷ 2 ∷ []) ≡ true)
    × (have_common 1 (3 ∷ []) 2 (1 ∷ 2 ∷ []) ≡ false)
of_too_few = (refl, refl, refl)

-- three replicas are asked for; one is pending, and a write needs one more for it
abbrev pub sets : List ℕ → List ℕ → Sets
sets reads writes = record { total = 3; reads = reads; writes = writes }

pub one_pending : (pending (1 ∷ 2 ∷ 3 ∷ []) (1 ∷ 2 ∷ 3 ∷ 4 ∷ []) ≡ 4 ∷ [])
    × (write_need (sets (1 ∷ 2 ∷ 3 ∷ []) (1 ∷ 2 ∷ 3 ∷ 4 ∷ [])) ≡ 3)
    × (read_need (sets (1 ∷ 2 ∷ 3 ∷ []) (1 ∷ 2 ∷ 3 ∷ 4 ∷ [])) ≡ 2)
one_pending = (refl, refl, refl)

-- node 4 comes in the place of node 1: reads of before and of half way meet the writes of between, and reads of before
-- needn't meet the writes of after
pub one_relieved : (writes_meet_reads (sets (1 ∷ 2 ∷ 3 ∷ []) (1 ∷ 2 ∷ 3 ∷ 4 ∷ [])) (sets (2 ∷ 3 ∷ 4 ∷ []) (1 ∷ 2 ∷ 3 ∷ 4 ∷ [])) ≡ true)
    × (writes_meet_reads (sets (1 ∷ 2 ∷ 3 ∷ []) (1 ∷ 2 ∷ 3 ∷ 4 ∷ [])) (sets (1 ∷ 2 ∷ 3 ∷ []) (1 ∷ 2 ∷ 3 ∷ [])) ≡ true)
    × (writes_meet_reads (sets (2 ∷ 3 ∷ 4 ∷ []) (2 ∷ 3 ∷ 4 ∷ [])) (sets (1 ∷ 2 ∷ 3 ∷ []) (1 ∷ 2 ∷ 3 ∷ [])) ≡ false)
one_relieved = (refl, refl, refl)
