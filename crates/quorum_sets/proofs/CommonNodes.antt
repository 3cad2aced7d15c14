-- What the count of two sets tells of nodes that they have in common.
use Rattle.std.proofs.Common.{◌≡◌, ℕ, true, List, nat_eq}
use Rattle.std.specs.List.{list_any}
use Rattle.std.specs.Set.{is_member}
use Rattle.cluster_terms.proofs.lists.CommonLemmas.{some_common}
use Rattle.cluster_terms.specs.Quorum.{AreSome, have_common}

pub counted_common : (a b : ℕ) (ns ms some others : List ℕ) → have_common a ns b ms ≡ true → AreSome a ns some → AreSome b ms others → list_any (is_member nat_eq some) others ≡ true
counted_common a b ns ms some others meet of_ns of_ms = some_common a b ns ms some others of_ns of_ms meet
