-- Sets with quorums that have no node in common.
use Rattle.std.specs.Prelude.{◌≡◌, ℕ, false, List, nat_eq}
use Rattle.std.specs.List.{list_any}
use Rattle.std.specs.Set.{is_member}
use Rattle.cluster_terms.specs.Quorum.{AreSome}

-- there are a or more different nodes of the first and b or more of the second that have no node in common
pub record ArePartable (a : ℕ) (ns : List ℕ) (b : ℕ) (ms : List ℕ) : Type 0 where
  pub some : List ℕ
  pub others : List ℕ
  pub of_ns : AreSome a ns some
  pub of_ms : AreSome b ms others
  pub apart : list_any (is_member nat_eq some) others ≡ false
