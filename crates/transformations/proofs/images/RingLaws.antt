-- The rules of the ring, and what they stand for.
use Rattle.std.proofs.Common.{◌≡◌, ℕ, None}
use Rattle.std.specs.List.Sorted.{IsStrictlySortedBy}
use Rattle.cluster_terms.specs.declared.token.Pair.{Pair}
use Rattle.transformations.proofs.images.OverLemmas.{map_none}
use Rattle.transformations.proofs.images.OrderLaws.{falls_sorted}
use Rattle.transformations.proofs.pairs.RingPairs.{by_token_total}
use Rattle.transformations.specs.ImageRules.{first_fall, rule_7}
use Rattle.transformations.specs.Orders.{by_token}
use Rattle.transformations.specs.declared.image.Image.{Image}

pub tokens_up : (image : Image) → rule_7 image ≡ None → IsStrictlySortedBy by_token image.tokens
tokens_up image none = falls_sorted by_token by_token_total 0 image.tokens (map_none (λ (found : ℕ × Pair). found.1.token) (first_fall by_token 0 image.tokens) none)
