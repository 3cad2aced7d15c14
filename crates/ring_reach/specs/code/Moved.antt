-- The tokens of pairs that stay, and of pairs that come or go.
use Rattle.std.specs.Prelude.{◌≡◌, true, ℤ, List, filter, is_some}
use Rattle.std.specs.Ordering.{int_eq}
use Rattle.std.specs.Set.{is_member}
use Rattle.cluster_terms.specs.Group.{Group}
use Rattle.cluster_terms.specs.Pair.{tokens_of}
use Rattle.cluster_terms.specs.declared.token.Pair.{Pair}

-- the tokens of those pairs whose node is in the group
abbrev pub tokens_in : Group → List Pair → List ℤ
tokens_in g ps = tokens_of (filter (λ p. is_some (g.rack_of p.node)) ps)

-- two lists have the same tokens
abbrev pub HaveSameTokens : List ℤ → List ℤ → Type 0
HaveSameTokens ts us = (t : ℤ) → is_member int_eq ts t ≡ is_member int_eq us t

-- all of these tokens are among others
abbrev pub AreTokensAmong : List ℤ → List ℤ → Type 0
AreTokensAmong ts us = (t : ℤ) → is_member int_eq ts t ≡ true → is_member int_eq us t ≡ true
