-- The replications of keyspaces, one keyspace after another.
use Rattle.std.proofs.Common.{◌≡◌, ℕ, ◌+◌, ◌<◌, Bool, true, false, not, true≢false, ◌||◌, cond, List, [], ◌∷◌, ◌++◌, filter, take, length, get_or, refl, sym, ap, ◌∙◌, arith}
use Rattle.std.proofs.lemmas.List.{append-nil, take_more}
use Rattle.std.specs.List.{list_any}
use Rattle.cluster_terms.proofs.texts.ReplicationLemmas.{same_replication-exact}
use Rattle.cluster_terms.specs.Replication.{same_replication}
use Rattle.cluster_terms.specs.declared.replication.Replication.{Replication}
use Rattle.transformations.specs.declared.keyspace.KeyspaceRow.{KeyspaceRow}
use Rattle.placement_deltas.specs.Replications.{replications_of}

-- whether a replication is among some
abbrev pub has : List Replication → Replication → Bool
has rs r = list_any (λ q. same_replication q r) rs

-- those that differ from a replication
abbrev pub others_than : Replication → List Replication → List Replication
others_than r rs = filter (λ q. not (same_replication r q)) rs

same-by : (q r p : Replication) → same_replication q r ≡ true → same_replication p q ≡ same_replication p r
same-by q r p h = ap (same_replication p) (same_replication-exact q r h)

-- what differs from another one stays among those that differ from it
has-others : (p r : Replication) → same_replication p r ≡ false → (rs : List Replication) → has (others_than p rs) r ≡ has rs r
has-others p r apart [] = refl
has-others p r apart (q ∷ rs) = by (same_replication p q) (same_replication q r) refl refl (has-others p r apart rs)
  where
    by : (a b : Bool) → same_replication p q ≡ a → same_replication q r ≡ b → has (others_than p rs) r ≡ has rs r
        → has (cond (not a) (q ∷ others_than p rs) (others_than p rs)) r ≡ (same_replication q r || has rs r)
    by false b e f rest = ap (λ x. same_replication q r || x) rest
    by true false e f rest = rest ∙ ap (λ x. x || has rs r) (sym f)
    by true true e f rest = absurd (true≢false (sym e ∙ same-by q r p f ∙ apart))

-- one more at the end
others-more : (p r : Replication) (rs : List Replication) → others_than p (rs ++ r ∷ []) ≡ others_than p rs ++ cond (same_replication p r) [] (r ∷ [])
others-more p r [] = by (same_replication p r)
  where
    by : (a : Bool) → cond (not a) (r ∷ []) [] ≡ cond a [] (r ∷ [])
    by true = refl
    by false = refl
others-more p r (q ∷ rs) = by (same_replication p q) (others-more p r rs)
  where
    by : (a : Bool) → others_than p (rs ++ r ∷ []) ≡ others_than p rs ++ cond (same_replication p r) [] (r ∷ [])
        → cond (not a) (q ∷ others_than p (rs ++ r ∷ [])) (others_than p (rs ++ r ∷ [])) ≡ cond (not a) (q ∷ others_than p rs) (others_than p rs) ++ cond (same_replication p r) [] (r ∷ [])
    by true rest = rest
    by false rest = ap (λ l. q ∷ l) rest

-- one more, where it isn't among them
abbrev pub with_one : List Replication → Replication → List Replication
with_one rs r = cond (has rs r) rs (rs ++ r ∷ [])

others-with_one : (p r : Replication) (rs : List Replication) → p ∷ others_than p (with_one rs r) ≡ with_one (p ∷ others_than p rs) r
others-with_one p r rs = by (same_replication p r) (has rs r) refl refl
  where
    by : (a b : Bool) → same_replication p r ≡ a → has rs r ≡ b
        → p ∷ others_than p (cond b rs (rs ++ r ∷ [])) ≡ cond (a || has (others_than p rs) r) (p ∷ others_than p rs) (p ∷ (others_than p rs ++ r ∷ []))
    by true true e f = refl
    by true false e f = ap (λ l. p ∷ l) (others-more p r rs ∙ ap (λ a. others_than p rs ++ cond a [] (r ∷ [])) e ∙ append-nil (others_than p rs))
    by false true e f = ap (λ b. cond b (p ∷ others_than p rs) (p ∷ (others_than p rs ++ r ∷ []))) (sym (has-others p r e rs ∙ f))
    by false false e f =
        ap (λ l. p ∷ l) (others-more p r rs ∙ ap (λ a. others_than p rs ++ cond a [] (r ∷ [])) e)
        ∙ ap (λ b. cond b (p ∷ others_than p rs) (p ∷ (others_than p rs ++ r ∷ []))) (sym (has-others p r e rs ∙ f))

replications-more : (ks : List KeyspaceRow) (k : KeyspaceRow) → replications_of (ks ++ k ∷ []) ≡ with_one (replications_of ks) k.replication
replications-more [] k = refl
replications-more (j ∷ ks) k =
    ap (λ l. j.replication ∷ others_than j.replication l) (replications-more ks k) ∙ others-with_one j.replication k.replication (replications_of ks)

-- the replications of the first keyspaces and one more
module _ (ks : List KeyspaceRow) (i : ℕ) (k : KeyspaceRow) (within : i < length ks) (is : k ≡ get_or ks i k) where
  next : replications_of (take (i + 1) ks) ≡ with_one (replications_of (take i ks)) k.replication
  next =
      ap replications_of (take_more ks i k within ∙ ap (λ (j : KeyspaceRow). take i ks ++ j ∷ []) (sym is)) ∙ replications-more (take i ks) k

  pub shown : list_any (λ q. same_replication q k.replication) (replications_of (take i ks)) ≡ true → replications_of (take i ks) ≡ replications_of (take (i + 1) ks)
  shown there = ap (λ b. cond b (replications_of (take i ks)) (replications_of (take i ks) ++ k.replication ∷ [])) (sym there) ∙ sym next

  pub new : list_any (λ q. same_replication q k.replication) (replications_of (take i ks)) ≡ false
      → replications_of (take i ks) ++ k.replication ∷ [] ≡ replications_of (take (i + 1) ks)
  new absent = ap (λ b. cond b (replications_of (take i ks)) (replications_of (take i ks) ++ k.replication ∷ [])) (sym absent) ∙ sym next

-- what differs from a replication in a list is left in it, and the test finds as much with the replication in front
any_without : (f : Replication → Bool) (r : Replication) (rs : List Replication) → (f r || list_any f (filter (λ q. not (same_replication r q)) rs)) ≡ (f r || list_any f rs)
any_without f r [] = refl
any_without f r (q ∷ rs) = by (same_replication r q) refl (any_without f r rs)
  where
    same : same_replication r q ≡ true → f r ≡ f q
    same e = ap f (same_replication-exact r q e)

    twice : (a b : Bool) → (a || b) ≡ (a || (a || b))
    twice a b = grind arith

    later : (a b c d : Bool) → (a || c) ≡ (a || d) → (a || (b || c)) ≡ (a || (b || d))
    later a b c d h = grind arith

    by : (b : Bool) → same_replication r q ≡ b → (f r || list_any f (filter (λ p. not (same_replication r p)) rs)) ≡ (f r || list_any f rs)
        → (f r || list_any f (cond (not b) (q ∷ filter (λ p. not (same_replication r p)) rs) (filter (λ p. not (same_replication r p)) rs))) ≡ (f r || (f q || list_any f rs))
    by true e rest = rest ∙ twice (f r) (list_any f rs) ∙ ap (λ b. f r || (b || list_any f rs)) (same e)
    by false e rest = later (f r) (f q) (list_any f (filter (λ p. not (same_replication r p)) rs)) (list_any f rs) rest

-- a test of replications finds one exactly where a keyspace has one
pub any_replications : (f : Replication → Bool) (ks : List KeyspaceRow) → list_any f (replications_of ks) ≡ list_any (λ k. f k.replication) ks
any_replications f [] = refl
any_replications f (k ∷ ks) = any_without f k.replication (replications_of ks) ∙ ap (λ b. f k.replication || b) (any_replications f ks)
