-- Replications that ask for the same.
use Rattle.std.proofs.Common.{◌≡◌, ℕ, Bool, true, ◌&&◌, ◌==◌, true≢false, List, [], ◌∷◌, length, refl, sym, ap, arith, eq-eqb}
use Rattle.std.proofs.lemmas.Bool.{eqb-true}
use Rattle.std.proofs.lemmas.Bool.Decides.{Decides-and, Decides-eqb}
use Rattle.std.specs.Bool.{Decides}
use Rattle.std.proofs.lemmas.Slice.Eq.{bytes_eq-Decides, slice_eq-Decides}
use Rattle.std.specs.Cmp.Lexicographic.{pointwise}
use Rattle.std.specs.List.{list_all, zip}
use Rattle.std.specs.Str.{bytes_eq}
use Rattle.cluster_terms.specs.Replication.{same_factor_row, same_replication}
use Rattle.cluster_terms.specs.declared.replication.Replication.{Replication}
use Rattle.cluster_terms.specs.declared.replication.Replication.TheVariants.{Simple, Topology}

-- lists that are as long are compared row beside row
pub beside : {X : Type 0} (same : X → X → Bool) (xs ys : List X) → length xs ≡ length ys → list_all (λ (p : X × X). same p.0 p.1) (zip xs ys) ≡ pointwise same xs ys
beside same [] [] long = refl
beside same [] (y ∷ ys) long = absurd (omega arith)
beside same (x ∷ xs) [] long = absurd (omega arith)
beside same (x ∷ xs) (y ∷ ys) long = ap (λ b. same x y && b) (beside same xs ys (omega arith))

-- rows that the test takes for the same are the same
same_row-Decides : (f e : List ℕ × ℕ) → Decides (same_factor_row f e) (f ≡ e)
same_row-Decides f e =
    let both = Decides-and (bytes_eq f.0 e.0) (f.1 == e.1) (bytes_eq-Decides f.0 e.0) (Decides-eqb f.1 e.1) in (
      λ h. let same = both.0 h in λ i. (same.0 i, same.1 i),
      λ (same : f ≡ e). both.1 (ap (λ (r : List ℕ × ℕ). r.0) same, ap (λ (r : List ℕ × ℕ). r.1) same),
    )

rows-Decides : (fs es : List (List ℕ × ℕ)) → Decides (pointwise same_factor_row fs es) (fs ≡ es)
rows-Decides fs es = slice_eq-Decides same_row-Decides fs es (pointwise same_factor_row fs es) refl

-- replications that ask for the same are the same
pub same_replication-exact : (r s : Replication) → same_replication r s ≡ true → r ≡ s
same_replication-exact (Simple rf) (Simple other) h = ap Simple (eqb-true rf other h)
same_replication-exact (Simple rf) (Topology others) h = absurd (true≢false (sym h))
same_replication-exact (Topology factors) (Simple other) h = absurd (true≢false (sym h))
same_replication-exact (Topology factors) (Topology others) h = ap Topology ((rows-Decides factors others).0 h)

pub same_replication-refl : (r : Replication) → same_replication r r ≡ true
same_replication-refl (Simple rf) = eq-eqb rf rf refl
same_replication-refl (Topology factors) = (rows-Decides factors factors).1 refl
