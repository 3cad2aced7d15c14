-- The loop that writes a whole text.
use Rattle.std.proofs.Common.{◌≡◌, ℕ, ◌++◌, ◌-◌, List, [], Option, take, drop, length, sym, ap, ◌∙◌, subst, take-append-drop}
use Rattle.std.specs.Io.KnownBytes.{Appends}
use Rattle.std.proofs.lemmas.List.{take_rest}
use Rattle.tcm_edges.specs.Owed.{Owes}
use Rattle.tcm_edges.specs.Writes.{TellsAlike}
use Rattle.tcm_edges.proofs.OwedLemmas.{Owes-write}

-- what the loop has done: of the text the rest is owed, and the count is as before
pub record Wrote {K : Type 0} (written : K → Option (List ℕ)) (faults : K → ℕ) (begun now : K) (text rest : List ℕ) : Type 0 where
  pub owes : Owes (written begun) (written now) text rest
  pub count : faults now ≡ faults begun
  pub told : TellsAlike (written begun) (written now)
  pub none : text ≡ [] → (now ≡ begun) × (rest ≡ [])

-- the sink took n bytes of the rest
pub Owes-taken : (a b c : Option (List ℕ)) (text rest : List ℕ) (n : ℕ) → Owes a b text rest → Appends b c (take n rest)
    → Owes a c text (take (length rest - n) (drop n rest))
Owes-taken a b c text rest n owes wrote =
    let split : rest ≡ take n rest ++ take (length rest - n) (drop n rest) =
    sym (take-append-drop n rest) ∙ ap (λ l. take n rest ++ l) (sym (take_rest rest n)) in
    Owes-write a b c text (take n rest) _ (subst (Owes a b text) split owes) wrote
