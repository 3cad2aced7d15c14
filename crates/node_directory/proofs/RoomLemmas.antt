-- Entries that move from one table into another.
use Rattle.std.proofs.Common.{◌≡◌, false, List, [], ◌∷◌, refl, ap, ◌∙◌, string_bytes}
use Rattle.std.proofs.lemmas.Map.Keys.{IsDistinct-head, IsDistinct-tail}
use Rattle.std.specs.Cmp.Lexicographic.{nat_list_eq_equiv}
use Rattle.std.specs.List.{AllByRecursion, IsDistinct}
use Rattle.std.specs.Map.{keys_of}
use Rattle.std.specs.String.{string_eq}
use Rattle.std.specs.declared.string.String.{String}
use Rattle.indexmap.specs.IndexMap.{insert_all, insert_entry}

module _ {Y X : Type 0} where
  -- entries under other names than the first entry's go in after it
  insert_all-after : (e : String Y × X) (done es : List (String Y × X)) → AllByRecursion (λ k. string_eq e.0 k ≡ false) (keys_of es) → insert_all string_eq (e ∷ done) es ≡ e ∷ insert_all string_eq done es
  insert_all-after e done [] apart = refl
  insert_all-after e done (f ∷ es) apart =
      let other : string_eq f.0 e.0 ≡ false = nat_list_eq_equiv.symm (string_bytes f.0) (string_bytes e.0) ∙ apart.0 in
      rw other (insert_all-after e (insert_entry string_eq done f.0 f.1) es apart.1)

  -- entries with distinct names, inserted into an empty table, are its entries
  pub insert_all-distinct : (es : List (String Y × X)) → IsDistinct string_eq (keys_of es) → insert_all string_eq [] es ≡ es
  insert_all-distinct [] distinct = refl
  insert_all-distinct (e ∷ es) distinct =
      insert_all-after e [] es (IsDistinct-head string_eq e.0 (keys_of es) distinct)
      ∙ ap (λ rest. e ∷ rest) (insert_all-distinct es (IsDistinct-tail string_eq e.0 (keys_of es) distinct))
