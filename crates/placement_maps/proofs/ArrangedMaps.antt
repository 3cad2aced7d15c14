-- Books that keep maps of another book in a new order, beside new maps.
use Rattle.std.proofs.Common.{◌≡◌, ℕ, zero, suc, ◌+◌, ◌<◌, Bool, true, false, List, [], ◌∷◌, ◌++◌, length, map, get_or, take, drop, Some, refl, sym, ap, ◌∙◌, subst, append_assoc, arith, cond, None, nat_lt}
use Rattle.std.proofs.lemmas.List.{map-append}
use Rattle.std.proofs.lemmas.List.Quantifiers.{position-Some}
use Rattle.std.specs.List.{AllByRecursion, list_any, position, remove, position_or_len}
use Rattle.cluster_terms.proofs.texts.ReplicationLemmas.{same_replication-exact}
use Rattle.cluster_terms.specs.Replication.{same_replication}
use Rattle.cluster_terms.specs.declared.replication.Replication.{Replication}
use Rattle.placement_deltas.proofs.ReplicationsLemmas.{new, shown, any_replications}
use Rattle.placement_deltas.specs.Replications.{replications_of}
use Rattle.transformations.proofs.lists.ListLemmas.{all_append}
use Rattle.transformations.specs.declared.image.Image.{Image}
use Rattle.transformations.specs.declared.keyspace.KeyspaceRow.{KeyspaceRow}
use Rattle.placement_maps.specs.code.Arrangements.{Arranges, Fills, arranged, left_by}
use Rattle.placement_maps.specs.code.ShownMaps.{AreMapsOf, IsMapOf}
use Rattle.placement_maps.specs.declared.arrangement.Slot.{Slot}
use Rattle.placement_maps.specs.declared.arrangement.Slot.TheVariants.{Kept, Placed}
use Rattle.range_placements.specs.declared.map_row.MapRow.{MapRow}
use Rattle.std.proofs.lemmas.Bool.Decides.{nat_tests}
use Rattle.std.proofs.lemmas.Option.{none-some}

-- ---- lists

pub map_remove : {X Y : Type 0} (f : X → Y) (xs : List X) (i : ℕ) → map f (remove xs i) ≡ remove (map f xs) i
map_remove f [] zero = refl
map_remove f (y ∷ ys) zero = refl
map_remove f [] (suc i) = refl
map_remove f (y ∷ ys) (suc i) = ap (λ l. f y ∷ l) (map_remove f ys i)

-- what is found has a place
pub found_within : {X : Type 0} (p : X → Bool) (rows : List X) (at : ℕ) → position p rows ≡ Some at → at < length rows
found_within p rows at h = by (nat_lt (position_or_len p rows) (length rows)) refl h
  where
    by : (b : Bool) → nat_lt (position_or_len p rows) (length rows) ≡ b → cond b (Some (position_or_len p rows)) None ≡ Some at → at < length rows
    by true e h = (let same : position_or_len p rows ≡ at = cc h in grind (arith, nat_tests))
    by false e h = absurd (none-some at h)

-- ---- more slots

arranged-append : (slots more : List Slot) (book : List MapRow) → arranged (slots ++ more) book ≡ arranged slots book ++ arranged more (left_by slots book)
arranged-append [] more book = refl
arranged-append (Kept n ∷ slots) more book =
    ap (λ (l : List MapRow). take 1 (drop n book) ++ l) (arranged-append slots more (remove book n))
    ∙ sym (append_assoc (take 1 (drop n book)) (arranged slots (remove book n)) (arranged more (left_by slots (remove book n))))
arranged-append (Placed row ∷ slots) more book = ap (λ (l : List MapRow). row ∷ l) (arranged-append slots more book)

left_by-append : (slots more : List Slot) (book : List MapRow) → left_by (slots ++ more) book ≡ left_by more (left_by slots book)
left_by-append [] more book = refl
left_by-append (Kept n ∷ slots) more book = left_by-append slots more (remove book n)
left_by-append (Placed row ∷ slots) more book = left_by-append slots more book

maps-append : (image : Image) (rs qs : List Replication) (one other : List MapRow) → AreMapsOf image rs one → AreMapsOf image qs other → AreMapsOf image (rs ++ qs) (one ++ other)
maps-append image rs qs one other are more = record {
  replications = map-append (λ (m : MapRow). m.replication) one other ∙ (λ j. are.replications j ++ more.replications j);
  placements = all_append (IsMapOf image) one other are.placements more.placements;
}

-- one more slot gives one more map
slot_added : (image : Image) (rs before after : List Replication) (r : Replication) (slots : List Slot) (slot : Slot) (book : List MapRow) → Arranges image rs before slots book → Fills image r before after slot
    → Arranges image (rs ++ r ∷ []) after (slots ++ slot ∷ []) book
slot_added image rs before after r slots slot book so_far fills =
    let next = fills (left_by slots book) so_far.left in
    record {
      given = subst (AreMapsOf image (rs ++ r ∷ [])) (sym (arranged-append slots (slot ∷ []) book))
          (maps-append image rs (r ∷ []) (arranged slots book) (arranged (slot ∷ []) (left_by slots book)) so_far.given next.given);
      left = subst (AreMapsOf image after) (sym (left_by-append slots (slot ∷ []) book)) next.left;
    }

-- ---- which slot a replication gets

-- the map at the position of a replication
map_at_place : (image : Image) (r : Replication) (book : List MapRow) (n : ℕ) → n < length (map (λ (m : MapRow). m.replication) book) → same_replication (get_or (map (λ (m : MapRow). m.replication) book) n r) r ≡ true → AllByRecursion (IsMapOf image) book
    → AreMapsOf image (r ∷ []) (take 1 (drop n book) ++ [])
map_at_place image r [] n within same all = absurd (omega arith)
map_at_place image r (row ∷ book) zero within same all = record {
  replications = ap (λ (q : Replication). q ∷ []) (same_replication-exact row.replication r same);
  placements = (all.0, tt);
}
map_at_place image r (row ∷ book) (suc n) within same all = map_at_place image r book n (omega arith) same all.1

all_remove : {X : Type 0} (P : X → Type 0) (xs : List X) (n : ℕ) → AllByRecursion P xs → AllByRecursion P (remove xs n)
all_remove P [] zero all = tt
all_remove P [] (suc n) all = tt
all_remove P (x ∷ xs) zero all = all.1
all_remove P (x ∷ xs) (suc n) all = (all.0, all_remove P xs n all.1)

-- a replication that is among those that are left gets the map that the book has
pub kept_fills : (image : Image) (r : Replication) (before after : List Replication) (n : ℕ) → position (λ q. same_replication q r) before ≡ Some n → after ≡ remove before n → Fills image r before after (Kept n)
kept_fills image r before after n found is book are =
    let place = position-Some (λ q. same_replication q r) before n r found in
    let own = are.replications in
    let within : n < length (map (λ (m : MapRow). m.replication) book) = subst (λ (l : List Replication). n < length l) (sym own) place.0 in
    let same : same_replication (get_or (map (λ (m : MapRow). m.replication) book) n r) r ≡ true = ap (λ (l : List Replication). same_replication (get_or l n r) r) own ∙ place.1 in
    record {
      given = map_at_place image r book n within same are.placements;
      left = record {
        replications = map_remove (λ (m : MapRow). m.replication) book n ∙ ap (λ (l : List Replication). remove l n) own ∙ sym is;
        placements = all_remove (IsMapOf image) book n are.placements;
      };
    }

-- another one gets a new map
pub placed_fills : (image : Image) (r : Replication) (before after : List Replication) (row : MapRow) → after ≡ before → row.replication ≡ r → IsMapOf image row → Fills image r before after (Placed row)
placed_fills image r before after row same of_it placed book are = record {
  given = record { replications = ap (λ (q : Replication). q ∷ []) of_it; placements = (placed, tt) };
  left = subst (λ (l : List Replication). AreMapsOf image l book) (sym same) are;
}

-- ---- the slots of keyspaces

module _ (image : Image) (ks : List KeyspaceRow) (i : ℕ) (k : KeyspaceRow) (within : i < length ks) (is : k ≡ get_or ks i k) (slots : List Slot) (book : List MapRow) (before : List Replication)
    (so_far : Arranges image (replications_of (take i ks)) before slots book) (b : Bool) (told : b ≡ list_any (λ (q : KeyspaceRow). same_replication q.replication k.replication) (take i ks)) where
  -- a replication that a keyspace before has gets no slot
  pub slot_shown : b ≡ true → Arranges image (replications_of (take (i + 1) ks)) before slots book
  slot_shown there =
      subst (λ (rs : List Replication). Arranges image rs before slots book) (shown ks i k within is (any_replications (λ q. same_replication q k.replication) (take i ks) ∙ sym told ∙ there)) so_far

  -- another one gets the next slot
  pub slot_new : b ≡ false → (after : List Replication) (slot : Slot) (all : List Slot) → all ≡ slots ++ slot ∷ [] → Fills image k.replication before after slot → Arranges image (replications_of (take (i + 1) ks)) after all book
  slot_new absent after slot all one_more fills =
      subst (λ (l : List Slot). Arranges image (replications_of (take (i + 1) ks)) after l book) (sym one_more)
      (subst (λ (rs : List Replication). Arranges image rs after (slots ++ slot ∷ []) book) (new ks i k within is (any_replications (λ q. same_replication q k.replication) (take i ks) ∙ sym told ∙ absent))
      (slot_added image (replications_of (take i ks)) before after k.replication slots slot book so_far fills))

-- no slot yet
pub no_slots : (image : Image) (book : List MapRow) → AllByRecursion (IsMapOf image) book → Arranges image [] (map (λ (m : MapRow). m.replication) book) [] book
no_slots image book all = record { given = record { replications = refl; placements = tt }; left = record { replications = refl; placements = all } }
