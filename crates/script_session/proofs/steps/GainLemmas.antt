-- Files that gain texts.
use Rattle.std.proofs.Common.{◌≡◌, ◌≢◌, ℕ, Bool, true, false, cond, is_some, List, [], ◌∷◌, ◌++◌, Option, Some, None, option_map, true≢false, refl, sym, ap, ◌∙◌, append_assoc, append-nil}
use Rattle.std.specs.Ordering.{nat_cmp, eq_by_cmp}
use Rattle.std.specs.Cmp.Lexicographic.{slice_cmp}
use Rattle.std.specs.FinMap as map
use Rattle.std.proofs.lemmas.Cmp.{nat_list_cmp_total}
use Rattle.std.proofs.lemmas.Map.Text.{is_eq-slice_cmp}
use Rattle.std.proofs.lemmas.Slice.Eq.{bytes_eq-Decides}
use Rattle.tcm_edges.proofs.FileLemmas.{file_of-put}
use Rattle.tcm_edges.specs.Writes.{TellsAlike}
use Rattle.tcm_edges.specs.Files.{ChangesFile, Files, GainsAll, IsReplaced, OthersKept, content, file_of}
use Rattle.script_session.specs.LogFiles.{Gains, with_added}

-- ---- files by name

abbrev same : List ℕ → List ℕ → Bool
same a b = eq_by_cmp (slice_cmp nat_cmp) a b

same-refl : (a : List ℕ) → same a a ≡ true
same-refl a = is_eq-slice_cmp a a ∙ (bytes_eq-Decides a a).1 refl

same_text : (a b : List ℕ) → same a b ≡ true → a ≡ b
same_text a b e = (bytes_eq-Decides a b).0 (sym (is_eq-slice_cmp a b) ∙ e)

same_files : (m n : Files) → ((q : List ℕ) → map.get m q ≡ map.get n q) → m ≡ n
same_files m n is = map.same_map nat_list_cmp_total (map.slice_cmp-IsAntisymmetric map.nat_cmp-IsAntisymmetric) m n is

get-insert : (all : Files) (name bytes q : List ℕ) → map.get (map.insert all name bytes) q ≡ cond (same q name) (Some bytes) (map.get all q)
get-insert all name bytes q = map.get-insert nat_list_cmp_total all name bytes q

-- the later of two contents of a file stays
pub insert-insert : (all : Files) (name a b : List ℕ) → map.insert (map.insert all name a) name b ≡ map.insert all name b
insert-insert all name a b = same_files _ _ at
  where
    by : (t : Bool) (o : Option (List ℕ)) → cond t (Some b) (cond t (Some a) o) ≡ cond t (Some b) o
    by true o = refl
    by false o = refl

    at : (q : List ℕ) → map.get (map.insert (map.insert all name a) name b) q ≡ map.get (map.insert all name b) q
    at q = get-insert (map.insert all name a) name b q ∙ ap (cond (same q name) (Some b)) (get-insert all name a q)
        ∙ by (same q name) (map.get all q) ∙ sym (get-insert all name b q)

-- a file that is known, with no other file changed
pub changed_is : (old new : Files) (name bytes : List ℕ) → file_of new name ≡ Some bytes → ((other : List ℕ) → other ≢ name → file_of new other ≡ file_of old other)
    → new ≡ map.insert old name bytes
changed_is old new name bytes is others = same_files new (map.insert old name bytes) at
  where
    by : (q : List ℕ) (t : Bool) → same q name ≡ t → map.get new q ≡ cond t (Some bytes) (map.get old q)
    by q true e = ap (map.get new) (same_text q name e) ∙ is
    by q false e = others q (λ eq. true≢false (sym (sym e ∙ ap (λ x. same x name) eq ∙ same-refl name)))

    at : (q : List ℕ) → map.get new q ≡ map.get (map.insert old name bytes) q
    at q = by q (same q name) refl ∙ sym (get-insert old name bytes q)

-- ---- texts that are added, one after another

pub with_added-nil : (name : Option (List ℕ)) (all : Files) → with_added name [] all ≡ all
with_added-nil None all = refl
with_added-nil (Some name) all = refl

pub with_added-append : (name : Option (List ℕ)) (a b : List ℕ) (all : Files) → with_added name (a ++ b) all ≡ with_added name b (with_added name a all)
with_added-append None a b all = refl
with_added-append (Some name) [] b all = refl
with_added-append (Some name) (x ∷ a) [] all = ap (λ t. map.insert all name (content (file_of all name) ++ t)) (append-nil (x ∷ a))
with_added-append (Some name) (x ∷ a) (y ∷ b) all =
    let was = content (file_of all name) in
    let first = map.insert all name (was ++ (x ∷ a)) in
    sym (
    ap (λ o. map.insert first name (content o ++ (y ∷ b))) (file_of-put all name (was ++ (x ∷ a)))
    ∙ insert-insert all name (was ++ (x ∷ a)) ((was ++ (x ∷ a)) ++ (y ∷ b))
    ∙ ap (map.insert all name) (append_assoc was (x ∷ a) (y ∷ b)))

pub Gains-nil : (name : Option (List ℕ)) (files : Option Files) → Gains name [] files files
Gains-nil name None = refl
Gains-nil name (Some all) = ap Some (sym (with_added-nil name all))

pub Gains-append : (name : Option (List ℕ)) (a b : List ℕ) (x y z : Option Files) → Gains name a x y → Gains name b y z → Gains name (a ++ b) x z
Gains-append name a b x y z first second = second ∙ ap (option_map (with_added name b)) first ∙ both x
  where
    both : (x : Option Files) → option_map (with_added name b) (option_map (with_added name a) x) ≡ option_map (with_added name (a ++ b)) x
    both None = refl
    both (Some all) = ap Some (sym (with_added-append name a b all))

-- ---- what the store says

-- a store that tells nothing goes on telling nothing
untold : (new : Option Files) → is_some new ≡ false → new ≡ None
untold None e = refl
untold (Some all) e = absurd (true≢false e)

-- a text of some bytes was appended
pub Gains-of_append : (name text : List ℕ) (old new : Option Files) → text ≢ [] → ChangesFile (GainsAll text) old new name → OthersKept old new name → TellsAlike old new → Gains (Some name) text old new
Gains-of_append name text None new some changes others told = untold new told
Gains-of_append name text (Some old) None some changes others told = absurd changes
Gains-of_append name [] (Some old) (Some new) some changes others told = absurd (some refl)
Gains-of_append name (byte ∷ text) (Some old) (Some new) some changes others told =
    ap Some (changed_is old new name (content (file_of old name) ++ (byte ∷ text)) changes others)

-- a file was replaced
pub replaced_is : (name bytes : List ℕ) (old new : Option Files) → ChangesFile (IsReplaced bytes) old new name → OthersKept old new name → TellsAlike old new
    → new ≡ option_map (λ all. map.insert all name bytes) old
replaced_is name bytes None new changes others told = untold new told
replaced_is name bytes (Some old) None changes others told = absurd changes
replaced_is name bytes (Some old) (Some new) changes others told = ap Some (changed_is old new name bytes changes others)
