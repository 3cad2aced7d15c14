-- Rows whose ids ascend and whose names are distinct.
use Rattle.std.proofs.Common.{◌≡◌, ℕ, suc, zero, ◌+◌, ◌<◌, ◌≤◌, Bool, true, false, not, ◌&&◌, ◌||◌, ◌==◌, List, [], ◌∷◌, ◌++◌, length, get_or, take, drop, set, nat_lt, nat_le, Option, None, Some, refl, sym, ap, ◌∙◌, arith, remove, true≢false, is_some, find, IsTrue}
use Rattle.std.proofs.lemmas.Bool.Decides.{nat_tests}
use Rattle.std.proofs.lemmas.List.{drop_more, take_more, take-append-drop, map-append}
use Rattle.std.specs.Cmp.Lexicographic.{nat_list_eq_equiv}
use Rattle.std.specs.Option.{option_map}
use Rattle.std.specs.Set.{is_member}
use Rattle.std.specs.Str.{bytes_eq}
use Rattle.cluster_terms.specs.NodeRow.{row_of}
use Rattle.cluster_terms.specs.declared.node.NodeRow.{NodeRow}
use Rattle.node_directory.specs.Directory.{Registry, are_ascending, names_are_distinct, ids_of, node_names, is_directory, node_named, registered, other_rows, marked_left}

-- the first id, and the others
pub record Ascends (least id : ℕ) (ids : List ℕ) (next : ℕ) : Type 0 where
  pub from : least ≤ id
  pub below : id < next
  pub rest : are_ascending (id + 1) ids next ≡ true

pub ascends : (least id : ℕ) (ids : List ℕ) (next : ℕ) → are_ascending least (id ∷ ids) next ≡ true → Ascends least id ids next
ascends least id ids next h = record { from = grind (arith, nat_tests); below = grind (arith, nat_tests); rest = grind (arith, nat_tests) }

pub ascending_cons : (least id : ℕ) (ids : List ℕ) (next : ℕ) → least ≤ id → id < next → are_ascending (id + 1) ids next ≡ true → are_ascending least (id ∷ ids) next ≡ true
ascending_cons least id ids next le lt rest = grind (arith, nat_tests)

-- less may be asked of the first id
pub ascending_lower : (low least : ℕ) (ids : List ℕ) (next : ℕ) → low ≤ least → are_ascending least ids next ≡ true → are_ascending low ids next ≡ true
ascending_lower low least [] next le h = refl
ascending_lower low least (id ∷ ids) next le h =
    let a = ascends least id ids next h in ascending_cons low id ids next (omega (arith, a.from)) a.below a.rest

-- the next id comes last
pub ascending_push : (least : ℕ) (ids : List ℕ) (next : ℕ) → least ≤ next → are_ascending least ids next ≡ true → are_ascending least (ids ++ next ∷ []) (next + 1) ≡ true
ascending_push least [] next le h = ascending_cons least next [] (next + 1) le (omega arith) refl
ascending_push least (id ∷ ids) next le h =
    let a = ascends least id ids next h in
    ascending_cons least id (ids ++ next ∷ []) (next + 1) a.from (omega (arith, a.below)) (ascending_push (id + 1) ids next (omega (arith, a.below)) a.rest)

-- the id at a place
pub id_at : (least : ℕ) (rows : List NodeRow) (next : ℕ) → are_ascending least (ids_of rows) next ≡ true → (at : ℕ) (d : NodeRow) → at < length rows → (least ≤ (get_or rows at d).id) × ((get_or rows at d).id < next)
id_at least [] next h at d lt = absurd (omega arith)
id_at least (row ∷ rows) next h zero d lt = let a = ascends least row.id (ids_of rows) next h in (a.from, a.below)
id_at least (row ∷ rows) next h (suc at) d lt =
    let a = ascends least row.id (ids_of rows) next h in
    let i = id_at (row.id + 1) rows next a.rest at d (omega arith) in
    (omega (arith, i.0, a.from), i.1)

other : (m n : ℕ) → m < n → (m == n) ≡ false
other m n lt = grind (arith, nat_tests)

other' : (m n : ℕ) → m < n → (n == m) ≡ false
other' m n lt = grind (arith, nat_tests)

same : (m : ℕ) → (m == m) ≡ true
same m = grind (arith, nat_tests)

-- the rows after one
pub other_rows-later : (least : ℕ) (rows : List NodeRow) (next n : ℕ) → are_ascending least (ids_of rows) next ≡ true → n < least → other_rows rows n ≡ rows
other_rows-later least [] next n h lt = refl
other_rows-later least (row ∷ rows) next n h lt =
    let a = ascends least row.id (ids_of rows) next h in
    rw (other' n row.id (omega (arith, a.from))) (ap (λ rest. row ∷ rest) (other_rows-later (row.id + 1) rows next n a.rest (omega (arith, a.from))))

pub marked_left-later : (least : ℕ) (rows : List NodeRow) (next n : ℕ) → are_ascending least (ids_of rows) next ≡ true → n < least → marked_left rows n ≡ rows
marked_left-later least [] next n h lt = refl
marked_left-later least (row ∷ rows) next n h lt =
    let a = ascends least row.id (ids_of rows) next h in
    rw (other' n row.id (omega (arith, a.from))) (ap (λ rest. row ∷ rest) (marked_left-later (row.id + 1) rows next n a.rest (omega (arith, a.from))))

-- the row of a node, by its place
pub row_of-at : (least : ℕ) (rows : List NodeRow) (next : ℕ) → are_ascending least (ids_of rows) next ≡ true → (at : ℕ) (d : NodeRow) → at < length rows → row_of rows (get_or rows at d).id ≡ Some (get_or rows at d)
row_of-at least [] next h at d lt = absurd (omega arith)
row_of-at least (row ∷ rows) next h zero d lt = rw (same row.id) refl
row_of-at least (row ∷ rows) next h (suc at) d lt =
    let a = ascends least row.id (ids_of rows) next h in
    let i = id_at (row.id + 1) rows next a.rest at d (omega arith) in
    rw (other row.id (get_or rows at d).id (omega (arith, i.0))) (row_of-at (row.id + 1) rows next a.rest at d (omega arith))

-- the other rows
pub other_rows-at : (least : ℕ) (rows : List NodeRow) (next : ℕ) → are_ascending least (ids_of rows) next ≡ true → (at : ℕ) (d : NodeRow) → at < length rows → other_rows rows (get_or rows at d).id ≡ remove rows at
other_rows-at least [] next h at d lt = absurd (omega arith)
other_rows-at least (row ∷ rows) next h zero d lt =
    let a = ascends least row.id (ids_of rows) next h in
    rw (same row.id) (other_rows-later (row.id + 1) rows next row.id a.rest (omega arith))
other_rows-at least (row ∷ rows) next h (suc at) d lt =
    let a = ascends least row.id (ids_of rows) next h in
    let i = id_at (row.id + 1) rows next a.rest at d (omega arith) in
    rw (other row.id (get_or rows at d).id (omega (arith, i.0))) (ap (λ rest. row ∷ rest) (other_rows-at (row.id + 1) rows next a.rest at d (omega arith)))

-- the rows with the mark
pub marked_left-at : (least : ℕ) (rows : List NodeRow) (next : ℕ) → are_ascending least (ids_of rows) next ≡ true → (at : ℕ) (d : NodeRow) → at < length rows → marked_left rows (get_or rows at d).id ≡ set rows at (record (get_or rows at d) { left = true })
marked_left-at least [] next h at d lt = absurd (omega arith)
marked_left-at least (row ∷ rows) next h zero d lt =
    let a = ascends least row.id (ids_of rows) next h in
    rw (same row.id, marked_left-later (row.id + 1) rows next row.id a.rest (omega arith)) refl
marked_left-at least (row ∷ rows) next h (suc at) d lt =
    let a = ascends least row.id (ids_of rows) next h in
    let i = id_at (row.id + 1) rows next a.rest at d (omega arith) in
    rw (other row.id (get_or rows at d).id (omega (arith, i.0))) (ap (λ rest. row ∷ rest) (marked_left-at (row.id + 1) rows next a.rest at d (omega arith)))

-- the ids of the rows without one
pub ascending-other_rows : (least : ℕ) (rows : List NodeRow) (next n : ℕ) → are_ascending least (ids_of rows) next ≡ true → are_ascending least (ids_of (other_rows rows n)) next ≡ true
ascending-other_rows least [] next n h = refl
ascending-other_rows least (row ∷ rows) next n h =
    let a = ascends least row.id (ids_of rows) next h in
    let rest = ascending-other_rows (row.id + 1) rows next n a.rest in
    by (row.id == n) refl a.from a.below rest
  where
    by : (b : Bool) → (row.id == n) ≡ b → least ≤ row.id → row.id < next → are_ascending (row.id + 1) (ids_of (other_rows rows n)) next ≡ true → are_ascending least (ids_of (other_rows (row ∷ rows) n)) next ≡ true
    by true e le lt rest = rw e (ascending_lower least (row.id + 1) (ids_of (other_rows rows n)) next (omega arith) rest)
    by false e le lt rest = rw e (ascending_cons least row.id (ids_of (other_rows rows n)) next le lt rest)

-- a mark leaves ids and names
pub ids-marked_left : (rows : List NodeRow) (n : ℕ) → ids_of (marked_left rows n) ≡ ids_of rows
ids-marked_left [] n = refl
ids-marked_left (row ∷ rows) n = by (row.id == n) refl (ids-marked_left rows n)
  where
    by : (b : Bool) → (row.id == n) ≡ b → ids_of (marked_left rows n) ≡ ids_of rows → ids_of (marked_left (row ∷ rows) n) ≡ ids_of (row ∷ rows)
    by true e rest = rw e (ap (λ ids. row.id ∷ ids) rest)
    by false e rest = rw e (ap (λ ids. row.id ∷ ids) rest)

pub names-marked_left : (rows : List NodeRow) (n : ℕ) → node_names (marked_left rows n) ≡ node_names rows
names-marked_left [] n = refl
names-marked_left (row ∷ rows) n = by (row.id == n) refl (names-marked_left rows n)
  where
    by : (b : Bool) → (row.id == n) ≡ b → node_names (marked_left rows n) ≡ node_names rows → node_names (marked_left (row ∷ rows) n) ≡ node_names (row ∷ rows)
    by true e rest = rw e (ap (λ names. row.name ∷ names) rest)
    by false e rest = rw e (ap (λ names. row.name ∷ names) rest)

-- a name that is not among some is not among fewer
absent-other_rows : (rows : List NodeRow) (n : ℕ) (name : List ℕ) → is_member bytes_eq (node_names rows) name ≡ false → is_member bytes_eq (node_names (other_rows rows n)) name ≡ false
absent-other_rows [] n name h = refl
absent-other_rows (row ∷ rows) n name h =
    by (row.id == n) refl (absent-other_rows rows n name (or_right (bytes_eq name row.name) (is_member bytes_eq (node_names rows) name) h)) (or_left (bytes_eq name row.name) (is_member bytes_eq (node_names rows) name) h)
  where
    or_right : (a b : Bool) → (a || b) ≡ false → b ≡ false
    or_right a b h = grind arith

    or_left : (a b : Bool) → (a || b) ≡ false → a ≡ false
    or_left a b h = grind arith

    by : (b : Bool) → (row.id == n) ≡ b → is_member bytes_eq (node_names (other_rows rows n)) name ≡ false → bytes_eq name row.name ≡ false → is_member bytes_eq (node_names (other_rows (row ∷ rows) n)) name ≡ false
    by true e rest here = rw e rest
    by false e rest here = rw (e, here) rest

-- the names of the rows without one
pub distinct-other_rows : (rows : List NodeRow) (n : ℕ) → names_are_distinct (node_names rows) ≡ true → names_are_distinct (node_names (other_rows rows n)) ≡ true
distinct-other_rows [] n h = refl
distinct-other_rows (row ∷ rows) n h =
    by (row.id == n) refl (distinct-other_rows rows n (and_right (is_member bytes_eq (node_names rows) row.name) (names_are_distinct (node_names rows)) h)) (absent-other_rows rows n row.name (and_left (is_member bytes_eq (node_names rows) row.name) (names_are_distinct (node_names rows)) h))
  where
    and_right : (a b : Bool) → (not a && b) ≡ true → b ≡ true
    and_right a b h = grind arith

    and_left : (a b : Bool) → (not a && b) ≡ true → a ≡ false
    and_left a b h = grind arith

    by : (b : Bool) → (row.id == n) ≡ b → names_are_distinct (node_names (other_rows rows n)) ≡ true → is_member bytes_eq (node_names (other_rows rows n)) row.name ≡ false → names_are_distinct (node_names (other_rows (row ∷ rows) n)) ≡ true
    by true e rest here = rw e rest
    by false e rest here = rw (e, here) rest

member-append : (names more : List (List ℕ)) (name : List ℕ) → is_member bytes_eq (names ++ more) name ≡ (is_member bytes_eq names name || is_member bytes_eq more name)
member-append [] more name = refl
member-append (x ∷ names) more name = by (bytes_eq name x) refl (member-append names more name)
  where
    by : (b : Bool) → bytes_eq name x ≡ b → is_member bytes_eq (names ++ more) name ≡ (is_member bytes_eq names name || is_member bytes_eq more name) → is_member bytes_eq ((x ∷ names) ++ more) name ≡ (is_member bytes_eq (x ∷ names) name || is_member bytes_eq more name)
    by true e rest = rw e refl
    by false e rest = rw e rest

-- a name that is among those before it comes twice
pub distinct-twice : (names more : List (List ℕ)) (name : List ℕ) → is_member bytes_eq names name ≡ true → names_are_distinct (names ++ name ∷ more) ≡ false
distinct-twice [] more name h = absurd (true≢false (sym h))
distinct-twice (x ∷ names) more name h = by (bytes_eq name x) refl (distinct-twice names more name)
  where
    last : (a b : Bool) → b ≡ false → (not a && b) ≡ false
    last a b e = grind arith

    first : (a b : Bool) → a ≡ true → (not a && b) ≡ false
    first a b e = grind arith

    member : (a b : Bool) → b ≡ true → (a || b) ≡ true
    member a b e = grind arith

    by : (b : Bool) → bytes_eq name x ≡ b → (is_member bytes_eq names name ≡ true → names_are_distinct (names ++ name ∷ more) ≡ false) → names_are_distinct ((x ∷ names) ++ name ∷ more) ≡ false
    by true e rest =
        let flipped : bytes_eq x name ≡ true = nat_list_eq_equiv.symm x name ∙ e in
        let here : is_member bytes_eq (name ∷ more) x ≡ true = rw flipped refl in
        first (is_member bytes_eq (names ++ name ∷ more) x) (names_are_distinct (names ++ name ∷ more)) (member-append names (name ∷ more) x ∙ member (is_member bytes_eq names x) (is_member bytes_eq (name ∷ more) x) here)
    by false e rest =
        let there : is_member bytes_eq names name ≡ true = rw e at h in
        last (is_member bytes_eq (names ++ name ∷ more) x) (names_are_distinct (names ++ name ∷ more)) (rest there)

-- a new name comes last
pub distinct-push : (names : List (List ℕ)) (name : List ℕ) → names_are_distinct names ≡ true → is_member bytes_eq names name ≡ false → names_are_distinct (names ++ name ∷ []) ≡ true
distinct-push [] name h new = refl
distinct-push (x ∷ names) name h new = by (bytes_eq name x) refl (distinct-push names name)
  where
    first : (a b : Bool) → (not a && b) ≡ true → a ≡ false
    first a b e = grind arith

    last : (a b : Bool) → (not a && b) ≡ true → b ≡ true
    last a b e = grind arith

    by : (b : Bool) → bytes_eq name x ≡ b → (names_are_distinct names ≡ true → is_member bytes_eq names name ≡ false → names_are_distinct (names ++ name ∷ []) ≡ true) → names_are_distinct ((x ∷ names) ++ name ∷ []) ≡ true
    by true e rest = let no : true ≡ false = rw e at new in absurd (true≢false no)
    by false e rest =
        let flipped : bytes_eq x name ≡ false = nat_list_eq_equiv.symm x name ∙ e in
        let apart : is_member bytes_eq names x ≡ false = first (is_member bytes_eq names x) (names_are_distinct names) h in
        let others : is_member bytes_eq names name ≡ false = rw e at new in
        let absent : is_member bytes_eq (names ++ name ∷ []) x ≡ false = rw (member-append names (name ∷ []) x, apart, flipped) refl in
        rw absent (rest (last (is_member bytes_eq names x) (names_are_distinct names) h) others)

-- a node with the name is found exactly where the name is among those of the rows
pub is_some-named : (rows : List NodeRow) (name : List ℕ) → is_some (find (λ row. bytes_eq name row.name) rows) ≡ is_member bytes_eq (node_names rows) name
is_some-named [] name = refl
is_some-named (row ∷ rows) name = by (bytes_eq name row.name) refl (is_some-named rows name)
  where
    by : (b : Bool) → bytes_eq name row.name ≡ b → is_some (find (λ row. bytes_eq name row.name) rows) ≡ is_member bytes_eq (node_names rows) name → is_some (find (λ row. bytes_eq name row.name) (row ∷ rows)) ≡ is_member bytes_eq (node_names (row ∷ rows)) name
    by true e rest = rw e refl
    by false e rest = rw e rest

-- what is asked of the ids from a row on
pub ascending_more : (least : ℕ) (rows : List NodeRow) (next at : ℕ) (row : NodeRow) → at < length rows → row ≡ get_or rows at row → are_ascending least (ids_of (drop at rows)) next ≡ (nat_le least row.id && nat_lt row.id next && are_ascending (row.id + 1) (ids_of (drop (at + 1) rows)) next)
ascending_more least rows next at row lt e =
    let more : drop at rows ≡ get_or rows at row ∷ drop (at + 1) rows = drop_more rows at row lt in
    rw (more, ← e) refl

is_some-option_map : {A B : Type 0} (f : A → B) (o : Option A) → is_some (option_map f o) ≡ is_some o
is_some-option_map f None = refl
is_some-option_map f (Some x) = refl

-- a name that no node has is not among those of the rows
pub absent-from_free : (rows : List NodeRow) (name : List ℕ) → node_named rows name ≡ None → is_member bytes_eq (node_names rows) name ≡ false
absent-from_free rows name free =
    sym (is_some-named rows name) ∙ sym (is_some-option_map (λ (row : NodeRow). row.id) (find (λ row. bytes_eq name row.name) rows)) ∙ ap is_some free

-- both parts of what a directory keeps
pub ids-ascend : (least : ℕ) (rows : List NodeRow) (next : ℕ) → IsTrue (is_directory least rows next) → are_ascending least (ids_of rows) next ≡ true
ids-ascend least rows next h = by (are_ascending least (ids_of rows) next) (names_are_distinct (node_names rows)) h
  where
    by : (a b : Bool) → (a && b) ≡ true → a ≡ true
    by a b h = grind arith

pub names-distinct : (least : ℕ) (rows : List NodeRow) (next : ℕ) → IsTrue (is_directory least rows next) → names_are_distinct (node_names rows) ≡ true
names-distinct least rows next h = by (are_ascending least (ids_of rows) next) (names_are_distinct (node_names rows)) h
  where
    by : (a b : Bool) → (a && b) ≡ true → b ≡ true
    by a b h = grind arith

pub directory_from : (least : ℕ) (rows : List NodeRow) (next : ℕ) → are_ascending least (ids_of rows) next ≡ true → names_are_distinct (node_names rows) ≡ true → IsTrue (is_directory least rows next)
directory_from least rows next ids names = rw (ids, names) refl

-- a directory with one more node, with one less, and with a mark
pub directory-registered : (d : Registry) (name dc rack : List ℕ) → IsTrue (is_directory 0 d.rows d.next) → node_named d.rows name ≡ None → IsTrue (is_directory 0 (registered d name dc rack).rows (registered d name dc rack).next)
directory-registered d name dc rack h free =
    let row : NodeRow = record { id = d.next; name = name; dc = dc; rack = rack; left = false } in
    let ids : ids_of (d.rows ++ row ∷ []) ≡ ids_of d.rows ++ d.next ∷ [] = map-append (λ (r : NodeRow). r.id) d.rows (row ∷ []) in
    let names : node_names (d.rows ++ row ∷ []) ≡ node_names d.rows ++ name ∷ [] = map-append (λ (r : NodeRow). r.name) d.rows (row ∷ []) in
    directory_from 0 (d.rows ++ row ∷ []) (d.next + 1) (rw ids (ascending_push 0 (ids_of d.rows) d.next (omega arith) (ids-ascend 0 d.rows d.next h))) (rw names (distinct-push (node_names d.rows) name (names-distinct 0 d.rows d.next h) (absent-from_free d.rows name free)))

pub directory-other_rows : (rows : List NodeRow) (next n : ℕ) → IsTrue (is_directory 0 rows next) → IsTrue (is_directory 0 (other_rows rows n) next)
directory-other_rows rows next n h =
    directory_from 0 (other_rows rows n) next (ascending-other_rows 0 rows next n (ids-ascend 0 rows next h)) (distinct-other_rows rows n (names-distinct 0 rows next h))

pub directory-marked_left : (rows : List NodeRow) (next n : ℕ) → IsTrue (is_directory 0 rows next) → IsTrue (is_directory 0 (marked_left rows n) next)
directory-marked_left rows next n h =
    directory_from 0 (marked_left rows n) next (rw ids-marked_left (ids-ascend 0 rows next h)) (rw names-marked_left (names-distinct 0 rows next h))

-- the name of a row is not among those before it
pub new-name : (done : List NodeRow) (row : NodeRow) (rest : List NodeRow) → names_are_distinct (node_names (done ++ row ∷ rest)) ≡ true → is_member bytes_eq (node_names done) row.name ≡ false
new-name done row rest h = by (is_member bytes_eq (node_names done) row.name) refl
  where
    names : node_names (done ++ row ∷ rest) ≡ node_names done ++ row.name ∷ node_names rest
    names = map-append (λ (r : NodeRow). r.name) done (row ∷ rest)

    by : (b : Bool) → is_member bytes_eq (node_names done) row.name ≡ b → is_member bytes_eq (node_names done) row.name ≡ false
    by false e = e
    by true e = absurd (true≢false (sym h ∙ ap names_are_distinct names ∙ distinct-twice (node_names done) (node_names rest) row.name e))

-- the rows up to a place, and with the row there
pub distinct-stop : (rows : List NodeRow) (at : ℕ) (row : NodeRow) → at < length rows → row ≡ get_or rows at row → is_member bytes_eq (node_names (take at rows)) row.name ≡ true → names_are_distinct (node_names rows) ≡ false
distinct-stop rows at row lt e twice =
    let parts : take at rows ++ row ∷ drop (at + 1) rows ≡ rows = rw (ap (λ (r : NodeRow). r ∷ drop (at + 1) rows) e ∙ sym (drop_more rows at row lt)) (take-append-drop at rows) in
    let names : node_names (take at rows ++ row ∷ drop (at + 1) rows) ≡ node_names (take at rows) ++ row.name ∷ node_names (drop (at + 1) rows) = map-append (λ (r : NodeRow). r.name) (take at rows) (row ∷ drop (at + 1) rows) in
    sym (ap (λ rows. names_are_distinct (node_names rows)) parts) ∙ ap names_are_distinct names ∙ distinct-twice (node_names (take at rows)) (node_names (drop (at + 1) rows)) row.name twice

pub distinct-more : (rows : List NodeRow) (at : ℕ) (row : NodeRow) → at < length rows → row ≡ get_or rows at row → is_member bytes_eq (node_names (take at rows)) row.name ≡ false → names_are_distinct (node_names (take at rows)) ≡ true → names_are_distinct (node_names (take (at + 1) rows)) ≡ true
distinct-more rows at row lt e new h =
    let more : take (at + 1) rows ≡ take at rows ++ row ∷ [] = take_more rows at row lt ∙ ap (λ (r : NodeRow). take at rows ++ r ∷ []) (sym e) in
    let names : node_names (take at rows ++ row ∷ []) ≡ node_names (take at rows) ++ row.name ∷ [] = map-append (λ (r : NodeRow). r.name) (take at rows) (row ∷ []) in
    rw (more, names) (distinct-push (node_names (take at rows)) row.name h new)

-- a loop over rows with distinct names
pub ruleset row_steps = (distinct-stop, distinct-more)
