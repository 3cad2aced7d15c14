-- The bytes of names and of replications' texts: they are ASCII, and few.
use Rattle.std.proofs.Common.{◌≡◌, ℕ, ◌+◌, ◌*◌, ◌≤◌, ◌&&◌, true, List, [], ◌∷◌, ◌++◌, length, flat_map, nat_le, decimal, codes, arith, length-append, IsTrue, IsUtf8, refl}
use Rattle.std.specs.List.{All, list_all}
use Rattle.std.specs.Str.{IsAscii}
use Rattle.std.proofs.lemmas.Bool.{and_parts}
use Rattle.std.proofs.lemmas.Bool.Decides.{nat_tests}
use Rattle.std.proofs.lemmas.Fmt.{IsAscii-decimal, length-decimal-le}
use Rattle.std.proofs.lemmas.List.Elements.{All-head, All-tail}
use Rattle.std.proofs.lemmas.Str.{IsAscii-append, IsUtf8-from_ascii}
use Rattle.std.proofs.lemmas.Str.Ascii.{IsAscii-nil, IsAscii-cons}
use Rattle.std.specs.Prelude.{nat_lt}
use Rattle.cluster_terms.specs.Factors.{IsFactorRow}
use Rattle.cluster_terms.specs.Name.{is_name, is_name_byte}
use Rattle.cluster_terms.specs.Replication.{IsReplication}
use Rattle.cluster_terms.specs.ReplicationText.{row_text, text_of}
use Rattle.cluster_terms.specs.Rf.{IsFactor}
use Rattle.cluster_terms.specs.declared.replication.Replication.{Replication}
use Rattle.cluster_terms.specs.declared.replication.Replication.TheVariants.{Simple, Topology}

-- a text is ASCII, and has at most so many bytes
abbrev pub IsShort : ℕ → List ℕ → Type 0
IsShort n text = IsAscii text × (length text ≤ n)

IsShort-append : (m n : ℕ) (s t : List ℕ) → IsShort m s → IsShort n t → IsShort (m + n) (s ++ t)
IsShort-append m n s t f g = (IsAscii-append s t f.0 g.0, omega (arith, length-append s t))

-- a text whose bytes are tested to be ASCII
IsAscii-tested : (text : List ℕ) → list_all (λ b. nat_lt b 128) text ≡ true → IsAscii text
IsAscii-tested [] all = IsAscii-nil
IsAscii-tested (c ∷ cs) all = let parts = and_parts (nat_lt c 128) (list_all (λ b. nat_lt b 128) cs) all in IsAscii-cons c cs (grind (arith, nat_tests, parts.0)) (IsAscii-tested cs parts.1)

-- names
name_bytes : (text : List ℕ) → list_all is_name_byte text ≡ true → IsAscii text
name_bytes [] all = IsAscii-nil
name_bytes (c ∷ cs) all =
    let parts = and_parts (is_name_byte c) (list_all is_name_byte cs) all in
    IsAscii-cons c cs (grind (arith, nat_tests, parts.0)) (name_bytes cs parts.1)

pub IsShort-name : (text : List ℕ) → IsTrue (is_name text) → IsShort 32 text
IsShort-name text name =
    let parts = and_parts (nat_le 1 (length text) && nat_le (length text) 32) (list_all is_name_byte text) name in
    (name_bytes text parts.1, grind (arith, nat_tests, parts.0))

-- replications
IsShort-factor : (n : ℕ) → IsFactor n → IsShort 2 (decimal n)
IsShort-factor n is = (IsAscii-decimal n (omega (arith, is.1)), length-decimal-le 2 n (omega arith) (omega (arith, is.1)) (omega (arith, is.1)))

IsShort-row : (row : List ℕ × ℕ) → IsFactorRow row → IsShort 36 (row_text row)
IsShort-row row is =
    IsShort-append 34 2 (codes " " ++ row.0 ++ codes ":") (decimal row.1)
    (IsShort-append 33 1 (codes " " ++ row.0) (codes ":")
    (IsShort-append 1 32 (codes " ") row.0 (IsAscii-tested (codes " ") refl, omega arith) (IsShort-name row.0 is.name))
    (IsAscii-tested (codes ":") refl, omega arith)) (IsShort-factor row.1 is.factor)

IsShort-rows : (rows : List (List ℕ × ℕ)) → All IsFactorRow rows → IsShort (36 * length rows) (flat_map row_text rows)
IsShort-rows [] all = (IsAscii-nil, omega arith)
IsShort-rows (row ∷ rows) all =
    let here = IsShort-row row (All-head IsFactorRow row rows all) in
    let rest = IsShort-rows rows (All-tail IsFactorRow row rows all) in
    let both = IsShort-append 36 (36 * length rows) (row_text row) (flat_map row_text rows) here rest in
    (both.0, omega (arith, both.1))

pub IsShort-replication : (r : Replication) → IsReplication r → IsShort 600 (text_of r)
unfolding text_of
IsShort-replication (Simple rf) is =
    let both = IsShort-append 7 2 (codes "simple ") (decimal rf) (IsAscii-tested (codes "simple ") refl, omega arith) (IsShort-factor rf is) in
    (both.0, omega (arith, both.1))
IsShort-replication (Topology factors) is =
    let both = IsShort-append 8 (36 * length factors) (codes "topology") (flat_map row_text factors) (IsAscii-tested (codes "topology") refl, omega arith) (IsShort-rows factors is.valid) in
    (both.0, omega (arith, both.1, is.few))

pub IsUtf8-replication : (r : Replication) → IsReplication r → IsUtf8 (text_of r)
IsUtf8-replication r is = IsUtf8-from_ascii (text_of r) (IsShort-replication r is).0

pub IsUtf8-tested : (text : List ℕ) → list_all (λ b. nat_lt b 128) text ≡ true → IsUtf8 text
IsUtf8-tested text all = IsUtf8-from_ascii text (IsAscii-tested text all)

pub IsUtf8-name : (text : List ℕ) → IsTrue (is_name text) → IsUtf8 text
IsUtf8-name text name = IsUtf8-from_ascii text (IsShort-name text name).0
