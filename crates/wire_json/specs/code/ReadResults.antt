-- Results of functions beside those of definitions.
use Rattle.std.specs.Prelude.{◌≡◌, Result, Ok, Err, ⊤}
use Rattle.wire_json.specs.declared.line.ReadLineFault.{ReadLineFault}
use Rattle.wire_json.specs.declared.line.ReadLineFault.TheVariants.{Bad, Memory}

-- the result of a function, seen through `view`, is the result given by a definition, unless memory ran out
abbrev pub Gives : {X Y : Type 0} → (X → Y) → Result X ReadLineFault → Result Y ReadLineFault → Type 0
Gives view (Ok x) given = given ≡ Ok (view x)
Gives view (Err Memory) given = ⊤
Gives view (Err (Bad rule)) given = given ≡ Err (Bad rule)
