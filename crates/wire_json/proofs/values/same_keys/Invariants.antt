use Rattle.std.proofs.Common.{◌≡◌, drop}
use Rattle.wire_json.proofs.json_values.KeysLemmas.{same_from}
use Rattle.wire_json.proofs.values.same_keys.Given as goal

abbrev pub invariant-loop-wanted : goal.invariant-loop-wanted
invariant-loop-wanted l = same_from l.initial.found l.keys ≡ same_from l.found (drop l.wanted-index l.keys)
