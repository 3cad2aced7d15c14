-- Files with a plan of the calls that are to fail.
use Rattle.std.specs.Prelude.{ℕ, List, ◌++◌, ◌==◌, length, if◌then◌else◌, refl}
use Rattle.std.specs.Coded.{Coded, code_by, coded×, coded_ℕ, coded_list}
use Rattle.std.specs.FinMap as map
use Rattle.tcm_edges.specs.declared.store_fail.StoreFail.{StoreFail}
use Rattle.tcm_edges.specs.Calls.{Plan}
use Rattle.tcm_edges.specs.Files.{Files, content, file_of}

-- the files, and the plan of the calls
pub record FailingFiles : Type 0 where
  pub files : Files
  pub plan : Plan StoreFail

-- the files after bytes were added at the end of a file; an absent file is made
abbrev pub after_append : Files → List ℕ → List ℕ → Files
after_append all name bytes = map.insert all name (content (file_of all name) ++ bytes)

-- the files after a failed append that kept these bytes; if it kept none, an absent file stays absent
abbrev pub after_failed_append : Files → List ℕ → List ℕ → Files
after_failed_append all name kept = if length kept == 0 then all else after_append all name kept

-- the files after a failed replace that was to keep this many bytes: as before if it is 0, else with the new contents
abbrev pub after_failed_replace : Files → List ℕ → List ℕ → ℕ → Files
after_failed_replace all name bytes keep = if keep == 0 then all else map.insert all name bytes

-- how proofs tell two failures apart: no promise rests on it
abbrev pub store_fail_code : Coded StoreFail
store_fail_code = code_by (ℕ × ℕ) (coded× coded_ℕ coded_ℕ) (λ fail. (fail.call, fail.keep)) (λ p. record { call = p.0; keep = p.1 }) (λ _. refl)

-- how proofs tell two such stores apart: no promise rests on it
abbrev pub failing_files_code : Coded FailingFiles
failing_files_code =
    code_by (Files × (List StoreFail × (ℕ × ℕ))) (coded× (map.code (coded_list coded_ℕ) (coded_list coded_ℕ)) (coded× (coded_list store_fail_code) (coded× coded_ℕ coded_ℕ)))
    (λ f. (f.files, (f.plan.fails, (f.plan.made, f.plan.faults)))) (λ p. record { files = p.0; plan = record { fails = p.1.0; made = p.1.1.0; faults = p.1.1.1 } }) (λ _. refl)
