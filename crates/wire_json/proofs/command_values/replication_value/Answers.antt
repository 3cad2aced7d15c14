use Rattle.std.proofs.Common.{◌≡◌, Bor, List, ℕ, ◌++◌, Result, Ok, Err, MatchResult, IsUtf8, subst, sym, ap, ◌∙◌, rules}
use Rattle.std.specs.Result.{IsOk}
use Rattle.cluster_terms.specs.ReplicationText.{text_of}
use Rattle.wire_json.proofs.json_values.TextBytes.{IsUtf8-replication}
use Rattle.wire_json.proofs.command_values.replication_value.Goals as goal

-- a text that is UTF-8 is read
there : {E : Type 0} (bytes : List ℕ) (Q : E → Type 0) (r : Result (Bor (List ℕ)) E) → MatchResult r (λ s. (s.now ≡ bytes) × IsUtf8 bytes) (λ e. (IsUtf8 bytes → ⊥) × Q e) → IsUtf8 bytes → IsOk r
there bytes Q (Ok x) h utf8 = search (rules)
there bytes Q (Err e) h utf8 = absurd (h.0 utf8)

pub unwrap-text-requires : goal.unwrap-text-requires
unwrap-text-requires c =
    let written = c.in_ok-write.ensures in
    let bytes : c.as_slice.result.now ≡ text_of c.args.replication.now = c.as_slice.ensures ∙ written.text ∙ ap (λ (front : List ℕ). front ++ text_of c.args.replication.now) c.empty-text.ensures in
    let utf8 = IsUtf8-replication c.args.replication.now written.valid in
    there c.as_slice.result.now _ c.from_utf8.result c.from_utf8.ensures.cases (subst IsUtf8 (sym bytes) utf8)
