use Rattle.std.proofs.Common.{◌≡◌, ℕ, List, [], ◌∷◌, ◌++◌, Option, length, refl, sym, ap, ◌∙◌, subst, append-nil, true≢false, rules}
use Rattle.std.specs.Vec.{vec_len}
use Rattle.std.specs.Option.{option_copied}
use Rattle.tcm_edges.specs.Files.{Files}
use Rattle.tcm_edges.proofs.ShownLemmas.{left_same}
use Rattle.script_session.specs.LogFiles.{entry_lines}
use Rattle.script_session.specs.Machine.{SessionState, entries_added, reply}
use Rattle.tcm_session.specs.Left.{StopsNext}
use Rattle.tcm_session.specs.code.Endings.{ending_lines, ending_text}
use Rattle.tcm_session.specs.code.Stops.{Stopped}
use Rattle.tcm_session.specs.declared.scripts.pieces.ReadEnd.TheVariants as end
use Rattle.tcm_session.specs.Limits.{too_large_text}
use Rattle.tcm_session.proofs.runs.StopLemmas.{Stopped-told, err_map, on_fault, stopped_text}
use Rattle.tcm_session.proofs.scripts.commit.finish.Goals as goal

pub returns-in-PastLimit-clause-stopped : goal.returns-in-PastLimit-clause-stopped
returns-in-PastLimit-clause-stopped g c =
    let writes = rw c.as_bytes.ensures.value at c.print_text.ensures in
    rw c.in-PastLimit.is (on_fault _ c.print_text.result (λ left may.
    Stopped-told _ _ _ _ _ _ left (left_same g.D.Store.files g.D.Store.shows c.args.store.now c.args.store.now left refl may)
    (stopped_text too_large_text (option_copied c.args.script.now.log) _ _ (g.D.Store.files c.args.store.now) writes.part)))

-- a line that lacks its line feed is the last one
at_end : (session : SessionState) (begun : List ℕ) (name w w' : Option (List ℕ)) (f left : Option Files) → (begun ≡ [] → ⊥)
    → Stopped (StopsNext (reply session begun).text (entry_lines (reply session begun).added)) name w w' f left
    → Stopped (StopsNext (ending_text end.AtEnd session begun) (entry_lines (entries_added session (ending_lines end.AtEnd begun)))) name w w' f left
at_end session [] name w w' f left some s = absurd (some refl)
at_end session (byte ∷ begun) name w w' f left some s =
    let r = reply session (byte ∷ begun) in
    subst (λ t. Stopped (StopsNext t (entry_lines (r.added ++ []))) name w w' f left) (sym (append-nil r.text))
    (subst (λ es. Stopped (StopsNext r.text (entry_lines es)) name w w' f left) (sym (append-nil r.added)) s)

pub returns-in-AtEnd-2-clause-stopped : goal.returns-in-AtEnd-2-clause-stopped
returns-in-AtEnd-2-clause-stopped g c =
    let begun = c.args.script.now.begun in
    let count : vec_len begun ≡ length begun.items = search rules in
    let some : begun.items ≡ [] → ⊥ = λ none. true≢false (sym (rw (count ∙ ap length none) at c.is_empty.ensures) ∙ c.if-is_empty.false) in
    rw c.in-AtEnd.is (err_map c.answer_begun.result (λ each left may. at_end _ _ _ _ _ _ left some (each left may)) c.answer_begun.ensures.stopped)
