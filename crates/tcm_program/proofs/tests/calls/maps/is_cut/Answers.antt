use Rattle.std.proofs.Common.{◌≡◌, Bool, true, false, ◌||◌, ℤ, List, [], ◌∷◌, refl, ap, ◌∙◌}
use Rattle.std.specs.List.{cons_option, list_any}
use Rattle.std.specs.Ordering.{int_eq}
use Rattle.std.specs.Set.{is_member}
use Rattle.cluster_terms.specs.declared.token.RightEnd.{RightEnd}
use Rattle.cluster_terms.specs.declared.token.RightEnd.TheVariants.{At, Max}
use Rattle.range_placements.specs.Placements.{cut_of, cuts_of, is_cut_of}
use Rattle.range_placements.specs.declared.placement_row.PlacementRow.{PlacementRow}
use Rattle.tcm_program.proofs.tests.calls.maps.is_cut.Goals as goal

-- a token is a cut where a row ends at it
cut-any : (rows : List PlacementRow) (t : ℤ) → list_any (λ row. is_member int_eq (cuts_of (row ∷ [])) t) rows ≡ is_cut_of rows t
cut-any [] t = refl
cut-any (row ∷ rows) t = by row.right (cut-any rows t)
  where
    at : (b : Bool) (one other : Bool) → one ≡ other → ((b || false) || one) ≡ (b || other)
    at true one other same = refl
    at false one other same = same

    by : (right : RightEnd) → list_any (λ row. is_member int_eq (cuts_of (row ∷ [])) t) rows ≡ is_cut_of rows t
        → (is_member int_eq (cons_option (cut_of right) []) t || list_any (λ row. is_member int_eq (cuts_of (row ∷ [])) t) rows) ≡ is_member int_eq (cons_option (cut_of right) (cuts_of rows)) t
    by (At s) rest = at (int_eq t s) _ _ rest
    by Max rest = rest

pub returns : goal.returns
returns c = c.end_at.ensures ∙ ap (λ (rows : List PlacementRow). list_any (λ row. is_member int_eq (cuts_of (row ∷ [])) c.args.t) rows) c.rows.ensures.rows ∙ cut-any c.args.map.now c.args.t
