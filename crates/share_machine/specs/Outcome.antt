-- The outcome of `share CLUSTER`, whose input has script lines and replies of the store.
use Rattle.std.specs.Prelude.{ℕ, List, [], ◌∷◌, ◌++◌}
use Rattle.script_session.specs.Lines.{open_line, whole_lines}
use Rattle.share_machine.specs.Requests.{no_end_text}
use Rattle.share_machine.specs.Sharing.{Sharing, Waits, Script, Store, Nothing, new_sharing, next_place, share_after, share_texts}

-- the outcome: the status, and all bytes that are printed, requests and answers
pub record ShareOutcome : Type 0 where
  pub status : ℕ
  pub printed : List ℕ

-- the outcome at the end of the input, with the bytes that were printed before and those that came after the last line
-- feed. The input ends between script lines, or else within a line or a reply; a process that has refused a line has
-- ended before
abbrev pub ended : Sharing → List ℕ → List ℕ → Waits → ShareOutcome
ended s printed [] Script = record { status = 0; printed = printed }
ended s printed (byte ∷ rest) Script = record { status = 3; printed = printed ++ no_end_text (next_place s) }
ended s printed rest (Store line asked) = record { status = 3; printed = printed ++ no_end_text (next_place s) }
ended s printed rest Nothing = record { status = 3; printed = printed }

-- the outcome of `share` over an input
unfoldable pub share_outcome : List ℕ → List ℕ → ShareOutcome
share_outcome cluster input =
    let s = share_after cluster new_sharing (whole_lines input) in
    ended s (share_texts cluster new_sharing (whole_lines input)) (open_line input) s.waits
