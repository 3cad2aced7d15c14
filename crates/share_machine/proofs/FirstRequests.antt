-- A script line comes to a request; an offer stands where its line does.
use Rattle.std.proofs.Common.{◌≡◌, ◌≢◌, ℕ, Bool, true, false, if◌then◌else◌, List, [], ◌∷◌, Some, Err, refl, ap, ◌∙◌, sym, subst}
use Rattle.std.proofs.lemmas.Slice.Eq.{bytes_eq-Decides}
use Rattle.std.specs.Str.{bytes_eq}
use Rattle.transformations.specs.declared.entry.Entry.{Entry}
use Rattle.script_session.specs.LogFiles.{header_cause, next_entry}
use Rattle.script_session.specs.Machine.{reply}
use Rattle.script_session.specs.declared.refused_line.Cause.{Cause}
use Rattle.share_machine.specs.Sharing.{Asked, PutEntry, Read, Script, Sharing, Stands, Store, Turn, begins, offers_or, once_told, reads, taken_over, turn_by, turn_of, with_entry, with_header}

-- a turn that asks, and leaves the session as it was
pub record Asks (s : Sharing) (t : Turn) : Type 0 where
  pub waits : t.after.waits ≢ Script
  pub session : t.after.session ≡ s.session

not_script : (line : List ℕ) (asked : Asked) → Store line asked ≢ Script
not_script line asked e = absurd (cc)

begins_asks : (s : Sharing) (line : List ℕ) → Asks s (begins s line)
begins_asks s line = by s.headed (reply s.session line).added
  where
    by : (b : Bool) (added : List Entry) → Asks s (if b then offers_or (reads s line) s line (reply s.session line).text added else reads s line)
    by true [] = record { waits = not_script line _; session = refl }
    by true (entry ∷ more) = record { waits = not_script line _; session = refl }
    by false added = record { waits = not_script line _; session = refl }

pub script_asks : (cluster : List ℕ) (s : Sharing) (bytes : List ℕ) → s.waits ≡ Script → Asks s (turn_of cluster s bytes)
unfolding turn_of
script_asks cluster s bytes waits = subst (λ w. Asks s (turn_by cluster s bytes w)) (sym waits) (begins_asks s bytes)

pub stands_where_offered : (text answer first : List ℕ) → once_told (PutEntry text answer) first ≡ Stands answer → text ≡ first
stands_where_offered text answer first is = by (bytes_eq text first) refl is
  where
    by : (b : Bool) → bytes_eq text first ≡ b → (if b then Stands answer else Read) ≡ Stands answer → text ≡ first
    by true e is = (bytes_eq-Decides text first).0 e
    by false e is = absurd (cc)

pub other_header : (cluster : List ℕ) (s : Sharing) (text : List ℕ) (cause : Cause) → s.headed ≡ false → header_cause (Some cluster) text ≡ Some cause → taken_over cluster s text ≡ Err cause
other_header cluster s text cause headed is =
    ap (λ b. if b then with_entry s (next_entry s.session.log text) else with_header s (header_cause (Some cluster) text)) headed ∙ ap (with_header s) is
