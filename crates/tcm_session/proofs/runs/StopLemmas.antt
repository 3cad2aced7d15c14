-- Lemmas on where a fault stops some lines.
use Rattle.std.proofs.Common.{◌≡◌, ◌≢◌, inl, inr, ℕ, List, [], ◌∷◌, ◌++◌, drop, length, take, Option, None, Some, Result, Ok, Err, OnErr, OnOk, refl, sym, ap, ◌∙◌, subst, append_assoc, append-nil, take-append-drop, arith}
use Rattle.std.specs.Io.{StartsWith}
use Rattle.std.specs.Io.KnownBytes.{Appends}
use Rattle.std.proofs.KnownBytes.{Appends-nil, Appends-trans, starts_with_rest}
use Rattle.std.proofs.Transfers.{starts_with_length, starts_with_of_append, starts_with_of_eq}
use Rattle.std.proofs.lemmas.Grind.{flat_map-append}
use Rattle.tcm_edges.specs.Files.{ChangesFile, Files, GainsPart, OthersKept, content, file_of}
use Rattle.tcm_edges.specs.Owed.{WritesPrefix}
use Rattle.tcm_edges.proofs.FileLemmas.{file_of-put, file_of-put_other}
use Rattle.transformations.specs.declared.entry.Entry.{Entry}
use Rattle.wire_json.specs.EntryTexts.{entry_line}
use Rattle.tcm_session.specs.Left.{StopsIn, StopsNext, next_added, next_text}
use Rattle.script_session.specs.LogFiles.{Gains, entry_lines}
use Rattle.script_session.specs.Machine.{Reply, SessionState, answers, entries_added, replied, reply, session_after}
use Rattle.script_session.specs.StepEnds.{Leaves}
use Rattle.tcm_session.specs.code.Stops.{Adds, GainsThese, Stopped, StopsThere}
use Rattle.script_session.specs.declared.fault.StepFault.{StepFault}
use Rattle.script_session.specs.declared.fault.StepFault.TheVariants as fault
use Rattle.script_session.proofs.answers.AnswersLemmas.{answers-append, answers-same, entries_added-append, entries_added-same, session_after-append, session_after-same}

pub entry_lines-append : (a b : List Entry) → entry_lines (a ++ b) ≡ entry_lines a ++ entry_lines b
entry_lines-append a b = flat_map-append entry_line a b

-- what holds at the fault that a `?` passes on
pub on_fault : {T E : Type 0} (P : Type 0) (r : Result T E) → P → OnErr r P
on_fault P (Ok x) p = tt
on_fault P (Err e) p = p

-- a front of nothing is nothing
pub front_of_nothing : (front : List ℕ) → StartsWith [] front → front ≡ []
front_of_nothing [] starts = refl
front_of_nothing (x ∷ front) starts = absurd (omega (arith, starts_with_length [] (x ∷ front) starts))

-- a front stays a front of a longer text, and of the text after another
starts-more : (text front more : List ℕ) → StartsWith text front → StartsWith (text ++ more) front
starts-more text front more starts =
    starts_with_of_append (text ++ more) front (drop (length front) text ++ more)
    (ap (λ t. t ++ more) (starts_with_rest text front starts) ∙ append_assoc front (drop (length front) text) more)

pub starts-after : (first text front : List ℕ) → StartsWith text front → StartsWith (first ++ text) (first ++ front)
starts-after first text front starts =
    starts_with_of_append (first ++ text) (first ++ front) (drop (length front) text)
    (ap (λ t. first ++ t) (starts_with_rest text front starts) ∙ sym (append_assoc first front (drop (length front) text)))

-- ---- bytes that are added to a file

GainsThese-then : (a b : List ℕ) (x y z : Option (List ℕ)) → GainsThese a x y → GainsThese b y z → GainsThese (a ++ b) x z
GainsThese-then a b x y z (inl first) (inl second) =
    inl (second ∙ ap (λ o. Some (content o ++ b)) first ∙ ap Some (append_assoc (content x) a b))
GainsThese-then a b x y z (inl first) (inr second) =
    inl (second.0 ∙ first ∙ ap (λ t. Some (content x ++ t)) (sym (append-nil a) ∙ ap (λ t. a ++ t) (sym second.1)))
GainsThese-then a b x y z (inr first) (inl second) =
    inl (second ∙ ap (λ o. Some (content o ++ b)) first.0 ∙ ap (λ t. Some (content x ++ (t ++ b))) (sym first.1))
GainsThese-then a b x y z (inr first) (inr second) = inr (second.0 ∙ first.0, ap (λ t. t ++ b) first.1 ∙ second.1)

pub Adds-same : (name : Option (List ℕ)) (files files' : Option Files) → files' ≡ files → Adds name [] files files'
Adds-same None files files' same = same
Adds-same (Some name) files files' same = subst (Adds (Some name) [] files) (sym same) (by files)
  where
    by : (files : Option Files) → Adds (Some name) [] files files
    by None = (tt, tt)
    by (Some all) = (inr (refl, refl), λ other apart. refl)

pub Adds-of_gains : (name : Option (List ℕ)) (text : List ℕ) (files files' : Option Files) → Gains name text files files' → Adds name text files files'
Adds-of_gains None text None files' gains = gains
Adds-of_gains None text (Some all) files' gains = gains
Adds-of_gains (Some name) text None files' gains = (tt, tt)
Adds-of_gains (Some name) [] (Some all) files' gains = subst (Adds (Some name) [] (Some all)) (sym gains) (inr (refl, refl), λ other apart. refl)
Adds-of_gains (Some name) (byte ∷ text) (Some all) files' gains =
    let bytes = content (file_of all name) ++ (byte ∷ text) in
    subst (Adds (Some name) (byte ∷ text) (Some all)) (sym gains) (inl (file_of-put all name bytes), λ other apart. file_of-put_other all name bytes other apart)

pub Adds-then : (name : Option (List ℕ)) (a b : List ℕ) (x y z : Option Files) → Adds name a x y → Adds name b y z → Adds name (a ++ b) x z
Adds-then None a b x y z first second = second ∙ first
Adds-then (Some name) a b None y z first second = (tt, tt)
Adds-then (Some name) a b (Some x) None z first second = absurd first.0
Adds-then (Some name) a b (Some x) (Some y) None first second = absurd second.0
Adds-then (Some name) a b (Some x) (Some y) (Some z) first second = (
  GainsThese-then a b (file_of x name) (file_of y name) (file_of z name) first.0 second.0,
  λ other apart. second.1 other apart ∙ first.1 other apart,
)

-- ---- what is next

pub StopsNext-none : (text entry : List ℕ) → StopsNext text entry [] []
StopsNext-none text entry = record { of_text = refl; of_entry = refl; order = λ some. absurd (some refl) }

-- a step that failed added a front of its entry's line
record LeavesPart (name : Option (List ℕ)) (text : List ℕ) (files files' : Option Files) : Type 0 where
  part : List ℕ
  of : StartsWith text part
  adds : Adds name part files files'

leaves_part : (e : StepFault) (name : Option (List ℕ)) (added : List Entry) (files files' : Option Files) → Leaves e name added files files' → LeavesPart name (entry_lines added) files files'
leaves_part fault.Memory name added files files' same = record { part = []; of = refl; adds = Adds-same name files files' same }
leaves_part fault.Store None added files files' left = absurd left
leaves_part fault.Store (Some name) added files files' left = by files files' left.part left.others
  where
    text : List ℕ
    text = entry_lines added

    by : (x y : Option Files) → ChangesFile (GainsPart (entry_lines added)) x y name → OthersKept x y name → LeavesPart (Some name) (entry_lines added) x y
    by None y changes others = record { part = []; of = refl; adds = (tt, tt) }
    by (Some x) None changes others = absurd changes
    by (Some x) (Some y) (inl same) others = record { part = []; of = refl; adds = (inr (same, refl), others) }
    by (Some x) (Some y) (inr it) others =
        record {
          part = take it.0 text;
          of = starts_with_of_append text (take it.0 text) (drop it.0 text) (sym (take-append-drop it.0 text));
          adds = (inl it.1, others);
        }

-- a step failed: nothing of the answer is printed
pub stopped_step : (text : List ℕ) (name : Option (List ℕ)) (w : Option (List ℕ)) (e : StepFault) (added : List Entry) (files files' : Option Files) → Leaves e name added files files'
    → Stopped (StopsNext text (entry_lines added)) name w w files files'
stopped_step text name w e added files files' left =
    let it = leaves_part e name added files files' left in
    record {
      printed = [];
      added = it.part;
      stops = record { of_text = refl; of_entry = it.of; order = λ some. absurd (some refl) };
      wrote = Appends-nil w;
      adds = it.adds;
    }

-- the entry's line is added, and a front of the answer is printed
pub stopped_write : (text : List ℕ) (name : Option (List ℕ)) (w w' : Option (List ℕ)) (added : List Entry) (files files' : Option Files) → WritesPrefix w w' text → Gains name (entry_lines added) files files'
    → Stopped (StopsNext text (entry_lines added)) name w w' files files'
stopped_write text name w w' added files files' part gains =
    record {
      printed = part.owes.front;
      added = entry_lines added;
      stops = record {
        of_text = starts_with_of_append text part.owes.front part.owed part.owes.split;
        of_entry = starts_with_of_eq (entry_lines added) (entry_lines added) refl;
        order = λ some. refl;
      };
      wrote = part.owes.appends;
      adds = Adds-of_gains name (entry_lines added) files files' gains;
    }

-- a text after which no entry is due is printed in part
pub stopped_text : (text : List ℕ) (name : Option (List ℕ)) (w w' : Option (List ℕ)) (files : Option Files) → WritesPrefix w w' text → Stopped (StopsNext text []) name w w' files files
stopped_text text name w w' files part =
    record {
      printed = part.owes.front;
      added = [];
      stops = record { of_text = starts_with_of_append text part.owes.front part.owed part.owes.split; of_entry = refl; order = λ some. refl };
      wrote = part.owes.appends;
      adds = Adds-same name files files refl;
    }

-- ---- within some lines

module _ (session : SessionState) where
  -- before the first of them
  abbrev pub StopsIn-none : (lines : List (List ℕ)) (last : List ℕ) → StopsIn session lines last [] []
  StopsIn-none lines last =
      record {
        done = [];
        rest = lines;
        split = refl;
        answer_part = [];
        prints = refl;
        entry_part = [];
        adds = refl;
        next = StopsNext-none (next_text session lines last) (next_added session lines);
      }

  -- at the first of them, or at the last text
  pub StopsIn-next : (lines : List (List ℕ)) (last printed added : List ℕ) → StopsNext (next_text session lines last) (next_added session lines) printed added → StopsIn session lines last printed added
  StopsIn-next lines last printed added next =
      record { done = []; rest = lines; split = refl; answer_part = printed; prints = refl; entry_part = added; adds = refl; next = next }

  -- after some other lines
  abbrev pub StopsIn-then : (first lines : List (List ℕ)) (last printed added : List ℕ) → StopsIn (session_after session first) lines last printed added
      → StopsIn session (first ++ lines) last (answers session first ++ printed) (entry_lines (entries_added session first) ++ added)
  StopsIn-then first lines last printed added s =
      let later = session_after session first in
      record {
        done = first ++ s.done;
        rest = s.rest;
        split = ap (λ l. first ++ l) s.split ∙ sym (append_assoc first s.done s.rest);
        answer_part = s.answer_part;
        prints = ap (λ t. answers session first ++ t) s.prints ∙ sym (append_assoc (answers session first) (answers later s.done) s.answer_part)
            ∙ ap (λ t. t ++ s.answer_part) (sym (answers-append session first s.done));
        entry_part = s.entry_part;
        adds = ap (λ t. entry_lines (entries_added session first) ++ t) s.adds
            ∙ sym (append_assoc (entry_lines (entries_added session first)) (entry_lines (entries_added later s.done)) s.entry_part)
            ∙ ap (λ t. t ++ s.entry_part) (sym (entry_lines-append (entries_added session first) (entries_added later s.done)) ∙ ap entry_lines (sym (entries_added-append session first s.done)));
        next = subst (λ at. StopsNext (next_text at s.rest last) (next_added at s.rest) s.answer_part s.entry_part) (sym (session_after-append session first s.done)) s.next;
      }

  -- the lines are given otherwise; or the session
  abbrev pub StopsIn-lines : (lines lines' : List (List ℕ)) (last printed added : List ℕ) → lines' ≡ lines → StopsIn session lines last printed added → StopsIn session lines' last printed added
  StopsIn-lines lines lines' last printed added same s =
      record { done = s.done; rest = s.rest; split = same ∙ s.split; answer_part = s.answer_part; prints = s.prints; entry_part = s.entry_part; adds = s.adds; next = s.next }

  abbrev pub StopsIn-session : (session' : SessionState) (lines : List (List ℕ)) (last printed added : List ℕ) → session' ≡ session → StopsIn session lines last printed added → StopsIn session' lines last printed added
  StopsIn-session session' lines last printed added same s =
      record {
        done = s.done;
        rest = s.rest;
        split = s.split;
        answer_part = s.answer_part;
        prints = s.prints ∙ ap (λ x. answers x s.done ++ s.answer_part) (sym same);
        entry_part = s.entry_part;
        adds = s.adds ∙ ap (λ x. entry_lines (entries_added x s.done) ++ s.entry_part) (sym same);
        next = subst (λ x. StopsNext (next_text (session_after x s.done) s.rest last) (next_added (session_after x s.done) s.rest) s.answer_part s.entry_part) (sym same) s.next;
      }

  -- all lines are done: all their answers are printed, and nothing more
  pub record IsAllDone (lines : List (List ℕ)) (printed front part : List ℕ) : Type 0 where
    pub printed_is : printed ≡ answers session lines
    pub front_is : front ≡ []
    pub part_is : part ≡ []

  pub all_done : (lines : List (List ℕ)) (printed added : List ℕ) (s : StopsIn session lines [] printed added) → s.rest ≡ [] → IsAllDone lines printed s.answer_part s.entry_part
  all_done lines printed added s none =
      let at = session_after session s.done in
      let next : StopsNext (next_text at [] []) (next_added at []) s.answer_part s.entry_part = subst (λ r. StopsNext (next_text at r []) (next_added at r) s.answer_part s.entry_part) none s.next in
      let front : s.answer_part ≡ [] = front_of_nothing s.answer_part next.of_text in
      let all : lines ≡ s.done = s.split ∙ ap (λ r. s.done ++ r) none ∙ append-nil s.done in
      record {
        printed_is = s.prints ∙ ap (λ t. answers session s.done ++ t) front ∙ append-nil (answers session s.done) ∙ ap (answers session) (sym all);
        front_is = front;
        part_is = front_of_nothing s.entry_part next.of_entry;
      }

  -- more lines follow
  pub more_next : (rest more : List (List ℕ)) (last front part : List ℕ) → StopsNext (next_text session rest []) (next_added session rest) front part
      → StopsNext (next_text session (rest ++ more) last) (next_added session (rest ++ more)) front part
  more_next [] more last front part next =
      let none : front ≡ [] = front_of_nothing front next.of_text in
      let none' : part ≡ [] = front_of_nothing part next.of_entry in
      record {
        of_text = subst (StartsWith (next_text session more last)) (sym none) refl;
        of_entry = subst (StartsWith (next_added session more)) (sym none') refl;
        order = λ some. absurd (some none);
      }
  more_next (bytes ∷ rest) more last front part next = next

abbrev pub StopsIn-more : (session : SessionState) (lines more : List (List ℕ)) (last printed added : List ℕ) → StopsIn session lines [] printed added → StopsIn session (lines ++ more) last printed added
StopsIn-more session lines more last printed added s =
    record {
      done = s.done;
      rest = s.rest ++ more;
      split = ap (λ l. l ++ more) s.split ∙ append_assoc s.done s.rest more;
      answer_part = s.answer_part;
      prints = s.prints;
      entry_part = s.entry_part;
      adds = s.adds;
      next = more_next (session_after session s.done) s.rest more last s.answer_part s.entry_part s.next;
    }

-- what is printed begins all that these lines print
pub stops_begin : (session : SessionState) (lines : List (List ℕ)) (last printed added : List ℕ) → StopsIn session lines last printed added → StartsWith (answers session lines ++ last) printed
stops_begin session lines last printed added s =
    subst (StartsWith (answers session lines ++ last)) (sym s.prints)
    (subst (λ t. StartsWith t (answers session s.done ++ s.answer_part)) (sym whole)
    (starts-after (answers session s.done) (answers later s.rest ++ last) s.answer_part (by later s.rest s.next.of_text)))
  where
    later : SessionState
    later = session_after session s.done

    whole : answers session lines ++ last ≡ answers session s.done ++ (answers later s.rest ++ last)
    whole = ap (λ l. answers session l ++ last) s.split ∙ ap (λ t. t ++ last) (answers-append session s.done s.rest) ∙ append_assoc (answers session s.done) (answers later s.rest) last

    by : (at : SessionState) (rest : List (List ℕ)) → StartsWith (next_text at rest last) s.answer_part → StartsWith (answers at rest ++ last) s.answer_part
    by at [] starts = starts
    by at (bytes ∷ rest) starts =
        let text = (reply at bytes).text in
        let more = answers (replied at (reply at bytes)) rest in
        subst (λ t. StartsWith t s.answer_part) (sym (append_assoc text more last)) (starts-more text s.answer_part (more ++ last) starts)

-- ---- with all lines done for some causes

module _ (P : Type 0) (session : SessionState) where
  pub StopsThere-then : (first lines : List (List ℕ)) (printed added : List ℕ) → StopsThere P (session_after session first) lines printed added
      → StopsThere P session (first ++ lines) (answers session first ++ printed) (entry_lines (entries_added session first) ++ added)
  StopsThere-then first lines printed added s = record { stops = StopsIn-then session first lines [] printed added s.stops; all = s.all }

  pub StopsThere-lines : (lines lines' : List (List ℕ)) (printed added : List ℕ) → lines' ≡ lines → StopsThere P session lines printed added → StopsThere P session lines' printed added
  StopsThere-lines lines lines' printed added same s = record { stops = StopsIn-lines session lines lines' [] printed added same s.stops; all = s.all }

  pub StopsThere-session : (session' : SessionState) (lines : List (List ℕ)) (printed added : List ℕ) → session' ≡ session → StopsThere P session lines printed added → StopsThere P session' lines printed added
  StopsThere-session session' lines printed added same s = record { stops = StopsIn-session session session' lines [] printed added same s.stops; all = s.all }

  -- a first line with the same reply
  pub StopsThere-same : (printed added x y : List ℕ) (lines : List (List ℕ)) → reply session x ≡ reply session y → StopsThere P session (x ∷ lines) printed added → StopsThere P session (y ∷ lines) printed added
  StopsThere-same printed added x y lines same s = by s.stops.done s.stops.rest s.stops.split s.stops.prints s.stops.adds s.stops.next s.all
    where
      front : List ℕ
      front = s.stops.answer_part

      part : List ℕ
      part = s.stops.entry_part

      by : (done rest : List (List ℕ)) → x ∷ lines ≡ done ++ rest → printed ≡ answers session done ++ s.stops.answer_part → added ≡ entry_lines (entries_added session done) ++ s.stops.entry_part
          → StopsNext (next_text (session_after session done) rest []) (next_added (session_after session done) rest) s.stops.answer_part s.stops.entry_part → (P → rest ≡ []) → StopsThere P session (y ∷ lines) printed added
      by [] rest split prints adds next all =
          let here : StopsNext (reply session x).text (entry_lines (reply session x).added) front part = subst (λ r. StopsNext (next_text session r []) (next_added session r) front part) (sym split) next in
          record {
            stops = record {
              done = [];
              rest = y ∷ lines;
              split = refl;
              answer_part = front;
              prints = prints;
              entry_part = part;
              adds = adds;
              next = subst (λ (r : Reply). StopsNext r.text (entry_lines r.added) front part) same here;
            };
            all = λ is. absurd (some x lines (split ∙ all is));
          }
        where
          some : (a : List ℕ) (ls : List (List ℕ)) → a ∷ ls ≢ []
          some a ls e = cc
      by (d ∷ done) rest split prints adds next all =
          let head : x ≡ d = cc in
          let tail : lines ≡ done ++ rest = cc in
          let alike : reply session d ≡ reply session y = ap (reply session) (sym head) ∙ same in
          record {
            stops = record {
              done = y ∷ done;
              rest = rest;
              split = ap (λ l. y ∷ l) tail;
              answer_part = front;
              prints = prints ∙ ap (λ t. t ++ front) (answers-same session d y done alike);
              entry_part = part;
              adds = adds ∙ ap (λ es. entry_lines es ++ part) (entries_added-same session d y done alike);
              next = subst (λ at. StopsNext (next_text at rest []) (next_added at rest) front part) (session_after-same session d y done alike) next;
            };
            all = all;
          }

-- ---- what is printed and added by then

pub Stopped-map : (Where Where' : List ℕ → List ℕ → Type 0) (name : Option (List ℕ)) (w w' : Option (List ℕ)) (files files' : Option Files) → ((printed added : List ℕ) → Where printed added → Where' printed added)
    → Stopped Where name w w' files files' → Stopped Where' name w w' files files'
Stopped-map Where Where' name w w' files files' step s = record { printed = s.printed; added = s.added; stops = step s.printed s.added s.stops; wrote = s.wrote; adds = s.adds }

-- once other texts were printed and added
pub Stopped-after : (Where Where' : List ℕ → List ℕ → Type 0) (name : Option (List ℕ)) (w w₁ w₂ : Option (List ℕ)) (f f₁ f₂ : Option Files) (text bytes : List ℕ)
    → ((printed added : List ℕ) → Where printed added → Where' (text ++ printed) (bytes ++ added)) → Appends w w₁ text → Adds name bytes f f₁ → Stopped Where name w₁ w₂ f₁ f₂ → Stopped Where' name w w₂ f f₂
Stopped-after Where Where' name w w₁ w₂ f f₁ f₂ text bytes step wrote adds s =
    record {
      printed = text ++ s.printed;
      added = bytes ++ s.added;
      stops = step s.printed s.added s.stops;
      wrote = Appends-trans w w₁ w₂ text s.printed wrote s.wrote;
      adds = Adds-then name bytes s.added f f₁ f₂ adds s.adds;
    }

-- nothing is printed or added
pub Stopped-none : (Where : List ℕ → List ℕ → Type 0) (name : Option (List ℕ)) (w : Option (List ℕ)) (files files' : Option Files) → files' ≡ files → Where [] [] → Stopped Where name w w files files'
Stopped-none Where name w files files' same stops = record { printed = []; added = []; stops = stops; wrote = Appends-nil w; adds = Adds-same name files files' same }

-- the files are given otherwise
pub Stopped-told : (Where : List ℕ → List ℕ → Type 0) (name : Option (List ℕ)) (w w' : Option (List ℕ)) (files f left : Option Files) → left ≡ f → Stopped Where name w w' files f → Stopped Where name w w' files left
Stopped-told Where name w w' files f left same s = subst (Stopped Where name w w' files) (sym same) s

-- ---- what holds by a result

pub ok_map : {T E : Type 0} {P Q : Type 0} (r : Result T E) → (P → Q) → OnOk r P → OnOk r Q
ok_map (Ok x) step p = step p
ok_map (Err e) step p = tt

pub err_map : {T E : Type 0} {P Q : Type 0} (r : Result T E) → (P → Q) → OnErr r P → OnErr r Q
err_map (Ok x) step p = tt
err_map (Err e) step p = step p
