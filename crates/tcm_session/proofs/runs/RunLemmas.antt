-- From the parts of a run to what it prints, reads and leaves.
use Rattle.std.proofs.Common.{◌≡◌, ℕ, ◌+◌, ◌<◌, ◌≤◌, ◌≢◌, IsErrAnd, IfErr, IfOk, inl, inr, ◌⊎◌, ◌||◌, ◌==◌, List, [], ◌++◌, length, Option, None, Some, IfSome, Result, Ok, Err, true, false, true≢false, refl, sym, ap, ◌∙◌, subst, length-append, arith}
use Rattle.std.specs.Io.KnownBytes.{Appends, Consumes}
use Rattle.std.proofs.KnownBytes.{Appends-nil, Appends-trans, Consumes-nil, Keeps-refl}
use Rattle.std.proofs.lemmas.Bool.{eq-eqb}
use Rattle.std.proofs.lemmas.Bool.Decides.{eqb_tells, leb_tells}
use Rattle.std.proofs.Transfers.{starts_with_of_append, starts_with_of_eq}
use Rattle.std.specs.FinMap as map
use Rattle.tcm_edges.specs.Files.{Files, IsLoad}
use Rattle.tcm_edges.specs.declared.store.Loaded.{Loaded}
use Rattle.tcm_edges.specs.Owed.{WritesPrefix}
use Rattle.transformations.specs.declared.entry.Entry.{Entry}
use Rattle.tcm_session.specs.Counts.{Counts, counts}
use Rattle.tcm_session.specs.code.Endings.{ending_lines, ending_status, ending_text, fault_status, status_by}
use Rattle.tcm_edges.specs.declared.fault.LoadFault.{LoadFault}
use Rattle.tcm_edges.specs.declared.fault.LoadFault.TheVariants as load
use Rattle.tcm_session.specs.code.RunFaults.{counts_after, counts_by, of_load}
use Rattle.tcm_session.specs.Left.{StopsNext}
use Rattle.script_session.specs.Lines.{whole_lines}
use Rattle.script_session.specs.LogFiles.{Gains, base_of, entry_lines, log_for, refused_line_text}
use Rattle.script_session.specs.Machine.{answers, entries_added, session_over}
use Rattle.tcm_session.specs.Commit.{Start, commit_to_outcome, outcome_from, outcome_in, outcome_loaded, script_outcome}
use Rattle.tcm_session.specs.Outcome.{Outcome, input_limit, printed_by, unread_outcome}
use Rattle.tcm_session.specs.Run.{ComesTo, HasRead, HasStatus, IsFinal, IsStatus, ReadsAll, Told, more_if, told}
use Rattle.tcm_session.specs.code.Runs.{IsEnd, MayHold, ReadsTo, RunsFor, RunsOn, RunsOnAny, RunsSeen, Standing, StopsAt, Writes}
use Rattle.tcm_session.specs.code.Stops.{LeavesScript, Stopped}
use Rattle.tcm_session.specs.declared.run_fault.RunFault.{RunFault}
use Rattle.tcm_session.specs.declared.run_fault.RunFault.TheVariants as fault
use Rattle.tcm_session.specs.declared.status.Status.{Status}
use Rattle.script_session.specs.declared.refused_line.RefusedLine.{RefusedLine}
use Rattle.tcm_session.specs.declared.scripts.pieces.ReadEnd.{ReadEnd}
use Rattle.tcm_session.specs.declared.scripts.pieces.ReadEnd.TheVariants as end
use Rattle.tcm_session.proofs.log_files.HeldFiles.{behind_held, behind_loaded, files_behind}
use Rattle.tcm_session.proofs.inputs.BegunLines.{IsBegun-nil}
use Rattle.tcm_session.proofs.inputs.ReadLemmas.{StopsAt-none}
use Rattle.tcm_session.proofs.log_files.ReplayLemmas.{seen_held}
use Rattle.tcm_session.proofs.runs.RunCauses.{not_source}
use Rattle.tcm_session.proofs.runs.RunOutcomes.{StopsOn, answered_stopped, at_start, begins_stopped, ended, ended_stopped, held_gained, rest_of, script_log, script_reads, told_rest}
use Rattle.tcm_session.proofs.runs.StopLemmas.{stops_begin}

-- ---- what a run comes to

-- a prefix is printed, at a status that isn't final
abbrev comes_part : (o : Outcome) (w w' : Option (List ℕ)) (f' : Option Files) (status : ℕ) → (IsFinal status → ⊥) → WritesPrefix w w' (printed_by o) → ComesTo o w w' f' status
comes_part o w w' f' status not_final part =
    record {
      printed = part.owes.front;
      wrote = part.owes.appends;
      prefix = starts_with_of_append (printed_by o) part.owes.front part.owed part.owes.split;
      status = λ is. absurd (not_final is);
      whole = λ is. absurd (not_final is);
      files = λ is. absurd (not_final is);
    }

-- nothing is printed
abbrev comes_none : (o : Outcome) (w : Option (List ℕ)) (f' : Option Files) (status : ℕ) → (IsFinal status → ⊥) → ComesTo o w w f' status
comes_none o w f' status not_final =
    record {
      printed = [];
      wrote = Appends-nil w;
      prefix = refl;
      status = λ is. absurd (not_final is);
      whole = λ is. absurd (not_final is);
      files = λ is. absurd (not_final is);
    }

-- a run stopped within the lines of its outcome
abbrev comes_stopped : (P : Type 0) (o : Outcome) (name w w' : Option (List ℕ)) (f f' : Option Files) (status : ℕ) → (IsFinal status → ⊥) → Stopped (StopsOn P o) name w w' f f' → ComesTo o w w' f' status
comes_stopped P o name w w' f f' status not_final s =
    record {
      printed = s.printed;
      wrote = s.wrote;
      prefix = stops_begin (session_over o.log) o.lines o.last s.printed s.added s.stops.stops;
      status = λ is. absurd (not_final is);
      whole = λ is. absurd (not_final is);
      files = λ is. absurd (not_final is);
    }

-- all of it is printed
comes_whole : (o : Outcome) (w w' : Option (List ℕ)) (f' : Option Files) (status : ℕ) → status ≡ o.status → Appends w w' (printed_by o) → MayHold f' o.files → ComesTo o w w' f' status
comes_whole o w w' f' status is wrote held =
    record {
      printed = printed_by o;
      wrote = wrote;
      prefix = starts_with_of_eq (printed_by o) (printed_by o) refl;
      status = λ _. is;
      whole = λ _. refl;
      files = λ _. held;
    }

fault_not_final : (e : RunFault) → IsFinal (fault_status e) → ⊥
fault_not_final fault.Memory is = is.memory refl
fault_not_final fault.Source is = is.source refl
fault_not_final fault.Sink is = is.sink refl
fault_not_final fault.Store is = is.store refl

-- the status of a fault is neither 0 nor 8, and 4 only at a fault of the source
fault_not_0 : (e : RunFault) → fault_status e ≢ 0
fault_not_0 fault.Memory is = omega arith
fault_not_0 fault.Source is = omega arith
fault_not_0 fault.Sink is = omega arith
fault_not_0 fault.Store is = omega arith

fault_not_8 : (e : RunFault) → fault_status e ≢ 8
fault_not_8 fault.Memory is = omega arith
fault_not_8 fault.Source is = omega arith
fault_not_8 fault.Sink is = omega arith
fault_not_8 fault.Store is = omega arith

fault_4 : (e : RunFault) → fault_status e ≡ 4 → e ≡ fault.Source
fault_4 fault.Memory is = absurd (omega arith)
fault_4 fault.Source is = refl
fault_4 fault.Sink is = absurd (omega arith)
fault_4 fault.Store is = absurd (omega arith)

fault_6 : (e : RunFault) → fault_status e ≡ 6 → e ≡ fault.Store
fault_6 fault.Memory is = absurd (omega arith)
fault_6 fault.Source is = absurd (omega arith)
fault_6 fault.Sink is = absurd (omega arith)
fault_6 fault.Store is = refl

-- ---- the ends of runs

-- a status that isn't n
other_status : (status n : ℕ) → status ≢ n → (status == n) ≡ false
other_status status n apart =
    elim (eqb_tells status n) [
      | inl same ↦ absurd (apart same.1)
      | inr other ↦ other.0
    ]

-- a status of a run that no fault ends is at most 8
end_within : (status : ℕ) → IsEnd status → status ≤ 8
end_within status is =
    elim (leb_tells status 8) [
      | inl low ↦ low.1
      | inr high ↦ absurd (true≢false (sym is ∙ none high.1))
    ]
  where
    none : 8 < status → ((status == 0) || (status == 2) || (status == 3) || (status == 7) || (status == 8)) ≡ false
    none high =
        let no : (n : ℕ) → n ≤ 8 → (status == n) ≡ false = λ n low. other_status status n (λ same. omega (arith, high, low, same)) in
        (λ i. no 0 (omega arith) i || no 2 (omega arith) i || no 3 (omega arith) i || no 7 (omega arith) i || no 8 (omega arith) i)

pub final_end : (status : ℕ) → IsEnd status → IsStatus status × IsFinal status
final_end status is = (
  end_within status is,
  record {
    memory = λ e. true≢false (sym (subst IsEnd e is));
    source = λ e. true≢false (sym (subst IsEnd e is));
    sink = λ e. true≢false (sym (subst IsEnd e is));
    store = λ e. true≢false (sym (subst IsEnd e is));
  },
)

ending_final : (ending : ReadEnd) → IsFinal (ending_status ending)
ending_final end.AtEnd = (final_end 0 refl).1
ending_final end.PastLimit = (final_end 8 refl).1

-- ---- a script

module _ (start : Start) (InputKept : Type 0) (before after : Told) where
  -- it stopped at a fault, after these bytes were read
  script_stopped : (e : RunFault) (given read : List ℕ) → IfSome before.left (λ bytes. bytes ≡ given)
      → Stopped (StopsOn (e ≡ fault.Source) (script_outcome start given)) start.file before.written after.written before.files after.files
      → Consumes before.left after.left read → length read ≤ input_limit + 1 → (e ≡ fault.Source → Appends before.written after.written (answers (session_over start.log) (whole_lines read)))
      → RunsFor (script_outcome start) (LeavesScript start.file before.files after.files) InputKept before after (fault_status e)
  script_stopped e given read told_input stopped consumed most whole =
      record {
        given = given;
        told_input = told_input;
        to = record {
          comes = comes_stopped (e ≡ fault.Source) (script_outcome start given) start.file before.written after.written before.files after.files (fault_status e) (fault_not_final e) stopped;
          reads = record {
            read = read;
            consumed = consumed;
            most = most;
            read_fault = λ is. subst (λ log. Appends before.written after.written (answers (session_over log) (whole_lines read))) (sym (script_log start given)) (whole (fault_4 e is));
          };
          all = record {
            at_end = λ is _. absurd (fault_not_0 e is);
            past_limit = λ is _. absurd (fault_not_8 e is);
            unread = λ no. absurd (true≢false (sym (script_reads start given) ∙ no));
          };
          leaves = λ not_final. record { good = script_reads start given; added = stopped.added; stops = stopped.stops.stops; adds = stopped.adds; read_fault = λ four. stopped.stops.none (fault_4 e four) };
        };
      }

-- a fault that a `?` passes on
pub runs_err : (outcome_of : List ℕ → Outcome) (Left : Outcome → List ℕ → ℕ → Type 0) (InputKept : Type 0) (before after : Told) (r : Result Status RunFault) (e : RunFault) → IsErrAnd r (λ y. y ≡ e)
    → RunsFor outcome_of Left InputKept before after (fault_status e) → RunsFor outcome_of Left InputKept before after (status_by r)
runs_err outcome_of Left InputKept before after (Ok x) e is runs = absurd is
runs_err outcome_of Left InputKept before after (Err y) e is runs = subst (λ x. RunsFor outcome_of Left InputKept before after (fault_status x)) (sym is) runs

-- what it leaves is more than is asked, from other files on
pub runs_left : (outcome_of : List ℕ → Outcome) (Left Left' : Outcome → List ℕ → ℕ → Type 0) (InputKept : Type 0) (left w : Option (List ℕ)) (f mid : Option Files) (after : Told) (status : ℕ)
    → ((o : Outcome) (printed : List ℕ) (ended : ℕ) → Left o printed ended → Left' o printed ended)
    → RunsFor outcome_of Left InputKept (told left w mid) after status → RunsFor outcome_of Left' InputKept (told left w f) after status
runs_left outcome_of Left Left' InputKept left w f mid after status step runs =
    let to = runs.to in
    record {
      given = runs.given;
      told_input = runs.told_input;
      to = record { comes = to.comes; reads = to.reads; all = to.all; leaves = λ not_final. step (outcome_of runs.given) to.comes.printed status (to.leaves not_final) };
    }

module _ (start : Start) (InputKept : Type 0) where
  -- reading stopped at a fault
  pub runs_stopped : (before after : Told) (e : RunFault) → StopsAt start.file e input_limit before.left (at_start start before.written before.files) after
      → RunsFor (script_outcome start) (LeavesScript start.file before.files after.files) InputKept before after (fault_status e)
  runs_stopped before after e stops =
      let begins = begins_stopped start e before.left after.left before.written after.written before.files after.files stops in
      script_stopped start InputKept before after e begins.input stops.bytes begins.told begins.stopped stops.consumed (omega (arith, stops.bounded))
      (answered_stopped start e before.left after.left before.written after.written before.files after.files stops)

  -- a fault comes before anything is read
  pub runs_none : (at : Told) (e : RunFault) → RunsFor (script_outcome start) (LeavesScript start.file at.files at.files) InputKept at at (fault_status e)
  runs_none at e = runs_stopped at at e (StopsAt-none start.file e input_limit at.left at.left (at_start start at.written at.files) (Keeps-refl at.left) IsBegun-nil)

module _ (start : Start) (InputKept : Type 0) (before after : Told) (at' : Standing) (ending : ReadEnd) (reads : ReadsTo start.file ending before.left after.left (at_start start before.written before.files) at')
    (n n' : Counts) (none : n.source ≡ 0) (none' : n'.source ≡ 0) where
  most_read : (ending : ReadEnd) (reads : ReadsTo start.file ending before.left after.left (at_start start before.written before.files) at') → length (reads.bytes ++ reads.past) ≤ input_limit + 1
  most_read end.AtEnd reads = let nothing = ap length reads.ends.2 in omega (arith, length-append reads.bytes reads.past, reads.ends.1, nothing)
  most_read end.PastLimit reads = omega (arith, length-append reads.bytes reads.past, reads.ends.0, reads.ends.1)

  -- of what is due last a prefix is written
  pub runs_part : (e : RunFault) → n' ≡ counts_after e n
      → Stopped (StopsNext (ending_text ending at'.session at'.begun) (entry_lines (entries_added at'.session (ending_lines ending at'.begun)))) start.file at'.written after.written at'.files after.files
      → RunsFor (script_outcome start) (LeavesScript start.file before.files after.files) InputKept before after (fault_status e)
  runs_part e cause stopped =
      let never : e ≡ fault.Source → ⊥ = not_source e n n' none none' cause in
      let is = ended start before.left after.left before.written before.files at' ending reads in
      script_stopped start InputKept before after e is.input (reads.bytes ++ reads.past) is.told
      (ended_stopped (e ≡ fault.Source) start ending before.left after.left before.written after.written before.files after.files at' reads is never stopped)
      reads.consumed (most_read ending reads) (λ source. absurd (never source))

  -- all of it is written
  abbrev reads_end : (log : List Entry) (ending : ReadEnd) (reads : ReadsTo start.file ending before.left after.left (at_start start before.written before.files) at')
      → HasRead log before.left after.left before.written after.written (ending_status ending)
  reads_end log end.AtEnd reads =
      record { read = reads.bytes ++ reads.past; consumed = reads.consumed; most = most_read end.AtEnd reads; read_fault = λ is. absurd (omega arith) }
  reads_end log end.PastLimit reads =
      record { read = reads.bytes ++ reads.past; consumed = reads.consumed; most = most_read end.PastLimit reads; read_fault = λ is. absurd (omega arith) }

  reads_all : (o : Outcome) → o.reads ≡ true → (ending : ReadEnd) (reads : ReadsTo start.file ending before.left after.left (at_start start before.written before.files) at')
      → ReadsAll o InputKept after.left (reads_end o.log ending reads).read (ending_status ending)
  reads_all o is_read end.AtEnd reads =
      record { at_end = λ is _. reads.ends.0; past_limit = λ is _. absurd (omega arith); unread = λ no. absurd (true≢false (sym is_read ∙ no)) }
  reads_all o is_read end.PastLimit reads =
      record {
        at_end = λ is _. absurd (omega arith);
        past_limit = λ is _. omega (arith, length-append reads.bytes reads.past, reads.ends.0, reads.ends.1);
        unread = λ no. absurd (true≢false (sym is_read ∙ no));
      }

  pub runs_whole : {X : Type 0} (x : X) → MayHold before.files start.files → Writes (ending_text ending at'.session at'.begun) at'.written after.written n n' (Ok x)
      → Gains start.file (entry_lines (entries_added at'.session (ending_lines ending at'.begun))) at'.files after.files
      → RunsFor (script_outcome start) (LeavesScript start.file before.files after.files) InputKept before after (ending_status ending)
  runs_whole x held writes gained =
      let is = ended start before.left after.left before.written before.files at' ending reads in
      record {
        given = is.input;
        told_input = is.told;
        to = record {
          comes = comes_whole (script_outcome start is.input) before.written after.written after.files (ending_status ending) (sym is.status)
              (subst (Appends before.written after.written) (sym is.printed) (Appends-trans before.written at'.written after.written _ _ reads.takes.answered writes.whole))
              (subst (MayHold after.files) (sym is.files) (held_gained start.file _ at'.files after.files _ (held_gained start.file _ before.files at'.files start.files held reads.takes.files) gained));
          reads = reads_end (script_outcome start is.input).log ending reads;
          all = reads_all (script_outcome start is.input) (script_reads start is.input) ending reads;
          leaves = λ not_final. absurd (not_final (ending_final ending));
        };
      }

-- ---- a run that reads nothing

-- no byte is read
abbrev has_read_none : (log : List Entry) (left w w' : Option (List ℕ)) (ended : ℕ) → ended ≢ 4 → HasRead log left left w w' ended
has_read_none log left w w' ended not_4 =
    record { read = []; consumed = Consumes-nil left; most = omega arith; read_fault = λ is. absurd (not_4 is) }

module _ (status : ℕ) (last : List ℕ) (all : Files) (Left : Outcome → List ℕ → ℕ → Type 0) (InputKept : Type 0) (kept : InputKept) (left w w' : Option (List ℕ)) (f f' : Option Files)
    (n n' : Counts) (none : n.source ≡ 0) (none' : n'.source ≡ 0) where
  reads_nothing : (ended : ℕ) → ended ≢ 4 → ReadsAll (unread_outcome status last all) InputKept left [] ended
  reads_nothing ended not_4 =
      record {
        at_end = λ is no. absurd (true≢false (sym no));
        past_limit = λ is no. absurd (true≢false (sym no));
        unread = λ _. (kept, not_4);
      }

  pub runs_unread_err : (e : RunFault) → WritesPrefix w w' last → n' ≡ counts_after e n → ((printed : List ℕ) (ended : ℕ) → Left (unread_outcome status last all) printed ended)
      → RunsFor (λ _. unread_outcome status last all) Left InputKept (told left w f) (told left w' f') (fault_status e)
  runs_unread_err e part cause leaves =
      let not_4 : fault_status e ≢ 4 = λ four. not_source e n n' none none' cause (fault_4 e four) in
      record {
        given = rest_of left;
        told_input = told_rest left;
        to = record {
          comes = comes_part (unread_outcome status last all) w w' f' (fault_status e) (fault_not_final e) part;
          reads = has_read_none _ left w w' (fault_status e) not_4;
          all = reads_nothing (fault_status e) not_4;
          leaves = λ not_final. leaves part.owes.front (fault_status e);
        };
      }

  pub runs_unread : (r : Result Status RunFault) → IsFinal status → MayHold f' all → Writes last w w' n n' r → IfOk r (λ s. s.0 ≡ status)
      → ((printed : List ℕ) (ended : ℕ) → Left (unread_outcome status last all) printed ended) → RunsFor (λ _. unread_outcome status last all) Left InputKept (told left w f) (told left w' f') (status_by r)
  runs_unread (Ok s) final held writes is leaves =
      subst (RunsFor (λ _. unread_outcome status last all) Left InputKept (told left w f) (told left w' f')) (sym is)
      (record {
        given = rest_of left;
        told_input = told_rest left;
        to = record {
          comes = comes_whole (unread_outcome status last all) w w' f' status refl writes.whole held;
          reads = has_read_none _ left w w' status final.source;
          all = reads_nothing status final.source;
          leaves = λ not_final. absurd (not_final final);
        };
      })
  runs_unread (Err e) final held writes is leaves = runs_unread_err e writes.part writes.cause leaves

-- ---- what a status shows

pub shows_status : (before after : Counts) (r : Result Status RunFault) → after ≡ counts_by r before → IfOk r (λ s. IsEnd s.0) → HasStatus before after (status_by r)
shows_status before after (Ok s) cause is =
    let final = final_end s.0 is in
    record {
      is = final.0;
      source = ap (λ (c : Counts). c.source) cause ∙ ap (λ b. more_if b before.source) (sym (other_status s.0 4 final.1.source));
      sink = ap (λ (c : Counts). c.sink) cause ∙ ap (λ b. more_if b before.sink) (sym (other_status s.0 5 final.1.sink));
      store = ap (λ (c : Counts). c.store) cause ∙ ap (λ b. more_if b before.store) (sym (other_status s.0 6 final.1.store));
    }
shows_status before after (Err e) cause is = subst (λ c. HasStatus before c (fault_status e)) (sym cause) (by e)
  where
    by : (e : RunFault) → HasStatus before (counts_after e before) (fault_status e)
    by fault.Memory = record { is = omega arith; source = refl; sink = refl; store = refl }
    by fault.Source = record { is = omega arith; source = refl; sink = refl; store = refl }
    by fault.Sink = record { is = omega arith; source = refl; sink = refl; store = refl }
    by fault.Store = record { is = omega arith; source = refl; sink = refl; store = refl }

-- a status of 6 is a fault of the store
pub not_6 : (r : Result Status RunFault) → IfOk r (λ s. IsEnd s.0) → IfErr r (λ e. e ≢ fault.Store) → status_by r ≢ 6
not_6 (Ok s) is none six = (final_end s.0 is).1.store six
not_6 (Err e) is none six = none (fault_6 e six)

-- ---- a run with a log file

pub memory_not_source : fault.Memory ≢ fault.Source
memory_not_source e = cc

-- a fault comes before anything is read or written
pub runs_early : (Left : Outcome → List ℕ → ℕ → Type 0) (InputKept : Type 0) (kept : InputKept) (left w : Option (List ℕ)) (outcome_of : List ℕ → Outcome) (f f' : Option Files) (e : RunFault) → e ≢ fault.Source
    → ((given : List ℕ) (ended : ℕ) → Left (outcome_of given) [] ended) → RunsFor outcome_of Left InputKept (told left w f) (told left w f') (fault_status e)
runs_early Left InputKept kept left w outcome_of f f' e other leaves =
    let given = rest_of left in
    let not_4 : fault_status e ≢ 4 = λ four. other (fault_4 e four) in
    record {
      given = given;
      told_input = told_rest left;
      to = record {
        comes = comes_none (outcome_of given) w f' (fault_status e) (fault_not_final e);
        reads = has_read_none _ left w w (fault_status e) not_4;
        all = record { at_end = λ is _. absurd (fault_not_0 e is); past_limit = λ is _. absurd (fault_not_8 e is); unread = λ _. (kept, not_4) };
        leaves = λ not_final. leaves given (fault_status e);
      };
    }

module _ (Left : Outcome → List ℕ → ℕ → Type 0) (InputKept : Type 0) (before after : Told) (status : ℕ) where
  -- the log is refused, or a script runs from it
  pub runs_refused : (name cluster : List ℕ) (all : Files) (file : List ℕ) (refused : RefusedLine) → log_for (Some cluster) file ≡ Err refused
      → RunsFor (λ _. unread_outcome 3 (refused_line_text refused) all) Left InputKept before after status → RunsFor (outcome_in name cluster all file) Left InputKept before after status
  runs_refused name cluster all file refused is runs = subst (λ r. RunsFor (outcome_from name cluster all file r) Left InputKept before after status) (sym is) runs

  pub runs_resumed : (name cluster : List ℕ) (all : Files) (file : List ℕ) (log : List Entry) → log_for (Some cluster) file ≡ Ok log
      → RunsFor (script_outcome (record { log = log; file = Some name; files = map.insert all name (base_of cluster file) })) Left InputKept before after status → RunsFor (outcome_in name cluster all file) Left InputKept before after status
  runs_resumed name cluster all file log is runs = subst (λ r. RunsFor (outcome_from name cluster all file r) Left InputKept before after status) (sym is) runs

  -- some file was loaded
  pub runs_loaded : (name cluster : List ℕ) (loaded : Loaded) (load : IsLoad before.files name input_limit loaded)
      → RunsFor (outcome_loaded name cluster (files_behind before.files name load.file) loaded) Left InputKept before after status → RunsOn (commit_to_outcome name cluster) Left InputKept before after status
  runs_loaded name cluster loaded load runs =
      let all = files_behind before.files name load.file in
      record {
        all = all;
        held = behind_held before.files name load.file;
        runs = subst (λ it. RunsFor (outcome_loaded name cluster all it) Left InputKept before after status) (behind_loaded before.files name input_limit loaded load) runs;
      }

  -- some files, where nothing is known of them
  pub runs_unloaded : (outcome_of : Files → List ℕ → Outcome) → RunsOnAny outcome_of Left InputKept before after status → RunsOn outcome_of Left InputKept before after status
  runs_unloaded outcome_of runs =
      let all = files_behind before.files [] None in
      let held = behind_held before.files [] None in
      record { all = all; held = held; runs = runs all held }

  -- by the files that its first load finds
  pub runs_first : (Left' : Outcome → List ℕ → ℕ → Type 0) (outcome_of : Files → List ℕ → Outcome) → ((o : Outcome) (printed : List ℕ) (ended : ℕ) → Left o printed ended → Left' o printed ended)
      → RunsOn outcome_of Left InputKept before after status → RunsSeen (λ seen. outcome_of (seen 0)) Left' InputKept before after status
  runs_first Left' outcome_of step on =
      record {
        seen = λ _. on.all;
        held = seen_held before.files on.all on.held;
        runs = runs_left (outcome_of on.all) Left Left' InputKept before.left before.written before.files before.files after status step on.runs;
      }

-- the fault of a load is none of the source
pub load_not_source : (e : LoadFault) → of_load e ≢ fault.Source
load_not_source load.Failed is = cc
load_not_source load.Memory is = cc

-- a fault that a `?` passes on
pub runs_err_on : (outcome_of : Files → List ℕ → Outcome) (Left : Outcome → List ℕ → ℕ → Type 0) (InputKept : Type 0) (before after : Told) (r : Result Status RunFault) (e : RunFault) → IsErrAnd r (λ y. y ≡ e)
    → RunsOn outcome_of Left InputKept before after (fault_status e) → RunsOn outcome_of Left InputKept before after (status_by r)
runs_err_on outcome_of Left InputKept before after r e is on =
    record { all = on.all; held = on.held; runs = runs_err (outcome_of on.all) Left InputKept before after r e is on.runs }

-- ---- over objects that never fail

-- where no count changes, the status names no fault of the outside
uncounted : (status n : ℕ) → 0 ≡ more_if (status == n) 0 → status ≢ n
uncounted status n is same = (let one : 0 ≡ more_if true 0 = is ∙ ap (λ b. more_if b 0) (eq-eqb status n same) in omega (arith, one))

pub ends_surely : (status : ℕ) → HasStatus (counts 0 0 0) (counts 0 0 0) status → (status ≡ 1) ⊎ IsFinal status
ends_surely status has =
    elim (eqb_tells status 1) [
      | inl one ↦ inl one.1
      | inr other ↦ inr (record { memory = other.1; source = uncounted status 4 has.source; sink = uncounted status 5 has.sink; store = uncounted status 6 has.store })
    ]
