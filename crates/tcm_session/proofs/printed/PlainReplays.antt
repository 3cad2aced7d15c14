-- What a replay prints: no line of it begins with the word of an answer with quorums.
use Rattle.std.proofs.Common.{filter, nat_lt, ◌≡◌, ◌≢◌, ℕ, suc, ◌+◌, ◌==◌, Bool, true, false, if◌then◌else◌, List, [], ◌∷◌, ◌++◌, flat_map, length, nat_le, Option, Some, None, Result, Ok, Err, IfErr, codes, decimal, refl, arith}
use Rattle.std.specs.List.{AllByRecursion}
use Rattle.std.specs.Option.{IfSome}
use Rattle.cluster_terms.proofs.lists.AscendingLemmas.{All-put}
use Rattle.cluster_terms.specs.Ascending.{put}
use Rattle.tcm_edges.specs.Files.{Files, file_of, loaded_of}
use Rattle.tcm_edges.specs.declared.store.Loaded.{Loaded}
use Rattle.tcm_edges.specs.declared.store.Loaded.TheVariants as loaded
use Rattle.transformations.proofs.lists.ListLemmas.{all_weaker, part_all_of, part_filter}
use Rattle.transformations.specs.ImageRules.{bad_of}
use Rattle.transformations.specs.declared.image_rules.BadImage.{BadImage}
use Rattle.session_laws.proofs.texts.PlainSnapshots.{plain_read}
use Rattle.transformations.specs.History.{next_image}
use Rattle.transformations.specs.Refusals.{refusal_of}
use Rattle.transformations.specs.declared.entry.Entry.{Entry}
use Rattle.transformations.specs.declared.image.Image.{Image}
use Rattle.transformations.specs.declared.keyspace.KeyspaceRow.{KeyspaceRow}
use Rattle.transformations.specs.declared.refusal.Refusal.{Refusal}
use Rattle.follower_log.specs.Follower.{FollowerState, Handed, advanced, by_epoch, cut_first, hand_above, hand_entry, hand_image, hand_valid, is_full, is_next, is_same, stays, unless_bad, unless_dropped, waiting_at}
use Rattle.follower_log.specs.declared.fault.FollowerFault.{FollowerFault}
use Rattle.follower_log.specs.declared.fault.FollowerFault.TheVariants as fault
use Rattle.follower_log.specs.declared.took.Took.{Took}
use Rattle.follower_log.specs.declared.took.Took.TheVariants as took
use Rattle.wire_json.proofs.entries.EntryCommands.{reading_commands}
use Rattle.wire_json.proofs.headers.HeaderNames.{reading_name}
use Rattle.wire_json.specs.Reading.{reading}
use Rattle.wire_json.specs.declared.line.Line.{Line}
use Rattle.wire_json.specs.declared.line.Line.TheVariants as line
use Rattle.wire_json.specs.declared.line.ReadLineFault.{ReadLineFault}
use Rattle.wire_json.specs.declared.line.ReadLineFault.TheVariants as read
use Rattle.script_lang.proofs.SaidLemmas.{IsFormed}
use Rattle.script_lang.specs.AnswerTexts.{nodes_text, place_text}
use Rattle.tcm_session.specs.Limits.{input_limit, too_large_text}
use Rattle.script_session.specs.Lines.{whole_lines}
use Rattle.script_session.specs.LogFiles.{goes_on, other_cluster}
use Rattle.tcm_session.specs.files.Replay.{answered, ending_of, files_replayed, headed, header_replayed, line_replayed, lines_replayed, loaded_replayed, nothing_replayed, read_replayed, replay_ending, report_head, report_text, then_replayed, unless_ended}
use Rattle.session_laws.specs.Shown.{IsOfNoQuorum}
use Rattle.tcm_session.specs.declared.ending.Ending.{Ending}
use Rattle.script_session.specs.declared.refused_line.Cause.{Cause}
use Rattle.script_session.specs.declared.refused_line.Cause.TheVariants as cause
use Rattle.script_session.specs.declared.refused_line.RefusedLine.{RefusedLine}
use Rattle.tcm_session.specs.declared.files.replay.Replay.{Replay}
use Rattle.session_laws.proofs.quorums.AnswerLines.{nodes_lines, other_line, place_lines}
use Rattle.session_laws.proofs.FileLogs.{HasPlainCause, IfPlain, formed_kinds, plain_cluster, refused_text_lines}
use Rattle.session_laws.proofs.texts.PlainImages.{IsPlainImage, next_plain, plain_empty, refusal_plain}
use Rattle.session_laws.proofs.texts.PlainTexts.{HasPlainNames, is_plain, plain_decimal, plain_joined, plain_name}
use Rattle.session_laws.proofs.texts.WholeLines.{AreLines, AreLines-append, AreLines-flat_map}

-- ---- followers

-- the names in the image hold no line feed, and neither do those in the waiting entries
pub record IsPlainFollower (f : FollowerState) : Type 0 where
  pub image : IsPlainImage f.image
  pub waiting : AllByRecursion (λ (e : Entry). IsFormed e.cmd) f.waiting

-- the names that a follower shows with its refusal
abbrev IsPlainFault : FollowerFault → Type 0
IsPlainFault (fault.Refused epoch refusal) = HasPlainNames refusal
IsPlainFault _ = Unit {0}

record IsPlainStep (step : Handed) : Type 0 where
  after : IsPlainFollower step.after
  answer : IfErr step.answer IsPlainFault

plain_advanced : (waiting : List Entry) (image : Image) → IsPlainImage image → AllByRecursion (λ (e : Entry). IsFormed e.cmd) waiting → IsPlainStep (advanced image waiting)
plain_advanced [] image is all = record { after = record { image = is; waiting = tt }; answer = tt }
plain_advanced (entry ∷ waiting) image is all = by (is_next image entry)
    (of_refusal (refusal_of image entry.cmd) (refusal_plain image is entry.cmd all.0) (plain_advanced waiting (next_image image entry.cmd) (next_plain image entry.cmd all.0 is) all.1))
  where
    applied : Handed
    applied = advanced (next_image image entry.cmd) waiting

    of_refusal : (o : Option Refusal) → IfSome o HasPlainNames → IsPlainStep applied → IsPlainStep (cut_first image (entry ∷ waiting) (unless_dropped o image entry waiting applied))
    of_refusal None names step = record { after = step.after; answer = step.answer }
    of_refusal (Some r) names step = record { after = record { image = is; waiting = all.1 }; answer = names }

    by : (b : Bool) → IsPlainStep (cut_first image (entry ∷ waiting) (unless_dropped (refusal_of image entry.cmd) image entry waiting applied))
        → IsPlainStep (if b then cut_first image (entry ∷ waiting) (unless_dropped (refusal_of image entry.cmd) image entry waiting applied)
        else stays (record { image = image; waiting = entry ∷ waiting }) (Ok (took.At image.epoch)))
    by true step = step
    by false step = record { after = record { image = is; waiting = all }; answer = tt }

plain_handed : (f : FollowerState) (entry : Entry) → IsFormed entry.cmd → IsPlainFollower f → IsPlainStep (hand_entry f entry)
plain_handed f entry formed is = by (nat_le entry.epoch f.image.epoch)
  where
    of_full : (b : Bool) → IsPlainStep (if b then stays f (Ok (took.Full f.image.epoch)) else advanced f.image (put by_epoch entry f.waiting))
    of_full true = record { after = is; answer = tt }
    of_full false = plain_advanced (put by_epoch entry f.waiting) f.image is.image (All-put by_epoch (λ (e : Entry). IsFormed e.cmd) entry f.waiting formed is.waiting)

    of_same : (held : Entry) (b : Bool) → IsPlainStep (stays f (if b then Ok (took.Held f.image.epoch) else Err (fault.Fork entry.epoch held entry)))
    of_same held true = record { after = is; answer = tt }
    of_same held false = record { after = is; answer = tt }

    of_held : (o : Option Entry) → IsPlainStep (hand_above f entry o)
    of_held None = of_full (is_full f entry)
    of_held (Some held) = of_same held (is_same held entry)

    by : (b : Bool) → IsPlainStep (if b then stays f (Ok (took.Old f.image.epoch)) else hand_above f entry (waiting_at f.waiting entry.epoch))
    by true = record { after = is; answer = tt }
    by false = of_held (waiting_at f.waiting entry.epoch)

-- an image whose names hold no line feed
plain_imaged : (f : FollowerState) (image : Image) → IsPlainImage image → IsPlainFollower f → IsPlainStep (hand_image f image)
plain_imaged f image plain is = bad (bad_of image)
  where
    by : (b : Bool) → IsPlainStep (if b then stays f (Ok (took.Old f.image.epoch)) else advanced image (filter (λ (entry : Entry). nat_lt image.epoch entry.epoch) f.waiting))
    by true = record { after = is; answer = tt }
    by false = plain_advanced (filter (λ (entry : Entry). nat_lt image.epoch entry.epoch) f.waiting) image plain (part_all_of (λ (e : Entry). IsFormed e.cmd) (part_filter (λ (entry : Entry). nat_lt image.epoch entry.epoch) f.waiting) is.waiting)

    bad : (o : Option BadImage) → IsPlainStep (unless_bad o f (hand_valid f image))
    bad None = by (nat_le image.epoch f.image.epoch)
    bad (Some b) = record { after = is; answer = tt }

-- ---- lines

-- the names that a replay holds: those of its follower, and the cluster's
record IsPlainReplay (replay : Replay) : Type 0 where
  follower : IsPlainFollower replay.follower
  cluster : IfSome replay.cluster (λ name. is_plain name ≡ true)

-- a replay goes on plainly, or the cause to refuse a line is plain
abbrev GoesOnPlainly : Result Replay Cause → Type 0
GoesOnPlainly (Ok replay) = IsPlainReplay replay
GoesOnPlainly (Err c) = HasPlainCause c

plain_answered : (replay : Replay) (after : FollowerState) (answer : Result Took FollowerFault) → IsPlainReplay replay → IsPlainFollower after → IfErr answer IsPlainFault → GoesOnPlainly (answered replay after answer)
plain_answered replay after (Ok t) is plain names = record { follower = plain; cluster = is.cluster }
plain_answered replay after (Err (fault.Fork epoch held came)) is plain names = tt
plain_answered replay after (Err (fault.Refused epoch refusal)) is plain names = names
plain_answered replay after (Err (fault.BadImage bad)) is plain names = tt
plain_answered replay after (Err fault.Memory) is plain names = tt
plain_answered replay after (Err (fault.MemoryAt epoch)) is plain names = tt

plain_header : (number : ℕ) (replay : Replay) (came : List ℕ) → is_plain came ≡ true → IsPlainReplay replay → GoesOnPlainly (header_replayed number replay came)
plain_header number replay came plain is = by (number == 1) (of (other_cluster replay.cluster came) (plain_cluster replay.cluster came is.cluster plain))
  where
    of : (o : Option Cause) → IfPlain o → GoesOnPlainly (headed replay came o)
    of None names = record { follower = is.follower; cluster = plain }
    of (Some c) names = names

    by : (b : Bool) → GoesOnPlainly (headed replay came (other_cluster replay.cluster came)) → GoesOnPlainly (if b then headed replay came (other_cluster replay.cluster came) else Err cause.Header)
    by true next = next
    by false next = tt

plain_line : (number : ℕ) (replay : Replay) (bytes : List ℕ) → IsPlainReplay replay → GoesOnPlainly (line_replayed number replay bytes)
unfolding line_replayed
plain_line number replay bytes is = by (reading bytes) refl
  where
    by : (r : Result Line ReadLineFault) → reading bytes ≡ r → GoesOnPlainly (read_replayed number replay r)
    by (Ok (line.Header came)) there = plain_header number replay came (plain_name came (reading_name bytes came there)) is
    by (Ok (line.Entry entry)) there =
        let step = plain_handed replay.follower entry (reading_commands IsFormed formed_kinds bytes entry there) is.follower in
        plain_answered replay (hand_entry replay.follower entry).after (hand_entry replay.follower entry).answer is step.after step.answer
    by (Ok (line.Snapshot image)) there =
        let step = plain_imaged replay.follower image (plain_read bytes image there) is.follower in
        plain_answered replay (hand_image replay.follower image).after (hand_image replay.follower image).answer is step.after step.answer
    by (Err (read.Bad rule)) there = tt
    by (Err read.Memory) there = tt

abbrev AreLinesPlain : Result Replay RefusedLine → Type 0
AreLinesPlain (Ok replay) = IsPlainReplay replay
AreLinesPlain (Err refused) = HasPlainCause refused.cause

plain_file_lines : (file number : ℕ) (replay : Replay) (lines : List (List ℕ)) → IsPlainReplay replay → AreLinesPlain (lines_replayed file number replay lines)
plain_file_lines file number replay [] is = is
plain_file_lines file number replay (bytes ∷ lines) is = by (line_replayed number replay bytes) (plain_line number replay bytes is) (λ next plain. plain_file_lines file (number + 1) next lines plain)
  where
    by : (r : Result Replay Cause) → GoesOnPlainly r → ((next : Replay) → IsPlainReplay next → AreLinesPlain (lines_replayed file (number + 1) next lines))
        → AreLinesPlain (goes_on file number r (λ next. lines_replayed file (number + 1) next lines))
    by (Ok next) plain later = later next plain
    by (Err c) plain later = plain

-- ---- files

-- the text of an end is of no quorum, unless the name of an absent file is in it
abbrev IsPlainEnding : Ending → Type 0
IsPlainEnding ending = ending.status ≢ 7 → AreLines IsOfNoQuorum ending.text

abbrev EndsPlainly : Result Replay Ending → Type 0
EndsPlainly (Ok replay) = IsPlainReplay replay
EndsPlainly (Err ending) = IsPlainEnding ending

pub too_large_lines : AreLines IsOfNoQuorum too_large_text
too_large_lines = other_line (codes "TOO-LARGE 536870912") refl (λ e. omega arith) (λ e. omega arith)

plain_loaded : (file : ℕ) (name : List ℕ) (replay : Replay) (it : Loaded) → IsPlainReplay replay → EndsPlainly (loaded_replayed file name replay it)
plain_loaded file name replay loaded.Absent is = λ other. absurd (other refl)
plain_loaded file name replay (loaded.TooLarge size) is = λ other. too_large_lines
plain_loaded file name replay (loaded.Bytes bytes) is = by (lines_replayed file 1 replay (whole_lines bytes)) (plain_file_lines file 1 replay (whole_lines bytes) is)
  where
    by : (r : Result Replay RefusedLine) → AreLinesPlain r → EndsPlainly (unless_ended r)
    by (Ok next) plain = plain
    by (Err refused) plain = λ other. refused_text_lines refused plain

plain_files : (names : List (List ℕ)) (file : ℕ) (replay : Replay) (seen : ℕ → Files) → IsPlainReplay replay → EndsPlainly (files_replayed file replay names seen)
plain_files [] file replay seen is = is
plain_files (name ∷ names) file replay seen is =
    by (loaded_replayed file name replay it) (plain_loaded file name replay it is) (λ next plain. plain_files names (file + 1) next (λ i. seen (suc i)) plain)
  where
    it : Loaded
    it = loaded_of (file_of (seen 0) name) input_limit

    by : (r : Result Replay Ending) → EndsPlainly r → ((next : Replay) → IsPlainReplay next → EndsPlainly (files_replayed (file + 1) next names (λ i. seen (suc i))))
        → EndsPlainly (then_replayed r (λ next. files_replayed (file + 1) next names (λ i. seen (suc i))))
    by (Ok next) plain later = later next plain
    by (Err ending) plain later = plain

-- ---- the report

head_lines : (replay : Replay) → AreLines IsOfNoQuorum (report_head replay)
head_lines replay =
    let lines = decimal replay.lines in
    let epoch = decimal replay.follower.image.epoch in
    let waiting = decimal (length replay.follower.waiting) in
    let first : is_plain (codes "REPLAY " ++ lines ++ codes " at " ++ epoch) ≡ true = plain_joined (codes "REPLAY " ++ lines) (codes " at ") epoch (plain_decimal replay.lines) refl (plain_decimal replay.follower.image.epoch) in
    let second : is_plain (codes "REPLAY " ++ lines ++ codes " at " ++ epoch ++ codes " waiting " ++ waiting) ≡ true =
    plain_joined (codes "REPLAY " ++ lines ++ codes " at " ++ epoch) (codes " waiting ") waiting first refl (plain_decimal (length replay.follower.waiting)) in
    other_line (codes "REPLAY " ++ lines ++ codes " at " ++ epoch ++ codes " waiting " ++ waiting ++ codes " full " ++ decimal replay.full)
    (plain_joined (codes "REPLAY " ++ lines ++ codes " at " ++ epoch ++ codes " waiting " ++ waiting) (codes " full ") (decimal replay.full) second refl (plain_decimal replay.full))
    (λ e. omega arith) (λ e. omega arith)

report_lines : (replay : Replay) → IsPlainReplay replay → AreLines IsOfNoQuorum (report_text replay)
unfolding report_text
report_lines replay is =
    let image = replay.follower.image in
    AreLines-append IsOfNoQuorum (report_head replay ++ nodes_text image) (flat_map (place_text image) image.keyspaces)
    (AreLines-append IsOfNoQuorum (report_head replay) (nodes_text image) (head_lines replay) (nodes_lines image is.follower.image))
    (AreLines-flat_map IsOfNoQuorum (place_text image) image.keyspaces
    (all_weaker (λ (k : KeyspaceRow). is_plain k.name ≡ true) (λ k. AreLines IsOfNoQuorum (place_text image k)) (place_lines image) image.keyspaces is.follower.image.keyspaces))

pub replay_lines : (names : List (List ℕ)) (seen : ℕ → Files) → (replay_ending names seen).status ≢ 7 → AreLines IsOfNoQuorum (replay_ending names seen).text
replay_lines names seen = by (files_replayed 1 nothing_replayed names seen) (plain_files names 1 nothing_replayed seen (record { follower = record { image = plain_empty; waiting = tt }; cluster = tt }))
  where
    by : (r : Result Replay Ending) → EndsPlainly r → IsPlainEnding (ending_of r)
    by (Ok replay) plain = λ other. report_lines replay plain
    by (Err ending) plain = plain
