-- What a crash leaves while a record is added behind a closed gate, and while the end of the records is repaired.
use Rattle.std.proofs.Common.{◌≡◌, ◌≢◌, ◌⊎◌, inl, inr, ⊎_elim, ℕ, ◌+◌, ◌^◌, ◌<◌, ◌≤◌, List, [], ◌∷◌, ◌++◌, length, get_or, take, drop, refl, sym, ◌∙◌, ap, arith, append_assoc, length-append, length-drop, take-append-drop}
use Rattle.std.proofs.lemmas.Bool.{cases_eq, cases_lt}
use Rattle.std.proofs.lemmas.List.{append-nil, drop_at, drop_more, get_or-take, get_or_at, length-take-le, take-take, take_at}
use Rattle.std.specs.FinMap as map
use Rattle.tcm_edges.specs.Files.{Files}
use Rattle.durable_log.specs.Disk.{Torn, Written}
use Rattle.durable_log.specs.Ends.{IsEnd, IsFront}
use Rattle.durable_log.specs.Records.{Change, body, changed, changed_all, files, records}
use Rattle.durable_log.proofs.records.Fronts.{closed_end, front_kept, records_end}
use Rattle.durable_log.proofs.records.RecordLemmas.{records-written, records_none, shut}
use Rattle.durable_log.proofs.disks.Writes.{written_torn}

pub changed_all_push : (all : Files) (xs : List Change) (x : Change) → changed_all all (xs ++ x ∷ []) ≡ changed (changed_all all xs) x
changed_all_push all [] x = refl
changed_all_push all (y ∷ xs) x = changed_all_push (changed all y) xs x

-- a list is its front, a byte and what stands behind it
pub parts : (at : ℕ) (xs : List ℕ) → at < length xs → xs ≡ take at xs ++ get_or xs at 0 ∷ drop (at + 1) xs
parts at xs lt = sym (take-append-drop at xs) ∙ ap (λ (l : List ℕ). take at xs ++ l) (drop_more xs at 0 lt)

-- what stands behind the gate of a front
abbrev pub front_records : ℕ → List ℕ → List Change
front_records gate bytes = records (take gate bytes)

-- an image whose records end at the place
pub files_end : (at : ℕ) (bytes : List ℕ) → IsEnd at bytes → files bytes ≡ changed_all map.empty (front_records at bytes)
files_end at bytes end = ap (λ (l : List Change). changed_all map.empty l) (records_end at bytes end)

module _ (gate : ℕ) (old : List ℕ) (old_front : IsFront gate old) (old_room : gate < length old) (old_closed : get_or old gate 0 ≢ 1) where
  abbrev so_far : List Change
  so_far = front_records gate old

  files_old : files old ≡ changed_all map.empty so_far
  files_old = files_end gate old (closed_end gate old old_front old_room old_closed)

  -- with the closed gate, too, nothing changed
  pub behind_kept : (new : List ℕ) → take (gate + 1) new ≡ take (gate + 1) old → length old ≤ length new → (IsFront gate new × (get_or new gate 0 ≢ 1)) × (files new ≡ files old)
  behind_kept new same long =
      let le : gate ≤ gate + 1 = omega arith in
      let fronts : take gate new ≡ take gate old = sym (take-take gate (gate + 1) new le) ∙ ap (λ (l : List ℕ). take gate l) same ∙ take-take gate (gate + 1) old le in
      let lt : gate < gate + 1 = omega arith in
      let byte : get_or new gate 0 ≡ get_or old gate 0 = sym (get_or-take (gate + 1) new gate 0 lt) ∙ ap (λ (l : List ℕ). get_or l gate 0) same ∙ get_or-take (gate + 1) old gate 0 lt in
      let new_front = front_kept gate old new fronts (omega arith) old_front in
      let new_closed : get_or new gate 0 ≢ 1 = λ is. old_closed (sym byte ∙ is) in (
        (new_front, new_closed),
        files_end gate new (closed_end gate new new_front (omega arith) new_closed)
            ∙ ap (λ (l : List ℕ). changed_all map.empty (records l)) fronts ∙ sym files_old,
      )

  module _ (change : Change) (kind : change.kind ≤ 1) (name_fits : length change.name < 2 ^ 64) (bytes_fit : length change.bytes < 2 ^ 64) where
    -- the record stands behind the closed gate, with a closed gate behind it
    pub record Staged (staged : List ℕ) : Type 0 where
      pub front : take gate staged ≡ take gate old
      pub room : gate < length staged
      pub tail : List ℕ
      pub back : drop (gate + 1) staged ≡ body change ++ 0 ∷ tail

    pub stage : (new : List ℕ) → Written (gate + 1) (body change ++ 0 ∷ []) old new → Staged new
    stage new written =
        let start = take (gate + 1) old in
        let size : length start ≡ gate + 1 = length-take-le (gate + 1) old (omega arith) in
        let rest = drop (gate + 1 + length (body change ++ 0 ∷ [])) old in
        let split : new ≡ start ++ ((body change ++ 0 ∷ []) ++ rest) = written ∙ append_assoc start (body change ++ 0 ∷ []) rest in
        let le : gate ≤ gate + 1 = omega arith in
        record {
          front = ap (λ (l : List ℕ). take gate l) split
              ∙ sym (take-take gate (gate + 1) (start ++ ((body change ++ 0 ∷ []) ++ rest)) le)
              ∙ ap (λ (l : List ℕ). take gate l) (take_at start ((body change ++ 0 ∷ []) ++ rest) (gate + 1) size)
              ∙ take-take gate (gate + 1) old le;
          room = omega (arith, ap length split, length-append start ((body change ++ 0 ∷ []) ++ rest), size);
          tail = rest;
          back = ap (λ (l : List ℕ). drop (gate + 1) l) split ∙ drop_at start ((body change ++ 0 ∷ []) ++ rest) (gate + 1) size ∙ append_assoc (body change) (0 ∷ []) rest;
        }

    -- with any gate before it the record counts or it doesn't
    any_gate : (staged new : List ℕ) → Staged staged → take gate new ≡ take gate staged → drop (gate + 1) new ≡ drop (gate + 1) staged → gate < length new
        → (tail : List ℕ) × (new ≡ take gate old ++ get_or new gate 0 ∷ (body change ++ 0 ∷ tail))
    any_gate staged new is same_front same_back lt =
        (is.tail, parts gate new lt ∙ (λ i. (same_front ∙ is.front) i ++ get_or new gate 0 ∷ (same_back ∙ is.back) i))

    counts : (new : List ℕ) (tail : List ℕ) → new ≡ take gate old ++ 1 ∷ (body change ++ 0 ∷ tail) → records new ≡ so_far ++ change ∷ []
    counts new tail is =
        ap records is ∙ old_front.whole (1 ∷ (body change ++ 0 ∷ tail))
        ∙ ap (λ (l : List Change). so_far ++ l) (records-written change (0 ∷ tail) kind name_fits bytes_fit ∙ ap (λ (l : List Change). change ∷ l) (shut 0 tail (omega arith)))

    pub files_counted : (new : List ℕ) → records new ≡ so_far ++ change ∷ [] → files new ≡ changed (files old) change
    files_counted new is =
        ap (λ (l : List Change). changed_all map.empty l) is ∙ changed_all_push map.empty so_far change ∙ ap (λ (all : Files). changed all change) (sym files_old)

    pub torn_gate : (staged new : List ℕ) → Staged staged → Torn gate 1 staged new → (files new ≡ files old) ⊎ (files new ≡ changed (files old) change)
    torn_gate staged new is torn =
        let lt : gate < length new = omega (arith, is.room, torn.no_shorter) in
        let whole = any_gate staged new is torn.before torn.after lt in
        ⊎_elim
        (λ yes. inr (files_counted new (counts new whole.0 (whole.1 ∙ ap (λ (g : ℕ). take gate old ++ g ∷ (body change ++ 0 ∷ whole.0)) yes))))
        (λ no.
        let new_front = front_kept gate old new (torn.before ∙ is.front) (omega arith) old_front in
        inl (files_end gate new (closed_end gate new new_front lt no)
        ∙ ap (λ (l : List ℕ). changed_all map.empty (records l)) (torn.before ∙ is.front) ∙ sym files_old))
        (cases_eq (get_or new gate 0) 1)

    -- with an open gate it counts, and the closed gate behind it ends the records
    pub record Opened (new : List ℕ) : Type 0 where
      pub files_are : files new ≡ changed (files old) change
      pub front : IsFront (gate + 1 + length (body change)) new
      pub room : gate + 1 + length (body change) < length new
      pub closed : get_or new (gate + 1 + length (body change)) 0 ≢ 1

    pub opened : (staged new : List ℕ) → Staged staged → Written gate (1 ∷ []) staged new → Opened new
    opened staged new is written =
        let torn = written_torn gate (1 ∷ []) staged new (omega (arith, is.room)) written in
        let start = take gate old in
        let size : length start ≡ gate = length-take-le gate old (omega arith) in
        let front_is : take gate staged ++ (1 ∷ []) ≡ start ++ (1 ∷ []) = ap (λ (l : List ℕ). l ++ 1 ∷ []) is.front in
        let split : new ≡ start ++ 1 ∷ (body change ++ 0 ∷ is.tail) =
        written ∙ (λ i. front_is i ++ is.back i) ∙ append_assoc start (1 ∷ []) (body change ++ 0 ∷ is.tail) in
        let all = start ++ 1 ∷ body change in
        let split_end : new ≡ all ++ 0 ∷ is.tail = split ∙ sym (append_assoc start (1 ∷ body change) (0 ∷ is.tail)) in
        let end = gate + 1 + length (body change) in
        let all_len : length all ≡ end = omega (arith, length-append start (1 ∷ body change), size) in
        let front_all : take end new ≡ all = ap (λ (l : List ℕ). take end l) split_end ∙ take_at all (0 ∷ is.tail) end all_len in
        let new_len : length new ≡ end + 1 + length is.tail = omega (arith, ap length split_end, length-append all (0 ∷ is.tail), all_len) in
        let counted : (rest : List ℕ) → records (all ++ rest) ≡ so_far ++ change ∷ records rest =
        λ rest. ap records (append_assoc start (1 ∷ body change) rest) ∙ old_front.whole (1 ∷ (body change ++ rest))
        ∙ ap (λ (l : List Change). so_far ++ l) (records-written change rest kind name_fits bytes_fit) in
        let alone : records all ≡ so_far ++ change ∷ [] = ap records (sym (append-nil all)) ∙ counted [] in
        record {
          files_are = files_counted new (counts new is.tail split);
          front = record {
            within = omega (arith, new_len);
            whole = λ rest.
                ap (λ (l : List ℕ). records (l ++ rest)) front_all ∙ counted rest ∙ sym (append_assoc so_far (change ∷ []) (records rest))
                ∙ ap (λ (l : List Change). l ++ records rest) (sym alone ∙ ap records (sym front_all));
          };
          room = omega (arith, new_len);
          closed = λ bad. absurd (cc (bad, get_or_zero all is.tail end all_len new split_end));
        }
      where
        get_or_zero : (xs ys : List ℕ) (n : ℕ) → length xs ≡ n → (l : List ℕ) → l ≡ xs ++ 0 ∷ ys → get_or l n 0 ≡ 0
        get_or_zero xs ys n is l e = ap (λ (k : List ℕ). get_or k n 0) e ∙ get_or_at xs 0 ys 0 n is

-- where the records end at the end of the disk or at an open gate that counts for nothing, any byte there counts for nothing
module _ (at : ℕ) (old : List ℕ) (end : IsEnd at old) (bare : (length old ≡ at) ⊎ (get_or old at 0 ≡ 1)) where
  torn_nothing : (new : List ℕ) → Torn at 1 old new → records (drop at new) ≡ []
  torn_nothing new torn = ⊎_elim
      (λ at_end. short (drop at new) (omega (arith, length-drop at new, torn.no_longer, at_end)))
      (λ is_open. ⊎_elim
      (λ lt. ⊎_elim
      (λ yes.
      let same : drop at new ≡ drop at old =
      drop_more new at 0 (omega (arith, torn.no_shorter)) ∙ (λ i. (yes ∙ sym is_open) i ∷ torn.after i) ∙ sym (drop_more old at 0 lt) in
      ap records same ∙ end.nothing)
      (λ no. ap records (drop_more new at 0 (omega (arith, torn.no_shorter))) ∙ shut (get_or new at 0) (drop (at + 1) new) no)
      (cases_eq (get_or new at 0) 1))
      (λ le. short (drop at new) (omega (arith, length-drop at new, torn.no_longer, end.front.within)))
      (cases_lt at (length old)))
      bare
    where
      short : (xs : List ℕ) → length xs ≤ 1 → records xs ≡ []
      short [] le = refl
      short (x ∷ []) le = records_none (x ∷ []) refl
      short (x ∷ y ∷ xs) le = absurd (omega arith)

  pub torn_end : (new : List ℕ) → Torn at 1 old new → files new ≡ files old
  torn_end new torn =
      let new_end : IsEnd at new = record { front = front_kept at old new torn.before (omega (arith, end.front.within, torn.no_shorter)) end.front; nothing = torn_nothing new torn } in
      files_end at new new_end ∙ ap (λ (l : List ℕ). changed_all map.empty (records l)) torn.before ∙ sym (files_end at old end)

  -- once a closed gate is written there, it ends the records
  pub record Closed (new : List ℕ) : Type 0 where
    pub front : IsFront at new
    pub room : at < length new
    pub closed : get_or new at 0 ≢ 1

  pub written_end : (new : List ℕ) → Written at (0 ∷ []) old new → Closed new
  written_end new written =
      let torn = written_torn at (0 ∷ []) old new end.front.within written in
      let size : length (take at old) ≡ at = length-take-le at old end.front.within in
      let split : new ≡ take at old ++ 0 ∷ drop (at + 1) old = written ∙ append_assoc (take at old) (0 ∷ []) (drop (at + 1) old) in
      let gate : get_or new at 0 ≡ 0 = ap (λ (k : List ℕ). get_or k at 0) split ∙ get_or_at (take at old) 0 (drop (at + 1) old) 0 at size in
      record {
        front = front_kept at old new torn.before (omega (arith, end.front.within, torn.no_shorter)) end.front;
        room = omega (arith, ap length split, length-append (take at old) (0 ∷ drop (at + 1) old), size);
        closed = λ bad. absurd (cc (bad, gate));
      }
