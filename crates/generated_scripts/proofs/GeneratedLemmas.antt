-- Lemmas on the generated script: lines after lines, and what is left of a loop over lines.
use Rattle.std.proofs.Common.{◌≡◌, ℕ, suc, ◌+◌, ◌-◌, ◌*◌, ◌%◌, ◌^◌, ℤ, ◌<◌, ◌≤◌, true, false, cond, List, [], ◌∷◌, ◌++◌, length, map, codes, drop, get_or, Result, Ok, Err, OnOk, refl, sym, ap, ◌∙◌, append_assoc, append-nil, arith}
use Rattle.std.proofs.lemmas.List.{at_drop_all, at_drop_more}
use Rattle.generated_scripts.specs.Generated.{after_line, after_lines, begins, generation_of, kind_of, nothing_generated, refusals, refused_kind, refused_line, refused_lines}
use Rattle.generated_scripts.specs.GeneratedLines.{commit_line, deliver_line, deliveries, delivers, drawn, drawn_token, each, join_line, join_lines, keyspace_lines, on_node, opening_lines, register_words, register_line, register_lines, round_commits, round_lines, rounds_lines, step_lines, step_words, with_token}
use Rattle.script_session.specs.Machine.{SessionState, session_after}
use Rattle.generated_scripts.specs.declared.kinds.AnswerKind.{AnswerKind}
use Rattle.generated_scripts.specs.declared.kinds.AnswerKind.TheVariants.{Accepted, Other, Refused}
use Rattle.generated_scripts.specs.declared.generation.Generation.{Generation}

-- ---- kinds

module _ {B : Type 0} (front : B → List ℕ) (fronts : List B) (text : List ℕ) (i : ℕ) where
  -- the texts before the i-th are none with which the text begins
  abbrev pub AreOthers : Type 0
  AreOthers = refused_kind 1 (map front fronts) text ≡ refused_kind (i + 1) (map front (drop i fronts)) text

  next_front : (d : B) → i < length fronts → AreOthers
      → refused_kind 1 (map front fronts) text ≡ cond (begins text (front (get_or fronts i d))) (Refused (i + 1)) (refused_kind (i + 1 + 1) (map front (drop (i + 1) fronts)) text)
  next_front d within others = others ∙ at_drop_more (λ fs. refused_kind (i + 1) (map front fs) text) fronts i d within

  pub refused_here : (d : B) → i < length fronts → AreOthers → begins text (front (get_or fronts i d)) ≡ true → refused_kind 1 (map front fronts) text ≡ Refused (i + 1)
  refused_here d within others is = next_front d within others ∙ ap (λ b. cond b (Refused (i + 1)) (refused_kind (i + 1 + 1) (map front (drop (i + 1) fronts)) text)) is

  pub refused_never : length fronts ≤ i → AreOthers → refused_kind 1 (map front fronts) text ≡ Other
  refused_never past others = others ∙ at_drop_all (λ fs. refused_kind (i + 1) (map front fs) text) fronts i past

-- an answer that accepts no commit
pub kind_else : (text : List ℕ) → begins text (codes "OK ") ≡ false → kind_of text ≡ refused_kind 1 refusals text
unfolding kind_of
kind_else text is = ap (λ b. cond b Accepted (refused_kind 1 refusals text)) is

-- ---- lines

pub after_lines-append : (g : Generation) (a b : List (List ℕ)) → after_lines g (a ++ b) ≡ after_lines (after_lines g a) b
after_lines-append g [] b = refl
after_lines-append g (l ∷ a) b = after_lines-append (after_line g l) a b

pub after_lines-session : (g : Generation) (lines : List (List ℕ)) → (after_lines g lines).session ≡ session_after g.session lines
after_lines-session g [] = refl
after_lines-session g (l ∷ lines) = after_lines-session (after_line g l) lines

-- what a last call leaves, if memory is found
pub if_ok : {T E : Type 0} (r : Result T E) (g h h' : Generation) → OnOk r (g ≡ h) → h ≡ h' → OnOk r (g ≡ h')
if_ok (Ok x) g h h' is same = is ∙ same
if_ok (Err e) g h h' is same = tt

-- where lines are left of a loop, the next one is answered
pub after_next : (g g' : Generation) (bytes : List ℕ) (lines rest : List (List ℕ)) → lines ≡ bytes ∷ rest → g' ≡ after_line g bytes → after_lines g lines ≡ after_lines g' rest
after_next g g' bytes lines rest is next = ap (after_lines g) is ∙ ap (λ x. after_lines x rest) (sym next)

-- and none is left
pub after_last : (g g' : Generation) (lines rest : List (List ℕ)) → after_lines g lines ≡ after_lines g' rest → rest ≡ [] → g' ≡ after_lines g lines
after_last g g' lines rest so_far none = sym (so_far ∙ ap (after_lines g') none)

-- ---- deliveries

pub delivers-next : (after epoch : ℕ) → after < epoch → delivers after (epoch - after) ≡ deliver_line epoch ∷ delivers after (epoch - 1 - after)
unfolding delivers
delivers-next after epoch above =
    let count = epoch - 1 - after in
    let more : epoch - after ≡ suc count = omega arith in
    let first : after + suc count ≡ epoch = omega arith in
    ap (delivers after) more ∙ ap (λ e. deliver_line e ∷ delivers after count) first

pub delivers-none : (after epoch : ℕ) → epoch ≤ after → delivers after (epoch - after) ≡ []
unfolding delivers
delivers-none after epoch past = (let none : epoch - after ≡ 0 = omega arith in ap (delivers after) none)

-- ---- lines by numbers

pub each-next : (line : ℕ → List ℕ) (i count : ℕ) → i ≤ count → each line i (count + 1 - i) ≡ line i ∷ each line (i + 1) (count + 1 - (i + 1))
each-next line i count within = (let more : count + 1 - i ≡ suc (count + 1 - (i + 1)) = omega arith in ap (each line i) more)

pub each-none : (line : ℕ → List ℕ) (i count : ℕ) → count < i → each line i (count + 1 - i) ≡ []
each-none line i count past = (let none : count + 1 - i ≡ 0 = omega arith in ap (each line i) none)

pub register_all : (count : ℕ) → register_lines count ≡ each register_line 1 (count + 1 - 1)
unfolding register_lines
register_all count = (let same : count ≡ count + 1 - 1 = omega arith in ap (each register_line 1) same)

pub join_all : (count : ℕ) → join_lines count ≡ each join_line 1 (count + 1 - 1)
unfolding join_lines
join_all count = (let same : count ≡ count + 1 - 1 = omega arith in ap (each join_line 1) same)

-- ---- the opening

pub opened : (g g1 g2 g3 : Generation) → g1 ≡ after_lines g (register_lines 24) → g2 ≡ after_lines g1 (join_lines 24) → g3 ≡ after_lines g2 keyspace_lines
    → after_lines g3 (delivers 0 50) ≡ after_lines g opening_lines
unfolding opening_lines
opened g g1 g2 g3 registered joined made =
    let nodes = register_lines 24 ++ join_lines 24 in
    let all : g3 ≡ after_lines g (nodes ++ keyspace_lines) =
    made ∙ ap (λ x. after_lines x keyspace_lines) (joined ∙ ap (λ x. after_lines x (join_lines 24)) registered ∙ sym (after_lines-append g (register_lines 24) (join_lines 24)))
    ∙ sym (after_lines-append g nodes keyspace_lines) in
    ap (λ x. after_lines x (delivers 0 50)) all ∙ sym (after_lines-append g (nodes ++ keyspace_lines) (delivers 0 50))

-- ---- steps

module _ {B : Type 0} (word : B → List ℕ) (words : List B) (node i : ℕ) where
  pub steps-next : (g g' g'' : Generation) (id : ℕ) (d : B) → i < length words
      → g' ≡ after_line g (commit_line id (on_node (word (get_or words i d)) node)) → g'' ≡ after_line g' (commit_line (id + 1) (on_node (word (get_or words i d)) (node + 1)))
      → after_lines g (step_lines id node (map word (drop i words))) ≡ after_lines g'' (step_lines (id + 2) node (map word (drop (i + 1) words)))
  unfolding step_lines
  steps-next g g' g'' id d within first second =
      let rest = step_lines (id + 2) node (map word (drop (i + 1) words)) in
      let last = commit_line (id + 1) (on_node (word (get_or words i d)) (node + 1)) in
      at_drop_more (λ ws. after_lines g (step_lines id node (map word ws))) words i d within
      ∙ ap (λ x. after_lines (after_line x last) rest) (sym first) ∙ ap (λ x. after_lines x rest) (sym second)

  pub steps-none : (id : ℕ) → length words ≤ i → step_lines id node (map word (drop i words)) ≡ []
  unfolding step_lines
  steps-none id past = at_drop_all (λ ws. step_lines id node (map word ws)) words i past

-- ---- rounds

-- the commits of a round
module _ (g g1 g2 g3 g4 : Generation) (s j first second : ℕ) (t u : ℤ) where
  abbrev id : ℕ
  id = 31 + 20 * j

  abbrev node : ℕ
  node = 23 + 2 * j

  abbrev second_register : List ℕ
  second_register = commit_line (id + 1) (register_words (codes "b") j 2 2)

  abbrev steps : List (List ℕ)
  steps = step_lines (id + 4) node step_words

  abbrev joins : ℤ → ℤ → List (List ℕ)
  joins x y = commit_line (id + 2) (with_token (codes "prepare-join") node x) ∷ commit_line (id + 3) (with_token (codes "prepare-join") (node + 1) y) ∷ steps

  pub round_committed : first ≡ drawn s → second ≡ drawn first → t ≡ drawn_token first → u ≡ drawn_token second
      → g1 ≡ after_line g (commit_line id (register_words (codes "a") j 1 1)) → g2 ≡ after_line g1 second_register
      → g3 ≡ after_line g2 (commit_line (id + 2) (with_token (codes "prepare-join") node t)) → g4 ≡ after_line g3 (commit_line (id + 3) (with_token (codes "prepare-join") (node + 1) u))
      → after_lines g4 steps ≡ after_lines g (round_commits s j)
  unfolding round_commits
  round_committed f f' is is' a b c d =
      let first_token : t ≡ drawn_token (drawn s) = is ∙ ap drawn_token f in
      let second_token : u ≡ drawn_token (drawn (drawn s)) = is' ∙ ap drawn_token (f' ∙ ap drawn f) in
      ap (λ x. after_lines x steps) d
      ∙ ap (λ x. after_lines x (commit_line (id + 3) (with_token (codes "prepare-join") (node + 1) u) ∷ steps)) c
      ∙ ap (λ x. after_lines x (joins t u)) b
      ∙ ap (λ x. after_lines x (second_register ∷ joins t u)) a
      ∙ (λ i. after_lines g (commit_line id (register_words (codes "a") j 1 1) ∷ second_register ∷ joins (first_token i) (second_token i)))

-- a round: its commits, and the deliveries of the epochs from that before it on
pub round_done : (g g' g'' : Generation) (s j before last : ℕ) → before ≡ length g.session.log → g' ≡ after_lines g (round_commits s j)
    → last ≡ length g'.session.log → g'' ≡ after_lines g' (delivers before (last - before)) → g'' ≡ after_lines g (round_lines g.session s j)
unfolding round_lines
round_done g g' g'' s j before last is commits is' down =
    let lines = round_commits s j in
    let session : g'.session ≡ session_after g.session lines = ap (λ (x : Generation). x.session) commits ∙ after_lines-session g lines in
    let count : last - before ≡ length (session_after g.session lines).log - length g.session.log = (λ i. (is' ∙ ap (λ (x : SessionState). length x.log) session) i - is i) in
    down ∙ (λ i. after_lines (commits i) (delivers (is i) (count i))) ∙ sym (after_lines-append g lines (deliveries g.session lines))

pub rounds-next : (g g' : Generation) (s j rounds first second : ℕ) → j ≤ rounds → g' ≡ after_lines g (round_lines g.session s j) → first ≡ drawn s → second ≡ drawn first
    → after_lines g (rounds_lines g.session s j (rounds + 1 - j)) ≡ after_lines g' (rounds_lines g'.session second (j + 1) (rounds + 1 - (j + 1)))
unfolding rounds_lines
rounds-next g g' s j rounds first second within is f f' =
    let count = rounds + 1 - (j + 1) in
    let more : rounds + 1 - j ≡ suc count = omega arith in
    let lines = round_lines g.session s j in
    let later : SessionState → List (List ℕ) = λ session. rounds_lines session (drawn (drawn s)) (j + 1) count in
    ap (λ n. after_lines g (rounds_lines g.session s j n)) more
    ∙ after_lines-append g lines (later (session_after g.session lines))
    ∙ ap (λ session. after_lines (after_lines g lines) (later session)) (sym (after_lines-session g lines))
    ∙ ap (λ (x : Generation). after_lines x (later x.session)) (sym is)
    ∙ ap (λ d. after_lines g' (rounds_lines g'.session d (j + 1) count)) (sym (f' ∙ ap drawn f))

pub rounds-none : (session : SessionState) (s j rounds : ℕ) → rounds < j → rounds_lines session s j (rounds + 1 - j) ≡ []
unfolding rounds_lines
rounds-none session s j rounds past = (let none : rounds + 1 - j ≡ 0 = omega arith in ap (rounds_lines session s j) none)

-- ---- refusals

pub refused-next : (kinds : List AnswerKind) (number last : ℕ) (out out' : List ℕ) → number ≤ last → out' ≡ out ++ refused_line kinds number
    → out ++ refused_lines kinds number (last + 1 - number) ≡ out' ++ refused_lines kinds (number + 1) (last + 1 - (number + 1))
unfolding refused_lines
refused-next kinds number last out out' within is =
    let count = last + 1 - (number + 1) in
    let more : last + 1 - number ≡ suc count = omega arith in
    ap (λ n. out ++ refused_lines kinds number n) more ∙ sym (append_assoc out (refused_line kinds number) (refused_lines kinds (number + 1) count))
    ∙ ap (λ x. x ++ refused_lines kinds (number + 1) count) (sym is)

pub refused-none : (kinds : List AnswerKind) (number last : ℕ) (out : List ℕ) → last < number → out ++ refused_lines kinds number (last + 1 - number) ≡ out
unfolding refused_lines
refused-none kinds number last out past = (let none : last + 1 - number ≡ 0 = omega arith in ap (λ n. out ++ refused_lines kinds number n) none ∙ append-nil out)

pub refused_all : (kinds : List AnswerKind) (last : ℕ) (out : List ℕ) → out ++ refused_lines kinds 1 last ≡ out ++ refused_lines kinds 1 (last + 1 - 1)
refused_all kinds last out = (let same : last ≡ last + 1 - 1 = omega arith in ap (λ n. out ++ refused_lines kinds 1 n) same)

-- ---- the script

pub scripted : (g g' : Generation) (start rounds : ℕ) → g ≡ nothing_generated → g' ≡ after_lines g opening_lines
    → after_lines g' (rounds_lines g'.session (start % 2 ^ 31) 1 rounds) ≡ generation_of start rounds
scripted g g' start rounds begins opens =
    let opened : g' ≡ after_lines nothing_generated opening_lines = opens ∙ ap (λ x. after_lines x opening_lines) begins in
    let more : SessionState → List (List ℕ) = λ session. rounds_lines session (start % 2 ^ 31) 1 rounds in
    ap (λ (x : Generation). after_lines x (more x.session)) opened
    ∙ ap (λ session. after_lines (after_lines nothing_generated opening_lines) (more session)) (after_lines-session nothing_generated opening_lines)
    ∙ sym (after_lines-append nothing_generated opening_lines (more (session_after nothing_generated.session opening_lines)))
