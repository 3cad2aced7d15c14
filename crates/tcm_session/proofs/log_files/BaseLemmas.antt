-- What a log file keeps when a script begins: its whole lines, or the header.
use Rattle.std.proofs.Common.{◌≡◌, ◌≢◌, ℕ, ◌-◌, ◌≤◌, List, [], ◌∷◌, ◌++◌, flat_map, length, take, refl, sym, ap, ◌∙◌, append-nil, length-append, arith}
use Rattle.std.proofs.lemmas.List.{take_at}
use Rattle.wire_json.specs.Header.{header_line}
use Rattle.script_lang.specs.AnswerTexts.{line}
use Rattle.script_session.specs.Lines.{open_line, whole_lines}
use Rattle.script_session.specs.LogFiles.{base_of, lines_or_header}
use Rattle.session_laws.proofs.LinesLemmas.{lines_whole}

module _ (cluster file : List ℕ) where
  abbrev whole : List ℕ
  whole = flat_map line (whole_lines file)

  -- the bytes of the whole lines
  abbrev size : ℕ
  size = length file - length (open_line file)

  pub sizes : length whole ≡ size
  sizes = (let sum = length-append whole (open_line file) in let all = ap length (lines_whole file) in omega (arith, sum, all))

  pub open_within : length (open_line file) ≤ length file
  open_within = (let sum = length-append whole (open_line file) in let all = ap length (lines_whole file) in omega (arith, sum, all))

  -- without a whole line it is the header
  pub base_header : size ≡ 0 → base_of cluster file ≡ header_line cluster
  base_header none = by (whole_lines file) refl
    where
      by : (lines : List (List ℕ)) → whole_lines file ≡ lines → lines_or_header cluster lines ≡ header_line cluster
      by [] is = refl
      by (l ∷ ls) is =
          let sum = length-append (line l) (flat_map line ls) in
          let first = length-append l (10 ∷ []) in
          let all = ap (λ x. length (flat_map line x)) is in
          absurd (omega (arith, sizes, none, all, sum, first))

  pub base_lines : size ≢ 0 → base_of cluster file ≡ whole
  base_lines some = by (whole_lines file) refl
    where
      by : (lines : List (List ℕ)) → whole_lines file ≡ lines → lines_or_header cluster lines ≡ flat_map line lines
      by [] is = (let all = ap (λ x. length (flat_map line x)) is in absurd (some (omega (arith, sizes, all))))
      by (l ∷ ls) is = refl

  -- an open line is cut off
  pub base_cut : size ≢ 0 → take size file ≡ base_of cluster file
  base_cut some = ap (take size) (sym (lines_whole file)) ∙ take_at whole (open_line file) size sizes ∙ sym (base_lines some)

  -- without an open line it is the file
  pub base_all : size ≢ 0 → length (open_line file) ≡ 0 → base_of cluster file ≡ file
  base_all some none = base_lines some ∙ by (open_line file) none (lines_whole file)
    where
      by : (o : List ℕ) → length o ≡ 0 → whole ++ o ≡ file → whole ≡ file
      by [] none is = sym (append-nil whole) ∙ is
      by (byte ∷ o) none is = absurd (omega (arith, none))

  pub file_some : size ≢ 0 → file ≢ []
  file_some some none = some (let bare = ap length none in omega (arith, bare))
