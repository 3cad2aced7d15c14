-- Bytes that are made of whole lines.
use Rattle.std.proofs.Common.{◌≡◌, ℕ, List, [], ◌∷◌, ◌++◌, flat_map, true, sym, ap, ◌∙◌, subst}
use Rattle.std.specs.List.{AllByRecursion, Contains}
use Rattle.std.proofs.lemmas.List.Elements.{All-contains, All-from_recursion, Contains-append_left}
use Rattle.transformations.proofs.lists.ListLemmas.{all_append, all_weaker}
use Rattle.script_lang.specs.AnswerTexts.{line}
use Rattle.script_session.specs.Lines.{open_line, whole_lines}
use Rattle.session_laws.proofs.LinesLemmas.{open_line-append, open_line-line, open_line-none, whole_lines-append, whole_lines-line, whole_lines-none}
use Rattle.session_laws.proofs.texts.PlainTexts.{HasNoFeed-plain, is_plain}

-- no line is open, and each line is such
pub record AreLines (P : List ℕ → Type 0) (text : List ℕ) : Type 0 where
  pub whole : open_line text ≡ []
  pub each : AllByRecursion P (whole_lines text)

module _ (P : List ℕ → Type 0) where
  pub AreLines-nil : AreLines P []
  AreLines-nil = record { whole = open_line-none [] tt; each = subst (λ ls. AllByRecursion P ls) (sym (whole_lines-none [] tt)) tt }

  pub AreLines-line : (text : List ℕ) → is_plain text ≡ true → P text → AreLines P (line text)
  AreLines-line text plain is =
      let one : whole_lines (line text) ≡ text ∷ [] = whole_lines-line text [] (HasNoFeed-plain text plain) ∙ ap (λ ls. text ∷ ls) (whole_lines-none [] tt) in
      record {
        whole = open_line-line text [] (HasNoFeed-plain text plain) ∙ open_line-none [] tt;
        each = subst (λ ls. AllByRecursion P ls) (sym one) (is, tt);
      }

  pub AreLines-append : (a b : List ℕ) → AreLines P a → AreLines P b → AreLines P (a ++ b)
  AreLines-append a b p q =
      let both : whole_lines (a ++ b) ≡ whole_lines a ++ whole_lines b = whole_lines-append a b ∙ ap (λ o. whole_lines a ++ whole_lines (o ++ b)) p.whole in
      record {
        whole = open_line-append a b ∙ ap (λ o. open_line (o ++ b)) p.whole ∙ q.whole;
        each = subst (λ ls. AllByRecursion P ls) (sym both) (all_append P (whole_lines a) (whole_lines b) p.each q.each);
      }

  pub AreLines-flat_map : {X : Type 0} (f : X → List ℕ) (xs : List X) → AllByRecursion (λ x. AreLines P (f x)) xs → AreLines P (flat_map f xs)
  AreLines-flat_map f [] all = AreLines-nil
  AreLines-flat_map f (x ∷ xs) all = AreLines-append (f x) (flat_map f xs) all.0 (AreLines-flat_map f xs all.1)

  -- a line of a front of such bytes is such
  pub AreLines-front : (text front rest : List ℕ) → text ≡ front ++ rest → AreLines P text → (l : List ℕ) → Contains (whole_lines front) l → P l
  AreLines-front text front rest is lines l at =
      let more : Contains (whole_lines text) l =
      subst (λ ls. Contains ls l) (sym (ap whole_lines is ∙ whole_lines-append front rest)) (Contains-append_left (whole_lines front) (whole_lines (open_line front ++ rest)) l at) in
      All-contains P (whole_lines text) l (All-from_recursion P (whole_lines text) lines.each) more

pub AreLines-weaker : (P Q : List ℕ → Type 0) → ((l : List ℕ) → P l → Q l) → (text : List ℕ) → AreLines P text → AreLines Q text
AreLines-weaker P Q step text lines = record { whole = lines.whole; each = all_weaker P Q step (whole_lines text) lines.each }
