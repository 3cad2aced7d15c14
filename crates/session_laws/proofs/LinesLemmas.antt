-- Lemmas on how an input is cut into lines.
use Rattle.std.proofs.Common.{◌≡◌, ℕ, Bool, true, false, cond, eqb, List, [], ◌∷◌, ◌++◌, flat_map, refl, sym, ap, ◌∙◌, subst}
use Rattle.std.specs.List.{slice_split, onto_first, AllByRecursion}
use Rattle.std.proofs.lemmas.Bool.{eqb-true}
use Rattle.std.proofs.lemmas.List.Elements.{All-from_recursion}
use Rattle.std.proofs.lemmas.List.Splits.{slice_split_none, slice_split_at}
use Rattle.script_lang.specs.AnswerTexts.{line}
use Rattle.script_session.specs.Lines.{HasNoFeed, pieces_of, all_but_last, last_of, whole_lines, open_line}

abbrev is_feed : ℕ → Bool
is_feed byte = eqb byte 10

-- ---- whole lines and the open line, byte by byte

-- the pieces of an input are never none: a first one and others
pub record HasPieces (pieces : List (List ℕ)) : Type 0 where
  pub first : List ℕ
  pub others : List (List ℕ)
  pub is : pieces ≡ first ∷ others

pieces_cons : (c : ℕ) (bs : List ℕ) (b : Bool) → HasPieces (slice_split is_feed bs) → HasPieces (cond b ([] ∷ slice_split is_feed bs) (onto_first c (slice_split is_feed bs)))
pieces_cons c bs true h = record { first = []; others = slice_split is_feed bs; is = refl }
pieces_cons c bs false h = record { first = c ∷ h.first; others = h.others; is = ap (onto_first c) h.is }

pub pieces_some : (bs : List ℕ) → HasPieces (pieces_of bs)
pieces_some [] = record { first = []; others = []; is = refl }
pieces_some (c ∷ bs) = pieces_cons c bs (is_feed c) (pieces_some bs)

-- where xs are the pieces of a front, and ys those of its open line and what follows
abbrev joined : List (List ℕ) → List (List ℕ) → List (List ℕ)
joined xs ys = all_but_last xs ++ ys

joined_feed : (xs ys : List (List ℕ)) → HasPieces xs → joined ([] ∷ xs) ys ≡ [] ∷ joined xs ys
joined_feed xs ys h = subst (λ l. joined ([] ∷ l) ys ≡ [] ∷ joined l ys) (sym h.is) refl

last_feed : (xs : List (List ℕ)) → HasPieces xs → last_of ([] ∷ xs) ≡ last_of xs
last_feed xs h = subst (λ l. last_of ([] ∷ l) ≡ last_of l) (sym h.is) refl

-- the pieces of a front and a rest: those that the front ends, and those of its open line and the rest
pub pieces-append : (a b : List ℕ) → pieces_of (a ++ b) ≡ joined (pieces_of a) (pieces_of (last_of (pieces_of a) ++ b))
pieces-append [] b = refl
pieces-append (c ∷ a) b = by (is_feed c) refl (pieces_some a) (pieces-append a b)
  where
    P : ℕ → Type 0
    P n = pieces_of (a ++ b) ≡ joined (pieces_of a) (pieces_of (last_of (pieces_of a) ++ b))

    step : Bool → List (List ℕ) → List (List ℕ)
    step t pieces = cond t ([] ∷ pieces) (onto_first c pieces)

    -- the first piece of the front has a byte more
    one : (xs : List (List ℕ)) (f : List ℕ) (os : List (List ℕ)) → is_feed c ≡ false → xs ≡ f ∷ os → slice_split is_feed (a ++ b) ≡ joined xs (pieces_of (last_of xs ++ b))
        → onto_first c (slice_split is_feed (a ++ b)) ≡ joined (onto_first c xs) (pieces_of (last_of (onto_first c xs) ++ b))
    one xs f [] same e h =
        subst (λ l. onto_first c (slice_split is_feed (a ++ b)) ≡ joined (onto_first c l) (pieces_of (last_of (onto_first c l) ++ b))) (sym e)
        (ap (onto_first c) (h ∙ ap (λ l. joined l (pieces_of (last_of l ++ b))) e) ∙ ap (λ t. cond t ([] ∷ slice_split is_feed (f ++ b)) (onto_first c (slice_split is_feed (f ++ b)))) (sym same))
    one xs f (o ∷ os) same e h =
        subst (λ l. onto_first c (slice_split is_feed (a ++ b)) ≡ joined (onto_first c l) (pieces_of (last_of (onto_first c l) ++ b))) (sym e)
        (ap (onto_first c) (h ∙ ap (λ l. joined l (pieces_of (last_of l ++ b))) e))

    by : (t : Bool) → is_feed c ≡ t → HasPieces (pieces_of a) → P 0
        → cond t ([] ∷ pieces_of (a ++ b)) (onto_first c (pieces_of (a ++ b)))
        ≡ joined (cond t ([] ∷ pieces_of a) (onto_first c (pieces_of a))) (pieces_of (last_of (cond t ([] ∷ pieces_of a) (onto_first c (pieces_of a))) ++ b))
    by true e some h =
        ap (λ l. [] ∷ l) h ∙ sym (joined_feed (pieces_of a) _ some)
        ∙ ap (λ l. joined ([] ∷ pieces_of a) (pieces_of (l ++ b))) (sym (last_feed (pieces_of a) some))
    by false e some h = one (pieces_of a) some.first some.others e some.is h

-- ---- whole lines and the open line of a front and a rest

all_but_last-append : (xs ys : List (List ℕ)) → HasPieces ys → all_but_last (xs ++ ys) ≡ xs ++ all_but_last ys
all_but_last-append [] ys h = refl
all_but_last-append (x ∷ []) ys h = subst (λ l. all_but_last (x ∷ l) ≡ x ∷ all_but_last l) (sym h.is) refl
all_but_last-append (x ∷ y ∷ xs) ys h = ap (λ l. x ∷ l) (all_but_last-append (y ∷ xs) ys h)

last_of-append : (xs ys : List (List ℕ)) → HasPieces ys → last_of (xs ++ ys) ≡ last_of ys
last_of-append [] ys h = refl
last_of-append (x ∷ []) ys h = subst (λ l. last_of (x ∷ l) ≡ last_of l) (sym h.is) refl
last_of-append (x ∷ y ∷ xs) ys h = last_of-append (y ∷ xs) ys h

pub whole_lines-append : (a b : List ℕ) → whole_lines (a ++ b) ≡ whole_lines a ++ whole_lines (open_line a ++ b)
unfolding whole_lines open_line
whole_lines-append a b = ap all_but_last (pieces-append a b) ∙ all_but_last-append _ _ (pieces_some (last_of (pieces_of a) ++ b))

pub open_line-append : (a b : List ℕ) → open_line (a ++ b) ≡ open_line (open_line a ++ b)
unfolding open_line
open_line-append a b = ap last_of (pieces-append a b) ∙ last_of-append (all_but_last (pieces_of a)) _ (pieces_some (last_of (pieces_of a) ++ b))

-- ---- bytes without a line feed

pub whole_lines-none : (bytes : List ℕ) → HasNoFeed bytes → whole_lines bytes ≡ []
unfolding whole_lines
whole_lines-none bytes h = ap all_but_last (slice_split_none is_feed bytes (All-from_recursion _ bytes h))

pub open_line-none : (bytes : List ℕ) → HasNoFeed bytes → open_line bytes ≡ bytes
unfolding open_line
open_line-none bytes h = ap last_of (slice_split_none is_feed bytes (All-from_recursion _ bytes h))

-- a line, its feed, and what follows
pub whole_lines-line : (l more : List ℕ) → HasNoFeed l → whole_lines (l ++ 10 ∷ more) ≡ l ∷ whole_lines more
unfolding whole_lines
whole_lines-line l more h =
    ap all_but_last (slice_split_at is_feed l 10 more (All-from_recursion _ l h) refl)
    ∙ all_but_last-append (l ∷ []) (pieces_of more) (pieces_some more)

pub open_line-line : (l more : List ℕ) → HasNoFeed l → open_line (l ++ 10 ∷ more) ≡ open_line more
unfolding open_line
open_line-line l more h =
    ap last_of (slice_split_at is_feed l 10 more (All-from_recursion _ l h) refl)
    ∙ last_of-append (l ∷ []) (pieces_of more) (pieces_some more)

pub HasNoFeed-append : (a b : List ℕ) → HasNoFeed a → HasNoFeed b → HasNoFeed (a ++ b)
HasNoFeed-append [] b p q = q
HasNoFeed-append (c ∷ a) b p q = (p.0, HasNoFeed-append a b p.1 q)

-- ---- no line has a line feed

abbrev NoneHas : List (List ℕ) → Type 0
NoneHas pieces = AllByRecursion HasNoFeed pieces

NoneHas_cons : (c : ℕ) (b : Bool) → is_feed c ≡ b → (pieces : List (List ℕ)) → NoneHas pieces → NoneHas (cond b ([] ∷ pieces) (onto_first c pieces))
NoneHas_cons c true e pieces h = (tt, h)
NoneHas_cons c false e [] h = ((e, tt), tt)
NoneHas_cons c false e (p ∷ pieces) h = ((e, h.0), h.1)

NoneHas-pieces : (bytes : List ℕ) → NoneHas (pieces_of bytes)
NoneHas-pieces [] = (tt, tt)
NoneHas-pieces (c ∷ bytes) = NoneHas_cons c (is_feed c) refl (pieces_of bytes) (NoneHas-pieces bytes)

HasNoFeed-last : (pieces : List (List ℕ)) → NoneHas pieces → HasNoFeed (last_of pieces)
HasNoFeed-last [] h = tt
HasNoFeed-last (p ∷ []) h = h.0
HasNoFeed-last (p ∷ q ∷ pieces) h = HasNoFeed-last (q ∷ pieces) h.1

pub HasNoFeed-open : (bytes : List ℕ) → HasNoFeed (open_line bytes)
unfolding open_line
HasNoFeed-open bytes = HasNoFeed-last (pieces_of bytes) (NoneHas-pieces bytes)

NoneHas-front : (pieces : List (List ℕ)) → NoneHas pieces → NoneHas (all_but_last pieces)
NoneHas-front [] h = tt
NoneHas-front (p ∷ []) h = tt
NoneHas-front (p ∷ q ∷ pieces) h = (h.0, NoneHas-front (q ∷ pieces) h.1)

pub HasNoFeed-lines : (bytes : List ℕ) → AllByRecursion HasNoFeed (whole_lines bytes)
unfolding whole_lines
HasNoFeed-lines bytes = NoneHas-front (pieces_of bytes) (NoneHas-pieces bytes)

-- ---- the lines are the input

-- the lines, each with its feed, and the open line
abbrev lined : List (List ℕ) → List ℕ
lined pieces = flat_map line (all_but_last pieces) ++ last_of pieces

lined_feed : (pieces : List (List ℕ)) → HasPieces pieces → lined ([] ∷ pieces) ≡ 10 ∷ lined pieces
lined_feed pieces h = subst (λ l. lined ([] ∷ l) ≡ 10 ∷ lined l) (sym h.is) refl

lined_byte : (c : ℕ) (first : List ℕ) (others : List (List ℕ)) → lined (onto_first c (first ∷ others)) ≡ c ∷ lined (first ∷ others)
lined_byte c first [] = refl
lined_byte c first (next ∷ others) = refl

lined_cons : (c : ℕ) (pieces : List (List ℕ)) → HasPieces pieces → lined (cond (is_feed c) ([] ∷ pieces) (onto_first c pieces)) ≡ c ∷ lined pieces
lined_cons c pieces h = by (is_feed c) refl
  where
    by : (b : Bool) → is_feed c ≡ b → lined (cond b ([] ∷ pieces) (onto_first c pieces)) ≡ c ∷ lined pieces
    by true e = lined_feed pieces h ∙ ap (λ x. x ∷ lined pieces) (sym (eqb-true c 10 e))
    by false e = subst (λ l. lined (onto_first c l) ≡ c ∷ lined l) (sym h.is) (lined_byte c h.first h.others)

lined_pieces : (bytes : List ℕ) → lined (pieces_of bytes) ≡ bytes
lined_pieces [] = refl
lined_pieces (c ∷ bytes) = lined_cons c (pieces_of bytes) (pieces_some bytes) ∙ ap (λ l. c ∷ l) (lined_pieces bytes)

pub lines_whole : (bytes : List ℕ) → flat_map line (whole_lines bytes) ++ open_line bytes ≡ bytes
unfolding whole_lines open_line
lines_whole bytes = lined_pieces bytes
