-- Tokens among tokens.
use Rattle.std.proofs.Common.{◌≡◌, ℕ, ◌<◌, Bool, true, false, ◌||◌, ℤ, List, [], ◌∷◌, ◌++◌, length, get_or, Some, refl, sym, ap, ◌∙◌, subst}
use Rattle.std.proofs.lemmas.Bool.{false≢true, or_left, or_right}
use Rattle.std.proofs.lemmas.Bool.Decides.{Decides-int_eq}
use Rattle.std.proofs.lemmas.List.Folds.{list_any-append, list_any_at}
use Rattle.std.specs.List.{AllByRecursion, list_any, slice_get}
use Rattle.std.specs.Ordering.{int_eq}
use Rattle.std.specs.Set.{is_member}
use Rattle.ring_reach.specs.code.Moved.{AreTokensAmong}

pub itself : (t : ℤ) (ts : List ℤ) → is_member int_eq (t ∷ ts) t ≡ true
itself t ts = or_left (int_eq t t) (is_member int_eq ts t) ((Decides-int_eq t t).1 refl)

-- the token at a position, and the first one
pub member_at : (ts : List ℤ) (i : ℕ) (t : ℤ) → i < length ts → t ≡ get_or ts i t → is_member int_eq ts t ≡ true
member_at ts i t in_i here = list_any_at (int_eq t) ts i t in_i ((Decides-int_eq t (get_or ts i t)).1 here)

pub first_member : (ts : List ℤ) (t : ℤ) → Some t ≡ slice_get ts 0 → is_member int_eq ts t ≡ true
first_member [] t e = absurd (cc)
first_member (u ∷ ts) t e = or_left (int_eq t u) (is_member int_eq ts t) ((Decides-int_eq t u).1 (let same : Some t ≡ Some u = e in cc))

-- what holds of all tokens holds of one among them
pub at_member : (P : ℤ → Type 0) (ts : List ℤ) (t : ℤ) → AllByRecursion P ts → is_member int_eq ts t ≡ true → P t
at_member P [] t all h = absurd (false≢true h)
at_member P (u ∷ ts) t all h = by (int_eq t u) refl h (at_member P ts t all.1)
  where
    by : (b : Bool) → int_eq t u ≡ b → (b || is_member int_eq ts t) ≡ true → (is_member int_eq ts t ≡ true → P t) → P t
    by true e h rest = subst P (sym ((Decides-int_eq t u).0 e)) all.0
    by false e h rest = rest h

pub any_member : (f : ℤ → Bool) (ts : List ℤ) (t : ℤ) → is_member int_eq ts t ≡ true → f t ≡ true → list_any f ts ≡ true
any_member f [] t h passes = absurd (false≢true h)
any_member f (u ∷ ts) t h passes = by (int_eq t u) refl h (λ k. any_member f ts t k passes)
  where
    by : (b : Bool) → int_eq t u ≡ b → (b || is_member int_eq ts t) ≡ true → (is_member int_eq ts t ≡ true → list_any f ts ≡ true) → (f u || list_any f ts) ≡ true
    by true e h rest = or_left (f u) (list_any f ts) (ap f (sym ((Decides-int_eq t u).0 e)) ∙ passes)
    by false e h rest = or_right (f u) (list_any f ts) (rest h)

pub member_left : (ts us : List ℤ) (t : ℤ) → is_member int_eq ts t ≡ true → is_member int_eq (ts ++ us) t ≡ true
member_left ts us t h = list_any-append (int_eq t) ts us ∙ or_left (is_member int_eq ts t) (is_member int_eq us t) h

pub member_right : (ts us : List ℤ) (t : ℤ) → is_member int_eq us t ≡ true → is_member int_eq (ts ++ us) t ≡ true
member_right ts us t h = list_any-append (int_eq t) ts us ∙ or_right (is_member int_eq ts t) (is_member int_eq us t) h

-- what holds of all tokens holds of all that are among them
pub all_among : (P : ℤ → Type 0) (ts us : List ℤ) → AreTokensAmong ts us → AllByRecursion P us → AllByRecursion P ts
all_among P [] us among all = tt
all_among P (t ∷ ts) us among all =
    (at_member P us t all (among t (itself t ts)), all_among P ts us (λ u h. among u (or_right (int_eq u t) (is_member int_eq ts u) h)) all)
