-- How many distinct keys a list has, by what is among it.
use Rattle.std.proofs.Common.{◌≡◌, ◌+◌, ◌<◌, ◌≤◌, Bool, true, false, ◌||◌, List, [], ◌∷◌, ◌++◌, length, refl, sym, ap, ◌∙◌, arith}
use Rattle.std.proofs.Math.Bool.{or_comm, or-false, or-true}
use Rattle.std.proofs.lemmas.Bool.{false≢true}
use Rattle.std.proofs.lemmas.List.Folds.{list_any-append}
use Rattle.std.proofs.lemmas.Map.Made.{length-from_keys, length-le_from_is_member}
use Rattle.std.specs.Cmp.{IsEquivalence}
use Rattle.std.specs.List.{AllByRecursion, IsDistinct}
use Rattle.std.specs.Set.{is_member, distinct_count}

module _ {K : Type 0} {eq : K → K → Bool} (laws : IsEquivalence eq) where
  -- equal keys are members alike
  pub is_member-alike : (xs : List K) (x y : K) → eq x y ≡ true → is_member eq xs x ≡ is_member eq xs y
  is_member-alike [] x y e = refl
  is_member-alike (z ∷ xs) x y e = (λ i. laws.congr x y z e i || is_member-alike xs x y e i)

  pub is_member-push : (xs : List K) (x q : K) → is_member eq (xs ++ x ∷ []) q ≡ (is_member eq xs q || eq q x)
  is_member-push xs x q = list_any-append (eq q) xs (x ∷ []) ∙ ap (λ b. is_member eq xs q || b) (or-false (eq q x))

  apart : (x : K) (ys : List K) → is_member eq ys x ≡ false → AllByRecursion (λ y. eq x y ≡ false) ys
  apart x [] h = tt
  apart x (y ∷ ys) h = by (eq x y) refl h (apart x ys)
    where
      by : (b : Bool) → eq x y ≡ b → (b || is_member eq ys x) ≡ false → (is_member eq ys x ≡ false → AllByRecursion (λ z. eq x z ≡ false) ys) → (eq x y ≡ false) × AllByRecursion (λ z. eq x z ≡ false) ys
      by true t g more = absurd (false≢true (sym g))
      by false t g more = (t, more g)

  -- distinct keys with the members of a list
  pub record Keys (xs : List K) : Type 0 where
    pub keys : List K
    pub distinct : IsDistinct eq keys
    pub same : (q : K) → is_member eq keys q ≡ is_member eq xs q

  -- a key that is new, before the others
  pub distinct_cons : (x : K) (keys : List K) → IsDistinct eq keys → is_member eq keys x ≡ false → IsDistinct eq (x ∷ keys)
  unfolding IsDistinct
  distinct_cons x keys d m = (apart x keys m, d)

  pub keys_of : (xs : List K) → Keys xs
  unfolding IsDistinct
  keys_of [] = record { keys = []; distinct = tt; same = λ q. refl }
  keys_of (x ∷ xs) = by (is_member eq xs x) refl (keys_of xs)
    where
      by : (b : Bool) → is_member eq xs x ≡ b → Keys xs → Keys (x ∷ xs)
      by true m k = record {
        keys = k.keys;
        distinct = k.distinct;
        same = λ q. k.same q ∙ here q (eq q x) refl;
      }
        where
          here : (q : K) (b : Bool) → eq q x ≡ b → is_member eq xs q ≡ (b || is_member eq xs q)
          here q true t = is_member-alike xs q x t ∙ m
          here q false t = refl
      by false m k = record {
        keys = x ∷ k.keys;
        distinct = distinct_cons x k.keys k.distinct (k.same x ∙ m);
        same = λ q. ap (λ b. eq q x || b) (k.same q);
      }

  pub distinct_count-keys : (xs : List K) (k : Keys xs) → distinct_count eq xs ≡ length k.keys
  distinct_count-keys xs k = sym (length-from_keys laws k.keys xs k.distinct k.same)

  -- lists with the same members have as many
  pub distinct_count-same : (xs ys : List K) → ((q : K) → is_member eq xs q ≡ is_member eq ys q) → distinct_count eq xs ≡ distinct_count eq ys
  distinct_count-same xs ys h =
      let k = keys_of xs in
      distinct_count-keys xs k ∙ length-from_keys laws k.keys ys k.distinct (λ q. k.same q ∙ h q)

  -- a key that is new is one more
  pub distinct_count-new : (xs : List K) (x : K) → is_member eq xs x ≡ false → distinct_count eq (xs ++ x ∷ []) ≡ distinct_count eq xs + 1
  distinct_count-new xs x m =
      let k = keys_of xs in
      let more = length-from_keys laws (x ∷ k.keys) (xs ++ x ∷ []) (distinct_cons x k.keys k.distinct (k.same x ∙ m))
      (λ q. ap (λ b. eq q x || b) (k.same q) ∙ or_comm (eq q x) (is_member eq xs q) ∙ sym (is_member-push xs x q)) in
      let count = distinct_count-keys xs k in
      omega arith

  -- a key that is there is none
  pub distinct_count-old : (xs : List K) (x : K) → is_member eq xs x ≡ true → distinct_count eq (xs ++ x ∷ []) ≡ distinct_count eq xs
  distinct_count-old xs x m = distinct_count-same (xs ++ x ∷ []) xs (λ q. is_member-push xs x q ∙ here q (eq q x) refl)
    where
      here : (q : K) (b : Bool) → eq q x ≡ b → (is_member eq xs q || b) ≡ is_member eq xs q
      here q true t = or-true (is_member eq xs q) ∙ sym (is_member-alike xs q x t ∙ m)
      here q false t = or-false (is_member eq xs q)

  -- what is among others is no more, and less where one of the others isn't among it
  pub distinct_count-within : (xs ys : List K) → ((q : K) → is_member eq xs q ≡ true → is_member eq ys q ≡ true) → distinct_count eq xs ≤ distinct_count eq ys
  distinct_count-within xs ys h =
      let k = keys_of xs in
      let l = keys_of ys in
      let short = length-le_from_is_member laws k.keys l.keys k.distinct (λ q m. l.same q ∙ h q (sym (k.same q) ∙ m)) in
      let a = distinct_count-keys xs k in
      let b = distinct_count-keys ys l in
      omega arith

  pub distinct_count-less : (xs ys : List K) (x : K) → ((q : K) → is_member eq xs q ≡ true → is_member eq ys q ≡ true) → is_member eq xs x ≡ false → is_member eq ys x ≡ true → distinct_count eq xs < distinct_count eq ys
  distinct_count-less xs ys x h out within =
      let k = keys_of xs in
      let l = keys_of ys in
      let short = length-le_from_is_member laws (x ∷ k.keys) l.keys (distinct_cons x k.keys k.distinct (k.same x ∙ out)) (λ q m. l.same q ∙ found q (eq q x) refl (ap (λ b. eq q x || b) (sym (k.same q)) ∙ m)) in
      let a = distinct_count-keys xs k in
      let b = distinct_count-keys ys l in
      omega arith
    where
      found : (q : K) (b : Bool) → eq q x ≡ b → (b || is_member eq xs q) ≡ true → is_member eq ys q ≡ true
      found q true t m = is_member-alike ys q x t ∙ within
      found q false t m = h q m
