-- Lemmas on texts that are written in several writes.
use Rattle.std.proofs.Common.{ℕ, List, [], ◌++◌, Option, refl, sym, ap, ◌∙◌, subst, append_assoc, append-nil, Result, Ok, Err, take, drop, take-append-drop}
use Rattle.std.specs.Io.KnownBytes.{Appends, Keeps, WriteAppends}
use Rattle.std.proofs.KnownBytes.{Appends-nil, Appends-trans, Appends-kept}
use Rattle.tcm_edges.specs.Owed.{Owes, WritesPrefix}

-- nothing is written
pub Owes-refl : (a : Option (List ℕ)) (text : List ℕ) → Owes a a text text
Owes-refl a text = record { front = []; split = refl; appends = Appends-nil a }

-- the next piece is written
pub Owes-write : (a b c : Option (List ℕ)) (text piece rest : List ℕ) → Owes a b text (piece ++ rest) → Appends b c piece → Owes a c text rest
Owes-write a b c text piece rest owes wrote =
    record {
      front = owes.front ++ piece;
      split = owes.split ∙ sym (append_assoc owes.front piece rest);
      appends = Appends-trans a b c owes.front piece owes.appends wrote;
    }

-- what is written stays
pub Owes-keep : (a b c : Option (List ℕ)) (text owed : List ℕ) → Owes a b text owed → Keeps b c → Owes a c text owed
Owes-keep a b c text owed owes kept = record { front = owes.front; split = owes.split; appends = Appends-kept a b c owes.front owes.appends kept }

-- nothing is owed: the whole text is written
pub Owes-done : (a b : Option (List ℕ)) (text : List ℕ) → Owes a b text [] → Appends a b text
Owes-done a b text owes = subst (Appends a b) (sym (owes.split ∙ append-nil owes.front)) owes.appends

pub Owes-whole : (a b : Option (List ℕ)) (text : List ℕ) → Appends a b text → Owes a b text []
Owes-whole a b text wrote = record { front = text; split = sym (append-nil text); appends = wrote }

-- more is to be written after the text
pub Owes-more : (a b : Option (List ℕ)) (text owed more : List ℕ) → Owes a b text owed → Owes a b (text ++ more) (owed ++ more)
Owes-more a b text owed more owes =
    record { front = owes.front; split = ap (λ l. l ++ more) owes.split ∙ append_assoc owes.front owed more; appends = owes.appends }

-- another text was written before
pub Owes-then : (a b c : Option (List ℕ)) (first text owed : List ℕ) → Appends a b first → Owes b c text owed → Owes a c (first ++ text) owed
Owes-then a b c first text owed wrote owes =
    record {
      front = first ++ owes.front;
      split = ap (λ l. first ++ l) owes.split ∙ sym (append_assoc first owes.front owed);
      appends = Appends-trans a b c first owes.front wrote owes.appends;
    }

-- ---- a prefix

pub WritesPrefix-refl : (a : Option (List ℕ)) (text : List ℕ) → WritesPrefix a a text
WritesPrefix-refl a text = record { owed = text; owes = Owes-refl a text }

pub WritesPrefix-whole : (a b : Option (List ℕ)) (text : List ℕ) → Appends a b text → WritesPrefix a b text
WritesPrefix-whole a b text wrote = record { owed = []; owes = Owes-whole a b text wrote }

pub WritesPrefix-keep : (a b c : Option (List ℕ)) (text : List ℕ) → WritesPrefix a b text → Keeps b c → WritesPrefix a c text
WritesPrefix-keep a b c text part kept = record { owed = part.owed; owes = Owes-keep a b c text part.owed part.owes kept }

pub WritesPrefix-more : (a b : Option (List ℕ)) (text more : List ℕ) → WritesPrefix a b text → WritesPrefix a b (text ++ more)
WritesPrefix-more a b text more part = record { owed = part.owed ++ more; owes = Owes-more a b text part.owed more part.owes }

pub WritesPrefix-then : (a b c : Option (List ℕ)) (first text : List ℕ) → Appends a b first → WritesPrefix b c text → WritesPrefix a c (first ++ text)
WritesPrefix-then a b c first text wrote part = record { owed = part.owed; owes = Owes-then a b c first text part.owed wrote part.owes }

-- one write writes a prefix
pub WritesPrefix-of_write : {E : Type 0} (a b : Option (List ℕ)) (r : Result ℕ E) (text : List ℕ) → WriteAppends a b r text → WritesPrefix a b text
WritesPrefix-of_write a b (Ok n) text wrote =
    record { owed = drop n text; owes = record { front = take n text; split = sym (take-append-drop n text); appends = wrote } }
WritesPrefix-of_write a b (Err e) text kept = WritesPrefix-keep a a b text (WritesPrefix-refl a text) kept

-- these steps, for `grind` and for `using(..)`
pub ruleset owed_steps = (Owes-refl, Owes-write, Owes-keep, Owes-done, Owes-whole, Owes-more, Owes-then, WritesPrefix-refl, WritesPrefix-whole, WritesPrefix-keep, WritesPrefix-more, WritesPrefix-then, WritesPrefix-of_write)
