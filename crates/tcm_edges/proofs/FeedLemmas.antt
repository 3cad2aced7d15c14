-- Lemmas on bytes that are given in pieces.
use Rattle.std.proofs.Common.{◌≡◌, ℕ, ◌<◌, ◌≤◌, List, ◌++◌, Some, Ok, refl, sym, ap, ◌∙◌, length, take, drop, arith, take-append-drop}
use Rattle.std.specs.Io.KnownBytes.{Consumes, ReadConsumes}
use Rattle.std.proofs.lemmas.List.{length-take-le}
use Rattle.std.proofs.Math.Seq.{take-append_seam}
use Rattle.std.proofs.Math.ListN.{drop_of_length-le}
use Rattle.tcm_edges.specs.declared.fault.Failed.{Failed}
use Rattle.tcm_edges.specs.Feed.{Feed, given_len}

-- a buffer whose front is the next bytes holds what was read
take_front : (front buf : List ℕ) (n : ℕ) → length front ≡ n → take n (front ++ buf) ≡ front
take_front front buf n e = ap (λ k. take k (front ++ buf)) (sym e) ∙ take-append_seam front buf

pub Consumes-given : (bytes front buf : List ℕ) (n : ℕ) → n ≤ length bytes → front ≡ take n bytes
    → Consumes (Some bytes) (Some (drop n bytes)) (take n (front ++ buf))
Consumes-given bytes front buf n within is_front =
    let len : length front ≡ n = ap length is_front ∙ length-take-le n bytes within in
    sym (take-append-drop n bytes) ∙ ap (λ l. l ++ drop n bytes) (sym is_front ∙ sym (take_front front buf n len))

-- what a read of a feed does to the bytes still to come
pub read_consumes : (feed : Feed) (old new rest : List ℕ) (n : ℕ) → 1 ≤ feed.piece → 0 < length old → n ≡ given_len feed (length old)
    → new ≡ take n feed.bytes ++ drop n old → rest ≡ drop n feed.bytes → ReadConsumes {E = Failed} (Some feed.bytes) (Some rest) (Ok n) new
read_consumes feed old new rest n some room count given after =
    let front : Consumes (Some feed.bytes) (Some (drop n feed.bytes)) (take n (take n feed.bytes ++ drop n old)) =
    Consumes-given feed.bytes (take n feed.bytes) (drop n old) n (omega arith) refl in
    (rw (given, after) front, λ none _. after ∙ drop_of_length-le feed.bytes (omega arith))
