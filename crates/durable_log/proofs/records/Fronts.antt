-- Whole records before a place.
use Rattle.std.proofs.Common.{◌≡◌, ◌≢◌, ℕ, ◌+◌, ◌-◌, ◌<◌, ◌≤◌, true, List, [], ◌∷◌, ◌++◌, length, get_or, take, drop, refl, sym, ◌∙◌, ap, subst, arith, append_assoc, length-append, length-drop, take-append-drop}
use Rattle.std.proofs.Math.Seq.{take-add}
use Rattle.std.proofs.lemmas.List.{append-nil, drop-take, drop_at, drop_more, get_or-take, length-take-le, take-take, take_at}
use Rattle.std.specs.Int.{w64, from_be_bytes}
use Rattle.durable_log.specs.Ends.{IsEnd, IsFront}
use Rattle.durable_log.specs.Records.{Change, change_of, is_whole, number_at, record_len, records}
use Rattle.durable_log.proofs.records.RecordLemmas.{Whole, is_whole_by, records_first, same_change, shut, whole_from}

-- what stands within the first bytes is the same in lists that begin alike
piece_front : (at k len : ℕ) (xs : List ℕ) → at + k ≤ len → take k (drop at (take len xs)) ≡ take k (drop at xs)
piece_front at k len xs le =
    let e : len ≡ at + (len - at) = omega arith in
    let short : k ≤ len - at = omega arith in
    ap (λ (n : ℕ). take k (drop at (take n xs))) e ∙ ap (λ (l : List ℕ). take k l) (drop-take at (len - at) xs) ∙ take-take k (len - at) (drop at xs) short

pub piece_same : (at k len : ℕ) (xs ys : List ℕ) → at + k ≤ len → take len xs ≡ take len ys → take k (drop at xs) ≡ take k (drop at ys)
piece_same at k len xs ys le same = sym (piece_front at k len xs le) ∙ ap (λ (l : List ℕ). take k (drop at l)) same ∙ piece_front at k len ys le

pub byte_same : (at len : ℕ) (xs ys : List ℕ) → at < len → take len xs ≡ take len ys → get_or xs at 0 ≡ get_or ys at 0
byte_same at len xs ys lt same = sym (get_or-take len xs at 0 lt) ∙ ap (λ (l : List ℕ). get_or l at 0) same ∙ get_or-take len ys at 0 lt

-- the first record, whatever stands behind it
module _ (bytes rest : List ℕ) (is : is_whole bytes ≡ true) where
  abbrev len : ℕ
  len = record_len bytes

  abbrev moved : List ℕ
  moved = take len bytes ++ rest

  whole : Whole bytes
  whole = whole_from bytes is

  front_len : length (take len bytes) ≡ len
  front_len = length-take-le len bytes whole.fits

  same : take len moved ≡ take len bytes
  same = take_at (take len bytes) rest len front_len

  name_len : number_at 2 moved ≡ number_at 2 bytes
  name_len = ap (λ (l : List ℕ). from_be_bytes w64 l) (piece_same 2 8 len moved bytes (omega arith) same)

  bytes_len : number_at 10 moved ≡ number_at 10 bytes
  bytes_len = ap (λ (l : List ℕ). from_be_bytes w64 l) (piece_same 10 8 len moved bytes (omega arith) same)

  len_same : record_len moved ≡ len
  len_same = omega (arith, name_len, bytes_len)

  moved_whole : is_whole moved ≡ true
  moved_whole = is_whole_by moved (record {
    long = omega (arith, length-append (take len bytes) rest, front_len);
    is_open = byte_same 0 len moved bytes (omega arith) same ∙ whole.is_open;
    kind = subst (λ (k : ℕ). k ≤ 1) (sym (byte_same 1 len moved bytes (omega arith) same)) whole.kind;
    fits = omega (arith, length-append (take len bytes) rest, front_len, len_same);
  })

  change_same : change_of moved ≡ change_of bytes
  change_same = same_change (change_of moved) (change_of bytes)
      (byte_same 1 len moved bytes (omega arith) same)
      (ap (λ (n : ℕ). take n (drop 18 moved)) name_len ∙ piece_same 18 (number_at 2 bytes) len moved bytes (omega arith) same)
      (ap (λ (n : ℕ). take (number_at 10 moved) (drop (18 + n) moved)) name_len ∙ ap (λ (n : ℕ). take n (drop (18 + number_at 2 bytes) moved)) bytes_len
      ∙ piece_same (18 + number_at 2 bytes) (number_at 10 bytes) len moved bytes (omega arith) same)

  pub first_kept : records moved ≡ change_of bytes ∷ records rest
  first_kept =
      records_first moved moved_whole
      ∙ (λ i. change_same i ∷ records (ap (λ (n : ℕ). drop n moved) len_same i))
      ∙ ap (λ (l : List ℕ). change_of bytes ∷ records l) (drop_at (take len bytes) rest len front_len)

pub front_none : (bytes : List ℕ) → IsFront 0 bytes
front_none bytes = record { within = omega arith; whole = λ rest. refl }

module _ (at : ℕ) (bytes : List ℕ) (front : IsFront at bytes) (is : is_whole (drop at bytes) ≡ true) where
  abbrev more : ℕ
  more = record_len (drop at bytes)

  split : take (at + more) bytes ≡ take at bytes ++ take more (drop at bytes)
  split = take-add at more bytes

  alone : records (take more (drop at bytes)) ≡ change_of (drop at bytes) ∷ []
  alone = ap records (sym (append-nil (take more (drop at bytes)))) ∙ first_kept (drop at bytes) [] is

  pub records_more : records (take (at + more) bytes) ≡ records (take at bytes) ++ change_of (drop at bytes) ∷ []
  records_more = ap records split ∙ front.whole (take more (drop at bytes)) ∙ ap (λ (l : List Change). records (take at bytes) ++ l) alone

  pub front_more : IsFront (at + more) bytes
  front_more = record {
    within = omega (arith, (whole_from (drop at bytes) is).fits, length-drop at bytes, front.within);
    whole = λ rest.
        ap (λ (l : List ℕ). records (l ++ rest)) split
        ∙ ap records (append_assoc (take at bytes) (take more (drop at bytes)) rest)
        ∙ front.whole (take more (drop at bytes) ++ rest)
        ∙ ap (λ (l : List Change). records (take at bytes) ++ l) (first_kept (drop at bytes) rest is)
        ∙ sym (append_assoc (records (take at bytes)) (change_of (drop at bytes) ∷ []) (records rest))
        ∙ ap (λ (l : List Change). l ++ records rest) (sym records_more);
  }

-- the records are those before the place, where nothing counts from there on
pub records_end : (at : ℕ) (bytes : List ℕ) → IsEnd at bytes → records bytes ≡ records (take at bytes)
records_end at bytes end =
    ap records (sym (take-append-drop at bytes)) ∙ end.front.whole (drop at bytes) ∙ ap (λ (l : List Change). records (take at bytes) ++ l) end.nothing ∙ append-nil (records (take at bytes))

-- a closed gate ends them
pub closed_end : (at : ℕ) (bytes : List ℕ) → IsFront at bytes → at < length bytes → get_or bytes at 0 ≢ 1 → IsEnd at bytes
closed_end at bytes front room closed = record { front = front; nothing = ap records (drop_more bytes at 0 room) ∙ shut (get_or bytes at 0) (drop (at + 1) bytes) closed }

-- a front is kept where the bytes before the place are
pub front_kept : (at : ℕ) (old new : List ℕ) → take at new ≡ take at old → at ≤ length new → IsFront at old → IsFront at new
front_kept at old new same le front = record {
  within = le;
  whole = λ rest. ap (λ (l : List ℕ). records (l ++ rest)) same ∙ front.whole rest ∙ ap (λ (l : List ℕ). records l ++ records rest) (sym same);
}
