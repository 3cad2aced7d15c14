-- What a header that was read says of the record there.
use Rattle.std.proofs.Common.{◌≡◌, ℕ, ◌+◌, ◌-◌, ◌<◌, ◌≤◌, true, List, [], ◌∷◌, length, get_or, take, drop, Option, None, Some, IfSome, ⊎_elim, sym, ◌∙◌, ap, subst, arith, length-drop}
use Rattle.std.proofs.lemmas.Bool.{cases_Bool}
use Rattle.std.proofs.lemmas.List.{drop_more}
use Rattle.std.specs.Int.{w64, from_be_bytes}
use Rattle.durable_log.specs.Records.{is_whole, number_at, record_len}
use Rattle.durable_log.specs.declared.scan.RecordHeader.{RecordHeader}
use Rattle.durable_log.specs.code.Headers.{header_of, whole_header}
use Rattle.durable_log.proofs.records.Fronts.{byte_same, piece_same}
use Rattle.durable_log.proofs.records.RecordLemmas.{is_whole_by, whole_from}

module _ (header : List ℕ) (long : length header ≡ 18) where
  at_2 : take 8 (drop 2 header) ≡ get_or header 2 0 ∷ get_or header 3 0 ∷ get_or header 4 0 ∷ get_or header 5 0 ∷ get_or header 6 0 ∷ get_or header 7 0 ∷ get_or header 8 0 ∷ get_or header 9 0 ∷ []
  at_2 = ap (λ (l : List ℕ). take 8 l)
      (drop_more header 2 0 (omega arith)
      ∙ ap (λ (l : List ℕ). get_or header 2 0 ∷ l) (drop_more header 3 0 (omega arith)
      ∙ ap (λ (l : List ℕ). get_or header 3 0 ∷ l) (drop_more header 4 0 (omega arith)
      ∙ ap (λ (l : List ℕ). get_or header 4 0 ∷ l) (drop_more header 5 0 (omega arith)
      ∙ ap (λ (l : List ℕ). get_or header 5 0 ∷ l) (drop_more header 6 0 (omega arith)
      ∙ ap (λ (l : List ℕ). get_or header 6 0 ∷ l) (drop_more header 7 0 (omega arith)
      ∙ ap (λ (l : List ℕ). get_or header 7 0 ∷ l) (drop_more header 8 0 (omega arith)
      ∙ ap (λ (l : List ℕ). get_or header 8 0 ∷ l) (drop_more header 9 0 (omega arith)))))))))

  at_10 : take 8 (drop 10 header) ≡ get_or header 10 0 ∷ get_or header 11 0 ∷ get_or header 12 0 ∷ get_or header 13 0 ∷ get_or header 14 0 ∷ get_or header 15 0 ∷ get_or header 16 0 ∷ get_or header 17 0 ∷ []
  at_10 = ap (λ (l : List ℕ). take 8 l)
      (drop_more header 10 0 (omega arith)
      ∙ ap (λ (l : List ℕ). get_or header 10 0 ∷ l) (drop_more header 11 0 (omega arith)
      ∙ ap (λ (l : List ℕ). get_or header 11 0 ∷ l) (drop_more header 12 0 (omega arith)
      ∙ ap (λ (l : List ℕ). get_or header 12 0 ∷ l) (drop_more header 13 0 (omega arith)
      ∙ ap (λ (l : List ℕ). get_or header 13 0 ∷ l) (drop_more header 14 0 (omega arith)
      ∙ ap (λ (l : List ℕ). get_or header 14 0 ∷ l) (drop_more header 15 0 (omega arith)
      ∙ ap (λ (l : List ℕ). get_or header 15 0 ∷ l) (drop_more header 16 0 (omega arith)
      ∙ ap (λ (l : List ℕ). get_or header 16 0 ∷ l) (drop_more header 17 0 (omega arith)))))))))

  module _ (name_len bytes_len : ℕ)
      (name_is : name_len ≡ from_be_bytes w64 (get_or header 2 0 ∷ get_or header 3 0 ∷ get_or header 4 0 ∷ get_or header 5 0 ∷ get_or header 6 0 ∷ get_or header 7 0 ∷ get_or header 8 0 ∷ get_or header 9 0 ∷ []))
      (bytes_is : bytes_len ≡ from_be_bytes w64 (get_or header 10 0 ∷ get_or header 11 0 ∷ get_or header 12 0 ∷ get_or header 13 0 ∷ get_or header 14 0 ∷ get_or header 15 0 ∷ get_or header 16 0 ∷ get_or header 17 0 ∷ []))
      (record_bytes : List ℕ) (same : take 18 header ≡ take 18 record_bytes) where
    name_there : number_at 2 record_bytes ≡ name_len
    name_there = ap (λ (l : List ℕ). from_be_bytes w64 l) (piece_same 2 8 18 record_bytes header (omega arith) (sym same) ∙ at_2) ∙ sym name_is

    bytes_there : number_at 10 record_bytes ≡ bytes_len
    bytes_there = ap (λ (l : List ℕ). from_be_bytes w64 l) (piece_same 10 8 18 record_bytes header (omega arith) (sym same) ∙ at_10) ∙ sym bytes_is

    pub too_long : length record_bytes < 18 + (name_len + bytes_len) → None ≡ whole_header record_bytes
    too_long past = ⊎_elim
        (λ yes. absurd (omega (arith, (whole_from record_bytes yes).fits, name_there, bytes_there)))
        (λ no. rw no)
        (cases_Bool (is_whole record_bytes))

    kind_there : get_or header 1 0 ≡ get_or record_bytes 1 0
    kind_there = byte_same 1 18 header record_bytes (omega arith) same

    pub whole_there : get_or header 0 0 ≡ 1 → get_or header 1 0 ≤ 1 → 18 + (name_len + bytes_len) ≤ length record_bytes → Some (record { kind = get_or header 1 0; name_len = name_len; bytes_len = bytes_len }) ≡ whole_header record_bytes
    whole_there is_open kind fits =
        let e : record_len record_bytes ≡ 18 + (name_len + bytes_len) = omega (arith, name_there, bytes_there) in
        let is : is_whole record_bytes ≡ true = is_whole_by record_bytes (record {
          long = omega arith;
          is_open = byte_same 0 18 record_bytes header (omega arith) (sym same) ∙ is_open;
          kind = subst (λ (k : ℕ). k ≤ 1) (sym (byte_same 1 18 record_bytes header (omega arith) (sym same))) kind;
          fits = omega (arith, e);
        }) in
        rw is (λ i. Some (record { kind = kind_there i; name_len = sym name_there i; bytes_len = sym bytes_there i }))

pub none_at : (told : Option (List ℕ)) (header : List ℕ) (at size n name_len bytes_len : ℕ) → n ≡ 18 → length header ≡ 18 → name_len ≡ from_be_bytes w64 (get_or header 2 0 ∷ get_or header 3 0 ∷ get_or header 4 0 ∷ get_or header 5 0 ∷ get_or header 6 0 ∷ get_or header 7 0 ∷ get_or header 8 0 ∷ get_or header 9 0 ∷ []) → bytes_len ≡ from_be_bytes w64 (get_or header 10 0 ∷ get_or header 11 0 ∷ get_or header 12 0 ∷ get_or header 13 0 ∷ get_or header 14 0 ∷ get_or header 15 0 ∷ get_or header 16 0 ∷ get_or header 17 0 ∷ [])
    → IfSome told (λ bytes. size ≡ length bytes) → IfSome told (λ bytes. (take n header ≡ take n (drop at bytes)) × (n < length header → length bytes ≤ at + n)) → at ≤ size → size - at < 18 + (name_len + bytes_len) → IfSome told (λ bytes. None ≡ whole_header (drop at bytes))
none_at None header at size n name_len bytes_len is long name_is bytes_is sized reads within past = tt
none_at (Some bytes) header at size n name_len bytes_len is long name_is bytes_is sized reads within past =
    too_long header long name_len bytes_len name_is bytes_is (drop at bytes) (subst (λ (k : ℕ). take k header ≡ take k (drop at bytes)) is reads.0) (omega (arith, length-drop at bytes))

pub some_at : (told : Option (List ℕ)) (header : List ℕ) (at size n name_len bytes_len : ℕ) → n ≡ 18 → length header ≡ 18 → name_len ≡ from_be_bytes w64 (get_or header 2 0 ∷ get_or header 3 0 ∷ get_or header 4 0 ∷ get_or header 5 0 ∷ get_or header 6 0 ∷ get_or header 7 0 ∷ get_or header 8 0 ∷ get_or header 9 0 ∷ []) → bytes_len ≡ from_be_bytes w64 (get_or header 10 0 ∷ get_or header 11 0 ∷ get_or header 12 0 ∷ get_or header 13 0 ∷ get_or header 14 0 ∷ get_or header 15 0 ∷ get_or header 16 0 ∷ get_or header 17 0 ∷ [])
    → IfSome told (λ bytes. size ≡ length bytes) → IfSome told (λ bytes. (take n header ≡ take n (drop at bytes)) × (n < length header → length bytes ≤ at + n)) → at ≤ size → 18 + (name_len + bytes_len) ≤ size - at → get_or header 0 0 ≡ 1 → get_or header 1 0 ≤ 1
    → IfSome told (λ bytes. Some (record { kind = get_or header 1 0; name_len = name_len; bytes_len = bytes_len }) ≡ whole_header (drop at bytes))
some_at None header at size n name_len bytes_len is long name_is bytes_is sized reads within fits is_open kind = tt
some_at (Some bytes) header at size n name_len bytes_len is long name_is bytes_is sized reads within fits is_open kind =
    whole_there header long name_len bytes_len name_is bytes_is (drop at bytes) (subst (λ (k : ℕ). take k header ≡ take k (drop at bytes)) is reads.0) is_open kind (omega (arith, length-drop at bytes))

-- a header that was found says that a whole record stands there
pub whole_some : (bytes : List ℕ) (header : RecordHeader) → Some header ≡ whole_header bytes → (is_whole bytes ≡ true) × (header ≡ header_of bytes)
whole_some bytes header is = ⊎_elim
    (λ yes. (yes, cc (rw yes at is)))
    (λ no. absurd (cc (rw no at is)))
    (cases_Bool (is_whole bytes))
