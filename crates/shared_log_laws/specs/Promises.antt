-- The promises of a store of order, to be held against the documentation of etcd or of another store.
use Rattle.std.specs.Prelude.{◌≡◌, ℕ, ◌≤◌, ◌⊎◌, true, List, [], ◌∷◌, ◌++◌, drop, length, take}
use Rattle.std.specs.List.{Contains}
use Rattle.share_machine.specs.Sharing.{Asked}
use Rattle.shared_log_laws.specs.System.{Event, Offer, Process, System, happens, may_reply, reply_lines}

-- the last of some lines; no bytes, if there is none
abbrev pub last_line : List (List ℕ) → List ℕ
last_line [] = []
last_line (text ∷ []) = text
last_line (text ∷ next ∷ lines) = last_line (next ∷ lines)

-- the store puts the line of an offer that was sent: the offer's place is the number of the store's lines, and the store's
-- last line is the one that the offer knew before this place
pub record Puts (offers : List Offer) (store store' : List (List ℕ)) : Type 0 where
  pub offer : Offer
  pub sent : Contains offers offer
  pub place : length offer.knew ≡ length store
  pub before : last_line offer.knew ≡ last_line store
  pub put : store' ≡ store ++ offer.text ∷ []

-- at any time the store puts such a line, or nothing changes; what was put stays
abbrev pub KeepsOrder : List Offer → List (List ℕ) → List (List ℕ) → Type 0
KeepsOrder offers store store' = (store' ≡ store) ⊎ Puts offers store store'

-- the lines of a reply: a front of the store from the asked place on, no shorter than the store was when the request went
-- out; an offer is told the line at its place
pub record IsReplyOf (store : List (List ℕ)) (p : Process) (asked : Asked) (lines : List (List ℕ)) : Type 0 where
  pub upto : ℕ
  pub complete : p.asked ≤ upto
  pub front : lines ≡ drop (length p.told) (take upto store)
  pub place : may_reply asked lines ≡ true

-- a change of the store comes by an event
pub record IsStoreEvent (cluster : List ℕ) (s : System) (store' : List (List ℕ)) : Type 0 where
  pub event : Event
  pub is : happens cluster s event ≡ record s { store = store' }

-- a reply comes by an event, with so many lines more than the store had when the request went out
pub record IsReplyEvent (store : List (List ℕ)) (p : Process) (lines : List (List ℕ)) : Type 0 where
  pub more : ℕ
  pub is : reply_lines store p more ≡ lines
