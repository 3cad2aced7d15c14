-- The events are all that a store of order may do.
use Rattle.std.proofs.Common.{◌≡◌, ℕ, ◌+◌, ◌-◌, ◌==◌, inl, inr, true, if◌then◌else◌, List, [], ◌∷◌, ◌++◌, drop, length, take, Some, IsTrue, sym, ap, ◌∙◌, eq-eqb, arith}
use Rattle.std.proofs.lemmas.Option.{slice_get-get_or, slice_get_past}
use Rattle.std.specs.List.{Contains, slice_get}
use Rattle.cluster_terms.specs.Name.{is_name}
use Rattle.transformations.proofs.lists.ContainsLemmas.{holds_of}
use Rattle.share_machine.specs.Sharing.{Asked}
use Rattle.shared_log_laws.specs.Promises.{IsReplyEvent, IsReplyOf, IsStoreEvent, KeepsOrder}
use Rattle.shared_log_laws.specs.System.{Acts, Event, Offer, Process, System, put_at_end, system_of}
use Rattle.shared_log_laws.proofs.Fronts.{take_front}
use Rattle.shared_log_laws.proofs.Systems.{IsOffer, system_well}

pub store_event : (cluster : List ℕ) (s : System) (store' : List (List ℕ)) → KeepsOrder s.offers s.store store' → IsStoreEvent cluster s store'
store_event cluster s store' (inl same) = record {
  event = Acts (length s.offers);
  is = (λ i. record s { store = (ap (put_at_end s.store) (slice_get_past s.offers (length s.offers) (omega arith)) ∙ sym same) i });
}
store_event cluster s store' (inr puts) =
    let place : ℕ = puts.sent.0 in
    let there : slice_get s.offers place ≡ Some puts.offer = slice_get-get_or s.offers place puts.offer puts.sent.1 ∙ ap Some puts.sent.2 in
    let ends : (length puts.offer.knew == length s.store) ≡ true = eq-eqb (length puts.offer.knew) (length s.store) puts.place in
    let is_put : put_at_end s.store (slice_get s.offers place) ≡ store' =
    ap (put_at_end s.store) there ∙ ap (λ b. if b then s.store ++ puts.offer.text ∷ [] else s.store) ends ∙ sym puts.put in
    record { event = Acts place; is = (λ i. record s { store = is_put i }) }

pub reply_event : (store : List (List ℕ)) (p : Process) (asked : Asked) (lines : List (List ℕ)) → IsReplyOf store p asked lines → IsReplyEvent store p lines
reply_event store p asked lines is =
    let more : ℕ = is.upto - p.asked in
    let same : p.asked + more ≡ is.upto = omega (arith, is.complete) in
    record { more = more; is = ap (λ n. drop (length p.told) (take n store)) same ∙ sym is.front }

-- an offer knew the first lines of the store
pub offer_knew : (cluster : List ℕ) (events : List Event) (o : Offer) → IsTrue (is_name cluster) → Contains (system_of cluster events).offers o → take (length o.knew) (system_of cluster events).store ≡ o.knew
offer_knew cluster events o named among =
    let s : System = system_of cluster events in
    take_front o.knew s.store (holds_of (IsOffer cluster s.store) s.offers o (system_well cluster named events).offers among).front
