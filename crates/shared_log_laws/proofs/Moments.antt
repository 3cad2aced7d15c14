-- The store grows by one line at a time, so each front of it was the whole store once.
use Rattle.std.proofs.Common.{◌≡◌, ◌≢◌, ℕ, ◌+◌, ◌==◌, ◌≤◌, Bool, true, false, if◌then◌else◌, List, [], ◌∷◌, ◌++◌, length, take, Option, Some, None, refl, sym, ap, ◌∙◌, arith, length-append}
use Rattle.std.proofs.lemmas.Bool.{eqb-false, eqb-true}
use Rattle.std.specs.List.{slice_get}
use Rattle.share_machine.specs.Sharing.{Nothing, Script, Store, Waits}
use Rattle.shared_log_laws.specs.SharedLog.{WasWhole}
use Rattle.shared_log_laws.specs.System.{Acts, Comes, Dies, Event, Offer, Process, Replies, System, after_events, comes_to, happens, may_reply, new_system, put_at_end, replies_to, reply_lines, system_of}
use Rattle.shared_log_laws.proofs.Fronts.{take_front}
use Rattle.shared_log_laws.proofs.OneLog.{events_grow}

put_short : (store : List (List ℕ)) (o : Option Offer) → length (put_at_end store o) ≤ length store + 1
put_short store None = omega arith
put_short store (Some offer) = by (length offer.knew == length store)
  where
    by : (b : Bool) → length (if b then store ++ offer.text ∷ [] else store) ≤ length store + 1
    by true = omega (arith, length-append store (offer.text ∷ []))
    by false = omega arith

either : (b : Bool) (s turned : System) → turned.store ≡ s.store → length (if b then turned else s).store ≤ length s.store + 1
either true s turned same = omega (arith, ap length same)
either false s turned same = omega arith

comes_short : (cluster : List ℕ) (s : System) (number : ℕ) (line : List ℕ) (p : Process) (w : Waits) → length (comes_to cluster s number line p w).store ≤ length s.store + 1
comes_short cluster s number line p Script = omega arith
comes_short cluster s number line p (Store hand asked) = omega arith
comes_short cluster s number line p Nothing = omega arith

replies_short : (cluster : List ℕ) (s : System) (number : ℕ) (p : Process) (lines : List (List ℕ)) (w : Waits) → length (replies_to cluster s number p lines w).store ≤ length s.store + 1
replies_short cluster s number p lines Script = omega arith
replies_short cluster s number p lines Nothing = omega arith
replies_short cluster s number p lines (Store hand asked) = either (may_reply asked lines) s _ refl

happens_short : (cluster : List ℕ) (s : System) (event : Event) → length (happens cluster s event).store ≤ length s.store + 1
happens_short cluster s (Comes number line) = comes_short cluster s number line (s.processes number) (s.processes number).sharing.waits
happens_short cluster s (Acts number) = put_short s.store (slice_get s.offers number)
happens_short cluster s (Replies number more) = replies_short cluster s number (s.processes number) (reply_lines s.store (s.processes number) more) (s.processes number).sharing.waits
happens_short cluster s (Dies number) = omega arith

-- the store had just n lines after some of the events
record WasAt (cluster : List ℕ) (s : System) (events : List Event) (n : ℕ) : Type 0 where
  before : List Event
  after : List Event
  split : events ≡ before ++ after
  was : (after_events cluster s before).store ≡ take n (after_events cluster s events).store

now : (cluster : List ℕ) (s : System) (events : List Event) (n : ℕ) → n ≡ length s.store → WasAt cluster s events n
now cluster s events n same = record {
  before = [];
  after = events;
  split = refl;
  was = sym (ap (λ m. take m (after_events cluster s events).store) same ∙ take_front s.store (after_events cluster s events).store (events_grow cluster s events));
}

was_at : (cluster : List ℕ) (s : System) (events : List Event) (n : ℕ) → length s.store ≤ n → n ≤ length (after_events cluster s events).store → WasAt cluster s events n
was_at cluster s [] n least most = now cluster s [] n (omega arith)
was_at cluster s (event ∷ events) n least most = by (n == length s.store) refl (was_at cluster (happens cluster s event) events n)
  where
    by : (b : Bool) → (n == length s.store) ≡ b
        → (length (happens cluster s event).store ≤ n → n ≤ length (after_events cluster (happens cluster s event) events).store → WasAt cluster (happens cluster s event) events n)
        → WasAt cluster s (event ∷ events) n
    by true same later = now cluster s (event ∷ events) n (eqb-true n (length s.store) same)
    by false other later =
        let apart : n ≢ length s.store = eqb-false n (length s.store) other in
        let w = later (omega (arith, happens_short cluster s event, least, apart)) most in
        record { before = event ∷ w.before; after = w.after; split = ap (λ es. event ∷ es) w.split; was = w.was }

pub was_whole : (cluster : List ℕ) (events : List Event) (n : ℕ) → n ≤ length (system_of cluster events).store → WasWhole cluster events n
unfolding system_of
was_whole cluster events n most =
    let w = was_at cluster new_system events n (omega arith) most in
    record { before = w.before; after = w.after; split = w.split; was = w.was }
