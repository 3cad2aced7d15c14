-- A movement keeps its deltas through a list of accepted commands.
use Rattle.std.proofs.Common.{◌≡◌, ℕ, ◌+◌, ◌≤◌, true, false, true≢false, ◌==◌, ℤ, List, [], ◌∷◌, find, length, Option, Some, None, is_some, refl, sym, ◌∙◌, subst, arith}
use Rattle.std.proofs.lemmas.Bool.{and_parts, or_parts}
use Rattle.std.specs.List.{AllByRecursion, Contains, list_any}
use Rattle.std.specs.Option.{IfSome}
use Rattle.cluster_terms.specs.Arc.{IsToken}
use Rattle.cluster_terms.specs.declared.replication.Replication.{Replication}
use Rattle.transformations.proofs.commands.KeyspacesAfter.{keyspace_stays}
use Rattle.transformations.proofs.deltas.StepDeltas.{deltas_kept}
use Rattle.transformations.proofs.histories.HistoryLemmas.{accepted_first, next-epoch}
use Rattle.transformations.proofs.histories.ValidLemmas.{valid_next}
use Rattle.transformations.proofs.lists.ContainsLemmas.{holds_of}
use Rattle.transformations.proofs.lists.ListLemmas.{all_found}
use Rattle.transformations.proofs.movements.MovesKept.{moves_kept}
use Rattle.transformations.proofs.movements.SoleLemmas.{found_own}
use Rattle.transformations.proofs.ranges.RangesKept.{own_found}
use Rattle.transformations.specs.MovementDeltas.{KeepsDeltas, KeepsDeltasAt, LivesOn, MovesSame, SameDeltas, SameUnder, lives_through}
use Rattle.transformations.specs.History.{are_accepted, changes_keyspace, image_after, most_epochs, next_image}
use Rattle.transformations.specs.Movements.{movement_of}
use Rattle.transformations.specs.Valid.{IsValid}
use Rattle.transformations.specs.declared.command.Command.{Command}
use Rattle.transformations.specs.declared.image.Image.{Image}
use Rattle.transformations.specs.declared.keyspace.KeyspaceRow.{KeyspaceRow}
use Rattle.transformations.specs.declared.sequence.SeqRow.{SeqRow}

-- ---- one command, and those after it

-- a movement that lives through some commands is there before them
lives_first : (image : Image) (n : ℕ) (commands : List Command) → lives_through image n commands ≡ true → is_some (movement_of image n) ≡ true
lives_first image n [] lives = lives
lives_first image n (c ∷ commands) lives = (and_parts (is_some (movement_of image n)) (lives_through (next_image image c) n commands) lives).0

same_then : {one two three : Image} {r : Replication} {x : ℤ} {s q p : SeqRow} → SameDeltas one two r x s q → SameDeltas two three r x q p → SameDeltas one three r x s p
same_then d e = record { gained = d.gained ∙ e.gained; lost = d.lost ∙ e.lost }

-- what lives on in the next image and from there on lives on
lives_then : (image next after : Image) (c : Command) (commands : List Command) (s q : SeqRow) → find (λ (p : SeqRow). p.node == s.node) image.sequences ≡ Some s → movement_of next s.node ≡ Some q → q.node ≡ s.node
    → MovesSame s q → ((k : KeyspaceRow) → Contains image.keyspaces k → changes_keyspace k.name c ≡ false → Contains next.keyspaces k) → KeepsDeltas image next
    → LivesOn next after commands q → LivesOn image after (c ∷ commands) s
lives_then image next after c commands s q found on node moves stays step rest = record {
  movement = rest.movement;
  found = subst (λ n. movement_of after n ≡ Some rest.movement) node rest.found;
  moves = record { outs = rest.moves.outs ∙ moves.outs; ins = rest.moves.ins ∙ moves.ins };
  deltas = λ k there none.
      let parts = or_parts (changes_keyspace k.name c) (list_any (changes_keyspace k.name) commands) none in
      later k there (rest.deltas k (stays k there parts.0) parts.1);
}
  where
    first : (x : ℤ) → IsToken x → (k : KeyspaceRow) → Contains image.keyspaces k → SameDeltas image next k.replication x s q
    first x token k there =
        subst (λ o. IfSome o (SameDeltas image next k.replication x s)) on
        (all_found (KeepsDeltasAt image next x k.replication) (λ (p : SeqRow). p.node == s.node) image.sequences s found
        (holds_of (λ (k : KeyspaceRow). AllByRecursion (KeepsDeltasAt image next x k.replication) image.sequences) image.keyspaces k (step x token) there))

    later : (k : KeyspaceRow) → Contains image.keyspaces k → SameUnder next after k q rest.movement → SameUnder image after k s rest.movement
    later k there same = record { stays = same.stays; deltas = λ x token. same_then (first x token k there) (same.deltas x token) }

-- ---- a list of commands

deltas_from : (image : Image) (s : SeqRow) (commands : List Command) → IsValid image → movement_of image s.node ≡ Some s → are_accepted image commands ≡ true
    → image.epoch + length commands ≤ most_epochs → lives_through image s.node commands ≡ true → LivesOn image (image_after image commands) commands s
deltas_from image s [] h found all below_limit lives = record {
  movement = s;
  found = found;
  moves = record { outs = refl; ins = refl };
  deltas = λ k there none. record { stays = there; deltas = λ x token. record { gained = refl; lost = refl } };
}
deltas_from image s (c ∷ commands) h found all below_limit lives =
    let a = accepted_first image c commands all in
    let one = next-epoch image c in
    let on : lives_through (next_image image c) s.node commands ≡ true = (and_parts (is_some (movement_of image s.node)) (lives_through (next_image image c) s.node commands) lives).1 in
    by (movement_of (next_image image c) s.node) refl (lives_first (next_image image c) s.node commands on)
    (λ q node own. lives_then image (next_image image c) (image_after (next_image image c) commands) c commands s q found (own_again q node own) node
    (moves_kept image c s q h.sound a.right a.unrefused found (own_again q node own))
    (keyspace_stays image c) (deltas_kept image c h a.right a.unrefused)
    (deltas_from (next_image image c) q commands (valid_next image c h a.right a.unrefused (omega arith)) own a.rest (omega arith)
    (subst (λ n. lives_through (next_image image c) n commands ≡ true) (sym node) on)))
  where
    own_again : (q : SeqRow) → q.node ≡ s.node → movement_of (next_image image c) q.node ≡ Some q → movement_of (next_image image c) s.node ≡ Some q
    own_again q node own = subst (λ n. movement_of (next_image image c) n ≡ Some q) node own

    by : (o : Option SeqRow) → movement_of (next_image image c) s.node ≡ o → is_some o ≡ true
        → ((q : SeqRow) → q.node ≡ s.node → movement_of (next_image image c) q.node ≡ Some q → LivesOn image (image_after (next_image image c) commands) (c ∷ commands) s)
        → LivesOn image (image_after (next_image image c) commands) (c ∷ commands) s
    by None there some then = absurd (true≢false (sym some))
    by (Some q) there some then = let own = own_found (next_image image c) s.node q there in then q own.0 own.1

pub deltas_after : (image : Image) (s : SeqRow) (commands : List Command) → IsValid image → Contains image.sequences s → are_accepted image commands ≡ true
    → image.epoch + length commands ≤ most_epochs → lives_through image s.node commands ≡ true → LivesOn image (image_after image commands) commands s
deltas_after image s commands h there all below_limit lives = deltas_from image s commands h (found_own image.sequences s h.sound.movements there) all below_limit lives
