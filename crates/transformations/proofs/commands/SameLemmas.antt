-- Commands that the test takes for the same are equal.
use Rattle.std.proofs.Common.{◌≡◌, ◌↔◌, ℕ, ℤ, ◌&&◌, ◌==◌, true, true≢false, List, IsTrue, refl, sym, ap, ap₂, subst, eq-eqb}
use Rattle.std.proofs.lemmas.Bool.{and_parts, and_from, eqb-true}
use Rattle.std.proofs.lemmas.Slice.Eq.{bytes_eq-Decides}
use Rattle.std.specs.Cmp.Lexicographic.{pointwise}
use Rattle.std.specs.Cmp.Rules.{signed_items}
use Rattle.std.specs.Ordering.{int_eq}
use Rattle.std.specs.Str.{bytes_eq}
use Rattle.std.proofs.lemmas.Bool.Decides.{Decides-int_eq}
use Rattle.cluster_terms.proofs.texts.ReplicationLemmas.{same_replication-exact, same_replication-refl}
use Rattle.cluster_terms.specs.Replication.{same_replication}
use Rattle.transformations.specs.Same.{same_goal, same_command}
use Rattle.transformations.specs.Movements.{same_kind}
use Rattle.transformations.specs.declared.command.Command.{Command}
use Rattle.transformations.specs.declared.command.Command.TheVariants.{Register, Unregister, UnsafeJoin, Keyspace, DropKeyspace, PrepareJoin, PrepareMove, PrepareLeave, PrepareReplace, Step, Cancel}
use Rattle.transformations.specs.declared.sequence.Goal.{Goal}
use Rattle.transformations.specs.declared.sequence.Goal.TheVariants as goal
use Rattle.transformations.specs.declared.sequence.Kind.{Kind}
use Rattle.transformations.specs.declared.sequence.Kind.TheVariants as kind

-- ---- what the test takes for the same is equal

same_goal-exact : (g h : Goal) → same_goal g h ≡ true → g ≡ h
same_goal-exact goal.Start goal.Start e = refl
same_goal-exact goal.Mid goal.Mid e = refl
same_goal-exact goal.Finish goal.Finish e = refl
same_goal-exact _ _ e = absurd (true≢false (sym e))

same_kind-exact : (j k : Kind) → same_kind j k ≡ true → j ≡ k
same_kind-exact kind.Join kind.Join e = refl
same_kind-exact kind.Move kind.Move e = refl
same_kind-exact kind.Leave kind.Leave e = refl
same_kind-exact kind.Replace kind.Replace e = refl
same_kind-exact _ _ e = absurd (true≢false (sym e))

texts : (xs ys : List ℕ) → bytes_eq xs ys ≡ true → xs ≡ ys
texts xs ys e = (bytes_eq-Decides xs ys).0 e

same_command-exact : (c d : Command) → same_command c d ≡ true → c ≡ d
same_command-exact (Register name dc rack) (Register n d r) e =
    let p = and_parts (bytes_eq name n) (bytes_eq dc d && bytes_eq rack r) e in
    let q = and_parts (bytes_eq dc d) (bytes_eq rack r) p.1 in
    let x = texts name n p.0 in let y = texts dc d q.0 in let z = texts rack r q.1 in cc
same_command-exact (Unregister node) (Unregister n) e = ap Unregister (eqb-true node n e)
same_command-exact (UnsafeJoin node tokens) (UnsafeJoin n ts) e =
    let p = and_parts (node == n) (pointwise int_eq tokens ts) e in
    ap₂ UnsafeJoin (eqb-true node n p.0) ((signed_items tokens ts).0 p.1)
same_command-exact (Keyspace name replication) (Keyspace n r) e =
    let p = and_parts (bytes_eq name n) (same_replication replication r) e in
    ap₂ Keyspace (texts name n p.0) (same_replication-exact replication r p.1)
same_command-exact (DropKeyspace name) (DropKeyspace n) e = ap DropKeyspace (texts name n e)
same_command-exact (PrepareJoin node tokens) (PrepareJoin n ts) e =
    let p = and_parts (node == n) (pointwise int_eq tokens ts) e in
    ap₂ PrepareJoin (eqb-true node n p.0) ((signed_items tokens ts).0 p.1)
same_command-exact (PrepareMove node token) (PrepareMove n t) e =
    let p = and_parts (node == n) (int_eq token t) e in
    ap₂ PrepareMove (eqb-true node n p.0) ((Decides-int_eq token t).0 p.1)
same_command-exact (PrepareLeave node) (PrepareLeave n) e = ap PrepareLeave (eqb-true node n e)
same_command-exact (PrepareReplace node gone) (PrepareReplace n g) e =
    let p = and_parts (node == n) (gone == g) e in ap₂ PrepareReplace (eqb-true node n p.0) (eqb-true gone g p.1)
same_command-exact (Step goal kind node) (Step g k n) e =
    let p = and_parts (same_goal goal g) (same_kind kind k && (node == n)) e in
    let q = and_parts (same_kind kind k) (node == n) p.1 in
    let x = same_goal-exact goal g p.0 in let y = same_kind-exact kind k q.0 in let z = eqb-true node n q.1 in cc
same_command-exact (Cancel node) (Cancel n) e = ap Cancel (eqb-true node n e)
same_command-exact _ _ e = absurd (true≢false (sym e))

-- ---- a command is the same as itself

same_goal-refl : (g : Goal) → same_goal g g ≡ true
same_goal-refl goal.Start = refl
same_goal-refl goal.Mid = refl
same_goal-refl goal.Finish = refl

same_kind-refl : (k : Kind) → same_kind k k ≡ true
same_kind-refl kind.Join = refl
same_kind-refl kind.Move = refl
same_kind-refl kind.Leave = refl
same_kind-refl kind.Replace = refl

same_text : (xs : List ℕ) → bytes_eq xs xs ≡ true
same_text xs = (bytes_eq-Decides xs xs).1 refl

same_items : (ts : List ℤ) → pointwise int_eq ts ts ≡ true
same_items ts = (signed_items ts ts).1 refl

same_command-refl : (c : Command) → same_command c c ≡ true
same_command-refl (Register name dc rack) = and_from _ _ (same_text name) (and_from _ _ (same_text dc) (same_text rack))
same_command-refl (Unregister node) = eq-eqb node node refl
same_command-refl (UnsafeJoin node tokens) = and_from _ _ (eq-eqb node node refl) (same_items tokens)
same_command-refl (Keyspace name replication) = and_from _ _ (same_text name) (same_replication-refl replication)
same_command-refl (DropKeyspace name) = same_text name
same_command-refl (PrepareJoin node tokens) = and_from _ _ (eq-eqb node node refl) (same_items tokens)
same_command-refl (PrepareMove node token) = and_from _ _ (eq-eqb node node refl) ((Decides-int_eq token token).1 refl)
same_command-refl (PrepareLeave node) = eq-eqb node node refl
same_command-refl (PrepareReplace node gone) = and_from _ _ (eq-eqb node node refl) (eq-eqb gone gone refl)
same_command-refl (Step goal kind node) = and_from _ _ (same_goal-refl goal) (and_from _ _ (same_kind-refl kind) (eq-eqb node node refl))
same_command-refl (Cancel node) = eq-eqb node node refl

pub same_command_tells : (c d : Command) → IsTrue (same_command c d) ↔ (c ≡ d)
same_command_tells c d = (same_command-exact c d, λ same. subst (λ other. same_command c other ≡ true) same (same_command-refl c))
