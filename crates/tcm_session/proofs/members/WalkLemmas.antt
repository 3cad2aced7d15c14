-- A walk along a route: a change at a time, and the lines of the changes.
use Rattle.std.proofs.Common.{◌≡◌, ℕ, Bool, true, false, if◌then◌else◌, nat_eq, Some, None, IsSome, refl, subst}
use Rattle.std.proofs.lemmas.Bool.{false≢true}
use Rattle.std.proofs.lemmas.Bool.Decides.{Decides-eqb}
use Rattle.std.specs.Ordering.{nat_cmp}
use Rattle.cluster_terms.specs.Ascending.{put}
use Rattle.cms_members.specs.Service.{Growth, Service, growing_service, service_after, service_of}
use Rattle.cms_members.specs.declared.change.Change.TheVariants.{Finish, Stop}

-- the node that finishes is the node that has started
pub finishes : (g : Growth) (n : ℕ) (t : Service) → IsSome (service_after (growing_service g) (Finish n)) → service_after (growing_service g) (Finish g.node) ≡ Some t → service_after (growing_service g) (Finish n) ≡ Some t
finishes g n t some done = by (nat_eq g.node n) refl some
  where
    by : (b : Bool) → nat_eq g.node n ≡ b → IsSome (if b then Some (service_of (put nat_cmp n g.voting)) else None) → service_after (growing_service g) (Finish n) ≡ Some t
    by true same some = subst (λ (m : ℕ). service_after (growing_service g) (Finish m) ≡ Some t) ((Decides-eqb g.node n).0 same) done
    by false other some = absurd (false≢true some)

-- and so is the node that stops
pub stops : (g : Growth) (n : ℕ) (t : Service) → IsSome (service_after (growing_service g) (Stop n)) → service_after (growing_service g) (Stop g.node) ≡ Some t → service_after (growing_service g) (Stop n) ≡ Some t
stops g n t some done = by (nat_eq g.node n) refl some
  where
    by : (b : Bool) → nat_eq g.node n ≡ b → IsSome (if b then Some (service_of g.voting) else None) → service_after (growing_service g) (Stop n) ≡ Some t
    by true same some = subst (λ (m : ℕ). service_after (growing_service g) (Stop m) ≡ Some t) ((Decides-eqb g.node n).0 same) done
    by false other some = absurd (false≢true some)
