-- Movements in flight: what accepted commands say of them, and how changes leave them.
pub mod AcceptedSteps
pub mod CancelLemmas
pub mod FoundPlans
pub mod MovementPlaces
pub mod PlanLemmas
pub mod PrepareLemmas
pub mod RenewedPlans
pub mod ResumeLemmas
pub mod RunningLemmas
