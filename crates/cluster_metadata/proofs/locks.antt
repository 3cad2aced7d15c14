-- The locks of movements: taken, kept, refused, and made again from an image.
pub mod LockLemmas
pub mod LockPlaces
pub mod LockRefusals
pub mod LocksKept
pub mod LocksResumed
pub mod LocksTaken
pub mod OverlapLemmas
pub mod RenewedLocks
