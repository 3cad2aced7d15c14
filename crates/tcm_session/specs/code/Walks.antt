-- The metadata service as a walk along a route holds it.
use Rattle.cms_members.specs.Service.{Service, growing_service, service_of}
use Rattle.tcm_session.specs.declared.files.member_walk.Walk.{Walk}
use Rattle.tcm_session.specs.declared.files.member_walk.Walk.TheVariants.{Settled, Joining}

-- the service at a place of the walk
abbrev pub service_at : Walk → Service
service_at (Settled members) = service_of members
service_at (Joining g) = growing_service g
