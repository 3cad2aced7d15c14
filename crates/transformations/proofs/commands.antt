-- Commands that are accepted, and the refusals of others.
pub mod AcceptedLemmas
pub mod DatacenterGroupLemmas
pub mod KeyspacesAfter
pub mod RefusalLemmas
pub mod SameLemmas
