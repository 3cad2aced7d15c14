-- Of the code: how values are kept and changed. No clause of `run` reaches these definitions.
pub mod DatacenterGroups
pub mod DoneMovements
pub mod OneNode
pub mod RuleGroups
