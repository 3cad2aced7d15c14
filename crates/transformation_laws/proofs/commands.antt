-- Commands that are accepted, and the refusals of others.
pub mod EarlyRefusals
