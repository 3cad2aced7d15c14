pub mod coverage
pub mod pairing
pub mod planned_rows
