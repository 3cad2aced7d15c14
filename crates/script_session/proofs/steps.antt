-- A session goes on: the ends of a step, what it keeps, what the file gains.
pub mod GainLemmas
pub mod KeptImageLemmas
pub mod SessionLemmas
pub mod StepEndLemmas
