-- The steps of the store: a record is added, the end is closed, a file is loaded.
pub mod AddSteps
pub mod EndSteps
pub mod FileSteps
pub mod LoadSteps
pub mod Results
