-- Headers of logs: read and written.
pub mod HeaderFloats
pub mod HeaderNames
pub mod HeaderRows
pub mod HeadersReadBack
