pub mod FirstRequests
