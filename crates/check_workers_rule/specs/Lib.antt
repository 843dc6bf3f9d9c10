pub mod CheckRequests
