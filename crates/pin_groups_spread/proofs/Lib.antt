mod Accepted
pub mod Numbers
