pub mod DefaultsLines
pub mod GlobalsView
pub mod ServerView
pub mod Servers
pub mod Values
