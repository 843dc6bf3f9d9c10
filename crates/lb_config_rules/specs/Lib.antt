pub mod Choices
pub mod GroupView
pub mod Groups
pub mod Parts
pub mod PartsView
pub mod Resolved
pub mod Rules
pub mod RulesView
