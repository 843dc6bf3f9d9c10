pub mod Courses
pub mod Responses
