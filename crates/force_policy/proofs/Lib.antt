pub mod Courses
mod Examples
