pub mod Turned
mod Answered
