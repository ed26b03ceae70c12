pub mod Placed
mod Below
mod Same
