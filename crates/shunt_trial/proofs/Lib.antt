pub mod Left
mod Sure
mod Rehearsals
