pub mod defs
