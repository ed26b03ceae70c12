mod Known
mod Small
mod Stepped
mod Listed
mod Ordered
mod Beside
