mod Compared
mod Events
mod Lines
mod OfNight
mod OfZones
