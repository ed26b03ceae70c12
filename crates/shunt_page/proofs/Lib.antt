mod Ordered
mod Rowed
mod Summed
