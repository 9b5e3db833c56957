mod Confirmed
mod Allowed
mod Home
mod Told
