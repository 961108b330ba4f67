mod Joined
mod Places
