mod Ending
mod Places
mod Working
