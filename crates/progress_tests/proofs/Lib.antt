mod Ended
mod Noted
