mod Silence
mod Sends
