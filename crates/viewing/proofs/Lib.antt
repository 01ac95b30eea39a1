mod Parts
mod Bytes
mod Steps
mod Ends
mod Outcomes
