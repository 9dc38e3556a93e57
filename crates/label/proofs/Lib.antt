mod Dots
mod Steps
