mod Labelled
mod Sized
