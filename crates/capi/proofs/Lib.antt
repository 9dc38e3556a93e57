mod Goings
mod Digests
mod Tells
