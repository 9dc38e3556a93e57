pub mod Words
pub mod Digest
pub mod Streams
pub mod Vectors
