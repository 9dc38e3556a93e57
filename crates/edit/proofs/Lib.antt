mod Behind
mod Chain
mod NewRun
mod Tail
mod Whole
