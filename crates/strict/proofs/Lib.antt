pub mod StrictLaws
pub mod PromiseLaws
pub mod Judging
