-- What a step gives.
pub mod Answers
