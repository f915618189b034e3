pub mod BitRule
mod Along
mod Consecutive
mod StepAt
