pub mod Beside
pub mod Piled
