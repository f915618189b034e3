pub mod Complements
pub mod Fronts
pub mod Least
pub mod Pigeons
pub mod Powers
