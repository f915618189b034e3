mod Backwards
pub mod DiagramTable
mod Marks
mod Rows
mod Scan
mod Tried
