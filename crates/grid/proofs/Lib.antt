pub mod AxisTests
pub mod Checked
pub mod Limited
mod Made
