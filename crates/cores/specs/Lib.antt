pub mod Cores
pub mod Refusals
