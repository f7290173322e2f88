pub mod Laws
pub mod Decided
pub mod Values
