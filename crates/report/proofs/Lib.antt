pub mod Planned
pub mod Told
