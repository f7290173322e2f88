mod Each
pub mod Law
