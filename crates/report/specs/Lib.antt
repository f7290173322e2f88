pub mod Plan
pub mod Text
