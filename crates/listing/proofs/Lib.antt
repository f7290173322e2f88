pub mod Adding
pub mod Letters
