pub mod Descriptors
pub mod Laws
pub mod Contents
