pub mod ByteLaws
pub mod Laws
pub mod Listed
pub mod PairLaws
pub mod WindowLaws
