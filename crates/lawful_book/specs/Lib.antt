pub mod LawfulBooks
pub mod Laws
pub mod OwnedBooks
pub mod OwnedLaws
