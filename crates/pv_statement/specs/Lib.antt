pub mod Laws
pub mod Months
pub mod Statement
