pub mod Laws
pub mod Decimal
pub mod Input
pub mod Examples
