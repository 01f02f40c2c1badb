pub mod Laws
pub mod ByteOrder
pub mod ReadAsPut
