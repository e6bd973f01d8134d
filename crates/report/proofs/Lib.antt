mod Adding
pub mod Long
