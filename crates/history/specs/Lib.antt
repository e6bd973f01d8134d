pub mod Plain
pub mod Lives
pub mod History
