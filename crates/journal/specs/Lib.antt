pub mod Commands
pub mod Header
pub mod Steps
