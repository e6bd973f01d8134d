pub mod Rules
pub mod Steps
