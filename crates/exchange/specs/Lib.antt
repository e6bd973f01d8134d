pub mod Meaning
pub mod Sound
pub mod Bytes
pub mod Laws
pub mod Passing
pub mod BytesLemmas
