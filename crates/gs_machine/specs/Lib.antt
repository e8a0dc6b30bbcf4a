pub mod Machines
pub mod Utf8
pub mod Decoders
