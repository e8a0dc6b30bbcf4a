pub mod Bodies
pub mod Feeding
pub mod Leading
