-- Read `Small` for what the small form is, and `Kept` for how it is kept; `Packed` is for making it, and `Props` lets a struct
-- keep facts on terms.
pub mod Kept
pub mod Packed
pub mod Small
pub mod Props
