pub mod Solving
