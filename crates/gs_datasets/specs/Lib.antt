-- Read in this order: what versions stand for, and the laws: of the dataset, of writes, and of trees.
pub mod Standing
pub mod Datasets
pub mod Writes
pub mod Trees
