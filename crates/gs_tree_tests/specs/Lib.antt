pub mod ObjectOrder
