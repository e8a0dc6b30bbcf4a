pub mod FormedLemmas
pub mod RoomLemmas
