-- Read `Catalogues` for the versions of all graphs.
pub mod Catalogues
