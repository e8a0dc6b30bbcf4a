pub mod KeptOpLemmas
pub mod ListLemmas
pub mod PageLemmas
pub mod ReplayLemmas
pub mod SizeLemmas
pub mod UploadLemmas
