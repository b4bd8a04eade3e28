pub mod Device
pub mod Space
pub mod Draft
pub mod Drafts
pub mod DraftLaws
pub mod Stream
