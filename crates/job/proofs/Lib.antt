pub mod SectionLaws
pub mod PartLaws
pub mod Accepted
pub mod SoundPacks
pub mod WholeCase
