pub mod CopyLemmas
pub mod GoingLemmas
pub mod LeafChanges
pub mod NumberLemmas
