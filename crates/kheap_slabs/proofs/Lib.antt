pub mod GivenKeys
pub mod ObjectLemmas
pub mod PurseLemmas
pub mod ShelfLemmas
pub mod MeterLemmas
