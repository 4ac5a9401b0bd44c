pub mod TreeNodes
pub mod ListedNodes
pub mod PriceLemmas
pub mod SignalLemmas
