pub mod LeafLaws
pub mod KeyedLists
pub mod ChunkedMapLaws
pub mod LastPrefixes
pub mod NodeLaws
pub mod MapInvariant
