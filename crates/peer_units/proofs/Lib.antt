pub mod MessageLaws
pub mod EventLaws
pub mod OpenLaws
pub mod NamedLaws
pub mod DecodedLaws
pub mod HeldLaws
