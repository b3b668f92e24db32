pub mod PlacedProps
pub mod ListedUnits
pub mod UnitLists
pub mod Plain
pub mod UnitRings
pub mod DecodedUnitLists
