pub mod FormatLaws
pub mod AddressLaws
pub mod ShortNumbers
pub mod HexLaws
pub mod MaskLaws
pub mod SpellingLaws
pub mod WrittenLaws
pub mod ExamplesOfAddresses
