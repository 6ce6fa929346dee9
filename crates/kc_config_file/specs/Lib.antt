pub mod EntryTexts
pub mod KnownValue
pub mod PartsOfTexts
pub mod WrittenLaws
