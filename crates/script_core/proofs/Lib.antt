pub mod JoinedPlaces
pub mod NamesCopied
pub mod SpawnLines
pub mod ShortTerms
