pub mod Beginnings
pub mod Calls
pub mod PlaceNumbers
pub mod CallPlaces
pub mod Texts
pub mod Inside
