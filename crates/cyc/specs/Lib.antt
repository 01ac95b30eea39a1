pub mod Marks
pub mod Tour
pub mod CitySet
pub mod CitySetInside
pub mod Frac
pub mod Table
pub mod FracInside
pub mod Laws
