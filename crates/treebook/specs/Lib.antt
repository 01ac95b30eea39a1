pub mod Tables
pub mod Laws
pub mod Tree
pub mod TreeInside
pub mod Borne
