pub mod Columns
pub mod ColumnsInside
pub mod Lp
pub mod LpInside
