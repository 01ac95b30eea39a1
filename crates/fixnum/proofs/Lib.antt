mod Products
mod Rounding
