pub mod KeptLemmas
pub mod WholeLemmas
pub mod NumberLemmas
pub mod TextLemmas
pub mod CountLemmas
pub mod PlainLemmas
