mod ColumnLemmas
mod DualLemmas
mod AnswerLemmas
