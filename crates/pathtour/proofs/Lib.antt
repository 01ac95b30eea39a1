pub mod PresentLemmas
mod JoinedLemmas
mod PathSteps
mod RoundLemmas
mod SameSteps
