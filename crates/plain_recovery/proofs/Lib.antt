pub mod SaidLemmas
pub mod OpeningLemmas
pub mod OneRefusal
pub mod States
pub mod MakeLemmas
