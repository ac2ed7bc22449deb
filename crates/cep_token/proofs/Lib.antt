pub mod FormLemmas
pub mod TokenLemmas
pub mod ContentLemmas
