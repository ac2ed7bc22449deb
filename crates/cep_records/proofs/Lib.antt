pub mod FieldLaws
pub mod NumberLaws
pub mod TypeLaws
pub mod ValueLaws
