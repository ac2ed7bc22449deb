mod MentionLaws
mod KindLaws
mod FieldLaws
mod NameLaws
mod TypeLaws
