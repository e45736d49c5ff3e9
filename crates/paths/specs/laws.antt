pub mod FormAnswers
pub mod PartsLaws
pub mod PathFormLaws
pub mod WalkAnswers
pub mod WalkLaws
