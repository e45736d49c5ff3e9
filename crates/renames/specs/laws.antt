pub mod NameLaws
pub mod WalkLaws
pub mod BegunLaws
pub mod RenamedLaws
