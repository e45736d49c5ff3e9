pub mod CutLaws
pub mod GrowthLaws
pub mod JudgedLaws
pub mod RepliedLaws
pub mod TruncateLaws
