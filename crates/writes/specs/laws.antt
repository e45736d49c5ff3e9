pub mod EndLaws
pub mod FetchLaws
pub mod JudgedLaws
pub mod PageLaws
pub mod RepliedLaws
pub mod StoreLaws
pub mod WriteLaws
