pub mod ArmLaws
