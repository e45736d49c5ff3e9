pub mod CalledLaws
