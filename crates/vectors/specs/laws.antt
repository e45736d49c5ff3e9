pub mod MonteLaws
