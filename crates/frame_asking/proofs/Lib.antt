pub mod HexCount
pub mod OutcomeLaws
