pub mod Rules
pub mod Scale
pub mod Made
