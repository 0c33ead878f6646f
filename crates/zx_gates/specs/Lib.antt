pub mod Circuit
pub mod Counting
pub mod Elementary
pub mod ElementaryMaps
pub mod Lowering
pub mod Maps
pub mod Passes
pub mod Internal
