pub mod Running
pub mod Watching
pub mod Rendering
pub mod Walks
pub mod Staying
pub mod Skipped
pub mod AsEvaluated
