-- Zones on their way along an edge.
pub mod Along
