-- Document 02, Change 1: the order of edges by their bytes, the places of edges in two lists of them, and edges that lie one after another.
pub mod Edges
pub mod Places
pub mod Laid
pub mod Examples
