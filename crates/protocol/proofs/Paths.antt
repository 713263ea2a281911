-- What each kind of store does to walks, to what is reached, to the shape of the tree and to the set: over any table, for
-- a lone worker and for workers together.
pub mod Shape
pub mod Stores
pub mod Kept
