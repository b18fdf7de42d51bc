-- tables that differ in their users alone place a tree alike where its user has the same roles (placed-alike)
pub mod WardLabels
-- a session placed in two files, by trees (isolated, isolated-at)
pub mod Wards
-- and by its words (isolated-words, isolated-words-at)
pub mod WardNodes
-- two files in literal words
pub mod WardsShown
