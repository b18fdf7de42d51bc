-- nodes at or below a node
pub mod NodesBelow
-- where a session's tree stands (tree-written, in-span)
pub mod SessionNodes
-- one on step in a tree is one node of tag 7 (one-on)
pub mod OneOnNode
-- a role in the active set comes from an on step above, and is kept to the last send or receive (come-from,
-- held-through)
pub mod RolesAbove
-- nothing else is active at an on step of a placed file (lone-ons)
pub mod OnsAlone
-- the role of the one on step permits all the sends and receives (only-on, covered-by)
pub mod OnCovers
-- what is placed, and what is placed for a minute, as one (placed-from, placed-from-at)
pub mod PlacedFrom
-- who is underway is alone in its role (underway-alone)
pub mod AloneInRole
-- the theorems (alone-since, under-one, role-alone, never-two, never-two-on)
pub mod MidwayAlone
-- the day in spring in literal words (both-midway, placed-so, placed-so-at, each-covered, only-reading, spring-never,
-- one-alone)
pub mod SpringShown
