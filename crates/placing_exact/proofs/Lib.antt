-- masks of one role, costs, and rules 5 and 6 by states
pub mod HeldRole
pub mod StepCosts
pub mod StateRules
-- nodes held idly (idle-insert, all-idle)
pub mod SwitchFree
pub mod IdleCosts
pub mod IdleTrees
-- states give a placement, and a placement gives states
pub mod InsertGood
pub mod Rivals
-- the states that nodes may have, in words (allowed-stated)
pub mod AllowedStates
-- one session
pub mod SoundSessions
pub mod SessionPlaced
-- the whole file
pub mod FilePlaced
-- What placing sees in a file: trees without on and off, their nodes with the roles that they may be given (labels-read)
pub mod Preorder
pub mod ReadLabels
-- The states taken from the rows are the choice's (all-turns)
pub mod TreeRows
-- The groups of nodes are the trees with off and on put in (all-groups, all-roots), and what is written is the placed file (contents-placed)
pub mod TurnedNodes
pub mod GroupTrees
pub mod GroupSessions
-- The tie rule fixes one list of states, and it is the one taken (fixed-single, taking-fixed)
pub mod FixedStates
-- 14 and 15, and that the placed file is well formed
pub mod BareAnswers
pub mod ServedLabels
pub mod FormedTrees
pub mod OnNodes
-- The bytes written, their length, the on steps and the states (placed-bytes, placed-length, placed-ons, placed-states)
pub mod BytesPlaced
-- Placing's answer by stages, the places of 14 and 15, and when the answer is which: what a placed file is (placed-well), and when 14, 15, 16
-- or none refuses (fourteen-masks, fourteen-node, fifteen-exactly, fifteen-place, sixteen-exactly, placed-exactly)
pub mod UnservedNodes
pub mod RefusedPlaces
pub mod AnswerStages
pub mod PlacingExact
-- the answer is the first refusal in order that has a cause (placing-first)
pub mod PlacingFirst
-- a session that one role covers (covered-once, one-role-written)
pub mod OneRole
-- A rival that is asked for rules 5 and 6 alone obeys every rule (rivals-by-roles, rivals-all): the fewest on steps of all, and 15 where there is none at all
-- (fewest-of-all, none-at-all)
pub mod RivalsByRoles
-- nodes held idly: no rival with as few on steps has fewer (least-idle-of-all), and by states (idle-stated)
pub mod IdleRivals
-- the starred cases
pub mod StarredCases
