-- one choice: function and relation
pub mod ChoiceSteps
pub mod StepsChosen
pub mod Operands
pub mod Agree
pub mod StepEffects
-- lists of choices
pub mod RunChain
-- the ready pair
pub mod ReadyFound
pub mod ReadyPair
-- what 1 to 10 leave of a file's nodes
pub mod ReachedNodes
pub mod FileNodes
pub mod NodeSteps
-- values and threads
pub mod HeldValues
pub mod ThreadLists
pub mod ThreadSteps
-- a choice keeps what holds in every state of a run
pub mod OutcomeClaims
pub mod LoneSteps
pub mod MeetingSteps
pub mod ChoiceKeeps
-- runs keep the rules, and a checked file's is not stopped for a role
pub mod FileLawful
pub mod StartKept
pub mod StartThreads
pub mod RunSafe
-- the output of a run, and what is answered
pub mod OutputWords
pub mod AnswerCases
pub mod RunAnswers
pub mod ReadyAnswers
-- runs in literal words
pub mod RunsShown
-- the totals that a run keeps
pub mod TotalWords
pub mod TotalSteps
pub mod AwaitedNodes
