-- The tool's commands, and what they write.
pub mod Commands
-- The exit status of each outcome, and what is written to standard error.
pub mod Reports
-- What a run of the tool reads, writes and returns.
pub mod Runs
