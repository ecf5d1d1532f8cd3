-- The results of actions.
pub mod Applying
-- What is in a file, or on the output, after an action.
pub mod AskLaws
-- Files that are checked, one after another.
mod CheckSteps
-- Settings that nodes give, one after another.
mod ConfigSteps
-- What an action gives is delivered, and what is missing or wrong is reported.
pub mod Delivering
-- What is done with texts that are formatted, and what becomes of their files.
pub mod FormatSteps
-- Indents are spaces, each of one byte.
pub mod Indents
-- Texts that are no query.
pub mod QueryFaults
-- The bytes of reports.
pub mod ReportSteps
-- What is shown of selected nodes is not empty, and only where some are selected is the status of files 0.
pub mod SearchLaws
-- Files that are searched one after another.
pub mod SearchSteps
-- Texts that are words of ASCII.
mod Spelled
-- Texts of the program itself are shown.
pub mod TextLaws
-- What a check of a file says of its text.
pub mod Verdicts
-- What becomes of the settings of a run, and of the files that are formatted with them.
pub mod RequestSteps
