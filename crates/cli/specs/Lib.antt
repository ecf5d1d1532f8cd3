-- What is done with files that are checked.
pub mod Checks
-- The settings that a text gives.
pub mod Config
-- What layout makes of a text, by the settings of the program.
pub mod Formatted
-- What becomes of files that are formatted.
pub mod Formats
-- What the actions that edit a text make of it.
pub mod Edits
-- What the actions that show something of a text print.
pub mod Shown
-- What an action does with the text of a file.
pub mod Asks
-- How the texts of PATHs on a command line are read.
pub mod Named
-- Definitions that no contract of a public call mentions.
pub mod Internal
-- How the faults of a text are reported.
pub mod Reports
-- What is done with files in which a query selects nodes.
pub mod Searches
-- How files are laid out, if nothing else is given, and if something is.
pub mod Settings
-- What a run does for a request.
pub mod Requests
