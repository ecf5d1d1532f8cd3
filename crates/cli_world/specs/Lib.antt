-- The exit statuses.
pub mod Statuses
-- The statuses and counts of files.
pub mod Tallies
-- What is known of files, by their names.
pub mod Files
-- What can be seen of a run.
pub mod Seen
-- What a run does with files, from what is to be done with the text of each.
pub mod Acts
