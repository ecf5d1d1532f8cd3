-- Bare strings (KDL 2.0.0, Identifier String).
pub mod Bare
-- Texts and classes of characters (KDL 2.0.0: Unicode scalar values, spaces, newlines, disallowed code points).
pub mod Chars
-- Dedent (KDL 2.0.0, Multi-line Strings): the value of lines, the last of which is only spaces.
pub mod Dedent
-- The error of a refused text.
pub mod Failures
-- Quoted strings in either form (KDL 2.0.0, Quoted String and Multi-line String).
pub mod MultiLine
-- Numbers (KDL 2.0.0, Number).
pub mod Numbers
-- Raw strings in either form (KDL 2.0.0, Raw String).
pub mod Raw
-- Spans: places in a text, in bytes.
pub mod Spans
-- Quoted strings on one line (KDL 2.0.0, Quoted String). `X t r x`: an X begins the text t, leaves r, and has the value x.
pub mod Strings
-- Comments, spaces, esclines, slashdashes, and what may follow a value (KDL 2.0.0).
pub mod Trivia
-- Definitions that only proofs and contracts inside the crates use.
pub mod Internal
