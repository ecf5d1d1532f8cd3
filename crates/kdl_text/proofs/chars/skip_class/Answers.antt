use Rattle.std.proofs.Common.{sym, ◌∙◌}
use Rattle.kdl_text.specs.Internal.Here.{in_class}
use Rattle.kdl_text.proofs.Looking.Runs.{ascii_ends, ascii_stops}
use Rattle.kdl_text.proofs.chars.skip_class.Goals as goal

pub returns-in_default-first_char : goal.returns-in_default-first_char
returns-in_default-first_char c = ascii_ends (in_class c.args.class) _ _ _ c.skip_ascii-count.ensures c.in_default-first_char.ensures.first

pub returns-then-is_ascii : goal.returns-then-is_ascii
returns-then-is_ascii c = ascii_stops (in_class c.args.class) _ _ _ c.in-Some-first_char.c c.skip_ascii-count.ensures c.in-Some-first_char.ensures.first (sym c.is_ascii.ensures ∙ c.if-is_ascii.true)
