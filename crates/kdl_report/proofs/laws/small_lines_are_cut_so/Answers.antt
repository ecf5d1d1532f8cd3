use Rattle.std.proofs.Common.{refl}
use Rattle.unicode_width.specs.Width.{char_width}
use Rattle.kdl_text.specs.Chars.{is_banned, is_newline_char}
use Rattle.kdl_report.proofs.laws.small_lines_are_cut_so.Goals as goal

pub returns-clause-both : goal.returns-clause-both
unfolding char_width is_banned is_newline_char
returns-clause-both c = refl

pub returns-clause-wide : goal.returns-clause-wide
unfolding char_width is_banned is_newline_char
returns-clause-wide c = refl
