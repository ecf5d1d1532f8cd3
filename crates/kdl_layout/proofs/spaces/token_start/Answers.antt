use Rattle.kdl_layout.proofs.Listing.Starts.{before_cut, block_start, spaces_start, line_start, newline_start, dash_start, other_start}
use Rattle.kdl_layout.proofs.spaces.token_start.Goals as goal

pub cut-requires : goal.cut-requires
cut-requires c = rw c.at.ensures (before_cut c.requires.at)

pub returns-in-Some : goal.returns-in-Some
returns-in-Some c = block_start c.cut.result.0 c.cut.result.1 c.requires.at c.at.ensures c.cut.ensures.parts (rw c.in-Space.is at c.requires.token) c.requires.no_backslash c.in-Some.ensures

pub returns-in-None : goal.returns-in-None
returns-in-None c = spaces_start c.cut.result.0 c.cut.result.1 c.requires.at c.at.ensures c.cut.ensures.parts (rw c.in-Space.is at c.requires.token) c.requires.no_backslash c.in-None.ensures

pub returns-in-Some-after_char : goal.returns-in-Some-after_char
returns-in-Some-after_char c = line_start c.cut.result.0 c.cut.result.1 c.requires.at c.at.ensures c.cut.ensures.parts c.line.result.0 (rw c.in-Newline.is at c.requires.token) c.in-Some-after_char.ensures c.line.ensures.parts c.line.ensures.end

pub returns-in-None-after_char : goal.returns-in-None-after_char
returns-in-None-after_char c = newline_start c.cut.result.0 c.cut.result.1 c.requires.at c.at.ensures c.cut.ensures.parts (rw c.in-Newline.is at c.requires.token) c.in-None-after_char.ensures

pub returns-in-Slashdash : goal.returns-in-Slashdash
returns-in-Slashdash c = dash_start (rw c.in-Slashdash.is at c.requires.token)

pub returns-in_default : goal.returns-in_default
returns-in_default c = other_start c.args.token.now.kind c.requires.token c.in_default.not-Space c.in_default.not-Newline c.in_default.not-Slashdash
