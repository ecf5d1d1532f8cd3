use Rattle.std.proofs.Common.{[], ◌∷◌, refl}
use Rattle.std.specs.List.{repeat}
use Rattle.cli.specs.Formatted.{indent_text}
use Rattle.cli.proofs.Indents.{repeat-encoded, tab-encoded, text_is}
use Rattle.cli.proofs.settings.Indent.text.Goals as goal

pub returns-in-Spaces : goal.returns-in-Spaces
returns-in-Spaces c = text_is c.repeat.result (repeat c.in-Spaces.count (32 ∷ [])) (indent_text c.args.self) c.printed_is_text.ensures (repeat-encoded c.in-Spaces.count) (rw c.in-Spaces.is refl) c.repeat.ensures.bytes

pub returns-in-Tab : goal.returns-in-Tab
returns-in-Tab c = text_is c.from_str.result (9 ∷ []) (indent_text c.args.self) c.printed_is_text.ensures tab-encoded (rw c.in-Tab.is refl) c.from_str.ensures.ok
