use Rattle.std.proofs.Common.{◌≡◌, drop, map, string_bytes}
use Rattle.std.specs.Str.{chars}
use Rattle.lsp_text.specs.Positions.{all_changed, change_of}
use Rattle.lsp_text.proofs.change.replaced_all.Given as goal

abbrev pub invariant-loop-change : goal.invariant-loop-change
invariant-loop-change l =
    all_changed l.encoding (map change_of (drop l.change-index l.changes)) (chars (string_bytes l.text)) ≡ all_changed l.encoding (map change_of l.changes) (chars (string_bytes l.initial.text))
