-- Entries whose kept form reads back.
use Rattle.std.specs.Prelude.{◌≡◌, true, List, [], ◌∷◌}
use Rattle.kdl_entry.specs.Tree.{Entry}
use Rattle.kdl_grammar.specs.ReadsBack.{EntryReads}
use Rattle.kdl_grammar.specs.Tree.{Node, node, Children, no_children, children, Document, document, Nodes, none, first}
use Rattle.kdl_layout.specs.Config.{Settings}
use Rattle.kdl_layout.specs.Formatted.{with_keep_if, formatted_entry}
use Rattle.kdl_layout.specs.Kept.{is_kept_format}

-- if the entry keeps its form, it reads back in the form that it keeps
abbrev pub KeepsReading : Settings → Entry → Type 0
KeepsReading s e = is_kept_format (with_keep_if s.entry_autoformate_keep e).format ≡ true → EntryReads (formatted_entry s e)

-- each of the entries does
abbrev pub EntriesKeepReading : Settings → List Entry → Type 0
EntriesKeepReading s [] = Unit {0}
EntriesKeepReading s (e ∷ es) = KeepsReading s e × EntriesKeepReading s es

-- each entry at any depth does
abbrev mutual
  pub NodeKeepsReading : Settings → Node → Type 0
  NodeKeepsReading s (node h k) = EntriesKeepReading s h.entries × ChildrenKeepReading s k

  pub ChildrenKeepReading : Settings → Children → Type 0
  ChildrenKeepReading s no_children = Unit {0}
  ChildrenKeepReading s (children d) = DocumentKeepsReading s d

  pub DocumentKeepsReading : Settings → Document → Type 0
  DocumentKeepsReading s (document f span ns) = NodesKeepReading s ns

  pub NodesKeepReading : Settings → Nodes → Type 0
  NodesKeepReading s none = Unit {0}
  NodesKeepReading s (first n ns) = NodeKeepsReading s n × NodesKeepReading s ns
