-- What two layouts make.
use Rattle.kdl_laws.proofs.Common.{◌≡◌, ℕ, Bool, true, false, sym, ap, ◌∙◌, subst, ◌↔◌, Result, Ok, Err, IfOk, list_all, Text, is_space, IsDocument, Document, Node, Settings, DocumentKeepsNone, NodeKeepsNone, IsFormattedDocument, IsFormattedNode, IsLaidDocument, document_stays}
use Rattle.kdl_grammar.specs.Data as data'
use Rattle.kdl_layout.specs.Blank.{at_start}
use Rattle.kdl_layout.specs.Canonical.{canonical, Canonical}
use Rattle.kdl_layout.specs.Compact.{compact_nodes}
use Rattle.kdl_layout.specs.Config.{IndentsBySpaces, IsPlain, Keeping, nothing}
use Rattle.kdl_layout.specs.Respelled.{IsSpelledDocument, IsSpelledNode}
use Rattle.kdl_layout.specs.Spaced.{IsSpacedDocument, IsSpacedNode}
use Rattle.kdl_layout.specs.OneLine.{IsLaidNode}
use Rattle.kdl_grammar.specs.Print.{print_document}
use Rattle.kdl_grammar.specs.Tree.{document_data}
use Rattle.kdl_layout.proofs.Formatting.PrintsCompact.{document_compact}
use Rattle.kdl_layout.proofs.OneLine.Again as again
use Rattle.kdl_layout.proofs.OneLine.Same.{document_off, node_off}
use Rattle.kdl_layout.proofs.Respelling.Off as off
use Rattle.kdl_layout.proofs.Spacing.Again.{node_stays}

-- two canonical texts are the same exactly where the data are
pub same_texts : (indent : Text) (level : ℕ) (x y : data'.Nodes) (t u : Text) → Canonical indent level x → Canonical indent level y → t ≡ canonical indent level x → u ≡ canonical indent level y → (t ≡ u) ↔ (x ≡ y)
same_texts indent level x y t u c d a b =
    (λ e. sym (c.alone y (subst (λ (s : Text). IsDocument s y) (sym b ∙ sym e ∙ a) d.derived)), λ e. a ∙ ap (canonical indent level) e ∙ sym b)

-- the second layout changes nothing
pub twice : {A E : Type 0} (r : Result A E) (s : Settings) (level : ℕ) (d x y : Document) → list_all is_space s.indent ≡ true → s.entry_autoformate_keep ≡ false → DocumentKeepsNone d
    → IsFormattedDocument s level d x → IfOk r (λ _. IsFormattedDocument s level x y) → IfOk r (λ _. IsFormattedDocument s level d y)
twice (Ok v) s level d x y ok keep none f g = subst (λ (z : Document). IsFormattedDocument s level d z) (sym (document_stays false 0 s level ok keep d x y f none g)) f
twice (Err v) s level d x y ok keep none f g = tt

pub node_twice : {A E : Type 0} (r : Result A E) (s : Settings) (level : ℕ) (n x y : Node) → list_all is_space s.indent ≡ true → s.entry_autoformate_keep ≡ false → NodeKeepsNone n
    → IsFormattedNode s level n x → IfOk r (λ _. IsFormattedNode s level x y) → IfOk r (λ _. IsFormattedNode s level n y)
node_twice (Ok v) s level n x y ok keep none f g = subst (λ (z : Node). IsFormattedNode s level n z) (sym (node_stays false 0 s level ok keep n x y f none g)) f
node_twice (Err v) s level n x y ok keep none f g = tt

-- of the two documents in sight the second is the first
pub document_again : (s : Settings) (level : ℕ) (d x y : Document) → IndentsBySpaces s → s.entry_autoformate_keep ≡ false → DocumentKeepsNone d → IsFormattedDocument s level d x → IsFormattedDocument s level x y → y ≡ x
document_again s level d x y ok keep none f g = document_stays false 0 s level ok keep d x y f none g

pub node_again : (s : Settings) (level : ℕ) (n x y : Node) → IndentsBySpaces s → s.entry_autoformate_keep ≡ false → NodeKeepsNone n → IsFormattedNode s level n x → IsFormattedNode s level x y → y ≡ x
node_again s level n x y ok keep none f g = node_stays false 0 s level ok keep n x y f none g

-- the same with blank lines, and with blocks on one line
pub spaced_again : (spelling : Keeping) (line compact : Bool) (number : ℕ) (s : Settings) (level : ℕ) (d x y : Document) → IndentsBySpaces s → s.entry_autoformate_keep ≡ false → DocumentKeepsNone d → IsLaidDocument spelling line compact number s level d x → IsLaidDocument spelling line compact number s level x y
    → y ≡ x
spaced_again spelling line compact number s level d x y ok flag bare f g = again.document_stays compact number s ok line flag spelling level d x y f bare g

pub spaced_node_again : (spelling : Keeping) (line compact : Bool) (number : ℕ) (s : Settings) (level : ℕ) (n x y : Node) → IndentsBySpaces s → s.entry_autoformate_keep ≡ false → NodeKeepsNone n → IsLaidNode spelling line compact number s level at_start n x → IsLaidNode spelling line compact number s level at_start x y
    → y ≡ x
spaced_node_again spelling line compact number s level n x y ok flag bare f g = again.node_stays compact number s ok line flag spelling level n x y f bare g

pub spaced_twice : {A E : Type 0} (r : Result A E) (spelling : Keeping) (line compact : Bool) (number : ℕ) (s : Settings) (level : ℕ) (d x y : Document) → list_all is_space s.indent ≡ true → s.entry_autoformate_keep ≡ false → DocumentKeepsNone d
    → IsLaidDocument spelling line compact number s level d x → IfOk r (λ _. IsLaidDocument spelling line compact number s level x y) → IfOk r (λ _. IsLaidDocument spelling line compact number s level d y)
spaced_twice (Ok v) spelling line compact number s level d x y ok flag bare f g = subst (λ (z : Document). IsLaidDocument spelling line compact number s level d z) (sym (again.document_stays compact number s ok line flag spelling level d x y f bare g)) f
spaced_twice (Err v) spelling line compact number s level d x y ok flag bare f g = tt

-- no block on one line
pub lined_document : (spelling : Keeping) (compact : Bool) (number : ℕ) (s : Settings) (level : ℕ) (d x : Document) → IsLaidDocument spelling false compact number s level d x ↔ IsSpelledDocument spelling compact number s level d x
lined_document spelling compact number s level d x =
    (λ f. subst (λ (y : Document). IsSpelledDocument spelling compact number s level d y) (sym (f.2 ∙ document_off d f.0)) f.1, λ f. (x, f, sym (document_off d x)))

pub lined_node : (spelling : Keeping) (compact : Bool) (number : ℕ) (s : Settings) (level : ℕ) (n x : Node) → IsLaidNode spelling false compact number s level at_start n x ↔ IsSpelledNode spelling compact number s level at_start n x
lined_node spelling compact number s level n x =
    (λ f. subst (λ (y : Node). IsSpelledNode spelling compact number s level at_start n y) (sym (f.2 ∙ node_off n f.0)) f.1, λ f. (x, f, sym (node_off n x)))

-- neither spellings nor comments inside entries
pub respelled_document : (compact : Bool) (number : ℕ) (s : Settings) (level : ℕ) (d x : Document) → IsSpelledDocument nothing compact number s level d x ↔ IsSpacedDocument compact number s level d x
respelled_document compact number s level d x =
    (λ h. subst (λ (z : Document). IsSpacedDocument compact number s level d z) (sym (off.same_document s d h.0 x h.2)) h.1, λ f. (x, f, off.document_itself compact number s level d x f))

pub respelled_node : (compact : Bool) (number : ℕ) (s : Settings) (level : ℕ) (n x : Node) → IsSpelledNode nothing compact number s level at_start n x ↔ IsSpacedNode compact number s level at_start n x
respelled_node compact number s level n x =
    (λ h. subst (λ (z : Node). IsSpacedNode compact number s level at_start n z) (sym (off.same_node s n h.0 x h.2)) h.1, λ f. (x, f, off.node_itself compact number s level at_start n x f))

-- no blank lines
pub unspaced_document : (s : Settings) (level : ℕ) (d x : Document) → IsSpacedDocument false 0 s level d x ↔ IsFormattedDocument s level d x
unspaced_document s level d x = (λ f. f, λ f. f)

pub unspaced_node : (s : Settings) (level : ℕ) (n x : Node) → IsSpacedNode false 0 s level at_start n x ↔ IsFormattedNode s level n x
unspaced_node s level n x = (λ f. f, λ f. f)

-- what a compact layout prints
pub compact_printed : (s : Settings) (level depth : ℕ) (d e : Document) → IsPlain s → DocumentKeepsNone d → IsLaidDocument nothing false true 0 s level d e → print_document e depth ≡ compact_nodes s.indent level (document_data d)
compact_printed s level depth d e plain none f =
    document_compact s level depth d e plain none ((respelled_document true 0 s level d e).0 ((lined_document nothing true 0 s level d e).0 f))
