-- How many newlines a text around nodes lacks for whatever follows it not to become part of it.
use Rattle.std.specs.Prelude.{ℕ, ◌<◌, ◌≤◌, Bool, true, false, [], ◌++◌, Option, Some, None}
use Rattle.kdl_text.specs.Chars.{Text, times, Star}
use Rattle.kdl_text.specs.Trivia.{NodeSpace}
use Rattle.kdl_entry.specs.Places.{EntryLeading}
use Rattle.kdl_grammar.specs.Grammar.{Terminator, Gap}
use Rattle.kdl_grammar.specs.Places.{BeforeChildren, AfterChildren}
use Rattle.kdl_grammar.specs.ReadsBack.{Anything, Terminates, AddsNothing}
use Rattle.kdl_layout.specs.Items.{Place, before_entry, before_block, after_block}

-- a text of k newlines
abbrev pub newlines : ℕ → Text
newlines k = times k 10

-- P holds of the text with k newlines appended, and of no text with fewer
abbrev pub Lacks : (Text → Type 0) → Text → ℕ → Type 0
Lacks P t k = P (t ++ newlines k) × ((j : ℕ) → j < k → P (t ++ newlines j) → ⊥)

-- the text is a gap that lacks k newlines, at most two; or it is not a gap
abbrev pub GapLacks : Text → Option ℕ → Type 0
GapLacks t (Some k) = (k ≤ 2) × Gap true t [] × Lacks AddsNothing t k
GapLacks t None = Gap true t [] → ⊥

-- the text is a terminator, and then a gap
abbrev pub Terminating : Text → Type 0
Terminating t = (v : Text) × Terminator t v × Gap true v []

-- the text is a terminator and a gap, and lacks k newlines, at most two; or it is not such a text
abbrev pub TerminatorLacks : Text → Option ℕ → Type 0
TerminatorLacks t (Some k) = (k ≤ 2) × Terminating t × Lacks (Terminates Anything) t k
TerminatorLacks t None = Terminating t → ⊥

-- what comes before the second text in the first one may be in the place of a node
abbrev pub InPlace : Place → Text → Text → Type 0
InPlace (before_entry spaced) = EntryLeading
InPlace before_block = BeforeChildren
InPlace after_block = AfterChildren

-- the text may be in the place before each terminator
abbrev pub BeforeEach : Place → Text → Type 0
BeforeEach p t = (r v : Text) → Terminator r v → InPlace p (t ++ r) r

-- whether the text, in a place of a node before the terminator, lacks a newline; or the text may not be in that place. For a place before an entry this says nothing
abbrev pub PlaceLacks : Place → Text → Option Bool → Type 0
PlaceLacks (before_entry spaced) t o = Unit {0}
PlaceLacks p t (Some true) = InPlace p t [] × Lacks (BeforeEach p) t 1
PlaceLacks p t (Some false) = InPlace p t [] × BeforeEach p t
PlaceLacks p t None = InPlace p t [] → ⊥

-- the text is node-spaces, whatever follows it
abbrev pub AreNodeSpaces : Text → Type 0
AreNodeSpaces t = (w : Text) → Star NodeSpace (t ++ w) w
