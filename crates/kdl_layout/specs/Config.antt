-- The configuration of layout.
use Rattle.std.specs.Prelude.{◌≡◌, ℕ, Bool, true, false, ◌||◌, ◌∷◌, []}
use Rattle.std.specs.List.{list_all, repeat}
use Rattle.std.specs.Str.{chars}
use Rattle.kdl_text.specs.Chars.{Text, is_space}
use Rattle.kdl_layout.specs.declared.config.FormatConfig.{FormatConfig}
use Rattle.kdl_layout.specs.declared.config.FormatConfigBuilder.{FormatConfigBuilder}
use Rattle.kdl_layout.specs.declared.config.Layout.{Layout}

-- the level of the outermost nodes, the text before a node once for each level, whether comments are removed, and
-- whether all entries keep their form
pub record Settings : Type 0 where
  pub indent_level : ℕ
  pub indent : Text
  pub no_comments : Bool
  pub entry_autoformate_keep : Bool

-- level 0, four spaces, with comments
abbrev pub defaults : Settings
defaults = record { indent_level = 0; indent = 32 ∷ 32 ∷ 32 ∷ 32 ∷ []; no_comments = false; entry_autoformate_keep = false }

-- the defaults, but comments are removed
abbrev pub without_comments : Settings
without_comments = record defaults { no_comments = true }

-- the indent contains only spaces
abbrev pub IndentsBySpaces : Settings → Type 0
IndentsBySpaces s = list_all is_space s.indent ≡ true

-- comments are removed, and layout flags no entries
abbrev pub IsPlain : Settings → Type 0
IsPlain s = (s.no_comments ≡ true) × (s.entry_autoformate_keep ≡ false)

-- the indentation of a node at a level
abbrev pub indentation : Settings → ℕ → Text
indentation s level = repeat level s.indent

-- the configuration in memory, with the text as characters
abbrev pub settings : FormatConfig → Settings
settings c = record { indent_level = c.indent_level; indent = chars c.indent.now; no_comments = c.no_comments; entry_autoformate_keep = c.entry_autoformate_keep }

-- what a builder has set so far
abbrev pub settings_so_far : FormatConfigBuilder → Settings
settings_so_far b = settings b.0

-- what stays inside nodes: spellings, and texts with comments inside an entry or a type, which also stay with spellings
pub record Keeping : Type 0 where
  pub spelling : Bool
  pub comments : Bool

abbrev pub keeps_texts : Keeping → Bool
keeps_texts k = k.spelling || k.comments

abbrev pub nothing : Keeping
nothing = record { spelling = false; comments = false }

-- what a layout in memory keeps there
abbrev pub keeping : Layout → Keeping
keeping l = record { spelling = l.keep_spelling; comments = l.keep_inner_comments }
