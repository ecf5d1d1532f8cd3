-- How files are laid out, if nothing else is given, and if something is.
use Rattle.std.specs.Prelude.{◌≡◌, ◌^◌, ◌<◌, List, None, Option, Some, codes, false, unwrap_or, ℕ}
use Rattle.std.specs.Str.Parse.{IsNumeral, digits_value, without_leading_plus}
use Rattle.cli.specs.declared.settings.Given.{Given}
use Rattle.cli.specs.declared.settings.Indent.{Indent}
use Rattle.cli.specs.declared.settings.Indent.TheVariants.{Spaces, Tab}
use Rattle.cli.specs.declared.settings.Settings.{Settings}

-- four spaces, and one blank line; spellings and blocks on one line stay
abbrev pub default_settings : Settings
default_settings = record { indent = Spaces 4; blank_lines = 1; respell = false; expand = false }

-- no setting
abbrev pub none_given : Given
none_given = record { indent = None; blank_lines = None; respell = None; expand = None }

-- the settings, with those that are given in their place
abbrev pub with_given : Settings → Given → Settings
with_given s g = record {
  indent = unwrap_or g.indent s.indent;
  blank_lines = unwrap_or g.blank_lines s.blank_lines;
  respell = unwrap_or g.respell s.respell;
  expand = unwrap_or g.expand s.expand;
}

-- the text is a number in decimal that a machine can count, after a plus or nothing
abbrev pub IsCount : List ℕ → Type 0
IsCount name = IsNumeral 10 (without_leading_plus name) × (digits_value 10 (without_leading_plus name) < 2 ^ 64)

-- the indent of that name: `tab`, or a number of spaces
abbrev pub IsNamed : List ℕ → Option Indent → Type 0
IsNamed name (Some Tab) = name ≡ codes "tab"
IsNamed name (Some (Spaces n)) = IsCount name × (n ≡ digits_value 10 (without_leading_plus name))
IsNamed name None = (name ≡ codes "tab" → ⊥) × (IsCount name → ⊥)
