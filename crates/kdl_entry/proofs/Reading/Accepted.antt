-- An accepted entry text is derived, and so is an accepted identifier text.
use Rattle.std.proofs.Common.{◌≡◌, true, false, [], Option, Some, None, option_map, refl, sym, ap, subst, ◌∙◌}
use Rattle.kdl_text.specs.Chars.{Text}
use Rattle.kdl_text.specs.Trivia.ValueEnd.{nothing}
use Rattle.kdl_syntax.specs.Pieces.{StringPiece}
use Rattle.kdl_syntax.specs.Tokens.{Token, string, BeginsToken, t_string}
use Rattle.kdl_syntax.specs.EntryControl.{entry_step}
use Rattle.kdl_syntax.specs.declared.entry_control.EntryControl.{EntryControl, TheVariants.Ahead}
use Rattle.kdl_diagnostics.specs.TextControl.{TextControl, in_entry, in_identifier, text_step, text_finish, Takes}
use Rattle.kdl_diagnostics.specs.TextControl as text
use Rattle.kdl_entry.specs.Data.{Entry}
use Rattle.kdl_entry.specs.Entries as entries
use Rattle.kdl_entry.specs.Entries.{IsEntryText, IsIdentifierText}
use Rattle.kdl_entry.proofs.Reading.EntryErased.{Accepts, ends, takes, accepts_derived}

stepped : (o : Option EntryControl) (d : TextControl) → option_map in_entry o ≡ Some d → (p : EntryControl) × (o ≡ Some p) × (d ≡ in_entry p)
stepped None d e = absurd cc
stepped (Some p) d e = (p, refl, cc)

over_entry : {c : TextControl} {t : Text} → Takes c t → (p : EntryControl) → c ≡ in_entry p → Accepts p t
over_entry (text.ends f) p q = ends (ap text_finish (sym q) ∙ f)
over_entry (text.takes {d = d} {k = k} b e a) p q =
    let (r, f, g) = stepped (entry_step p k) d (ap (λ z. text_step z k) (sym q) ∙ e) in
    takes b f (over_entry a r g)

pub accepted_entry : (t : Text) → Takes (in_entry Ahead) t → (x : Entry) × IsEntryText t x
accepted_entry t a = accepts_derived (over_entry a Ahead refl)

-- nothing comes after the string of an identifier text
nothing_after : {c : TextControl} {t : Text} → Takes c t → c ≡ in_identifier true → t ≡ []
nothing_after (text.ends f) q = refl
nothing_after (text.takes {k = k} b e a) q = let x = ap (λ z. text_step z k) (sym q) ∙ e in absurd cc

the_string : {c d : TextControl} {s r : Text} {k : Token} → BeginsToken s k r → text_step c k ≡ Some d → c ≡ in_identifier false → (v : Text) × StringPiece s r v × (d ≡ in_identifier true)
the_string {k = string v} (t_string p) e q = let x = ap (λ z. text_step z (string v)) (sym q) ∙ e in (v, p, cc)
the_string {k = k} _ e q = let x = ap (λ z. text_step z k) (sym q) ∙ e in absurd cc

over_identifier : {c : TextControl} {t : Text} → Takes c t → c ≡ in_identifier false → (v : Text) × IsIdentifierText t v
over_identifier (text.ends f) q = let x = ap text_finish (sym q) ∙ f in absurd cc
over_identifier (text.takes {s = s} b e a) q =
    let (v, p, g) = the_string b e q in
    let n = nothing_after a g in
    (v, entries.string (subst (λ (z : Text). StringPiece s z v) n p) nothing)

pub accepted_identifier : (t : Text) → Takes (in_identifier false) t → (v : Text) × IsIdentifierText t v
accepted_identifier t a = over_identifier a refl
