-- The laws of what is laid, put together.
use Rattle.std.proofs.Common.{[], refl, sym, ◌∙◌, append-nil}
use Rattle.kdl_entry.specs.Internal.Parts.{identifier_at}
use Rattle.kdl_entry.specs.Laws.{LaidIdentifierIsDerived, LaidEntryIsDerived, TextsAreLaid}
use Rattle.kdl_entry.specs.Print.{print_identifier}
use Rattle.kdl_entry.proofs.Laying.LaidIsDerived.{string_of, entry_of}
use Rattle.kdl_entry.proofs.Laying.LaidPrints.{identifier_printed, entry_text_printed}
use Rattle.kdl_entry.proofs.Reading.EntryComplete.{built, spelled_at}

pub laid_identifier_is_derived : LaidIdentifierIsDerived
laid_identifier_is_derived exact t i l = (string_of exact t l, sym (identifier_printed exact t l ∙ append-nil (print_identifier i)))

pub laid_entry_is_derived : LaidEntryIsDerived
laid_entry_is_derived exact t e l = (entry_of exact t e l, entry_text_printed exact t e l)

pub texts_are_laid : TextsAreLaid
texts_are_laid = (λ t v d. (identifier_at t v t [], spelled_at t d, refl), λ t x d. (let b = built d in (b.tree, b.laid, b.same)))
