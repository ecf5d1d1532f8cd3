-- Small texts as JSON.
use Rattle.std.proofs.Common.{◌≡◌, [], None, Some, IsSomeAnd, codes, refl, subst}
use Rattle.json.specs.Json.{document, items, member, members, no_members, object, string, value}
use Rattle.json.specs.Lex.{lex, punctuate}
use Rattle.json.specs.Text.{content}
use Rattle.lsp.specs.Messages.{TellsIn, TextTells}
use Rattle.lsp_documents.specs.Notes.{Note}

-- the empty text is none, and tells nothing
pub empty_is_none : document [] ≡ None
unfolding value lex punctuate
empty_is_none = refl

pub empty_tells_nothing : (note : Note) → TextTells [] note → ⊥
empty_tells_nothing note tells = subst (λ o. IsSomeAnd o (λ j. TellsIn j note)) empty_is_none tells

-- an object without members
pub braces_are_object : document (codes "{}") ≡ Some (object no_members)
unfolding value items members lex punctuate
braces_are_object = refl

-- a notification without parameters
pub exit_is_object : document (codes "{\"method\":\"exit\"}") ≡ Some (object (member (codes "method") (string (codes "exit")) no_members))
unfolding value items members lex punctuate content
exit_is_object = refl

-- a message that names a document
pub naming_is_object : document (codes "{\"params\":{\"textDocument\":{\"uri\":\"a\"}}}") ≡ Some (object (member (codes "params") (object (member (codes "textDocument") (object (member (codes "uri") (string (codes "a")) no_members)) no_members)) no_members))
unfolding value items members lex punctuate content
naming_is_object = refl

-- a notification that a document is saved
pub saving_is_object : document (codes "{\"method\":\"textDocument/didSave\"}") ≡ Some (object (member (codes "method") (string (codes "textDocument/didSave")) no_members))
unfolding value items members lex punctuate content
saving_is_object = refl
