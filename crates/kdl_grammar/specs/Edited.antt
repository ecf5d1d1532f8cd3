-- Documents whose nodes differ only in entries or spellings.
use Rattle.std.specs.Prelude.{◌≡◌, ◌⊎◌, Option, option_map, map}
use Rattle.std.specs.List.{All, Contains}
use Rattle.kdl_text.specs.declared.span.SourceSpan.{SourceSpan}
use Rattle.kdl_entry.specs.Formless.{IsFormless, formed_identifier, formed}
use Rattle.kdl_entry.specs.Tree.{without_span, without_spans_and_flag}
use Rattle.kdl_grammar.specs.Tree.{DocumentFormat, Head, Node, node, Children, no_children, children, Document, document, Nodes, none, first}

-- spans aside, the heads differ only in entries: each entry of the second is one of the first, flagged or not, or has neither a format nor a spelling
pub record IsEdited (h h' : Head) : Type 0 where
  pub ty : option_map without_span h.ty ≡ option_map without_span h'.ty
  pub name : without_span h.name ≡ without_span h'.name
  pub format : h.format ≡ h'.format
  pub entries : All (λ e. Contains (map without_spans_and_flag h.entries) (without_spans_and_flag e) ⊎ IsFormless e) h'.entries

-- the second is the first with the spellings and the forms that it prints
abbrev pub IsFormed : Head → Head → Type 0
IsFormed h h' = h' ≡ record h { ty = option_map formed_identifier h.ty; name = formed_identifier h.name; entries = map formed h.entries }

mutual
  -- at every depth the heads of the nodes are in the relation R; the spans of documents may differ, and all else is the same
  pub data EachNode (R : Head → Head → Type 0) : Node → Node → Type 0 where
    each_node : {h h' : Head} {k k' : Children} → R h h' → EachChildren R k k' → EachNode R (node h k) (node h' k')

  pub data EachChildren (R : Head → Head → Type 0) : Children → Children → Type 0 where
    without_block : EachChildren R no_children no_children
    with_block : {d d' : Document} → EachDocument R d d' → EachChildren R (children d) (children d')

  pub data EachDocument (R : Head → Head → Type 0) : Document → Document → Type 0 where
    each_document : {f : Option DocumentFormat} {at at' : SourceSpan} {ns ns' : Nodes} → EachNodes R ns ns' → EachDocument R (document f at ns) (document f at' ns')

  pub data EachNodes (R : Head → Head → Type 0) : Nodes → Nodes → Type 0 where
    last : EachNodes R none none
    next : {n n' : Node} {ns ns' : Nodes} → EachNode R n n' → EachNodes R ns ns' → EachNodes R (first n ns) (first n' ns')
