-- The piece of an entry that an insertion replaces is the piece of the property that the document says.
use Rattle.kdl_laws.proofs.Common.{◌≡◌, ℕ, List, [], map, Option, Some, None, IsUtf8, chars, option_map, slice_get, string_bytes, refl, ap, ◌∙◌, sym, subst, get_or_from_slice_get, none-some, slice_get_within, All, entry_tree, KdlEntry, print_piece, NodeReads, TextEnd, there, NodeKey, Key, Index, is_node_named, node_named, nodes_of, entries_of, DocumentReadsBack, EntryReadsBack, NodeReadsBack, document_says, node_says, KdlNode, KdlDocument, out-KdlNode, entry_says, nodes_read_back, node_of, node_tree_out}
use Rattle.std.proofs.Common.{option_and_then}
use Rattle.std.proofs.lemmas.Option.{slice_get-map}
use Rattle.kdl_entry.specs.Data.{Entry as EntryData}
use Rattle.kdl_grammar.specs.Data.{Node as NodeData}
use Rattle.kdl_grammar.specs.ReadsBack.{EntryReads}
use Rattle.kdl_grammar.proofs.ReadingBack.Composing.{entries_read}
use Rattle.kdl_parts.specs.Edits.{replaced_place}
use Rattle.kdl_parts.specs.EntryLists.{key_name}
use Rattle.kdl.specs.Bytes.{piece_of}
use Rattle.kdl.specs.Lookups.{entry_there, property_place}
use Rattle.kdl.specs.Said.{last_property, said_node}
use Rattle.kdl.proofs.Finding.SaidLookups.{last_property_said, node_said}
use Rattle.kdl_laws.specs.Pieces.{IsPieceOf, said_entry_in}
use Rattle.kdl_laws.proofs.NodesHaveFormats.{find_all}

-- an entry of a node that reads back
entry_reads : (n : KdlNode) → NodeReadsBack n → (i : ℕ) (e : KdlEntry) → slice_get (entries_of n) i ≡ Some e → EntryReadsBack e
entry_reads n x i e h =
    let es = map entry_tree (entries_of n) in
    let own : NodeReads TextEnd (node_of (out-KdlNode n)) = subst (NodeReads TextEnd) (node_tree_out n) x in
    let c : All EntryReads es = entries_read own in
    let at : slice_get es i ≡ Some (entry_tree e) = slice_get-map entry_tree (entries_of n) i ∙ ap (option_map entry_tree) h in
    subst EntryReads (get_or_from_slice_get es i (entry_tree e) (entry_tree e) at) (c i (entry_tree e) (slice_get_within es i (entry_tree e) at))

there_reads : (n : KdlNode) → NodeReadsBack n → (o : Option ℕ) (e : KdlEntry) → there o (entries_of n) ≡ Some e → EntryReadsBack e
there_reads n x None e h = absurd (none-some _ h)
there_reads n x (Some i) e h = entry_reads n x i e h

piece : (o : Option KdlEntry) (x : Option EntryData) → option_map entry_says o ≡ x → ((e : KdlEntry) → o ≡ Some e → EntryReadsBack e) → IsPieceOf x (piece_of o)
piece None x h r = subst (λ (y : Option EntryData). IsPieceOf y []) h refl
piece (Some e) x h r = subst (λ (y : Option EntryData). IsPieceOf y (print_piece (entry_tree e))) h (entry_tree e, r e refl, refl, refl)

-- the last property of a name, in a node that reads back
property_piece : (r : List ℕ) (n : KdlNode) (o : Option KdlEntry) → IsUtf8 r → NodeReadsBack n → o ≡ entry_there (property_place r n) n → IsPieceOf (last_property (chars r) (node_says n)) (piece_of o)
property_piece r n o u x h = piece o (last_property (chars r) (node_says n)) (ap (option_map entry_says) h ∙ last_property_said r n u) (λ e k. there_reads n x (property_place r n) e (sym h ∙ k))

replaced_in : (r : List ℕ) (key : NodeKey) (n : KdlNode) (o : Option KdlEntry) → IsUtf8 r → NodeReadsBack n → key_name key ≡ Some r → o ≡ entry_there (replaced_place key (entries_of n)) n
    → IsPieceOf (last_property (chars r) (node_says n)) (piece_of o)
replaced_in r (Key k) n o u x h e =
    let same : string_bytes k.value ≡ r = cc in
    property_piece r n o u x (subst (λ (b : List ℕ). o ≡ entry_there (property_place b n) n) same e)
replaced_in r (Index i) n o u x h e = absurd (none-some _ h)

pub replaced_piece : (s r : List ℕ) (key : NodeKey) (d : KdlDocument) (n : KdlNode) (o : Option KdlEntry) → IsUtf8 s → IsUtf8 r → DocumentReadsBack d → Some n ≡ node_named s d
    → key_name key ≡ Some r → o ≡ entry_there (replaced_place key (entries_of n)) n → IsPieceOf (said_entry_in (chars s) (chars r) (document_says d)) (piece_of o)
replaced_piece s r key d n o us ur reads found name old =
    let x : NodeReadsBack n = find_all NodeReadsBack (is_node_named s) (nodes_of d) n (nodes_read_back d reads) (sym found) in
    let was : said_node (chars s) (document_says d) ≡ Some (node_says n) = sym (node_said s d us) ∙ ap (option_map node_says) (sym found) in
    subst (λ (m : Option NodeData). IsPieceOf (option_and_then (last_property (chars r)) m) (piece_of o)) (sym was) (replaced_in r key n o ur x name old)
