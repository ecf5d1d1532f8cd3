-- A block on one line is on one line again once it is laid out again.
use Rattle.kdl_layout.proofs.Common.{◌≡◌, ℕ, zero, suc, ◌+◌, Bool, true, false, [], ◌∷◌, ◌++◌, refl, sym, ap, subst, ◌∙◌, Option, None, Some, ◌||◌, List, option_map, and_parts, both_true, list_all, ◌&&◌, not, is_some, if◌then◌else◌, Text, SourceSpan, no_line_comment, NodeFormat, DocumentFormat, Head, Node, node, Children, no_children, children, Document, document, Nodes, none, first, GapItems, before_block, PlaceItems, before_entry, tail, at_start, Keeping, keeps_texts, blank_lines, past_items, past_node, read, Settings, indentation, or_empty, or_empty_document, newline_if_none, in_braces, block_of, content_of, without_bom, DocumentKeepsNone, NodeKeepsNone, with_keep_if, ItemsIn, KeptEnd, EndItems, WrittenUnless, entry_leading, is_kept_format, IsLaidDocument, IsLaidNode, braces_in_line, braces_on_line, head_on_line, in_one_line, is_end, is_on_one_line, line_on_line, node_in_line, nodes_in_line, nodes_on_line, one_lined_node, one_lined_children, one_lined_document, one_lined_nodes, entry_on_line, form_on_line, maybe_on_line, name_on_line, only_spaces, plain_line, no_newline, IsTypedFormat, KeptTypeTexts, TypeTexts, node_type_texts, KeptSpelling, IsRespelled, IsRespelledIf, text_before, KeptLeading, KeptLeadingIf, bare_inside, print_value, KeepsForm, KeptForm, entry_type_texts, HasSpellings, HasSpellingsIf, HasSpellingsUnless, IsRespelledEntry, AreRespelledEntries, Passes, PassesFormat, PassesNode, PassesNodes, SpacedLines, SpacesContent, SpacesTexts, IsSpacedBraced, IsSpacedLine, NodeTexts, AreFormattedEntries, IsFormattedEntry, following, Entry, EntryFormat, Identifier, unspelled, kept, with_keep, autoformatted, autoformatted_format, Before, is_space}
use Rattle.kdl_layout.specs.OneLine.{maybe_form_on_line, spelling_on_line}
use Rattle.kdl_layout.proofs.Rewriting.LinesAgain.{newline_items, spaces_items}
use Rattle.kdl_layout.proofs.Keeping.GapFronts.{alone, joined, newline_if, indented}
use Rattle.kdl_layout.proofs.Keeping.Blocks.{Braces, together, apart, block_texts, block_same, end_same}
use Rattle.kdl_layout.proofs.OneLine.Nothing.{ArePlain, Quiet, are_plain, head_parts, nothing_kept, quiet_lead, quiet_lines, quiet_node, quiet_start, read_spaces, spaces_without_bom, line_is_plain, quiet_passes, nothing_tailed, HeadParts}
use Rattle.kdl_layout.proofs.OneLine.Same.{one_or_more, block_stays}
use Rattle.kdl_layout.proofs.Keeping.KeptPlaces.{level_spaces}
use Rattle.kdl_layout.proofs.Respelling.Spelled.{SpelledHead, SpelledNode, spelled, SpelledChildren, blockless, spelled_block, SpelledNodes, nodeless, one_more, SpelledDocument, spelled_document, spelled_node}
use Rattle.kdl_layout.proofs.Respelling.Again.{document_again, node_again}
use Rattle.kdl_layout.proofs.Spacing.TextsAgain.{start_again}
use Rattle.kdl_layout.proofs.Spacing.Reads.{nothing_of, passes_as}
use Rattle.kdl_layout.proofs.Respelling.Kept.{OnlySpaces, place_bare_if, spaces_continue_nothing, types_bare_if}
use Rattle.kdl_layout.proofs.Respelling.Off.{same_if}

-- what is laid out on one line is on one line
no_spelling : (o : Option Identifier) → maybe_on_line (option_map unspelled o) ≡ true
no_spelling None = refl
no_spelling (Some i) = refl

-- the parts of an entry's format
record FormParts (f : EntryFormat) : Type 0 where
  leading : only_spaces f.leading ≡ true
  types : OnlySpaces (entry_type_texts f)
  after_key : only_spaces f.after_key ≡ true
  after_eq : only_spaces f.after_eq ≡ true
  value : no_newline f.value_repr ≡ true

form_parts : (f : EntryFormat) → form_on_line f ≡ true → FormParts f
form_parts f h =
    let (seven, value) = and_parts _ (no_newline f.value_repr) h in
    let (six, after_eq) = and_parts _ (only_spaces f.after_eq) seven in
    let (five, after_key) = and_parts _ (only_spaces f.after_key) six in
    let (four, after_name) = and_parts _ (only_spaces f.after_ty_name) five in
    let (three, before_name) = and_parts _ (only_spaces f.before_ty_name) four in
    let (two, after) = and_parts _ (only_spaces f.after_ty) three in
    record {
      leading = (and_parts (only_spaces f.leading) (only_spaces f.trailing) two).0;
      types = record { before_name = before_name; after_name = after_name; after = after };
      after_key = after_key;
      after_eq = after_eq;
      value = value;
    }

module _ (s : Settings) where
  laid_leading : (keep : Bool) (e : Entry) (t : Text) → maybe_form_on_line e.format ≡ true → WrittenUnless (is_kept_format (with_keep_if keep e).format || s.no_comments) (PlaceItems (before_entry false) (entry_leading (with_keep_if keep e).format)) tail t
      → t ≡ []
  laid_leading keep e t h k = nothing_tailed (is_kept_format (with_keep_if keep e).format || s.no_comments) (before_entry false) (entry_leading (with_keep_if keep e).format) t (leading keep e.format h) k
    where
      flagged : (o : Option EntryFormat) → maybe_form_on_line o ≡ true → only_spaces (entry_leading (option_map with_keep o)) ≡ true
      flagged None h = refl
      flagged (Some f) h = (form_parts f h).leading

      plain : (o : Option EntryFormat) → maybe_form_on_line o ≡ true → only_spaces (entry_leading o) ≡ true
      plain None h = refl
      plain (Some f) h = (form_parts f h).leading

      leading : (keep : Bool) (o : Option EntryFormat) → maybe_form_on_line o ≡ true → only_spaces (entry_leading (with_keep_if keep (record e { format = o })).format) ≡ true
      leading true o h = flagged o h
      leading false o h = plain o h

  kept_form : (f : EntryFormat) → form_on_line f ≡ true → maybe_form_on_line (autoformatted_format (Some f)) ≡ true
  kept_form f h = go f.autoformat_keep
    where
      go : (b : Bool) → maybe_form_on_line (if b then Some (kept f) else None) ≡ true
      go false = refl
      go true = let e = form_parts f h in rw (e.leading, e.value) refl

  laid_format : (keep : Bool) (o : Option EntryFormat) (e : Entry) → maybe_form_on_line o ≡ true → maybe_form_on_line (autoformatted_format (with_keep_if keep (record e { format = o })).format) ≡ true
  laid_format false None e h = refl
  laid_format true None e h = refl
  laid_format false (Some f) e h = kept_form f h
  laid_format true (Some f) e h = kept_form (with_keep f) h

  laid_names : (keep : Bool) (e : Entry) → (maybe_on_line (autoformatted (with_keep_if keep e)).name ≡ true) × (maybe_on_line (autoformatted (with_keep_if keep e)).ty ≡ true)
  laid_names true e = (no_spelling e.name, no_spelling e.ty)
  laid_names false e = (no_spelling e.name, no_spelling e.ty)

  entry_again : (e e' : Entry) → IsFormattedEntry s e e' → entry_on_line e ≡ true → entry_on_line e' ≡ true
  entry_again e e' (t, k, q) h =
      let form = (and_parts (maybe_on_line e.name && maybe_on_line e.ty) (maybe_form_on_line e.format) h).1 in
      let empty = laid_leading s.entry_autoformate_keep e t form k in
      let x = autoformatted (with_keep_if s.entry_autoformate_keep e) in
      let names = laid_names s.entry_autoformate_keep e in
      let laid : maybe_form_on_line x.format ≡ true = laid_format s.entry_autoformate_keep e.format e form in
      subst (λ (y : Entry). entry_on_line y ≡ true) (sym (q ∙ ap (λ (u : Text). following u x) empty)) (both_true (both_true names.0 names.1) laid)

-- a name with its spelling, and a key or a type
name_spelled : (i m i' : Identifier) → IsRespelled true i m i' → name_on_line i ≡ true → name_on_line i' ≡ true
name_spelled i m i' (r, k, e) h = ap name_on_line e ∙ go k h
  where
    go : {o q : Option Text} → KeptSpelling i.value o q → spelling_on_line o ≡ true → spelling_on_line q ≡ true
    go (KeptSpelling.kept d) h = h
    go (KeptSpelling.other n) h = refl
    go KeptSpelling.unspelled h = refl

name_line : (keep : Bool) (i m i' : Identifier) → m ≡ unspelled i → IsRespelled keep i m i' → name_on_line i ≡ true → name_on_line i' ≡ true
name_line false i m i' e r h = ap name_on_line (r ∙ e)
name_line true i m i' e r h = name_spelled i m i' r h

if_spelled : (o m o' : Option Identifier) → IsRespelledIf true o m o' → maybe_on_line o ≡ true → maybe_on_line o' ≡ true
if_spelled None None None r h = refl
if_spelled (Some i) (Some m) (Some i') r h = name_spelled i m i' r h
if_spelled _ _ _ r h = absurd assumption

-- with its spelling or without
if_kept : (keep : Bool) (o m o' : Option Identifier) → IsRespelledIf keep o m o' → maybe_on_line o ≡ true → maybe_on_line m ≡ true → maybe_on_line o' ≡ true
if_kept false o m o' r h k = ap maybe_on_line (same_if o m o' r) ∙ k
if_kept true o m o' r h k = if_spelled o m o' r h

type_line : (keep : Bool) (o m o' : Option Identifier) → m ≡ option_map unspelled o → IsRespelledIf keep o m o' → maybe_on_line o ≡ true → maybe_on_line o' ≡ true
type_line false o m o' e r h = ap maybe_on_line (same_if o m o' r ∙ e) ∙ no_spelling o
type_line true o m o' e r h = if_spelled o m o' r h

-- the format of an entry with its spelling
before_line : (o : Option EntryFormat) → maybe_form_on_line o ≡ true → only_spaces (text_before o) ≡ true
unfolding is_space
before_line None h = refl
before_line (Some f) h = (form_parts f h).leading

leading_line : {s : Settings} {old laid r : Text} → only_spaces old ≡ true → only_spaces laid ≡ true → KeptLeading s old laid r → only_spaces r ≡ true
leading_line h k (KeptLeading.continued c) = absurd (spaces_continue_nothing h c)
leading_line h k (KeptLeading.other n) = k

leading_line_if : (keep : Bool) (s : Settings) (old laid r : Text) → only_spaces old ≡ true → only_spaces laid ≡ true → KeptLeadingIf keep s old laid r → only_spaces r ≡ true
leading_line_if true s old laid r h k l = leading_line h k l
leading_line_if false s old laid r h k l = ap only_spaces l ∙ k

-- and nothing inside
inside_line : (keep : Bool) (s : Settings) (e : Entry) (f g : EntryFormat) (laid v : Text) → FormParts f → KeepsForm keep s e f laid v g → bare_inside g ≡ true
inside_line keep s e f g laid v p k =
    let typed = not s.no_comments && is_some e.ty in
    let keyed = not s.no_comments && is_some e.name in
    let types = types_bare_if typed (entry_type_texts f) (entry_type_texts g) p.types k.ty in
    let before_name : g.before_ty_name ≡ [] = ap (λ (x : TypeTexts). x.before_name) types in
    let after_name : g.after_ty_name ≡ [] = ap (λ (x : TypeTexts). x.after_name) types in
    let after : g.after_ty ≡ [] = ap (λ (x : TypeTexts). x.after) types in
    let after_key = place_bare_if keyed f.after_key g.after_key p.after_key k.after_key in
    let after_eq = place_bare_if keyed f.after_eq g.after_eq p.after_eq k.after_eq in
    rw (before_name, after_name, after, after_key, after_eq) refl

form_line : (keep : Bool) (s : Settings) (e : Entry) (f g : EntryFormat) (laid : Text) → FormParts f → only_spaces laid ≡ true → KeepsForm keep s e f laid f.value_repr g → form_on_line g ≡ true
form_line keep s e f g laid p h k =
    let typed = not s.no_comments && is_some e.ty in
    let keyed = not s.no_comments && is_some e.name in
    let types = types_bare_if typed (entry_type_texts f) (entry_type_texts g) p.types k.ty in
    let leading = leading_line_if keep s f.leading laid g.leading p.leading h k.leading in
    let before_name : g.before_ty_name ≡ [] = ap (λ (x : TypeTexts). x.before_name) types in
    let after_name : g.after_ty_name ≡ [] = ap (λ (x : TypeTexts). x.after_name) types in
    let after : g.after_ty ≡ [] = ap (λ (x : TypeTexts). x.after) types in
    let after_key = place_bare_if keyed f.after_key g.after_key p.after_key k.after_key in
    let after_eq = place_bare_if keyed f.after_eq g.after_eq p.after_eq k.after_eq in
    let value : no_newline g.value_repr ≡ true = ap no_newline k.value_repr ∙ p.value in
    rw (leading, k.trailing, after, before_name, after_name, after_key, after_eq, value) refl

form_spelled : {keep : Bool} {s : Settings} {e : Entry} (o p q : Option EntryFormat) → KeptForm keep s e o p q → maybe_form_on_line o ≡ true → maybe_form_on_line p ≡ true → maybe_form_on_line q ≡ true
form_spelled {keep} {s} {e} _ p _ (KeptForm.kept {f = f} {g = g} y d x) h k = form_line keep s e f g (text_before p) (form_parts f h) (before_line p k) x
form_spelled _ p _ (KeptForm.bare n x) h k = k
form_spelled {keep} {s} {e} _ p _ (KeptForm.other {f = f} {g = g} n x w) h k =
    let z : true ≡ false = sym (inside_line keep s e f g (text_before p) (print_value e.value) (form_parts f h) x) ∙ w in absurd cc
form_spelled _ p _ KeptForm.formless h k = k

-- an entry
pub record EntryParts (e : Entry) : Type 0 where
  pub name : maybe_on_line e.name ≡ true
  pub ty : maybe_on_line e.ty ≡ true
  pub format : maybe_form_on_line e.format ≡ true

entry_parts : (e : Entry) → entry_on_line e ≡ true → EntryParts e
entry_parts e h =
    let w = and_parts (maybe_on_line e.name && maybe_on_line e.ty) (maybe_form_on_line e.format) h in
    let n = and_parts (maybe_on_line e.name) (maybe_on_line e.ty) w.0 in
    record { name = n.0; ty = n.1; format = w.1 }

entry_spelled : (keep : Bool) (s : Settings) (e m e' : Entry) → HasSpellings keep s e m e' → EntryParts e → entry_on_line m ≡ true → entry_on_line e' ≡ true
entry_spelled keep s e m e' r p k =
    let q = entry_parts m k in
    both_true (both_true (if_kept keep e.name m.name e'.name r.name p.name q.name) (if_kept keep e.ty m.ty e'.ty r.ty p.ty q.ty)) (form_spelled e.format m.format e'.format r.format p.format q.format)

module _ (s : Settings) (keep : Keeping) where
  entry_line : (e m e' : Entry) → IsFormattedEntry s e m → IsRespelledEntry keep s e m e' → entry_on_line e ≡ true → entry_on_line e' ≡ true
  entry_line e m e' f r h = go (keeps_texts keep) r
    where
      laid : entry_on_line m ≡ true
      laid = entry_again s e m f h

      unless : (b : Bool) → HasSpellingsUnless b keep.spelling s e m e' → entry_on_line e' ≡ true
      unless true r = ap entry_on_line r ∙ laid
      unless false r = entry_spelled keep.spelling s e m e' r (entry_parts e h) laid

      go : (b : Bool) → HasSpellingsIf b keep.spelling s e m e' → entry_on_line e' ≡ true
      go false r = ap entry_on_line r ∙ laid
      go true r = unless (is_kept_format (with_keep_if s.entry_autoformate_keep e).format) r

  entries_line : (es ms es' : List Entry) → AreFormattedEntries s es ms → AreRespelledEntries keep s es ms es' → list_all entry_on_line es ≡ true → list_all entry_on_line es' ≡ true
  entries_line [] [] [] f r h = refl
  entries_line (e ∷ es) (m ∷ ms) (e' ∷ es') f r h =
      let w = and_parts (entry_on_line e) (list_all entry_on_line es) h in
      both_true (entry_line e m e' f.0 r.0 w.0) (entries_line es ms es' f.1 r.1 w.1)
  entries_line _ _ _ f r h = absurd assumption

  -- a node but for the texts around it
  head_spelled : {number : ℕ} (level : ℕ) (has last : Bool) (b : Before) (h x : Head) → SpelledHead number s keep level has b h x → HeadParts last h → (maybe_on_line x.ty && name_on_line x.name && list_all entry_on_line x.entries) ≡ true
  head_spelled level has last b h x f p =
      let m = f.laid in
      both_true (both_true (type_line keep.spelling h.ty m.ty x.ty f.spaced.ty f.respelled.ty p.ty) (name_line keep.spelling h.name m.name x.name f.spaced.name f.respelled.name p.name))
      (entries_line h.entries m.entries x.entries f.spaced.entries f.respelled.entries p.entries)

format_again : (last : Bool) → line_on_line last (node_in_line last) ≡ true
unfolding is_space
format_again true = refl
format_again false = refl

end_again : (ns : Nodes) → is_end (nodes_in_line ns) ≡ is_end ns
end_again none = refl
end_again (first (node h k) ns) = refl

nodes_again : {compact : Bool} {number : ℕ} {s : Settings} {keep : Keeping} {level : ℕ} {b : Before} {ns xs : Nodes} → nodes_on_line ns ≡ true → SpelledNodes compact number s keep level b ns xs → nodes_on_line (nodes_in_line xs) ≡ true
nodes_again h nodeless = refl
nodes_again h (one_more (spelled f (spelled_block c at nodes)) p fs) = absurd cc
nodes_again {s = s} {keep = keep} h (one_more {level = level} {b = b} {ns = ns} {xs = xs} (spelled {h = y} {x = x} f blockless) p fs) =
    let e = and_parts (head_on_line (is_end ns) y) (nodes_on_line ns) h in
    let line : line_on_line (is_end (nodes_in_line xs)) (node_in_line (is_end xs)) ≡ true = ap (λ (b : Bool). line_on_line b (node_in_line (is_end xs))) (end_again xs) ∙ format_again (is_end xs) in
    both_true (both_true (head_spelled s keep level false (is_end ns) b y x f (head_parts (is_end ns) y e.0)) line) (nodes_again e.1 fs)

-- a block that is laid out on more lines is not on one line
more_lines : (ind : Text) (f : DocumentFormat) → braces_on_line (Some (in_braces ind f)) ≡ false
unfolding is_space
more_lines ind f = refl

and_false : (a b c : Bool) → b ≡ false → (a && (b && c)) ≡ false
and_false true b c e = rw e refl
and_false false b c e = refl

-- `{}` is as it is on one line
empty_same : (keep : Bool) (at : SourceSpan) → one_lined_children keep (children (document (Some braces_in_line) at none)) (children (document (Some braces_in_line) at none)) ≡ children (document (Some braces_in_line) at none)
empty_same true at = refl
empty_same false at = refl

block_again : (keep : Bool) {compact : Bool} {number : ℕ} {s : Settings} {spelling : Keeping} {level : ℕ} {b : Before} {ns xs : Nodes} {ind x y : Text} {g : DocumentFormat} (at : SourceSpan) → SpelledNodes compact number s spelling level b ns xs → Braces ind compact ns x y g
    → one_lined_nodes keep (one_lined_nodes keep ns xs) xs ≡ one_lined_nodes keep ns xs
    → one_lined_children keep (children (document (Some g) at (one_lined_nodes keep ns xs))) (children (document (Some g) at xs)) ≡ children (document (Some g) at (one_lined_nodes keep ns xs))
block_again keep at nodeless together e = empty_same keep at
block_again keep {ns = ns} {xs = xs} {ind = ind} {x = x} {y = y} at nodes (apart {compact = compact}) e =
    let f = in_braces ind (content_of compact ns x y) in
    let off : (keep && is_on_one_line (document (Some f) at (one_lined_nodes keep ns xs))) ≡ false = and_false keep (braces_on_line (Some f)) (nodes_on_line (one_lined_nodes keep ns xs)) (more_lines ind (content_of compact ns x y)) in
    rw off (ap (λ (y : Nodes). children (document (Some f) at y)) e)

-- what is on one line stays on one line
module _ {compact : Bool} {number : ℕ} {s : Settings} {spelling : Keeping} (keep : Bool) where
  mutual
    node_same : {level : ℕ} {b : Before} {n x : Node} → SpelledNode compact number s spelling level b n x → one_lined_node keep (one_lined_node keep n x) x ≡ one_lined_node keep n x
    node_same (spelled {x = x} f kids) = ap (node x) (children_same kids)

    children_same : {level : ℕ} {k l : Children} → SpelledChildren compact number s spelling level k l → one_lined_children keep (one_lined_children keep k l) l ≡ one_lined_children keep k l
    children_same blockless = refl
    children_same (spelled_block {level = level} {f = f} {g = g} {at = at} {at' = at'} {ns = ns} {xs = xs} c same nodes) =
        let d = document f at ns in
        let d' = document g at' xs in
        one_or_more (λ (z : Document). one_lined_children keep (children z) (children d') ≡ children z) (keep && is_on_one_line d) (in_one_line d') (one_lined_document keep d d')
        (λ e. let w = and_parts keep (is_on_one_line d) e in
        let on : is_on_one_line (in_one_line d') ≡ true = nodes_again (and_parts (braces_on_line f) (nodes_on_line ns) w.1).1 nodes in
        rw (w.0, on) refl)
        (λ e. let ys = one_lined_nodes keep ns xs in
        subst (λ (z : Option DocumentFormat). one_lined_children keep (children (document z at' ys)) (children (document z at' xs)) ≡ children (document z at' ys)) (sym c.3)
        (block_again keep at' nodes (block_texts compact (indentation s level) ns c.0 c.1) (nodes_same nodes)))

    nodes_same : {level : ℕ} {b : Before} {ns xs : Nodes} → SpelledNodes compact number s spelling level b ns xs → one_lined_nodes keep (one_lined_nodes keep ns xs) xs ≡ one_lined_nodes keep ns xs
    nodes_same nodeless = refl
    nodes_same (one_more f p fs) = let a = node_same f in let b = nodes_same fs in λ i. first (a i) (b i)

document_same : (compact : Bool) (number : ℕ) (s : Settings) (spelling : Keeping) (keep : Bool) (level : ℕ) (d x : Document) → SpelledDocument compact number s spelling level d x → one_lined_document keep (one_lined_document keep d x) x ≡ one_lined_document keep d x
document_same compact number s spelling keep level (document f at ns) (document g at' xs) (b, c, same, nodes) = ap (document g at') (nodes_same keep nodes)

-- layout makes the same of a block on one line as of the same nodes on lines of their own
typed_as : (c : Bool) (f f' : NodeFormat) (m o : Option NodeFormat) → node_type_texts f ≡ node_type_texts f' → IsTypedFormat c f m o → IsTypedFormat c f' m o
typed_as false f f' m o e h = h
typed_as true f f' m o e (x, k, h) = (x, subst (λ (t : TypeTexts). KeptTypeTexts t x) e k, h)

abbrev no_texts : NodeTexts
no_texts = record { before = []; before_block = []; last = []; space = []; comment = []; following = [] }

module _ (number : ℕ) (s : Settings) where
  nothing_before : (no : Bool) → WrittenUnless no (PlaceItems before_block []) tail []
  nothing_before true = refl
  nothing_before false = ([], ItemsIn.items (PlaceItems.ends refl), refl)

  nothing_at_end : (no : Bool) → KeptEnd no (10 ∷ []) [] []
  nothing_at_end true = (refl, refl)
  nothing_at_end false = ([], EndItems.other (no_line_comment refl), refl, refl)

  module _ (ok : list_all is_space s.indent ≡ true) (level : ℕ) where
    ind_spaces : only_spaces (indentation s level) ≡ true
    ind_spaces = level_spaces s.indent ok level

    plain_texts : (b : Before) (f : NodeFormat) → f ≡ plain_line (indentation s level) → Quiet number b → SpacesTexts number s level false b f no_texts
    plain_texts b f e q =
        let ind = indentation s level in
        let lead = nothing_of number s level b ind (spaces_items ind ind_spaces) in
        subst (λ (x : NodeFormat). SpacesTexts number s level false b x no_texts) (sym e)
        (record {
          lines = [];
          at_node = read ind b;
          after_it = read [] (past_node (10 ∷ []));
          leading = lead;
          before = sym (quiet_lines number (read ind b) (quiet_lead number s level b (read ind b) ind [] ind_spaces lead q));
          before_block = refl;
          last = nothing_before s.no_comments;
          end = nothing_at_end s.no_comments;
          following = nothing_of number s level (past_node (10 ∷ [])) [] GapItems.none;
        })

    plain_passes : (h : Head) (k : Children) → h.format ≡ Some (plain_line (indentation s level)) → (b : Before) × PassesNode number s (node h k) b × Quiet number b
    plain_passes h k e = go number
      where
        go : (n : ℕ) → (b : Before) × PassesNode n s (node h k) b × Quiet n b
        go zero = (at_start, tt, tt)
        go (suc n) =
            let b = past_items s.no_comments (past_node (10 ∷ [])) [] [] in
            (b, subst (λ (o : Option NodeFormat). PassesFormat (suc n) s (or_empty o) b) (sym e) (Passes.items {is = []} GapItems.none), read_spaces [] (past_node (10 ∷ [])) refl (quiet_node (10 ∷ [])))

    last_plain : (b : Before) (ns : Nodes) → ArePlain (indentation s level) ns → (e : Before) × PassesNodes number s b ns e
    last_plain b none p = (b, refl)
    last_plain b (first (node h (children d)) ns) p = absurd p
    last_plain b (first (node h no_children) none) p = let w = plain_passes h no_children p.0 in (w.0, w.1)
    last_plain b (first (node h no_children) (first m ns)) p = last_plain b (first m ns) p.1

    -- nodes without blocks
    node_mid : (spelling : Keeping) (last : Bool) (b c : Before) (h x : Head) → h.format ≡ Some (plain_line (indentation s level)) → SpelledHead number s spelling level false c (record h { format = Some (node_in_line last) }) x
        → Quiet number b → Quiet number c → SpelledHead number s spelling level false b h x
    node_mid spelling last b c h x e f q q' =
        let (k, w, is) = f.spaced.format in
        let line : IsSpacedLine number s level false b (or_empty h.format) f.laid.format = (no_texts, plain_texts b (or_empty h.format) (ap or_empty e) q, is ∙ ap Some (line_is_plain number s level last c (node_in_line last) k (format_again last) q' w)) in
        let r = f.respelled in
        record {
          laid = f.laid;
          spaced = record { ty = f.spaced.ty; name = f.spaced.name; entries = f.spaced.entries; format = line; span = f.spaced.span };
          respelled = record {
            ty = r.ty;
            name = r.name;
            entries = r.entries;
            format = typed_as (keeps_texts spelling && not s.no_comments && is_some h.ty) (node_in_line last) (or_empty h.format) f.laid.format x.format (sym (ap (λ (o : Option NodeFormat). node_type_texts (or_empty o)) e)) r.format;
            span = r.span;
          };
        }

    nodes_mid : {compact : Bool} (spelling : Keeping) (ns : Nodes) {b c : Before} {ys : Nodes} → ArePlain (indentation s level) ns → SpelledNodes compact number s spelling level c (nodes_in_line ns) ys → Quiet number b → Quiet number c → SpelledNodes compact number s spelling level b ns ys
    nodes_mid spelling none p nodeless q q' = nodeless
    nodes_mid spelling (first (node h (children d)) ns) p f q q' = absurd p
    nodes_mid spelling (first (node h no_children) ns) {b = b} p (one_more {b = c} {b' = c'} (spelled {x = x} f blockless) r fs) q q' =
        let last = is_end ns in
        let w = plain_passes h no_children p.0 in
        let quiet = quiet_passes number s level last (record h { format = Some (node_in_line last) }) no_children c' (format_again last) r in
        one_more (spelled (node_mid spelling last b c h x p.0 f q q') blockless) w.1 (nodes_mid spelling ns p.1 fs w.2 quiet)

  -- the texts of a block in which nothing is kept
  bare_gaps : (ok : list_all is_space s.indent ≡ true) (level : ℕ) {compact : Bool} {ns : Nodes} {f : DocumentFormat} → Braces (indentation s level) compact ns [] [] f → GapItems (without_bom f.leading) [] × GapItems f.trailing []
  bare_gaps ok level together = (GapItems.none, GapItems.none)
  bare_gaps ok level (apart {compact = compact} {ns = ns}) = (newline_items GapItems.none, alone (joined (newline_if compact ns) (indented s ok level)))

  same_none : (ns : Nodes) → newline_if_none (nodes_in_line ns) ≡ newline_if_none ns
  same_none none = refl
  same_none (first (node h k) ns) = refl

quiet_first : (number : ℕ) (s : Settings) (level : ℕ) (t u : Text) (b : Before) → GapItems t [] → SpacedLines number s level at_start t u b → Quiet number b
quiet_first zero s level t u b g k = tt
quiet_first (suc n) s level t u b g k = ap blank_lines (passes_as g k.1)

module _ (compact : Bool) (number : ℕ) (s : Settings) (ok : list_all is_space s.indent ≡ true) (keep : Bool) where
  -- the formats of nodes stay
  node_passes : (n n' : Node) (b : Before) → PassesNode number s (one_lined_node keep n n') b → PassesNode number s n' b
  node_passes (node h k) (node h' k') b p = p

  nodes_pass : (b e : Before) (ns ns' : Nodes) → PassesNodes number s b (one_lined_nodes keep ns ns') e → PassesNodes number s b ns' e
  nodes_pass b e none ns' p = p
  nodes_pass b e (first n ns) none p = p
  nodes_pass b e (first n none) (first n' none) p = node_passes n n' e p
  nodes_pass b e (first n none) (first n' (first m ms)) p = p
  nodes_pass b e (first n (first o ns)) (first n' none) p = node_passes n n' e p
  nodes_pass b e (first n (first o ns)) (first n' (first m ms)) p = nodes_pass b e (first o ns) (first m ms) p

  newline_same : (ns ns' : Nodes) → newline_if_none (one_lined_nodes keep ns ns') ≡ newline_if_none ns'
  newline_same none ns' = refl
  newline_same (first n ns) none = refl
  newline_same (first n ns) (first n' ns') = refl

  content_as : (level : ℕ) (ns ns' : Nodes) (f : DocumentFormat) (b : Before) (x y : Text) → SpacesContent number s level (one_lined_nodes keep ns ns') f b x y → SpacesContent number s level ns' f b x y
  content_as level ns ns' f b x y k = record { last = k.last; after_it = k.after_it; leading = k.leading; passes = nodes_pass b k.last ns ns' k.passes; trailing = k.trailing }

  module _ (spelling : Keeping) where
    -- a block on one line
    line_as : (level : ℕ) (b : Before) (o : Option DocumentFormat) (ns : Nodes) (g : Option DocumentFormat) (at : SourceSpan) (xs : Nodes) {j : Children} → braces_on_line o ≡ true → nodes_on_line ns ≡ true
        → IsSpacedBraced compact number s level ns (or_empty_document o) b g → SpelledNodes compact number s spelling (level + 1) b ns xs
        → SpelledChildren compact number s spelling level (children (document (Some braces_in_line) at (nodes_in_line xs))) j → SpelledChildren compact number s spelling level (children (document g at xs)) j
    line_as level b None ns g at xs braces on c nodes k = absurd cc
    line_as level b (Some f) ns g at xs braces on c nodes (spelled_block {b = b2} (x, y, c2, e2) same nodes2) =
        let inner = level + 1 in
        let ind = indentation s level in
        let sides = and_parts (only_spaces f.leading) (only_spaces f.trailing) braces in
        let old_lead = subst (λ (t : Text). SpacedLines number s inner at_start t c.0 b) (spaces_without_bom f.leading sides.0) c.2.leading in
        let a0 : c.0 ≡ [] = nothing_kept number s inner at_start b f.leading c.0 (spaces_items f.leading sides.0) old_lead in
        let a1 : c.1 ≡ [] = nothing_kept number s inner c.2.last c.2.after_it f.trailing c.1 (spaces_items f.trailing sides.1) c.2.trailing in
        let x0 : x ≡ [] = nothing_kept number s inner at_start b2 [] x GapItems.none c2.leading in
        let y0 : y ≡ [] = nothing_kept number s inner c2.last c2.after_it [] y GapItems.none c2.trailing in
        let plain = are_plain on (quiet_lead number s inner at_start b f.leading c.0 sides.0 old_lead (quiet_start number)) nodes in
        let laid = block_of compact ind ns [] [] in
        let gaps = bare_gaps number s ok level (block_texts compact ind ns [] []) in
        let opening = without_bom laid.leading in
        let lead = nothing_of number s inner at_start opening gaps.0 in
        let before = read opening at_start in
        let last = last_plain number s ok inner before xs plain in
        let is : or_empty_document g ≡ laid = ap or_empty_document c.3 ∙ rw (a0, a1) refl in
        let content : SpacesContent number s inner xs (or_empty_document g) before [] [] =
        subst (λ (z : DocumentFormat). SpacesContent number s inner xs z before [] []) (sym is)
        (record { last = last.0; after_it = read laid.trailing last.0; leading = lead; passes = last.1; trailing = nothing_of number s inner last.0 laid.trailing gaps.1 }) in
        spelled_block ([], [], content, e2 ∙ ap Some (rw (x0, y0) (block_same compact ind [] [] _ _ (same_none number s xs)))) same
        (nodes_mid number s ok inner spelling xs plain nodes2 (quiet_first number s inner opening [] before gaps.0 lead) (quiet_lead number s inner at_start b2 [] x refl c2.leading (quiet_start number)))

    -- a block on more lines
    lines_as : (level : ℕ) (ns : Nodes) (g : Option DocumentFormat) (at : SourceSpan) (xs : Nodes) {j : Children}
        → ((c : Before) (ys : Nodes) → SpelledNodes compact number s spelling (level + 1) c (one_lined_nodes keep ns xs) ys → SpelledNodes compact number s spelling (level + 1) c xs ys)
        → SpelledChildren compact number s spelling level (children (document g at (one_lined_nodes keep ns xs))) j → SpelledChildren compact number s spelling level (children (document g at xs)) j
    lines_as level ns g at xs below (spelled_block {b = c} {xs = ys} (x, y, w, e) same nodes) =
        spelled_block (x, y, content_as (level + 1) ns xs (or_empty_document g) c x y w, e ∙ ap Some (block_same compact (indentation s level) x y _ _ (newline_same ns xs))) same (below c ys nodes)

    mutual
      node_as : {level : ℕ} {b c : Before} {n x y : Node} → SpelledNode compact number s spelling level b n x → SpelledNode compact number s spelling level c (one_lined_node keep n x) y → SpelledNode compact number s spelling level c x y
      node_as (spelled {level = level} {x = x} {k = k} {l = l} f kids) (spelled {b = c} {x = y} g more) = spelled (subst (λ (z : Bool). SpelledHead number s spelling level z c x y) (block_stays keep k l) g) (children_as kids more)

      children_as : {level : ℕ} {k l j : Children} → SpelledChildren compact number s spelling level k l → SpelledChildren compact number s spelling level (one_lined_children keep k l) j → SpelledChildren compact number s spelling level l j
      children_as blockless more = more
      children_as {j = j} (spelled_block {level = level} {b = b} {f = f} {g = g} {at = at} {at' = at'} {ns = ns} {xs = xs} c same nodes) more =
          one_or_more (λ (z : Document). SpelledChildren compact number s spelling level (children z) j → SpelledChildren compact number s spelling level (children (document g at' xs)) j)
          (keep && is_on_one_line (document f at ns)) (in_one_line (document g at' xs)) (one_lined_document keep (document f at ns) (document g at' xs))
          (λ e z. let w = and_parts (braces_on_line f) (nodes_on_line ns) (and_parts keep (is_on_one_line (document f at ns)) e).1 in line_as level b f ns g at' xs w.0 w.1 c nodes z)
          (λ e z. lines_as level ns g at' xs (λ d ys w. nodes_as nodes w) z)
          more

      nodes_as : {level : ℕ} {b c : Before} {ns xs ys : Nodes} → SpelledNodes compact number s spelling level b ns xs → SpelledNodes compact number s spelling level c (one_lined_nodes keep ns xs) ys → SpelledNodes compact number s spelling level c xs ys
      nodes_as nodeless more = more
      nodes_as (one_more {n = n} {x = x} f p fs) (one_more {b' = c} g q gs) = one_more (node_as f g) (node_passes n x c q) (nodes_as fs gs)

    document_as : (level : ℕ) (d x y : Document) → SpelledDocument compact number s spelling level d x → SpelledDocument compact number s spelling level (one_lined_document keep d x) y → SpelledDocument compact number s spelling level x y
    document_as level (document f at ns) (document g at' xs) (document h ct ys) (b, c, same, nodes) (b', (x, y, w, e), same', nodes') =
        (b', (x, y, content_as level ns xs (or_empty_document g) b' x y w, e ∙ ap (λ (t : Text). Some (record { leading = x; trailing = y ++ t })) (end_same compact _ _ (newline_same ns xs))), same', nodes_as nodes nodes')

  module _ (flag : s.entry_autoformate_keep ≡ false) (spelling : Keeping) where
    -- a second layout changes nothing
    pub document_stays : (level : ℕ) (d x y : Document) → IsLaidDocument spelling keep compact number s level d x → DocumentKeepsNone d → IsLaidDocument spelling keep compact number s level x y → y ≡ x
    document_stays level d x y (r, (m, f, q), e) bare (r2, (m2, g, q2), e2) =
        let steps = spelled_document compact number s spelling level d m r f q in
        let second = subst (λ (z : Document). SpelledDocument compact number s spelling level z r2) e (spelled_document compact number s spelling level x m2 r2 g q2) in
        let same : r2 ≡ r = document_again s ok flag spelling compact number level d r r2 steps bare (document_as spelling level d r r2 steps second) in
        e2 ∙ ap (λ (z : Document). one_lined_document keep z r2) e ∙ ap (one_lined_document keep (one_lined_document keep d r)) same ∙ document_same compact number s spelling keep level d r steps ∙ sym e

    pub node_stays : (level : ℕ) (n x y : Node) → IsLaidNode spelling keep compact number s level at_start n x → NodeKeepsNone n → IsLaidNode spelling keep compact number s level at_start x y → y ≡ x
    node_stays level n x y (r, (m, f, q), e) bare (r2, (m2, g, q2), e2) =
        let steps = spelled_node compact number s spelling level at_start n m r f q in
        let second = subst (λ (z : Node). SpelledNode compact number s spelling level at_start z r2) e (spelled_node compact number s spelling level at_start x m2 r2 g q2) in
        let same : r2 ≡ r = node_again s ok flag spelling compact number steps bare (node_as spelling steps second) (start_again number) in
        e2 ∙ ap (λ (z : Node). one_lined_node keep z r2) e ∙ ap (one_lined_node keep (one_lined_node keep n r)) same ∙ node_same keep steps ∙ sym e
