-- Newlines at the ends of nodes.
use Rattle.kdl.proofs.Common.{◌≡◌, ◌⊎◌, inl, inr, ℕ, zero, suc, ◌+◌, ◌-◌, Bool, true, false, List, [], ◌∷◌, ◌++◌, ap, ◌∙◌, sym, refl, append_assoc, Option, Some, None, option_map, unwrap_or, Global, append-nil, string_bytes, chars, Text, text_of, end_text, print_head, print_pieces, print_node, before_block, after_brace, before_brace, format_of, print_document, Head, NodeFormat, Node, node, Children, no_children, children, node_data, print_identifier, Entry, node_format_tree, KdlNodeFormat, Lacks, block_format, end_newlines, with_newlines, EndsWith, WithNewlines, newlines, printed_format}
use Rattle.std.proofs.Common.{zero-add, String}
use Rattle.std.proofs.lemmas.List.{replicate-append-replicate}
use Rattle.std.proofs.lemmas.Str.{chars-nil}
use Rattle.kdl_layout.proofs.Texts.{newline_text, space_text}
use Rattle.kdl_grammar.specs.Print.{space_unless}
use Rattle.kdl_entry.specs.Print.{print_type}
use Rattle.kdl_parts.specs.Formats.{empty_node_format}

-- a text with characters after it
pub more_newlines : (now was start : Text) (n : ℕ) → now ≡ was ++ chars (10 ∷ []) → was ≡ start ++ newlines n → now ≡ start ++ newlines (n + 1)
more_newlines now was start n e h =
    e ∙ rw (h, newline_text) (append_assoc start (newlines n) (10 ∷ [])) ∙ ap (λ (z : Text). start ++ z) (replicate-append-replicate {A = ℕ} n 1 10)

pub empty_string : (s : String Global) → string_bytes s ≡ [] → text_of s ≡ []
empty_string s h = ap chars h ∙ chars-nil

pub newline_put : (now was : Text) → was ≡ [] → now ≡ was ++ chars (10 ∷ []) → now ≡ 10 ∷ []
newline_put now was h e = e ∙ rw (h, newline_text) refl

pub space_put : (now was : Text) (b : Bool) → b ≡ false → was ≡ [] → now ≡ was ++ chars (32 ∷ []) → now ≡ space_unless b
space_put now was b k h e = e ∙ rw (h, k, space_text) refl

pub no_space_put : (was : Text) (b : Bool) → b ≡ true → was ≡ [] → was ≡ space_unless b
no_space_put was b k h = rw (h, k) refl

pub formless_made : (f : KdlNodeFormat) (b t : String Global) (es : List Entry) → node_format_tree f ≡ empty_node_format → text_of b ≡ before_block None es → text_of t ≡ 10 ∷ []
    → node_format_tree (record f { before_children = b; terminator = t }) ≡ record (printed_format es) { terminator = 10 ∷ [] }
formless_made f b t es k x y =
    ap (λ (g : NodeFormat). record g { before_children = text_of b; terminator = text_of t }) k
    ∙ rw (x, y) refl

-- newlines at the end of texts, before the last two or after them
after_terminator : (b t n : Text) → (b ++ (t ++ n)) ++ [] ≡ ((b ++ t) ++ []) ++ n
after_terminator b t n = simp (append_assoc, append-nil)

after_trailing : (b t u n : Text) → (b ++ t) ++ (u ++ n) ≡ ((b ++ t) ++ u) ++ n
after_trailing b t u n = simp append_assoc

before_terminator : (b n m : Text) → ((b ++ n) ++ m) ++ [] ≡ ((b ++ []) ++ []) ++ (n ++ m)
before_terminator b n m = simp (append_assoc, append-nil)

-- the texts at the end of a format, with newlines
texts_end : (f : NodeFormat) (t : Text) (b e : ℕ) → (b ≡ 0) ⊎ ((f.terminator ≡ []) × (t ≡ []))
    → end_text (Some (end_newlines t e (record f { before_terminator = f.before_terminator ++ newlines b; trailing = t }))) ≡ end_text (Some (record f { trailing = t })) ++ newlines (b + e)
texts_end f [] b e (inl h) =
    rw (h, append-nil f.before_terminator, zero-add e) (after_terminator f.before_terminator f.terminator (newlines e))
texts_end f [] b e (inr (h, k)) =
    rw (h, ← replicate-append-replicate {A = ℕ} b e 10) (before_terminator f.before_terminator (newlines b) (newlines e))
texts_end f (c ∷ s) b e (inl h) =
    rw (h, append-nil f.before_terminator, zero-add e) (after_trailing f.before_terminator f.terminator (c ∷ s) (newlines e))
texts_end f (c ∷ s) b e (inr (h, k)) = absurd (cc)

rest_stays : (f : NodeFormat) (t : Text) (e : ℕ) → let g = end_newlines t e f in g ≡ record f { before_terminator = g.before_terminator; terminator = g.terminator; trailing = g.trailing }
rest_stays f [] e = refl
rest_stays f (c ∷ s) e = refl

pub ends_with : (f : NodeFormat) (b e : ℕ) → Lacks f b e → EndsWith (b + e) f (with_newlines f b e)
ends_with f b e l = record {
  texts = texts_end f f.trailing b e l.joins;
  rest = rest_stays (record f { before_terminator = f.before_terminator ++ newlines b }) f.trailing e;
}

-- a node with newlines at its end prints what it printed, and these
end_printed : (h : Head) (c : Children) (g : NodeFormat) (t : Text) → end_text (Some g) ≡ end_text h.format ++ t → before_block (Some g) h.entries ≡ before_block h.format h.entries
    → print_head (record h { format = Some g }) 0 ≡ print_head h 0 → print_node (node (record h { format = Some g }) c) 0 ≡ print_node (node h c) 0 ++ t
end_printed h no_children g t e b p =
    rw (e, p) (sym (append_assoc (print_head h 0 ++ print_pieces h.entries) (end_text h.format) t))
end_printed h (children d) g t e b p =
    let front = print_head h 0 ++ print_pieces h.entries in
    let block = (before_block h.format h.entries ++ (123 ∷ after_brace (format_of d)) ++ print_document d (0 + 1) ++ before_brace (format_of d) 0) in
    rw (e, p, b) (inside front block (end_text h.format) t)
  where
    inside : (f b u v : Text) → f ++ (b ++ (125 ∷ (u ++ v))) ≡ (f ++ (b ++ (125 ∷ u))) ++ v
    inside f b u v = simp append_assoc

ended_prints : (h : Head) (o : Option NodeFormat) (c : Children) (g : NodeFormat) (k : ℕ) → EndsWith k (unwrap_or o (printed_format h.entries)) g
    → print_node (node (record h { format = Some g }) c) 0 ≡ print_node (node (record h { format = o }) c) 0 ++ newlines k
ended_prints h None c g k w =
    end_printed (record h { format = None }) c g (newlines k) w.texts (ap (λ (f : NodeFormat). f.before_children) w.rest)
    (ap (λ (f : NodeFormat). print_head (record h { format = Some f }) 0) w.rest ∙ ap (λ (z : Text). z ++ print_identifier h.name) (append-nil (print_type h.ty [] [])))
ended_prints h (Some f) c g k w =
    end_printed (record h { format = Some f }) c g (newlines k) w.texts (ap (λ (f : NodeFormat). f.before_children) w.rest) (ap (λ (f : NodeFormat). print_head (record h { format = Some f }) 0) w.rest)

pub newlines_printed : (k : ℕ) (n m : Node) → WithNewlines k n m → print_node m 0 ≡ print_node n 0 ++ newlines k
newlines_printed zero n m w = ap (λ x. print_node x 0) w ∙ sym (append-nil (print_node n 0))
newlines_printed (suc k) (node h c) m (g, e, w) = ap (λ x. print_node x 0) e ∙ ended_prints h h.format c g (suc k) w

-- what it says stays
pub newlines_said : (k : ℕ) (n m : Node) → WithNewlines k n m → node_data m ≡ node_data n
newlines_said zero n m w = ap node_data w
newlines_said (suc k) (node h c) m (g, e, w) = ap node_data e

-- a copy with newlines
pub copy_put : (now : Text) (copy old : String Global) (k : ℕ) → string_bytes copy ≡ string_bytes old → now ≡ text_of copy ++ newlines k → now ≡ text_of old ++ newlines k
copy_put now copy old k h e = e ∙ ap (λ (z : List ℕ). chars z ++ newlines k) h

-- a text before a block
chosen : (o : Option (String Global)) (p b : String Global) → b ≡ unwrap_or o p → text_of b ≡ unwrap_or (option_map text_of o) (text_of p)
chosen None p b h = ap text_of h
chosen (Some s) p b h = ap text_of h

pub block_begun : (f : KdlNodeFormat) (o : Option (String Global)) (p b z : String Global) → b ≡ unwrap_or o p → p ≡ f.before_terminator → text_of z ≡ []
    → node_format_tree (record f { before_children = b; before_terminator = z }) ≡ block_format (option_map text_of o) (node_format_tree f)
block_begun f o p b z h k e =
    let c : text_of b ≡ unwrap_or (option_map text_of o) (text_of f.before_terminator) = chosen o p b h ∙ ap (λ (s : String Global). unwrap_or (option_map text_of o) (text_of s)) k in
    rw (c, e) refl
