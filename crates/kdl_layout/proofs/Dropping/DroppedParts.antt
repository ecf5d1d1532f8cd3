-- What a slashdash drops in a place of a node: the control's passing over it says what it is, and where it ends.
use Rattle.kdl_layout.proofs.Common.{◌≡◌, ◌↔◌, Bool, true, false, ◌&&◌, not, if◌then◌else◌, List, [], ◌∷◌, Option, Some, refl, sym, ap, subst, ◌∙◌, and_parts, Text, starts, Star, Plus, plus, NodeSpace, LineSpace, Slashdash, snoc, StringPiece, IsString, parens, untyped, typed, MaybeType, IsEntry, a_string, a_plain, IsValue, argument, between, Token, string, BeginsToken, t_space, t_newline, t_slashdash, t_string, t_left, t_opening, t_closing, t_semicolon, Lexes, done, next, t_value, token_det, no_token, Terminator, named, AfterName, kept_entry, dropped_entry, blocks, Blocks, dropped_block, no_block, Gap, no_gap, dropped_node, AreNodes, last_gap, node_then, IsBlock, braces, Item, piece, Place, takes_entries, takes_blocks, PlaceItems, Value, EndsNowhere, takes, next_place, of_spaces, moved, follows_word, for_part, PartPasses, over, word, stops, goes, slashdash_phase, slashdash_in, EndsWord, at_end, is_identifier_char, is_space, is_newline_char, is_banned, is_punctuation, is_bare, Control, at, event_of, spaced_of, step, accepts, is_over, is_block, is_word, Phase, Spot, Frame, MayBeKey, NoKey, InNode, EntrySlashdash, Fresh, Spaced, Later}
use Rattle.kdl_text.specs.Chars.Star.{none as no_star, more}
use Rattle.kdl_text.specs.Bare.BareString.{bare as a_bare}
use Rattle.kdl_text.specs.Trivia.Break.{newline as break_newline, comment as break_comment}
use Rattle.kdl_text.specs.Trivia.LineSpace.{space as line_space, «break» as line_break}
use Rattle.kdl_text.specs.Trivia.Slashdash.{slashdash as a_slashdash}
use Rattle.kdl_entry.specs.Data.{Entry}
use Rattle.kdl_entry.specs.Entries.{string as a_string', value as a_value, property as a_property}
use Rattle.kdl_syntax.specs.Tokens.{slashdash}
use Rattle.kdl_syntax.specs.Tokens as token'
use Rattle.kdl_grammar.specs.Data.{Children, Nodes}
use Rattle.kdl_grammar.specs.Grammar.{block}
use Rattle.kdl_grammar.specs.Grammar.Gap.{line_space as gap_space}
use Rattle.kdl_syntax.specs.Control.{after as after_event, held}
use Rattle.kdl_syntax.specs.declared.control.{Frame.TheVariants.Dropped as DroppedBlock, Word.Word as ControlWord}
use Rattle.kdl_syntax.specs.declared.control.Phase.TheVariants.{Gap as InGap}
use Rattle.kdl_layout.specs.Items as items
use Rattle.kdl_layout.specs.Internal.Passing.{before}
use Rattle.kdl_layout.proofs.Dropping.DroppedNodes.{Accepted, accepted, token_first, accepted_back, derived, passes_det}
use Rattle.kdl_layout.proofs.Dropping.Paths.{in_block_on, slashdash_spaced, over_part, drop_entry, drop_block}
use Rattle.kdl_layout.proofs.Dropping.TokenLoop.{Of, is_not}
use Rattle.kdl_layout.proofs.Listing.SpaceItems.{entries_spaced, space_of}

-- the control passes over one part at most
pub part_det : {c : Control} {last s e e' : Text} {b b' : Bool} → PartPasses c last s b e → PartPasses c last s b' e' → (b ≡ b') × (e ≡ e')
part_det x y = let d = passes_det x y in (cc, cc)

-- no `=` follows
pub data Quiet : Text → Type 0 where
  here : {s : Text} → EndsWord s → Quiet s
  after_space : {s r : Text} → NodeSpace s r → Quiet r → Quiet s

pub spaces_quiet : {s r : Text} → Star NodeSpace s r → Quiet r → Quiet s
spaces_quiet no_star q = q
spaces_quiet (more n m) q = Quiet.after_space n (spaces_quiet m q)

pub value_quiet : {s r : Text} {y : Option Text} {v : Value} → IsValue true s r y v → Quiet s
value_quiet (a_value untyped (a_string (a_string' p e))) = Quiet.here (before (t_string p) refl)
value_quiet (a_value untyped (a_plain p e)) = Quiet.here (before (t_value p) refl)
value_quiet (a_value (typed (parens ss d us) vs) z) = Quiet.here (before t_left refl)

pub entry_quiet : {s r : Text} {e : Entry} → IsEntry true s r e → Quiet s
entry_quiet (argument d) = value_quiet d
entry_quiet (a_property (a_string' p e) ss us d) = Quiet.here (before (t_string p) refl)

pub dash_quiet : {s r : Text} → Slashdash s r → Quiet s
dash_quiet (a_slashdash ls) = Quiet.here (before t_slashdash refl)

pub end_quiet : {s r : Text} → Terminator s r → Quiet s
end_quiet Terminator.semicolon = Quiet.here (before t_semicolon refl)
end_quiet (Terminator.newline n) = Quiet.here (before (t_newline (break_newline n)) refl)
end_quiet (Terminator.comment l) = Quiet.here (before (t_newline (break_comment l)) refl)
end_quiet Terminator.at_end = Quiet.here at_end
end_quiet Terminator.at_close = Quiet.here (before t_closing refl)

pub blocks_quiet : {b : Bool} {s r v : Text} {k : Children} → Blocks true b s r k → Terminator r v → Quiet s
blocks_quiet (dropped_block ss m b d) e = spaces_quiet ss (dash_quiet m)
blocks_quiet (block ss (braces ns) d) e = spaces_quiet ss (Quiet.here (before t_opening refl))
blocks_quiet (no_block ss) e = spaces_quiet ss (end_quiet e)

pub name_quiet : {s r v : Text} {es : List Entry} {k : Children} → AfterName true s r es k → Terminator r v → Quiet s
name_quiet (kept_entry (plus n ss) i d) e = Quiet.after_space n (spaces_quiet ss (entry_quiet i))
name_quiet (dropped_entry ss m i d) e = spaces_quiet ss (dash_quiet m)
name_quiet (blocks d) e = blocks_quiet d e

pub place_quiet : {p : Place} {s : Text} {is : List Item} → PlaceItems p s is → Quiet s
place_quiet (PlaceItems.ends e) = Quiet.here at_end
place_quiet (PlaceItems.space d g) = Quiet.after_space (space_of d) (place_quiet g)
place_quiet (PlaceItems.dropped_entry e m i g) = dash_quiet m
place_quiet (PlaceItems.dropped_block e m b g) = dash_quiet m

-- a string ends where no `=` follows
spaced_ends : {last s : Text} → Quiet s → PartPasses (at (InNode (Spaced MayBeKey)) []) last s false last
spaced_ends (Quiet.here i) = stops (word refl i)
spaced_ends (Quiet.after_space n q) = goes (t_space n) refl refl (spaced_ends q)

value_passes : {s : Text} → Quiet s → (b : ControlWord) → PartPasses (at (InNode (Fresh b)) []) s s false s
value_passes (Quiet.here i) MayBeKey = stops (word refl i)
value_passes (Quiet.after_space n q) MayBeKey = goes (t_space n) refl refl (spaced_ends q)
value_passes q NoKey = stops (over refl)

-- the control passes over an entry, and over a block
pub entry_passes : {s t u : Text} {e : Entry} → Star LineSpace s t → IsEntry true t u e → Quiet u → (b : Bool) → b ≡ true → (last : Text) → PartPasses (at (slashdash_phase b) []) last s false u
entry_passes {u = u} ls i q true h last = drop_entry (λ c last s. PartPasses c last s false u) (over_part false u) ls i (value_passes q) last
entry_passes ls i q false h last = cc

pub block_passes : {s t u : Text} {xs : Nodes} → Star LineSpace s t → IsBlock true t u xs → (b : Bool) (last : Text) → PartPasses (at (slashdash_phase b) []) last s true u
block_passes {u = u} ls i b last = drop_block (λ c last s. PartPasses c last s true u) (over_part true u) ls i (stops (over refl)) b last

-- where the control may be in a place: after a dropped block entries come no more
abbrev Fits : Place → Spot → Type 0
Fits p q = takes_entries p ≡ true → event_of (InNode q) slashdash ≡ event_of (InNode (Fresh NoKey)) slashdash

slashdash_block : (q : Spot) {s : Text} → ((b : Bool) → Accepted (at (slashdash_phase b) []) s) → Accepted (at (InNode q) []) (47 ∷ 45 ∷ s)
slashdash_block (Fresh b) f = token_first t_slashdash refl (f true)
slashdash_block (Spaced b) f = token_first t_slashdash refl (f true)
slashdash_block Later f = token_first t_slashdash refl (f false)

-- what is in a place is accepted
place_accepted : {p : Place} {s : Text} {is : List Item} → PlaceItems p s is → (q : Spot) → Fits p q → Accepted (at (InNode q) []) s
place_accepted (PlaceItems.ends e) q h = accepted done refl
place_accepted {p = p} (PlaceItems.space d g) q h = token_first (t_space (space_of d)) refl (place_accepted g (spaced_of q) (λ i. slashdash_spaced q ∙ h (sym (entries_spaced true p) ∙ i)))
place_accepted (PlaceItems.dropped_entry e (a_slashdash {s = s} ls) i g) q h =
    token_first t_slashdash (ap (λ o. after_event o []) (h e)) (drop_entry (λ c last s. Accepted c s) accepted_back ls i (λ b. place_accepted g (Fresh b) (λ j. refl)) s)
place_accepted (PlaceItems.dropped_block e (a_slashdash {s = s} ls) b g) q h = slashdash_block q (λ c. drop_block (λ c last s. Accepted c s) accepted_back ls b (place_accepted g Later (λ j. cc)) c s)

-- where the last token that is no node-space ended, and which spaces come after it
data Following : Control → Text → Text → Type 0 where
  directly : {c : Control} {s : Text} → Following c s s
  spaces : {last s : Text} → Plus NodeSpace last s → Following (at (InNode (Spaced MayBeKey)) []) last s
  other : {c : Control} {last s : Text} → is_over c ≡ false → is_word c ≡ false → Following c last s

-- one space more
space_leads : (fs : List Frame) (p : Phase) → is_over (at p fs) ≡ false → is_word (at p fs) ≡ false → Of (λ d. (is_over d ≡ false) × (is_word d ≡ false)) (step (at p fs) token'.space)
space_leads [] (InNode (Fresh MayBeKey)) o w = absurd cc
space_leads [] (InNode (Fresh NoKey)) o w = absurd cc
space_leads [] (InNode (Spaced MayBeKey)) o w = absurd cc
space_leads [] (InNode Later) o w = absurd cc
space_leads (f ∷ fs) (InNode q) o w = in_block_on (InNode (spaced_of q)) f fs
space_leads fs p o w = (refl, refl)

word_leads : (c : Control) → is_word c ≡ true → step c token'.space ≡ Some (at (InNode (Spaced MayBeKey)) [])
word_leads (at (InNode (Fresh MayBeKey)) []) w = refl
word_leads (at (InNode (Spaced MayBeKey)) []) w = refl
word_leads _ w = cc

after_word : {c : Control} {last s r : Text} → is_word c ≡ true → Following c last s → NodeSpace s r → Plus NodeSpace last r
after_word w directly n = plus n no_star
after_word w (spaces (plus m ss)) n = plus m (snoc ss n)
after_word w (other o v) n = absurd cc

space_after : {c d : Control} {last s r : Text} → Following c last s → is_over c ≡ false → NodeSpace s r → step c token'.space ≡ Some d → Following d last r
space_after {c = c} {d = d} {last = last} {s = s} {r = r} x o n e = go c (is_word c) refl o e x
  where
    go : (c : Control) (b : Bool) → is_word c ≡ b → is_over c ≡ false → step c token'.space ≡ Some d → Following c last s → Following d last r
    go c true w o e x = let f = word_leads c w in let g : at (InNode (Spaced MayBeKey)) [] ≡ d = cc in subst (λ (z : Control). Following z last r) g (spaces (after_word w x n))
    go (at p fs) false w o e x = let i = subst (Of (λ d. (is_over d ≡ false) × (is_word d ≡ false))) e (space_leads fs p o w) in other i.0 i.1

pub a_space : {s r : Text} {k : Token} → BeginsToken s k r → of_spaces k ≡ true → (k ≡ token'.space) × NodeSpace s r
a_space (t_space n) e = (refl, n)
a_space _ e = absurd cc

token_after : {c d : Control} {last s r : Text} {k : Token} → Following c last s → is_over c ≡ false → BeginsToken s k r → step c k ≡ Some d → Following d (moved k last r) r
token_after {c = c} {d = d} {last = last} {r = r} {k = k} x o t e = go (of_spaces k) refl
  where
    go : (b : Bool) → of_spaces k ≡ b → Following d (if b then last else r) r
    go true h = let (i, n) = a_space t h in space_after x o n (subst (λ (j : Token). step c j ≡ Some d) i e)
    go false h = directly

-- after a token, what is accepted goes on
token_off : {c d : Control} {s r : Text} {k : Token} → BeginsToken s k r → step c k ≡ Some d → Accepted c s → Accepted d r
token_off t e (accepted done f) = absurd (no_token t)
token_off {c = c} t e (accepted (next {ks = ks} u l) f) =
    let x = token_det t u in
    accepted (subst (λ (z : Text). Lexes z ks) (sym x.0) l) (ap (held (λ (c : Control). accepts c ks)) (sym e ∙ ap (λ (j : Token). step c j) x.1) ∙ f)

spaces_off : {s r : Text} → Star NodeSpace s r → Accepted (at (InNode (Spaced MayBeKey)) []) s → Accepted (at (InNode (Spaced MayBeKey)) []) r
spaces_off no_star a = a
spaces_off (more n m) a = spaces_off m (token_off (t_space n) refl a)

-- after an entry no entry follows directly; after a block none does
abbrev ends_in : Bool → Spot → Bool
ends_in false Later = false
ends_in b q = true

over_here : {c : Control} {last s : Text} → is_over c ≡ true → Following c last s → last ≡ s
over_here x directly = refl
over_here x (spaces ss) = absurd cc
over_here x (other o w) = absurd cc

over_accepted : (c : Control) {u : Text} → is_over c ≡ true → ((q : Spot) → ends_in (is_block c) q ≡ true → Accepted (at (InNode q) []) u) → Accepted c u
over_accepted (at (InNode (Fresh NoKey)) []) x f = f (Fresh NoKey) refl
over_accepted (at (InNode Later) []) x f = f Later refl
over_accepted _ x f = absurd cc

word_accepted : (c : Control) {u : Text} → is_word c ≡ true → ((q : Spot) → ends_in false q ≡ true → Accepted (at (InNode q) []) u) → Accepted c u
word_accepted (at (InNode (Fresh MayBeKey)) []) x f = f (Fresh MayBeKey) refl
word_accepted (at (InNode (Spaced MayBeKey)) []) x f = f (Spaced MayBeKey) refl
word_accepted _ x f = absurd cc

word_after : {c : Control} {last s : Text} → is_word c ≡ true → Following c last s → ((q : Spot) → ends_in false q ≡ true → Accepted (at (InNode q) []) last) → Accepted c s
word_after {c = c} x directly f = word_accepted c x f
word_after x (spaces (plus n ss)) f = spaces_off ss (token_off (t_space n) refl (f (Fresh MayBeKey) refl))
word_after x (other o w) f = absurd cc

-- where the control passes over a part, and what comes after it is accepted, all is accepted
passes_accepted : {c : Control} {last s u : Text} {b : Bool} → PartPasses c last s b u → Following c last s → ((q : Spot) → ends_in b q ≡ true → Accepted (at (InNode q) []) u) → Accepted c s
passes_accepted (stops (over {c = c} x)) h f = subst (λ (z : Text). Accepted c z) (over_here x h) (over_accepted c x f)
passes_accepted (stops (word x i)) h f = word_after x h f
passes_accepted {c = c} (goes {k = k} t e o p) h f = token_first t e (passes_accepted p (token_after h (is_not (is_over c) (and_parts (not (is_over c)) (not (is_word c && not (follows_word k))) o).0) t e) f)

-- what is derived after a name
data Named (s : Text) : Type 0 where
  rest : {r v : Text} {es : List Entry} {k : Children} → AfterName true s r es k → Terminator r v → Named s

gap_stays : {s u r n : Text} → BeginsToken s (string n) u → Gap true s r → s ≡ r
gap_stays b no_gap = refl
gap_stays b (gap_space (line_space n) g) = let e = (token_det b (t_space n)).1 in absurd cc
gap_stays b (gap_space (line_break n) g) = let e = (token_det b (t_newline n)).1 in absurd cc
gap_stays b (dropped_node (a_slashdash ls) x e g) = let e = (token_det b t_slashdash).1 in absurd cc

node_named : {s u w r v n m : Text} {y : Option Text} {t : Text} {es : List Entry} {k : Children} → BeginsToken s (string n) u → MaybeType true s t y → IsString true t w m → AfterName true w r es k → Terminator r v → Named u
node_named b untyped (a_string' p q) d e = subst Named (sym (token_det b (t_string p)).0) (rest d e)
node_named b (typed (parens ss z us) vs) w d e = let x = (token_det b t_left).1 in absurd cc

nodes_named : {s u n : Text} {xs : Nodes} → BeginsToken s (string n) u → AreNodes true s [] xs → Named u
nodes_named {u = u} {n = n} b (last_gap g) = absurd (no_token (subst (λ (z : Text). BeginsToken z (string n) u) (gap_stays b g) b))
nodes_named {u = u} {n = n} b (node_then g (named y w d) e ds) = node_named (subst (λ (z : Text). BeginsToken z (string n) u) (gap_stays b g) b) y w d e

-- what a slashdash drops before the text t, by the grammar; the Bool says whether it may be an entry
data PartDropped (b : Bool) (t : Text) : Type 0 where
  an_entry : {u v : Text} {e : Entry} → b ≡ true → Star LineSpace t u → IsEntry true u v e → Quiet v → PartDropped b t
  a_block : {u v r w : Text} {xs : Nodes} {k : Children} → Star LineSpace t u → IsBlock true u v xs → Blocks true true v r k → Terminator r w → PartDropped b t

pub dash_space : {s t r : Text} → BeginsToken s slashdash t → NodeSpace s r → ⊥
dash_space b n = let e = (token_det b (t_space n)).1 in cc

dash_end : {s t v : Text} → BeginsToken s slashdash t → Terminator s v → ⊥
dash_end b Terminator.semicolon = let e = (token_det b t_semicolon).1 in cc
dash_end b (Terminator.newline n) = let e = (token_det b (t_newline (break_newline n))).1 in cc
dash_end b (Terminator.comment l) = let e = (token_det b (t_newline (break_comment l))).1 in cc
dash_end b Terminator.at_end = no_token b
dash_end b Terminator.at_close = let e = (token_det b t_closing).1 in cc

pub dash_lines : {s t u : Text} → BeginsToken s slashdash t → Slashdash s u → Star LineSpace t u
dash_lines {u = u} b (a_slashdash ls) = subst (λ (z : Text). Star LineSpace z u) (sym (token_det b t_slashdash).0) ls

blocks_dropped : {b c : Bool} {s t r v : Text} {k : Children} → BeginsToken s slashdash t → Blocks true c s r k → Terminator r v → PartDropped b t
blocks_dropped b (dropped_block no_star m x d) e = a_block (dash_lines b m) x d e
blocks_dropped b (dropped_block (more n ss) m x d) e = absurd (dash_space b n)
blocks_dropped b (block no_star (braces ns) d) e = let f = (token_det b t_opening).1 in absurd cc
blocks_dropped b (block (more n ss) x d) e = absurd (dash_space b n)
blocks_dropped b (no_block no_star) e = absurd (dash_end b e)
blocks_dropped b (no_block (more n ss)) e = absurd (dash_space b n)

part_dropped : {s t r v : Text} {es : List Entry} {k : Children} → BeginsToken s slashdash t → AfterName true s r es k → Terminator r v → PartDropped true t
part_dropped b (kept_entry (plus n ss) i d) e = absurd (dash_space b n)
part_dropped b (dropped_entry no_star m i d) e = an_entry refl (dash_lines b m) i (name_quiet d e)
part_dropped b (dropped_entry (more n ss) m i d) e = absurd (dash_space b n)
part_dropped b (blocks d) e = blocks_dropped b d e

-- before `/-` there may be a name
slash_char : (s : Text) → starts is_identifier_char (47 ∷ s) ≡ false
unfolding is_identifier_char is_space is_newline_char is_banned is_punctuation
slash_char s = refl

bare_a : is_bare (97 ∷ []) ≡ true
unfolding is_bare is_identifier_char is_space is_newline_char is_banned is_punctuation
bare_a = refl

a_name : {s : Text} → BeginsToken (97 ∷ 47 ∷ s) (string (97 ∷ [])) (47 ∷ s)
a_name {s = s} = t_string (StringPiece.bare (a_bare refl bare_a (slash_char s)))

-- what is accepted after `/-` is derived: after a name
part_derived : {t : Text} → Accepted (at EntrySlashdash []) t → PartDropped true t
part_derived {t = t} a = of (nodes_named a_name (derived (token_first a_name refl (token_first {c = at (InNode (Fresh NoKey)) []} t_slashdash refl a))).1)
  where
    of : Named (47 ∷ 45 ∷ t) → PartDropped true t
    of (rest d e) = part_dropped t_slashdash d e

-- and after a block
braces_pass : {t : Text} (last : Text) → PartPasses (at EntrySlashdash []) last (123 ∷ 125 ∷ t) true t
braces_pass last = goes t_opening refl refl (goes {d = at (InNode Later) []} t_closing refl refl (stops (over refl)))

any_derived : (b : Bool) {t : Text} → Accepted (at (slashdash_phase b) []) t → PartDropped b t
any_derived true a = part_derived a
any_derived false {t = t} a =
    of (part_derived (token_first t_opening refl (token_first {c = at InGap (DroppedBlock ∷ [])} t_closing refl (token_first {c = at (InNode Later) []} t_slashdash refl a))))
  where
    of : PartDropped true (123 ∷ 125 ∷ 47 ∷ 45 ∷ t) → PartDropped false t
    of (an_entry h ls i q) = let e = (part_det (entry_passes ls i q true refl []) (braces_pass [])).0 in absurd cc
    of (a_block ls x d e) = let f = (part_det (block_passes ls x true []) (braces_pass [])).1 in blocks_dropped (subst (λ (z : Text). BeginsToken z slashdash t) (sym f) t_slashdash) d e

-- what the grammar drops in the place up to u, and what a place that begins with `/-` says
pub data DropsPart (p : Place) (t u : Text) : Bool → Type 0 where
  drops_entry : {v : Text} {e : Entry} → takes_entries p ≡ true → Slashdash (47 ∷ 45 ∷ t) v → IsEntry true v u e → DropsPart p t u false
  drops_block : {v : Text} {xs : Nodes} → takes_blocks p ≡ true → Slashdash (47 ∷ 45 ∷ t) v → IsBlock true v u xs → DropsPart p t u true

data Dropped (p : Place) (t : Text) (all : List Item) : Type 0 where
  dropped : {b : Bool} {u : Text} {is : List Item} → DropsPart p t u b → PartPasses (slashdash_in p) t t b u → PlaceItems (next_place p b) u is → all ≡ piece (between (47 ∷ 45 ∷ t) u) ∷ is → Dropped p t all

drops : {p : Place} {s t : Text} {all : List Item} → s ≡ 47 ∷ 45 ∷ t → PlaceItems p s all → Dropped p t all
drops q (PlaceItems.ends e) = absurd cc
drops {t = t} q (PlaceItems.space d g) = absurd (dash_space (subst (λ (z : Text). BeginsToken z slashdash t) (sym q) t_slashdash) (space_of d))
drops {p = p} {t = t} q (PlaceItems.dropped_entry {u = u} {is = is} e m i g) =
    let ls = dash_lines (subst (λ (z : Text). BeginsToken z slashdash t) (sym q) t_slashdash) m in
    dropped {b = false} (drops_entry e (a_slashdash ls) i) (entry_passes ls i (place_quiet g) (takes_entries p) e t) g (ap (λ (z : Text). piece (between z u) ∷ is) q)
drops {p = p} {t = t} q (PlaceItems.dropped_block {u = u} {is = is} e m x g) =
    let ls = dash_lines (subst (λ (z : Text). BeginsToken z slashdash t) (sym q) t_slashdash) m in
    dropped {b = true} (drops_block e (a_slashdash ls) x) (block_passes ls x (takes_entries p) t) g (ap (λ (z : Text). piece (between z u) ∷ is) q)

fits_ends : (p : Place) (q : Spot) → ends_in false q ≡ true → Fits p q
fits_ends p (Fresh b) e = λ h. refl
fits_ends p (Spaced b) e = λ h. refl
fits_ends p Later e = absurd cc

module _ {p : Place} {t : Text} where
  -- an entry that is passed over is dropped, and so is a block
  back : (b : Bool) {u : Text} {js : List Item} → PartPasses (slashdash_in p) t t b u → takes p b ≡ true → PlaceItems (next_place p b) u js → PlaceItems p (47 ∷ 45 ∷ t) (piece (between (47 ∷ 45 ∷ t) u) ∷ js)
  back false {u} {js} x h g = go (any_derived (takes_entries p) (passes_accepted x directly (λ q e. place_accepted g q (fits_ends (items.spaced false p) q e))))
    where
      go : PartDropped (takes_entries p) t → PlaceItems p (47 ∷ 45 ∷ t) (piece (between (47 ∷ 45 ∷ t) u) ∷ js)
      go (an_entry {u = w} {e = e} h ls i q) = PlaceItems.dropped_entry h (a_slashdash ls) (subst (λ (z : Text). IsEntry true w z e) (part_det (entry_passes ls i q (takes_entries p) h t) x).1 i) g
      go (a_block ls y d f) = let e = (part_det (block_passes ls y (takes_entries p) t) x).0 in absurd cc
  back true {u} {js} x h g = go (any_derived (takes_entries p) (passes_accepted x directly (λ q e. place_accepted g q (λ i. cc))))
    where
      go : PartDropped (takes_entries p) t → PlaceItems p (47 ∷ 45 ∷ t) (piece (between (47 ∷ 45 ∷ t) u) ∷ js)
      go (an_entry k ls i q) = let e = (part_det (entry_passes ls i q (takes_entries p) k t) x).0 in absurd cc
      go (a_block {u = w} {xs = xs} ls y d f) = PlaceItems.dropped_block h (a_slashdash ls) (subst (λ (z : Text). IsBlock true w z xs) (part_det (block_passes ls y (takes_entries p) t) x).1 y) g

  module _ {b : Bool} {u : Text} (x : PartPasses (slashdash_in p) t t b u) where
    there : {all : List Item} → Dropped p t all → (js : List Item) × (all ≡ piece (between (47 ∷ 45 ∷ t) u) ∷ js) × PlaceItems (next_place p b) u js
    there (dropped {u = v} {is = is} k y g e) =
        let (i, f) = part_det y x in
        (is, e ∙ ap (λ (z : Text). piece (between (47 ∷ 45 ∷ t) z) ∷ is) f, subst (λ (z : Text). PlaceItems (next_place p b) z is) f (subst (λ (z : Bool). PlaceItems (next_place p z) v is) i g))

    -- what is passed over is the first item, and the others are those after it
    pub part_leaves : takes p b ≡ true → (all : List Item) → PlaceItems p (47 ∷ 45 ∷ t) all ↔ ((js : List Item) × (all ≡ piece (between (47 ∷ 45 ∷ t) u) ∷ js) × PlaceItems (next_place p b) u js)
    part_leaves h all = (λ g. there (drops refl g), λ w. subst (λ (l : List Item). PlaceItems p (47 ∷ 45 ∷ t) l) (sym w.1) (back b x h w.2))

    pub the_part : {all : List Item} → PlaceItems p (47 ∷ 45 ∷ t) all → DropsPart p t u b
    the_part g = go (drops refl g)
      where
        go : {all : List Item} → Dropped p t all → DropsPart p t u b
        go (dropped {u = v} k y g e) = let (i, f) = part_det y x in subst (λ (z : Text). DropsPart p t z b) f (subst (DropsPart p t v) i k)

    -- before entries no block is dropped
    pub part_nowhere : takes p b ≡ false → (all : List Item) → PlaceItems p (47 ∷ 45 ∷ t) all → ⊥
    part_nowhere h all g = go (the_part g) h
      where
        go : {b : Bool} → DropsPart p t u b → takes p b ≡ false → ⊥
        go (drops_entry e m i) h = cc
        go (drops_block e m i) h = cc

  -- nothing is passed over
  pub part_refused : EndsNowhere for_part (slashdash_in p) t → (all : List Item) → PlaceItems p (47 ∷ 45 ∷ t) all → ⊥
  part_refused f all g = go (drops refl g)
    where
      go : {all : List Item} → Dropped p t all → ⊥
      go (dropped k y g e) = f _ y
