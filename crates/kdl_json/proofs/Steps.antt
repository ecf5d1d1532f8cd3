-- The steps of a read over open blocks.
use Rattle.std.proofs.Common.{◌≡◌, ◌≢◌, List, [], ◌∷◌, ◌++◌, append_assoc, refl, ap, ◌∙◌, sym, Option}
use Rattle.std.specs.Prelude.{codes}
use Rattle.json.specs.Token as json'
use Rattle.json.specs.Token.{Token}
use Rattle.kdl.specs.Said.{said_nodes}
use Rattle.kdl_entry.specs.Data.{Entry}
use Rattle.kdl_text.specs.Chars.{Text}
use Rattle.kdl_layout.specs.WellFormed.{AreWellFormedChildren, AreWellFormedEntries}
use Rattle.kdl_grammar.specs.Data.{Node, node, Children, no_children, children, Nodes}
use Rattle.kdl_json.specs.Form.{children_tokens, head_tokens}
use Rattle.kdl_json.specs.Heads.{with_block}
use Rattle.kdl_json.proofs.Blocks.{AreFit, Completes, Encloses, Frame, begun, ends, list_tokens, meets, same_said}
use Rattle.kdl_json.proofs.Tokens.{after_first}

-- out of a block
pub out_of : (f : Frame) (b : Nodes) (acc : List Node) (now mid new : List Token) → now ≡ json'.end_array ∷ mid → mid ≡ json'.end_object ∷ new → acc ≡ said_nodes f.before ++ with_block f.node b ∷ []
    → (y : Nodes) (r : List Token) → Encloses (Completes (said_nodes b) now) f y r → Completes acc new y r
out_of f b acc now mid new s t a y r h =
    let k = ends (said_nodes b) now mid h.block (json'.end_object ∷ list_tokens h.more (json'.end_array ∷ r)) s h.inside in
    let same : h.block ≡ b = same_said h.block b k.all in
    record {
      more = h.more;
      all = h.all ∙ ap (λ (z : Nodes). said_nodes f.before ++ with_block f.node z ∷ h.more) same ∙ sym (append_assoc (said_nodes f.before) (with_block f.node b ∷ []) h.more) ∙ ap (λ (l : List Node). l ++ h.more) (sym a);
      fit = h.fit;
      tokens = after_first t k.left;
    }

pub object_ends : (f : Frame) (acc : List Node) (now mid : List Token) → now ≡ json'.end_array ∷ mid → ((ts : List Token) → mid ≢ json'.end_object ∷ ts) → (y : Nodes) (r : List Token) → Encloses (Completes acc now) f y r → ⊥
object_ends f acc now mid s n y r h = n _ (ends acc now mid h.block (json'.end_object ∷ list_tokens h.more (json'.end_array ∷ r)) s h.inside).left

-- a node with that block, or with none
abbrev pub whole : Node → Children → Node
whole (node ty name es k) b = node ty name es b

whole_block : (n : Node) (z : Nodes) → whole n (children z) ≡ with_block n z
whole_block (node ty name es k) z = refl

-- what was read of a node, from tokens that begin with one
abbrev pub ReadsHead : Node → List Token → List Token → Type 0
ReadsHead n now mid = (ty : Option Text) (name : Text) (es : List Entry) (rest : List Token) → AreWellFormedEntries es → now ≡ head_tokens ty name es rest → (n ≡ node ty name es no_children) × (mid ≡ rest)

-- the tokens after the entries of a node
pub record Past (acc : List Node) (n : Node) (mid : List Token) (y : Nodes) (r : List Token) : Type 0 where
  pub block : Children
  pub more : List Node
  pub all : said_nodes y ≡ acc ++ whole n block ∷ more
  pub bare : whole n no_children ≡ n
  pub block_fit : AreWellFormedChildren block
  pub fit : AreFit more
  pub tokens : mid ≡ children_tokens block (json'.end_object ∷ list_tokens more (json'.end_array ∷ r))

pub past : (acc : List Node) (n : Node) (now mid : List Token) → ((ts : List Token) → now ≢ json'.end_array ∷ ts) → ReadsHead n now mid → (y : Nodes) (r : List Token) → Completes acc now y r → Past acc n mid y r
past acc n now mid apart reads y r h =
    let m = meets acc now y r apart h in
    let k = reads m.ty m.name m.entries _ m.entries_fit m.tokens in
    record {
      block = m.block;
      more = m.more;
      all = m.all ∙ ap (λ (x : Node). acc ++ x ∷ m.more) (sym (ap (λ (x : Node). whole x m.block) k.0));
      bare = ap (λ (x : Node). whole x no_children) k.0 ∙ sym k.0;
      block_fit = m.block_fit;
      fit = m.more_fit;
      tokens = k.1;
    }

-- into the block
pub into : (b : Nodes) (n : Node) (mid k new : List Token) → mid ≡ json'.key (codes "children") ∷ k → k ≡ json'.begin_array ∷ new → (y : Nodes) (r : List Token) → Past (said_nodes b) n mid y r
    → Encloses (Completes [] new) (record { before = b; node = n }) y r
into b n mid k new s t y r p = go p.block p.all p.block_fit p.tokens
  where
    go : (c : Children) → said_nodes y ≡ said_nodes b ++ whole n c ∷ p.more → AreWellFormedChildren c → mid ≡ children_tokens c (json'.end_object ∷ list_tokens p.more (json'.end_array ∷ r)) → Encloses (Completes [] new) (record { before = b; node = n }) y r
    go no_children a f e = cc
    go (children z) a f e = record {
      block = z;
      more = p.more;
      all = a ∙ ap (λ (x : Node). said_nodes b ++ x ∷ p.more) (whole_block n z);
      fit = p.fit;
      inside = begun z new (json'.end_object ∷ list_tokens p.more (json'.end_array ∷ r)) f (after_first t (after_first s e));
    }

pub block_begins : (acc : List Node) (n : Node) (mid k : List Token) → mid ≡ json'.key (codes "children") ∷ k → ((ts : List Token) → k ≢ json'.begin_array ∷ ts) → (y : Nodes) (r : List Token) → Past acc n mid y r → ⊥
block_begins acc n mid k s apart y r p = go p.block p.tokens
  where
    go : (c : Children) → mid ≡ children_tokens c (json'.end_object ∷ list_tokens p.more (json'.end_array ∷ r)) → ⊥
    go no_children e = cc
    go (children z) e = apart _ (after_first s e)

-- past a node without a block
pub onward : (acc acc' : List Node) (n : Node) (mid new : List Token) → ((ts : List Token) → mid ≢ json'.key (codes "children") ∷ ts) → mid ≡ json'.end_object ∷ new → acc' ≡ acc ++ n ∷ [] → (y : Nodes) (r : List Token) → Past acc n mid y r → Completes acc' new y r
onward acc acc' n mid new apart s a y r p = go p.block p.all p.tokens
  where
    go : (c : Children) → said_nodes y ≡ acc ++ whole n c ∷ p.more → mid ≡ children_tokens c (json'.end_object ∷ list_tokens p.more (json'.end_array ∷ r)) → Completes acc' new y r
    go no_children b e = record {
      more = p.more;
      all = b ∙ ap (λ (x : Node). acc ++ x ∷ p.more) p.bare ∙ sym (append_assoc acc (n ∷ []) p.more) ∙ ap (λ (l : List Node). l ++ p.more) (sym a);
      fit = p.fit;
      tokens = after_first s e;
    }
    go (children z) b e = absurd (apart _ e)

pub node_ends : (acc : List Node) (n : Node) (mid : List Token) → ((ts : List Token) → mid ≢ json'.key (codes "children") ∷ ts) → ((ts : List Token) → mid ≢ json'.end_object ∷ ts) → (y : Nodes) (r : List Token) → Past acc n mid y r → ⊥
node_ends acc n mid apart none' y r p = go p.block p.tokens
  where
    go : (c : Children) → mid ≡ children_tokens c (json'.end_object ∷ list_tokens p.more (json'.end_array ∷ r)) → ⊥
    go no_children e = none' _ e
    go (children z) e = apart _ e
