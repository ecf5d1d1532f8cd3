-- The nodes of blocks that are open, and the tokens that complete them.
use Rattle.std.proofs.Common.{◌≡◌, ◌≢◌, List, [], ◌∷◌, ◌++◌, append-nil, refl, ap, ◌∙◌, sym, subst}
use Rattle.std.specs.Prelude.{codes}
use Rattle.json.specs.Token as json'
use Rattle.json.specs.Token.{Token}
use Rattle.kdl.specs.Said.{said_nodes}
use Rattle.kdl_entry.specs.Data.{Entry}
use Rattle.kdl_text.specs.Chars.{Text}
use Rattle.std.specs.Prelude.{Option}
use Rattle.kdl_layout.specs.WellFormed.{AreWellFormed, AreWellFormedChildren, AreWellFormedEntries, IsWellFormedNode}
use Rattle.kdl_grammar.specs.Data.{Node, node, Children, Nodes, none, first}
use Rattle.kdl_json.specs.Form.{children_tokens, head_tokens, node_tokens, nodes_tokens}
use Rattle.kdl_json.specs.Heads.{IsHead, head_of, with_block}

-- nodes in a list
abbrev pub list_tokens : List Node → List Token → List Token
list_tokens [] ts = ts
list_tokens (n ∷ ns) ts = node_tokens n (list_tokens ns ts)

abbrev pub AreFit : List Node → Type 0
AreFit [] = Unit {0}
AreFit (n ∷ ns) = IsWellFormedNode n × AreFit ns

pub said_tokens : (x : Nodes) (ts : List Token) → nodes_tokens x ts ≡ list_tokens (said_nodes x) ts
said_tokens none ts = refl
said_tokens (first n x) ts = ap (node_tokens n) (said_tokens x ts)

pub fit_said : (x : Nodes) → AreWellFormed x → AreFit (said_nodes x)
fit_said none f = tt
fit_said (first n x) f = (f.0, fit_said x f.1)

pub said_fit : (x : Nodes) → AreFit (said_nodes x) → AreWellFormed x
said_fit none f = tt
said_fit (first n x) f = (f.0, said_fit x f.1)

pub same_said : (x y : Nodes) → said_nodes x ≡ said_nodes y → x ≡ y
same_said none none e = refl
same_said none (first m y) e = cc
same_said (first n x) none e = cc
same_said (first n x) (first m y) e =
    let h : n ≡ m = cc in
    let t : said_nodes x ≡ said_nodes y = cc in
    ap (λ (k : Node). first k x) h ∙ ap (first m) (same_said x y t)

list_push : (ns : List Node) (n : Node) (ts : List Token) → list_tokens (ns ++ n ∷ []) ts ≡ list_tokens ns (node_tokens n ts)
list_push [] n ts = refl
list_push (m ∷ ns) n ts = ap (node_tokens m) (list_push ns n ts)

-- nodes with one more at the end
pub nodes_push : (x y : Nodes) (n : Node) (ts : List Token) → said_nodes y ≡ said_nodes x ++ n ∷ [] → nodes_tokens y ts ≡ nodes_tokens x (node_tokens n ts)
nodes_push x y n ts e = said_tokens y ts ∙ ap (λ (l : List Node). list_tokens l ts) e ∙ list_push (said_nodes x) n ts ∙ sym (said_tokens x (node_tokens n ts))

-- a node whose block is open, and the nodes before it
pub record Frame : Type 0 where
  pub before : Nodes
  pub node : Node

-- the tokens of the open nodes and of what is before them, from the outermost on, and then ts
abbrev pub opened : List Frame → List Token → List Token
opened [] ts = ts
opened (f ∷ fs) ts = nodes_tokens f.before (head_of f.node (json'.key (codes "children") ∷ json'.begin_array ∷ opened fs ts))

opened_push : (fs : List Frame) (f : Frame) (ts : List Token) → opened (fs ++ f ∷ []) ts ≡ opened fs (opened (f ∷ []) ts)
opened_push [] f ts = refl
opened_push (g ∷ fs) f ts = ap (λ (us : List Token). nodes_tokens g.before (head_of g.node (json'.key (codes "children") ∷ json'.begin_array ∷ us))) (opened_push fs f ts)

block_tokens : (n : Node) (x : Nodes) (ts : List Token) → head_of n (json'.key (codes "children") ∷ json'.begin_array ∷ nodes_tokens x (json'.end_array ∷ json'.end_object ∷ ts)) ≡ node_tokens (with_block n x) ts
block_tokens (node ty name es k) x ts = refl

-- ---- all tokens are those that were taken, and those that are left

pub open_in : (fs : List Frame) (x : Nodes) (n : Node) (now new : List Token) → IsHead n now (json'.key (codes "children") ∷ json'.begin_array ∷ new)
    → opened fs (nodes_tokens x now) ≡ opened (fs ++ record { before = x; node = n } ∷ []) (nodes_tokens none new)
open_in fs x n now new h =
    ap (λ (us : List Token). opened fs (nodes_tokens x us)) (h.tokens ∙ ap (λ (m : Node). head_of m (json'.key (codes "children") ∷ json'.begin_array ∷ new)) (sym h.is))
    ∙ sym (opened_push fs (record { before = x; node = n }) new)

pub open_on : (fs : List Frame) (x y : Nodes) (n : Node) (now new : List Token) → IsHead n now (json'.end_object ∷ new) → said_nodes y ≡ said_nodes x ++ n ∷ []
    → opened fs (nodes_tokens x now) ≡ opened fs (nodes_tokens y new)
open_on fs x y n now new h e =
    ap (λ (us : List Token). opened fs (nodes_tokens x us)) (h.tokens ∙ ap (λ (m : Node). node_tokens m new) (sym h.is))
    ∙ ap (opened fs) (sym (nodes_push x y n new e))

pub open_out : (fs : List Frame) (f : Frame) (x y : Nodes) (new : List Token) → said_nodes y ≡ said_nodes f.before ++ with_block f.node x ∷ []
    → opened (fs ++ f ∷ []) (nodes_tokens x (json'.end_array ∷ json'.end_object ∷ new)) ≡ opened fs (nodes_tokens y new)
open_out fs f x y new e =
    opened_push fs f (nodes_tokens x (json'.end_array ∷ json'.end_object ∷ new))
    ∙ ap (λ (us : List Token). opened fs (nodes_tokens f.before us)) (block_tokens f.node x new)
    ∙ ap (opened fs) (sym (nodes_push f.before y (with_block f.node x) new e))

-- ---- the tokens that are left complete the open blocks

-- x is the nodes acc and more, whose tokens are left before a `]`, and then come those of the rest
pub record Completes (acc : List Node) (now : List Token) (x : Nodes) (rest : List Token) : Type 0 where
  pub more : List Node
  pub all : said_nodes x ≡ acc ++ more
  pub fit : AreFit more
  pub tokens : now ≡ list_tokens more (json'.end_array ∷ rest)

-- x is the nodes before an open node, that node with a block of which P says this, and more
pub record Encloses (P : Nodes → List Token → Type 0) (f : Frame) (x : Nodes) (rest : List Token) : Type 0 where
  pub block : Nodes
  pub more : List Node
  pub all : said_nodes x ≡ said_nodes f.before ++ with_block f.node block ∷ more
  pub fit : AreFit more
  pub inside : P block (json'.end_object ∷ list_tokens more (json'.end_array ∷ rest))

-- the same of all open nodes, from the outermost on
abbrev pub Going : List Frame → List Node → List Token → Nodes → List Token → Type 0
Going [] acc now = Completes acc now
Going (f ∷ fs) acc now = Encloses (Going fs acc now) f

pub begun : (x : Nodes) (now rest : List Token) → AreWellFormed x → now ≡ nodes_tokens x (json'.end_array ∷ rest) → Going [] [] now x rest
begun x now rest fit e = record { more = said_nodes x; all = refl; fit = fit_said x fit; tokens = e ∙ said_tokens x (json'.end_array ∷ rest) }

-- a step of the innermost blocks
step : (fs gs hs : List Frame) (acc acc' : List Node) (now new : List Token) → ((y : Nodes) (r : List Token) → Going gs acc now y r → Going hs acc' new y r)
    → (x : Nodes) (rest : List Token) → Going (fs ++ gs) acc now x rest → Going (fs ++ hs) acc' new x rest
step [] gs hs acc acc' now new s x rest h = s x rest h
step (f ∷ fs) gs hs acc acc' now new s x rest h = record { block = h.block; more = h.more; all = h.all; fit = h.fit; inside = step fs gs hs acc acc' now new s h.block _ h.inside }

pub record Innermost (P : Nodes → List Token → Type 0) : Type 0 where
  pub nodes : Nodes
  pub rest : List Token
  pub is : P nodes rest

pub innermost : (fs gs : List Frame) (acc : List Node) (now : List Token) (x : Nodes) (rest : List Token) → Going (fs ++ gs) acc now x rest → Innermost (Going gs acc now)
innermost [] gs acc now x rest h = record { nodes = x; rest = rest; is = h }
innermost (f ∷ fs) gs acc now x rest h = innermost fs gs acc now h.block _ h.inside

pub innermost_block : (fs : List Frame) (acc : List Node) (now : List Token) (x : Nodes) (rest : List Token) → Going fs acc now x rest → Innermost (Completes acc now)
innermost_block fs acc now x rest h = innermost fs [] acc now x rest (subst (λ (gs : List Frame). Going gs acc now x rest) (sym (append-nil fs)) h)

-- at the end of a block
pub record Ends (acc : List Node) (new : List Token) (x : Nodes) (rest : List Token) : Type 0 where
  pub all : said_nodes x ≡ acc
  pub left : new ≡ rest

pub ends : (acc : List Node) (now new : List Token) (x : Nodes) (rest : List Token) → now ≡ json'.end_array ∷ new → Completes acc now x rest → Ends acc new x rest
ends acc now new x rest e h = go h.more h.all h.tokens
  where
    go : (more : List Node) → said_nodes x ≡ acc ++ more → now ≡ list_tokens more (json'.end_array ∷ rest) → Ends acc new x rest
    go [] all t = record { all = all ∙ append-nil acc; left = cc }
    go (node ty name es k ∷ more) all t = cc

-- before a node
pub record Meets (acc : List Node) (now : List Token) (x : Nodes) (rest : List Token) : Type 0 where
  pub ty : Option Text
  pub name : Text
  pub entries : List Entry
  pub block : Children
  pub more : List Node
  pub all : said_nodes x ≡ acc ++ node ty name entries block ∷ more
  pub entries_fit : AreWellFormedEntries entries
  pub block_fit : AreWellFormedChildren block
  pub more_fit : AreFit more
  pub tokens : now ≡ head_tokens ty name entries (children_tokens block (json'.end_object ∷ list_tokens more (json'.end_array ∷ rest)))

pub meets : (acc : List Node) (now : List Token) (x : Nodes) (rest : List Token) → ((ts : List Token) → now ≢ json'.end_array ∷ ts) → Completes acc now x rest → Meets acc now x rest
meets acc now x rest apart h = go h.more h.all h.fit h.tokens
  where
    go : (more : List Node) → said_nodes x ≡ acc ++ more → AreFit more → now ≡ list_tokens more (json'.end_array ∷ rest) → Meets acc now x rest
    go [] all fit t = absurd (apart rest t)
    go (node ty name es k ∷ more) all fit t = record { ty = ty; name = name; entries = es; block = k; more = more; all = all; entries_fit = fit.0.2; block_fit = fit.0.3; more_fit = fit.1; tokens = t }

-- ---- steps of a read, for the tokens that complete the open blocks

-- into the block of a node
pub going_in : (fs : List Frame) (b : Nodes) (n : Node) (acc : List Node) (now new : List Token) → acc ≡ said_nodes b
    → ((y : Nodes) (r : List Token) → Completes acc now y r → Encloses (Completes [] new) (record { before = b; node = n }) y r)
    → (x : Nodes) (rest : List Token) → Going fs acc now x rest → Going (fs ++ record { before = b; node = n } ∷ []) [] new x rest
going_in fs b n acc now new e s x rest h =
    step fs [] (record { before = b; node = n } ∷ []) acc [] now new s x rest (subst (λ (gs : List Frame). Going gs acc now x rest) (sym (append-nil fs)) h)

-- past a node without a block
pub going_on : (fs : List Frame) (acc acc' : List Node) (now new : List Token) → ((y : Nodes) (r : List Token) → Completes acc now y r → Completes acc' new y r)
    → (x : Nodes) (rest : List Token) → Going fs acc now x rest → Going fs acc' new x rest
going_on fs acc acc' now new s x rest h =
    subst (λ (gs : List Frame). Going gs acc' new x rest) (append-nil fs)
    (step fs [] [] acc acc' now new s x rest (subst (λ (gs : List Frame). Going gs acc now x rest) (sym (append-nil fs)) h))

-- out of a block
pub going_out : (fs : List Frame) (f : Frame) (acc acc' : List Node) (now new : List Token) → ((y : Nodes) (r : List Token) → Encloses (Completes acc now) f y r → Completes acc' new y r)
    → (x : Nodes) (rest : List Token) → Going (fs ++ f ∷ []) acc now x rest → Going fs acc' new x rest
going_out fs f acc acc' now new s x rest h = subst (λ (gs : List Frame). Going gs acc' new x rest) (append-nil fs) (step fs (f ∷ []) [] acc acc' now new s x rest h)
