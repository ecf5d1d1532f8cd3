-- The tokens of a document that are still to be written, while its nodes are walked over a stack.
use Rattle.std.proofs.Common.{◌≡◌, ◌<◌, List, [], ◌∷◌, ◌++◌, Some, None, Bor, arith, length, map, refl, ap, ◌∙◌, sym, subst}
use Rattle.std.proofs.lemmas.List.{map-append}
use Rattle.kdl.specs.Tree.{node_says}
use Rattle.kdl.specs.declared.node.KdlNode.{KdlNode}
use Rattle.std.specs.Prelude.{codes}
use Rattle.json.specs.Token as json'
use Rattle.json.specs.Token.{Token}
use Rattle.json.specs.Written.{Written}
use Rattle.kdl.specs.Said.{said_children, said_nodes}
use Rattle.kdl_layout.specs.WellFormed.{AreWellFormed, IsWellFormedNode}
use Rattle.kdl_grammar.specs.Data.{Node, node, no_children, children, Nodes}
use Rattle.kdl_json.specs.Form.{node_tokens, nodes_tokens}
use Rattle.kdl_json.specs.Heads.{head_of}
use Rattle.kdl_json.specs.Writing.{IsFitHead}
use Rattle.kdl_json.proofs.Appending.{Appended}
use Rattle.kdl_json.proofs.Blocks.{AreFit, list_tokens, said_fit, said_tokens}
use Rattle.kdl_json.proofs.Longer.{head_of_longer}

-- the ends of the open blocks, from the last one on, each with the nodes after it
abbrev pub closed : List (List Node) → List Token → List Token
closed [] ts = ts
closed (b ∷ bs) ts = closed bs (json'.end_array ∷ json'.end_object ∷ list_tokens b ts)

abbrev pub AllFit : List (List Node) → Type 0
AllFit [] = Unit {0}
AllFit (b ∷ bs) = AreFit b × AllFit bs

closed_push : (bs : List (List Node)) (b : List Node) (ts : List Token) → closed (bs ++ b ∷ []) ts ≡ json'.end_array ∷ json'.end_object ∷ list_tokens b (closed bs ts)
closed_push [] b ts = refl
closed_push (a ∷ bs) b ts = closed_push bs b (json'.end_array ∷ json'.end_object ∷ list_tokens a ts)

fit_push : (bs : List (List Node)) (b : List Node) → AllFit bs → AreFit b → AllFit (bs ++ b ∷ [])
fit_push [] b h f = (f, tt)
fit_push (a ∷ bs) b h f = (h.0, fit_push bs b h.1 f)

fit_before : (bs : List (List Node)) (b : List Node) → AllFit (bs ++ b ∷ []) → AllFit bs × AreFit b
fit_before [] b h = (tt, h.0)
fit_before (a ∷ bs) b h = let k = fit_before bs b h.1 in ((h.0, k.0), k.1)

-- what was written and what is left is the whole, and it is fit if what is left is
pub record Walked (start out : Written) (rest : List Node) (above : List (List Node)) (x : Nodes) : Type 0 where
  pub before : out.before ≡ start.before
  pub tokens : (ts : List Token) → out.tokens ++ list_tokens rest (closed above (json'.end_array ∷ ts)) ≡ start.tokens ++ nodes_tokens x (json'.end_array ∷ ts)
  pub fit : AreFit rest → AllFit above → AreFit (said_nodes x)

pub walk_begins : (out : Written) (rest : List Node) (above : List (List Node)) (x : Nodes) → rest ≡ said_nodes x → above ≡ [] → Walked out out rest above x
walk_begins out rest above x r a = record {
  before = refl;
  tokens = λ ts. ap (λ (l : List (List Node)). out.tokens ++ list_tokens rest (closed l (json'.end_array ∷ ts))) a
      ∙ ap (λ (l : List Node). out.tokens ++ list_tokens l (json'.end_array ∷ ts)) r
      ∙ ap (λ (us : List Token). out.tokens ++ us) (sym (said_tokens x (json'.end_array ∷ ts)));
  fit = λ f g. subst AreFit r f;
}

node_inside : (n : Node) (z : Nodes) (ts : List Token) → said_children n ≡ Some z → head_of n (json'.key (codes "children") ∷ json'.begin_array ∷ list_tokens (said_nodes z) (json'.end_array ∷ json'.end_object ∷ ts)) ≡ node_tokens n ts
node_inside (node ty name es no_children) z ts e = cc
node_inside (node ty name es (children y)) z ts e =
    let same : y ≡ z = cc in
    ap (λ (us : List Token). head_of (node ty name es (children y)) (json'.key (codes "children") ∷ json'.begin_array ∷ us))
    (sym (said_tokens z (json'.end_array ∷ json'.end_object ∷ ts)) ∙ ap (λ (w : Nodes). nodes_tokens w (json'.end_array ∷ json'.end_object ∷ ts)) (sym same))

node_alone : (n : Node) (ts : List Token) → said_children n ≡ None → head_of n (json'.end_object ∷ ts) ≡ node_tokens n ts
node_alone (node ty name es no_children) ts e = refl
node_alone (node ty name es (children y)) ts e = cc

fit_inside : (n : Node) (z : Nodes) → said_children n ≡ Some z → IsFitHead n → AreFit (said_nodes z) → IsWellFormedNode n
fit_inside (node ty name es no_children) z e f g = cc
fit_inside (node ty name es (children y)) z e f g =
    let same : z ≡ y = cc in
    (f.0, f.1, f.2, subst AreWellFormed same (said_fit z g))

fit_alone : (n : Node) → said_children n ≡ None → IsFitHead n → IsWellFormedNode n
fit_alone (node ty name es no_children) e f = (f.0, f.1, f.2, tt)
fit_alone (node ty name es (children y)) e f = cc

-- a node after its block, and one without a block
pub node_with_block : (n : Node) (z : Nodes) (ts : List Token) → said_children n ≡ Some z → head_of n (json'.key (codes "children") ∷ json'.begin_array ∷ nodes_tokens z (json'.end_array ∷ json'.end_object ∷ ts)) ≡ node_tokens n ts
node_with_block n z ts has = ap (λ (us : List Token). head_of n (json'.key (codes "children") ∷ json'.begin_array ∷ us)) (said_tokens z (json'.end_array ∷ json'.end_object ∷ ts)) ∙ node_inside n z ts has

pub node_without_block : (n : Node) (ts : List Token) → said_children n ≡ None → head_of n (json'.end_object ∷ ts) ≡ node_tokens n ts
node_without_block n ts has = node_alone n ts has

-- into the block of a node
pub walk_in : (start out new : Written) (n : Node) (after kids : List Node) (above : List (List Node)) (z x : Nodes) → Walked start out (n ∷ after) above x → said_children n ≡ Some z → kids ≡ said_nodes z → IsFitHead n
    → Appended out new (λ ts. head_of n (json'.key (codes "children") ∷ json'.begin_array ∷ ts)) → Walked start new kids (above ++ after ∷ []) x
walk_in start out new n after kids above z x w has here f a = record {
  before = a.before ∙ w.before;
  tokens = λ ts. ap (λ (l : List Node). new.tokens ++ list_tokens l (closed (above ++ after ∷ []) (json'.end_array ∷ ts))) here
      ∙ ap (λ (us : List Token). new.tokens ++ list_tokens (said_nodes z) us) (closed_push above after (json'.end_array ∷ ts))
      ∙ a.tokens (list_tokens (said_nodes z) (json'.end_array ∷ json'.end_object ∷ list_tokens after (closed above (json'.end_array ∷ ts))))
      ∙ ap (λ (us : List Token). out.tokens ++ us) (node_inside n z (list_tokens after (closed above (json'.end_array ∷ ts))) has)
      ∙ w.tokens ts;
  fit = λ k s. let b = fit_before above after s in w.fit (fit_inside n z has f (subst AreFit here k), b.1) b.0;
}

-- past a node without a block
pub walk_on : (start out new : Written) (n : Node) (after : List Node) (above : List (List Node)) (x : Nodes) → Walked start out (n ∷ after) above x → said_children n ≡ None → IsFitHead n
    → Appended out new (λ ts. head_of n (json'.end_object ∷ ts)) → Walked start new after above x
walk_on start out new n after above x w has f a = record {
  before = a.before ∙ w.before;
  tokens = λ ts. a.tokens (list_tokens after (closed above (json'.end_array ∷ ts)))
      ∙ ap (λ (us : List Token). out.tokens ++ us) (node_alone n (list_tokens after (closed above (json'.end_array ∷ ts))) has)
      ∙ w.tokens ts;
  fit = λ k s. w.fit (fit_alone n has f, k) s;
}

-- out of a block
pub walk_out : (start out new : Written) (after : List Node) (above : List (List Node)) (x : Nodes) → Walked start out [] (above ++ after ∷ []) x
    → Appended out new (λ ts. json'.end_array ∷ json'.end_object ∷ ts) → Walked start new after above x
walk_out start out new after above x w a = record {
  before = a.before ∙ w.before;
  tokens = λ ts. a.tokens (list_tokens after (closed above (json'.end_array ∷ ts)))
      ∙ ap (λ (us : List Token). out.tokens ++ us) (sym (closed_push above after (json'.end_array ∷ ts)))
      ∙ w.tokens ts;
  fit = λ k s. w.fit tt (fit_push above after s k);
}

pub walked_fit : (start out : Written) (x : Nodes) → Walked start out [] [] x → AreWellFormed x
walked_fit start out x w = said_fit x (w.fit tt tt)

-- the tokens of the nodes that are left, and of what follows them
abbrev pub tokens_left : List Node → List (List Node) → List Token
tokens_left rest above = list_tokens rest (closed above [])

-- fewer are left after a step: into the block of a node, past a node without a block, out of a block
pub fewer_in : (n : Node) (after kids : List Node) (above : List (List Node)) (z : Nodes) → said_children n ≡ Some z → kids ≡ said_nodes z → length (tokens_left kids (above ++ after ∷ [])) < length (tokens_left (n ∷ after) above)
fewer_in n after kids above z has here =
    let ends = json'.end_array ∷ json'.end_object ∷ tokens_left after above in
    let now : tokens_left kids (above ++ after ∷ []) ≡ list_tokens (said_nodes z) ends =
    ap (λ (l : List Node). tokens_left l (above ++ after ∷ [])) here ∙ ap (list_tokens (said_nodes z)) (closed_push above after []) in
    omega (arith, ap length now, head_of_longer n (json'.key (codes "children") ∷ json'.begin_array ∷ list_tokens (said_nodes z) ends), ap length (node_inside n z (tokens_left after above) has))

pub fewer_on : (n : Node) (after : List Node) (above : List (List Node)) → said_children n ≡ None → length (tokens_left after above) < length (tokens_left (n ∷ after) above)
fewer_on n after above has = omega (arith, head_of_longer n (json'.end_object ∷ tokens_left after above), ap length (node_alone n (tokens_left after above) has))

pub fewer_out : (after : List Node) (above : List (List Node)) → length (tokens_left after above) < length (tokens_left [] (above ++ after ∷ []))
fewer_out after above = omega (arith, ap length (closed_push above after []))

-- what the nodes on a stack say
abbrev pub stack : List (Bor (List KdlNode)) → List (List Node)
stack bs = map (λ b. map node_says b.now) bs

pub stack_push : (bs cs : List (Bor (List KdlNode))) (b : Bor (List KdlNode)) → cs ≡ bs ++ b ∷ [] → stack cs ≡ stack bs ++ map node_says b.now ∷ []
stack_push bs cs b e = ap stack e ∙ map-append (λ (x : Bor (List KdlNode)). map node_says x.now) bs (b ∷ [])

pub empty : {A : Type 0} (xs : List A) → length xs ≡ 0 → xs ≡ []
empty [] e = refl
empty (x ∷ xs) e = absurd (omega (arith, e))
