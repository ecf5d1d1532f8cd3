-- The open nodes in memory.
use Rattle.std.proofs.Common.{◌≡◌, ◌≢◌, List, [], ◌∷◌, ◌++◌, arith, length, map, ap, refl, subst, sym, ◌∙◌}
use Rattle.std.proofs.lemmas.List.{map-append}
use Rattle.std.specs.Prelude.{codes}
use Rattle.json.specs.Token.{Token, begin_array, end_array, end_object, key}
use Rattle.kdl.specs.Said.{said_nodes}
use Rattle.kdl.specs.Tree.{document_says, node_says}
use Rattle.kdl_layout.specs.WellFormed.{AreWellFormed}
use Rattle.kdl_grammar.specs.Data.{Node, Nodes, none}
use Rattle.kdl_json.specs.Form.{nodes_tokens}
use Rattle.kdl_json.specs.declared.read.Open.{Open}
use Rattle.kdl_json.specs.Heads.{IsHead, with_block}
use Rattle.kdl_json.proofs.Blocks.{Completes, Encloses, Frame, Going, begun, going_in, going_on, going_out, open_in, open_on, open_out, opened}
use Rattle.kdl_json.proofs.Steps.{ReadsHead, into, onward, out_of, past}

abbrev pub frame : Open → Frame
frame o = record { before = document_says o.before; node = node_says o.node }

abbrev pub frames : List Open → List Frame
frames os = map frame os

pub frames_push : (os ps : List Open) (o : Open) → ps ≡ os ++ o ∷ [] → frames ps ≡ frames os ++ frame o ∷ []
frames_push os ps o e = ap frames e ∙ map-append frame os (o ∷ [])

pub frames_none : (os : List Open) → length os ≡ 0 → frames os ≡ []
frames_none [] e = refl
frames_none (o ∷ os) e = absurd (omega (arith, e))

-- the tokens that were taken are those of the open blocks and of the nodes d, and those that are left complete them
pub record Reached (old : List Token) (os : List Open) (d : Nodes) (now : List Token) : Type 0 where
  pub sound : old ≡ opened (frames os) (nodes_tokens d now)
  pub reads : (x : Nodes) → AreWellFormed x → old ≡ nodes_tokens x (end_array ∷ []) → Going (frames os) (said_nodes d) now x []

pub reached_same : (old : List Token) (os ps : List Open) (d e : Nodes) (now new : List Token) → ps ≡ os → e ≡ d → new ≡ now → Reached old os d now → Reached old ps e new
reached_same old os ps d e now new o f t h =
    subst (λ (l : List Open). Reached old l e new) (sym o) (subst (λ (z : Nodes). Reached old os z new) (sym f) (subst (λ (ts : List Token). Reached old os d ts) (sym t) h))

-- at the start
pub reached_none : (os : List Open) (d : Nodes) (ts : List Token) → os ≡ [] → d ≡ none → Reached ts os d ts
reached_none os d ts e f = reached_same ts [] os none d ts ts e f refl (record { sound = refl; reads = λ x fit t. begun x ts [] fit t })

-- out of a block
pub reached_out : (old : List Token) (os ps : List Open) (o : Open) (d e : Nodes) (n : Node) (now mid new : List Token) → ps ≡ os ++ o ∷ [] → now ≡ end_array ∷ mid → mid ≡ end_object ∷ new → n ≡ with_block (node_says o.node) d
    → said_nodes e ≡ said_nodes (document_says o.before) ++ n ∷ [] → Reached old ps d now → Reached old os e new
reached_out old os ps o d e n now mid new p s t q a h =
    let f = frame o in
    let b : said_nodes e ≡ said_nodes f.before ++ with_block f.node d ∷ [] = a ∙ ap (λ (x : Node). said_nodes f.before ++ x ∷ []) q in
    record {
      sound = h.sound ∙ ap (λ (fs : List Frame). opened fs (nodes_tokens d now)) (frames_push os ps o p) ∙ ap (λ (ts : List Token). opened (frames os ++ f ∷ []) (nodes_tokens d ts)) (s ∙ ap (λ (ts : List Token). end_array ∷ ts) t)
          ∙ open_out (frames os) f d e new b;
      reads = λ x fit z. going_out (frames os) f (said_nodes d) (said_nodes e) now new (out_of f d (said_nodes e) now mid new s t b) x []
          (subst (λ (fs : List Frame). Going fs (said_nodes d) now x []) (frames_push os ps o p) (h.reads x fit z));
    }

-- into a block
pub reached_in : (old : List Token) (os ps : List Open) (o : Open) (e : Nodes) (now on mid k new : List Token) → ps ≡ os ++ o ∷ [] → e ≡ none → on ≡ now → ((ts : List Token) → now ≢ end_array ∷ ts) → IsHead (node_says o.node) on mid → ReadsHead (node_says o.node) on mid
    → mid ≡ key (codes "children") ∷ k → k ≡ begin_array ∷ new → Reached old os (document_says o.before) now → Reached old ps e new
reached_in old os ps o e now on mid k new p f c apart hd rd s t h =
    let b = document_says o.before in
    let n = node_says o.node in
    let head' = subst (λ (ts : List Token). IsHead n ts (key (codes "children") ∷ begin_array ∷ new)) c (subst (λ (ts : List Token). IsHead n on ts) (s ∙ ap (λ (ts : List Token). key (codes "children") ∷ ts) t) hd) in
    let inside : (y : Nodes) (r : List Token) → Completes (said_nodes b) now y r → Encloses (Completes [] new) (frame o) y r
    = λ y r q. into b n mid k new s t y r (past (said_nodes b) n now mid apart (λ ty name es rest w u. rd ty name es rest w (c ∙ u)) y r q) in
    record {
      sound = h.sound ∙ open_in (frames os) b n now new head' ∙ ap (λ (fs : List Frame). opened fs (nodes_tokens none new)) (sym (frames_push os ps o p)) ∙ ap (λ (z : Nodes). opened (frames ps) (nodes_tokens z new)) (sym f);
      reads = λ x fit z. subst (λ (fs : List Frame). Going fs (said_nodes e) new x []) (sym (frames_push os ps o p)) (subst (λ (y : Nodes). Going (frames os ++ frame o ∷ []) (said_nodes y) new x []) (sym f)
          (going_in (frames os) b n (said_nodes b) now new refl inside x [] (h.reads x fit z)));
    }

-- past a node without a block
pub reached_on : (old : List Token) (os : List Open) (d e : Nodes) (n : Node) (now on mid same new : List Token) → on ≡ now → ((ts : List Token) → now ≢ end_array ∷ ts) → IsHead n on mid → ReadsHead n on mid
    → same ≡ mid → ((ts : List Token) → mid ≢ key (codes "children") ∷ ts) → same ≡ end_object ∷ new → said_nodes e ≡ said_nodes d ++ n ∷ [] → Reached old os d now → Reached old os e new
reached_on old os d e n now on mid same new c apart hd rd u other s a h =
    let t = sym u ∙ s in
    let head' = subst (λ (ts : List Token). IsHead n ts (end_object ∷ new)) c (subst (λ (ts : List Token). IsHead n on ts) t hd) in
    let onto : (y : Nodes) (r : List Token) → Completes (said_nodes d) now y r → Completes (said_nodes e) new y r
    = λ y r q. onward (said_nodes d) (said_nodes e) n mid new other t a y r (past (said_nodes d) n now mid apart (λ ty name es rest w v. rd ty name es rest w (c ∙ v)) y r q) in
    record {
      sound = h.sound ∙ open_on (frames os) d e n now new head' a;
      reads = λ x fit z. going_on (frames os) (said_nodes d) (said_nodes e) now new onto x [] (h.reads x fit z);
    }
