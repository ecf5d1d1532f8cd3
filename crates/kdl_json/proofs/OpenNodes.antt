-- The nodes whose blocks are being read keep no form.
use Rattle.std.proofs.Common.{◌≡◌, List, [], ◌∷◌, ◌++◌, sym, subst}
use Rattle.kdl.specs.Layout.{DocumentKeepsNoForm, NodeKeepsNoForm}
use Rattle.kdl.specs.declared.document.KdlDocument.{KdlDocument}
use Rattle.kdl_json.specs.declared.read.Open.{Open}

abbrev IsPlain : Open → Type 0
IsPlain o = DocumentKeepsNoForm o.before × NodeKeepsNoForm o.node

abbrev AllPlain : List Open → Type 0
AllPlain [] = Unit {0}
AllPlain (o ∷ os) = IsPlain o × AllPlain os

-- nor do the nodes d that were read in the innermost block
abbrev pub ArePlain : List Open → KdlDocument → Type 0
ArePlain os d = DocumentKeepsNoForm d × AllPlain os

with_last : (os : List Open) (o : Open) → AllPlain os → IsPlain o → AllPlain (os ++ o ∷ [])
with_last [] o h k = (k, tt)
with_last (p ∷ os) o h k = (h.0, with_last os o h.1 k)

without_last : (os : List Open) (o : Open) → AllPlain (os ++ o ∷ []) → AllPlain os × IsPlain o
without_last [] o h = (tt, h.0)
without_last (p ∷ os) o h = let k = without_last os o h.1 in ((h.0, k.0), k.1)

pub plain_none : (os : List Open) (d : KdlDocument) → os ≡ [] → DocumentKeepsNoForm d → ArePlain os d
plain_none os d e h = (h, subst AllPlain (sym e) tt)

-- into a block, and out of it
pub plain_in : (os ps : List Open) (o : Open) (e : KdlDocument) → ps ≡ os ++ o ∷ [] → DocumentKeepsNoForm e → NodeKeepsNoForm o.node → ArePlain os o.before → ArePlain ps e
plain_in os ps o e p h k a = (h, subst AllPlain (sym p) (with_last os o a.1 (a.0, k)))

pub plain_out : (os ps : List Open) (o : Open) (d e : KdlDocument) → ps ≡ os ++ o ∷ [] → (DocumentKeepsNoForm o.before → NodeKeepsNoForm o.node → DocumentKeepsNoForm d → DocumentKeepsNoForm e) → ArePlain ps d → ArePlain os e
plain_out os ps o d e p f a =
    let k = without_last os o (subst AllPlain p a.1) in
    (f k.1.0 k.1.1 a.0, k.0)
