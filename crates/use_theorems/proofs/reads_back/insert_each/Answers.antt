use Rattle.std.proofs.Common.{Bor, ◌≡◌, ℕ, Bool, true, false, List, Some, ap, sym, subst, ◌∙◌, refl, arith, rules, below_more}
use Rattle.std.proofs.lemmas.Bool.{true≢false}
use Rattle.std.proofs.lemmas.List.{get_or_default}
use Rattle.std.proofs.lemmas.Slice.Eq.{bytes_eq-Decides}
use Rattle.kdl.specs.Words.{IsSet, Value, property_value, truth, value_tree}
use Rattle.kdl.specs.declared.node.KdlNode.{KdlNode}
use Rattle.kdl_laws.specs.ClientWords.{same_text}
use Rattle.use_theorems.proofs.reads_back.insert_each.Goals as goal

-- a property of that value keeps it where another one, or itself, is set to that value
kept : (s q : List ℕ) (u v : Value) (n m : KdlNode) → u ≡ v → IsSet s u n m → property_value q n ≡ Some v → property_value q m ≡ Some v
kept s q u v n m is x h = go (same_text s q) refl
  where
    go : (b : Bool) → same_text s q ≡ b → property_value q m ≡ Some v
    go true e = subst (λ (z : List ℕ). property_value z m ≡ Some v) ((bytes_eq-Decides s q).0 e) (x.found ∙ ap Some is)
    go false e = x.others q (λ p. absurd (true≢false (sym ((bytes_eq-Decides s q).1 p) ∙ e))) ∙ h

pub loop-name-preserved : goal.loop-name-preserved
loop-name-preserved c =
    let set = c.in_ok-insert_property.ensures.sets in
    let names = c.args.names.now in
    let is : value_tree c.from.result ≡ truth true = search rules in
    record {
      sets = below_more _ _ (λ k h d. kept _ _ _ _ _ _ is set (c.loop-name.invariant.sets k h d))
          (λ d. subst (λ (x : Bor (List ℕ)). property_value x.now c.insert_property.new.node ≡ Some (truth true)) (get_or_default names c.loop-name.name-index _ d c.loop-name-test.true) (set.found ∙ ap Some is));
      reads = λ P h. c.in_ok-insert_property.ensures.reads P (c.loop-name.invariant.reads P h);
    }

pub returns-clause-sets : goal.returns-clause-sets
returns-clause-sets c k d h = c.loop-name.invariant.sets k (omega arith) d
