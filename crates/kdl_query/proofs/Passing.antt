-- Visits that a walk passes, since they are not selected.
use Rattle.std.proofs.Common.{◌≡◌, false, cond, List, [], ◌∷◌, ◌++◌, refl, ap, ◌∙◌, sym, subst}
use Rattle.std.proofs.lemmas.List.{append_assoc}
use Rattle.std.proofs.lemmas.List.Elements.{filter-append}
use Rattle.kdl_query.specs.Internal.Visits.{Passes, Visited, chosen}

chosen_append : (vs ws : List Visited) → chosen (vs ++ ws) ≡ chosen vs ++ chosen ws
chosen_append vs ws = filter-append (λ (v : Visited). v.is_selected) vs ws

pub passes_one : (v : Visited) (vs : List Visited) → v.is_selected ≡ false → Passes (v ∷ vs) vs
passes_one v vs e = record { passed = v ∷ []; unselected = ap (λ b. cond b (v ∷ []) []) e; rest = refl }

pub passes_on : (vs ws xs : List Visited) → Passes vs ws → Passes ws xs → Passes vs xs
passes_on vs ws xs p q = record {
  passed = p.passed ++ q.passed;
  unselected = chosen_append p.passed q.passed ∙ ap (λ l. l ++ chosen q.passed) p.unselected ∙ q.unselected;
  rest = p.rest ∙ ap (λ l. p.passed ++ l) q.rest ∙ sym (append_assoc p.passed q.passed xs);
}

pub passes_before : (vs ws xs : List Visited) → Passes vs ws → Passes (vs ++ xs) (ws ++ xs)
passes_before vs ws xs p = record { passed = p.passed; unselected = p.unselected; rest = ap (λ l. l ++ xs) p.rest ∙ append_assoc p.passed ws xs }

pub passes_to : (vs ws xs : List Visited) → Passes vs ws → ws ≡ xs → Passes vs xs
passes_to vs ws xs p e = let P : List Visited → Type 0 = λ l. Passes vs l in subst P e p

-- what is chosen stays
pub passed_chosen : (vs ws : List Visited) → Passes vs ws → chosen vs ≡ chosen ws
passed_chosen vs ws p = ap chosen p.rest ∙ chosen_append p.passed ws ∙ ap (λ l. l ++ chosen ws) p.unselected
