use Rattle.std.proofs.Common.{◌≡◌, None, drop, length, option_map, take}
use Rattle.kdl.specs.Words.{document_says, nodes_of, said_nodes}
use Rattle.kdl_path.specs.Failures.{makes_at}
use Rattle.kdl_path.specs.Internal.Located.{walk}
use Rattle.kdl_path.specs.declared.path.Target.{Target}
use Rattle.kdl_path.proofs.Making.{made_from}
use Rattle.kdl_path.proofs.Places.{IsReached}
use Rattle.kdl_path.proofs.locate.locate.Given as goal

-- the rest of the steps leads on from where the loop is
abbrev pub invariant-loop-step : goal.invariant-loop-step
invariant-loop-step l = record {
  walks : walk (drop l.step-index l.steps) (option_map (λ n. n.now) l.located) l.nodes ≡ walk l.steps None (nodes_of l.document);
  reached : IsReached (option_map (λ n. n.now) l.located) (take l.step-index l.steps) l.indices.items (nodes_of l.document) l.nodes;
  count : length l.indices.items ≡ l.step-index;
  makes : (t : Target) → made_from (drop l.step-index l.steps) t (option_map (λ n. n.now) l.located) l.nodes ≡ makes_at l.steps t (said_nodes (document_says l.document));
}
